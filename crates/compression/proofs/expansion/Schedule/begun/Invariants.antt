use Rattle.std.proofs.Common.{◌≡◌, length, take}
use Rattle.fips180.specs.Sha256.{block_words}
use Rattle.compression.proofs.expansion.Schedule.begun.Given as goal

abbrev pub invariant-loop-t : goal.invariant-loop-t
invariant-loop-t l = (length l.ws ≡ 64) × (take l.t l.ws ≡ block_words l.b.bytes l.t)
