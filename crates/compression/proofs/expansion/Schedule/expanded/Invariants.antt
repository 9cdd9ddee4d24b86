use Rattle.std.proofs.Common.{◌≡◌, ◌+◌, length, take}
use Rattle.fips180.specs.Sha256.{scheduled}
use Rattle.compression.proofs.expansion.Schedule.expanded.Given as goal

abbrev pub invariant-loop-t : goal.invariant-loop-t
invariant-loop-t l = (length l.ws ≡ 64) × (take (l.t + 16) l.ws ≡ scheduled (take 16 l.initial.ws) l.t)
