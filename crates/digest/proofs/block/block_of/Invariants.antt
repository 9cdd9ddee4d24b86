use Rattle.std.proofs.Common.{◌≡◌, ◌*◌, length, take, drop}
use Rattle.fips180.specs.Sha256.{block_bytes, padded}
use Rattle.digest.proofs.block.block_of.Given as goal

abbrev pub invariant-loop-j : goal.invariant-loop-j
invariant-loop-j l = (length l.b ≡ block_bytes) × (take l.j l.b ≡ take l.j (drop (l.k * block_bytes) (padded l.s)))
