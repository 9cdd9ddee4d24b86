use Rattle.std.proofs.Common.{◌≡◌}
use Rattle.fips180.specs.Sha256.{padded, hashed}
use Rattle.digest.proofs.hash.Given as goal

abbrev pub invariant-loop-k : goal.invariant-loop-k
invariant-loop-k l = l.v ≡ hashed (padded l.s) l.k
