use Rattle.std.proofs.Common.{◌≡◌}
use Rattle.fips180.specs.Sha256.{rounds_of}
use Rattle.compression.proofs.state.rounds.Given as goal

abbrev pub invariant-loop-t : goal.invariant-loop-t
invariant-loop-t l = l.u ≡ rounds_of l.s.words l.initial.u l.t
