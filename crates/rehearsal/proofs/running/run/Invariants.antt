use Prim.Native.Nat.{◌+◌, ◌-◌}
use lib.ListN.{length}
use Rattle.protocol.specs.Runs.{start_world}
use Rattle.rehearsal.proofs.Going.{Going}
use Rattle.rehearsal.proofs.running.run.Given as goal

abbrev pub invariant-loop-kind : goal.invariant-loop-kind
invariant-loop-kind l = Going l.s l.initial.answers (start_world l.s) l.answers l.world l.at l.k

abbrev pub decreases-loop-kind : goal.decreases-loop-kind
decreases-loop-kind l = length l.s + 3 - l.at
