use Rattle.std.proofs.Common.{◌≡◌}
use Rattle.world.specs.Outgoing.{sent_below}
use Rattle.world.proofs.outgoing.Outgoing.send.Given as goal

abbrev pub invariant-loop-to : goal.invariant-loop-to
invariant-loop-to l = l.o ≡ sent_below l.roster l.mask l.server l.sending l.initial.o l.to
