use Prim.Native.Nat.{◌-◌}
use lib.ListN.{length}
use Rattle.format.proofs.Reader.{Scanning}
use Rattle.schedule.proofs.scanning.scan.Given as goal

abbrev pub invariant-loop-next : goal.invariant-loop-next
invariant-loop-next l = Scanning l.s l.from l.at l.k

abbrev pub decreases-loop-next : goal.decreases-loop-next
decreases-loop-next l = length l.s - l.at
