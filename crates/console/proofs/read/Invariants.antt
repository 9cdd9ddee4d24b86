-- What was read so far lies inside the buffer.
use Rattle.std.proofs.Common.{◌≤◌, length}
use Rattle.console.proofs.read.Given as goal

abbrev pub invariant-loop : goal.invariant-loop
invariant-loop g l = l.at ≤ length l.buf
