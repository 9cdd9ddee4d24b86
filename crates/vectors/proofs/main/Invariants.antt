-- A message has at most 55 bytes, so at most 110 digits.
use Rattle.std.proofs.Common.{◌≤◌}
use Rattle.vectors.proofs.main.Given as goal

abbrev pub invariant-loop-c : goal.invariant-loop-c
invariant-loop-c l = l.digits ≤ 110
