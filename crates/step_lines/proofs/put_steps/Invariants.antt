use Rattle.std.proofs.Common.{◌+◌, ◌*◌, ◌≤◌, take}
use Rattle.writing.specs.Writing.{Writes}
use Rattle.protocol.specs.Longest.{step_most}
use Rattle.protocol.specs.Listing.{step_lines}
use Rattle.step_lines.proofs.put_steps.Given as goal

abbrev pub invariant-loop-i : goal.invariant-loop-i
invariant-loop-i l = record {
  wrote : Writes l.initial.text (step_lines 1 (take l.i l.answers)) l.text;
  upper_bound : l.text.at ≤ l.initial.text.at + l.i * step_most;
}
