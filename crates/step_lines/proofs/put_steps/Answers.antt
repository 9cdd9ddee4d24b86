use Rattle.std.proofs.Common.{◌+◌, arith}
use Rattle.protocol.specs.Listing.{step_line, step_lines}
use Rattle.writing.proofs.Placing.{more}
use Rattle.step_lines.proofs.Rows.{steps_push}
use Rattle.step_lines.proofs.put_steps.Goals as goal

pub loop-i-preserved : goal.loop-i-preserved
loop-i-preserved c = record {
  wrote = more (step_lines 1) (λ i a. step_line (i + 1) a) steps_push _ _ 0 c.loop-i-test.true c.loop-i.invariant.wrote c.put_step.ensures.wrote;
  upper_bound = omega arith;
}
