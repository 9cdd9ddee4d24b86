-- Each public contract of this crate settles its answer and the bytes that it writes. Assumes nothing.
use mathlib.Core.Path.{sym, ◌∙◌}
use Rattle.unique.specs.Unique.{Unique, UniqueBytes}
use Rattle.protocol.proofs.Telling.{start_told_once, step_told_once, run_told_once}
use Rattle.rehearsal.proofs.running.run.Kinds as run-kinds
use Rattle.rehearsal.proofs.running.run.Reads as run-reads
use Rattle.rehearsal.proofs.starting.start.Kinds as start-kinds
use Rattle.rehearsal.proofs.starting.start.Reads as start-reads
use Rattle.rehearsal.proofs.stepping.step.Kinds as step-kinds
use Rattle.rehearsal.proofs.stepping.step.Reads as step-reads

pub start_unique : Unique 0 start-kinds.ps start-kinds.r start-reads.Post
start_unique κs a x y e f p q = start_told_once x y (p ∙ sym q)

pub step_unique : Unique 1 step-kinds.ps step-kinds.r step-reads.Post
step_unique κs a x y e f p q = step_told_once _ x y (p ∙ sym q)

pub run_unique : UniqueBytes 2 run-kinds.ps run-kinds.r (λ κs e. e.1.0.now) run-reads.Post
run_unique κs a x y e f p q = (run_told_once x y (p.0 ∙ sym q.0), p.1 ∙ sym q.1)
