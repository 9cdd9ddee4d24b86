-- Each public contract of this crate settles its answer and the bytes that it writes. Assumes nothing.
use mathlib.Core.Path.{sym, ◌∙◌}
use Rattle.unique.specs.Unique.{Unique, UniqueBytes}
use Rattle.bridge.proofs.staubharfe_quiet.Kinds as quiet-kinds
use Rattle.bridge.proofs.staubharfe_quiet.Reads as quiet-reads
use Rattle.bridge.proofs.staubharfe_run.Kinds as run-kinds
use Rattle.bridge.proofs.staubharfe_run.Reads as run-reads
use Rattle.bridge.proofs.staubharfe_sha256.Kinds as sha256-kinds
use Rattle.bridge.proofs.staubharfe_sha256.Reads as sha256-reads
use Rattle.bridge.proofs.staubharfe_start.Kinds as start-kinds
use Rattle.bridge.proofs.staubharfe_start.Reads as start-reads
use Rattle.bridge.proofs.staubharfe_step.Kinds as step-kinds
use Rattle.bridge.proofs.staubharfe_step.Reads as step-reads

pub sha256_unique : UniqueBytes 2 sha256-kinds.ps sha256-kinds.r (λ κs e. e.1.0.now) sha256-reads.Post
sha256_unique κs a x y e f p q = (p.0 ∙ sym q.0, p.1 ∙ sym q.1)

pub start_unique : Unique 0 start-kinds.ps start-kinds.r start-reads.Post
start_unique κs a x y e f p q = p ∙ sym q

pub step_unique : Unique 1 step-kinds.ps step-kinds.r step-reads.Post
step_unique κs a x y e f p q = p ∙ sym q

pub run_unique : UniqueBytes 2 run-kinds.ps run-kinds.r (λ κs e. e.1.0.now) run-reads.Post
run_unique κs a x y e f p q = (p.0 ∙ sym q.0, p.1 ∙ sym q.1)

pub quiet_unique : Unique 0 quiet-kinds.ps quiet-kinds.r quiet-reads.Post
quiet_unique κs a x y e f p q = p ∙ sym q
