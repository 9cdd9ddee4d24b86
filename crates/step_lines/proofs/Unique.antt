-- Each public contract of this crate has one answer only, and settles the text that it writes. Assumes nothing.
use Rattle.std.proofs.Common.{sym, ◌∙◌}
use Rattle.writing.specs.Unique.{UniqueText}
use Rattle.step_lines.proofs.put_steps.Kinds as put-steps-kinds
use Rattle.step_lines.proofs.put_steps.Reads as put-steps-reads
use Rattle.step_lines.proofs.put_world.Kinds as put-world-kinds
use Rattle.step_lines.proofs.put_world.Reads as put-world-reads

pub put_steps_unique : UniqueText 3 put-steps-kinds.ps put-steps-kinds.r (λ κs x e. e.0.now) put-steps-reads.Post
put_steps_unique κs a x y e f p q = (p.0.wrote.ends ∙ sym q.0.wrote.ends, p.0.wrote.bytes ∙ sym q.0.wrote.bytes)

pub put_world_unique : UniqueText 1 put-world-kinds.ps put-world-kinds.r (λ κs x e. x) put-world-reads.Post
put_world_unique κs a x y e f p q = (p.0.wrote.ends ∙ sym q.0.wrote.ends, p.0.wrote.bytes ∙ sym q.0.wrote.bytes)
