-- Each public contract of this crate has one answer only. Assumes nothing.
use mathlib.Core.Path.{sym, ◌∙◌}
use Rattle.unique.specs.Unique.{Unique}
use Rattle.quiet.proofs.quiet.Kinds as quiet-kinds
use Rattle.quiet.proofs.quiet.Reads as quiet-reads

pub quiet_unique : Unique 0 quiet-kinds.ps quiet-kinds.r quiet-reads.Post
quiet_unique κs a x y e f p q = p ∙ sym q
