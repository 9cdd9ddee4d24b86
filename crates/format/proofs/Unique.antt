-- Each public contract of this crate has one answer only. Assumes nothing.
use mathlib.Core.Path.{sym, ◌∙◌}
use Rattle.unique.specs.Unique.{Unique}
use Rattle.format.proofs.refusal.U8FromRefusal.from.Kinds as refusal-code-kinds
use Rattle.format.proofs.refusal.U8FromRefusal.from.Reads as refusal-code-reads
use Rattle.format.proofs.refusal.Refused.new.Kinds as refused-new-kinds
use Rattle.format.proofs.refusal.Refused.new.Reads as refused-new-reads

pub refusal_code_unique : Unique 0 refusal-code-kinds.ps refusal-code-kinds.r refusal-code-reads.Post
refusal_code_unique κs a x y e f p q = p ∙ sym q

pub refused_new_unique : Unique 0 refused-new-kinds.ps refused-new-kinds.r refused-new-reads.Post
refused_new_unique κs a x y e f p q = p ∙ sym q
