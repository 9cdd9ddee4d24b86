-- Each public contract of this crate has one answer only. Assumes nothing.
use mathlib.Core.Path.{sym, ◌∙◌}
use Rattle.unique.specs.Unique.{Unique}
use Rattle.protocol.proofs.answer.U8FromAnswer.from.Kinds as answer-code-kinds
use Rattle.protocol.proofs.answer.U8FromAnswer.from.Reads as answer-code-reads

pub answer_code_unique : Unique 0 answer-code-kinds.ps answer-code-kinds.r answer-code-reads.Post
answer_code_unique κs a x y e f p q = p ∙ sym q
