-- The public contract of this crate settles its answer and the bytes that it writes: the answers, and the text. Assumes nothing.
use mathlib.Core.Path.{sym, ◌∙◌}
use Rattle.unique.specs.Unique.{UniqueBytes}
use Rattle.listing.proofs.list.Kinds as list-kinds
use Rattle.listing.proofs.list.Reads as list-reads

pub answers_unique : UniqueBytes 3 list-kinds.ps list-kinds.r (λ κs e. e.1.0.now) list-reads.Post
answers_unique κs a x y e f p q = (p.0 ∙ sym q.0, p.1.1.0 ∙ sym q.1.1.0)

pub text_unique : UniqueBytes 3 list-kinds.ps list-kinds.r (λ κs e. e.1.1.0.now) list-reads.Post
text_unique κs a x y e f p q = (p.0 ∙ sym q.0, p.1.1.1 ∙ sym q.1.1.1)
