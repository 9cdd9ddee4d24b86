-- Each public contract of this crate settles its answer. Assumes nothing.
use Rattle.std.proofs.Common.{ap, sym, ◌∙◌, ℕ, List}
use Rattle.unique.specs.Unique.{Unique}
use Rattle.hex_text.proofs.LineFromArrayU8DigestBYTES.from.Kinds as from-kinds
use Rattle.hex_text.proofs.LineFromArrayU8DigestBYTES.from.Reads as from-reads

pub from_unique : Unique 0 from-kinds.ps from-kinds.r from-reads.Post
from_unique κs a x y e f p q = ap (λ (t : List ℕ). record { text = t }) (p ∙ sym q)
