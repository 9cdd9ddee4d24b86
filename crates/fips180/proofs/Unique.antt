-- Each public contract of this crate settles its answer. Assumes nothing.
use Rattle.std.proofs.Common.{sym, ◌∙◌}
use Rattle.unique.specs.Unique.{Unique}
use Rattle.fips180.proofs.U8FromDigestLong.from.Kinds as from-kinds
use Rattle.fips180.proofs.U8FromDigestLong.from.Reads as from-reads

pub from_unique : Unique 0 from-kinds.ps from-kinds.r from-reads.Post
from_unique κs a x y e f p q = p ∙ sym q
