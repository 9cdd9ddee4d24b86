-- Each public contract of this crate settles its answer. Assumes nothing.
use mathlib.Core.Path.{sym, ◌∙◌}
use Rattle.unique.specs.Unique.{Unique}
use Rattle.digest.proofs.sha256.Kinds as sha256-kinds
use Rattle.digest.proofs.sha256.Reads as sha256-reads

pub sha256_unique : Unique 1 sha256-kinds.ps sha256-kinds.r sha256-reads.Post
sha256_unique κs a x y e f p q = p ∙ sym q
