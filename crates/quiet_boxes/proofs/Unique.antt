-- Each public contract of this crate has one answer only. Assumes nothing.
use mathlib.Core.Path.{sym, ◌∙◌}
use Rattle.unique.specs.Unique.{Unique}
use Rattle.quiet_boxes.proofs.server_quiet.Kinds as server-quiet-kinds
use Rattle.quiet_boxes.proofs.server_quiet.Reads as server-quiet-reads

pub server_quiet_unique : Unique 1 server-quiet-kinds.ps server-quiet-kinds.r server-quiet-reads.Post
server_quiet_unique κs a x y e f p q = p ∙ sym q
