-- Each public contract of this crate has one answer only. Assumes nothing.
use Rattle.std.proofs.Common.{sym, ◌∙◌}
use Rattle.unique.specs.Unique.{Unique}
use Rattle.compression.proofs.state.start.Kinds as start-kinds
use Rattle.compression.proofs.state.start.Reads as start-reads
use Rattle.compression.proofs.state.compress.Kinds as compress-kinds
use Rattle.compression.proofs.state.compress.Reads as compress-reads
use Rattle.compression.proofs.state.bytes.Kinds as bytes-kinds
use Rattle.compression.proofs.state.bytes.Reads as bytes-reads

pub start_unique : Unique 0 start-kinds.ps start-kinds.r start-reads.Post
start_unique κs a x y e f p q = p ∙ sym q

pub compress_unique : Unique 0 compress-kinds.ps compress-kinds.r compress-reads.Post
compress_unique κs a x y e f p q = p ∙ sym q

pub bytes_unique : Unique 0 bytes-kinds.ps bytes-kinds.r bytes-reads.Post
bytes_unique κs a x y e f p q = p ∙ sym q
