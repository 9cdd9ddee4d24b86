-- Each public contract of this crate has one answer only, and settles the text that it writes. Assumes nothing.
use Rattle.std.proofs.Common.{sym, ◌∙◌}
use Rattle.writing.specs.Unique.{UniqueText}
use Rattle.server_lines.proofs.put_servers.Kinds as servers-kinds
use Rattle.server_lines.proofs.put_servers.Reads as servers-reads

pub put_servers_unique : UniqueText 2 servers-kinds.ps servers-kinds.r (λ κs x e. e.0.now) servers-reads.Post
put_servers_unique κs a x y e f p q = (p.0.wrote.ends ∙ sym q.0.wrote.ends, p.0.wrote.bytes ∙ sym q.0.wrote.bytes)
