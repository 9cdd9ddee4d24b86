-- Each public contract of this crate settles its answer. Assumes nothing.
use mathlib.Core.Path.{sym, ◌∙◌}
use Rattle.unique.specs.Unique.{Unique}
use Rattle.rules.proofs.arrival.arrive.Kinds as arrive-kinds
use Rattle.rules.proofs.arrival.arrive.Reads as arrive-reads
use Rattle.rules.proofs.delivery.deliver.Kinds as deliver-kinds
use Rattle.rules.proofs.delivery.deliver.Reads as deliver-reads
use Rattle.rules.proofs.forged_packet.forge_packet.Kinds as forge-packet-kinds
use Rattle.rules.proofs.forged_packet.forge_packet.Reads as forge-packet-reads
use Rattle.rules.proofs.forged_receive.forge_receive.Kinds as forge-receive-kinds
use Rattle.rules.proofs.forged_receive.forge_receive.Reads as forge-receive-reads
use Rattle.rules.proofs.forged_send.forge_send.Kinds as forge-send-kinds
use Rattle.rules.proofs.forged_send.forge_send.Reads as forge-send-reads
use Rattle.rules.proofs.sending.multicast.Kinds as multicast-kinds
use Rattle.rules.proofs.sending.multicast.Reads as multicast-reads
use Rattle.rules.proofs.proposal.propose.Kinds as propose-kinds
use Rattle.rules.proofs.proposal.propose.Reads as propose-reads
use Rattle.rules.proofs.storing.request.Kinds as request-kinds
use Rattle.rules.proofs.storing.request.Reads as request-reads
use Rattle.rules.proofs.settling.settle.Kinds as settle-kinds
use Rattle.rules.proofs.settling.settle.Reads as settle-reads

pub arrive_unique : Unique 0 arrive-kinds.ps arrive-kinds.r arrive-reads.Post
arrive_unique κs a x y e f p q = p ∙ sym q

pub deliver_unique : Unique 0 deliver-kinds.ps deliver-kinds.r deliver-reads.Post
deliver_unique κs a x y e f p q = p ∙ sym q

pub forge_packet_unique : Unique 0 forge-packet-kinds.ps forge-packet-kinds.r forge-packet-reads.Post
forge_packet_unique κs a x y e f p q = p ∙ sym q

pub forge_receive_unique : Unique 0 forge-receive-kinds.ps forge-receive-kinds.r forge-receive-reads.Post
forge_receive_unique κs a x y e f p q = p ∙ sym q

pub forge_send_unique : Unique 0 forge-send-kinds.ps forge-send-kinds.r forge-send-reads.Post
forge_send_unique κs a x y e f p q = p ∙ sym q

pub multicast_unique : Unique 0 multicast-kinds.ps multicast-kinds.r multicast-reads.Post
multicast_unique κs a x y e f p q = p ∙ sym q

pub propose_unique : Unique 0 propose-kinds.ps propose-kinds.r propose-reads.Post
propose_unique κs a x y e f p q = p ∙ sym q

pub request_unique : Unique 0 request-kinds.ps request-kinds.r request-reads.Post
request_unique κs a x y e f p q = p ∙ sym q

pub settle_unique : Unique 0 settle-kinds.ps settle-kinds.r settle-reads.Post
settle_unique κs a x y e f p q = p ∙ sym q
