-- How the code goes about a step: by the act that its kind names, the first bytes of its body, and what stands where
-- they point. Each is the step of `Steps` again (`proofs/Lenses.antt`).
use Rattle.std.specs.Prelude.{ℕ, ◌+◌, ◌<◌, List}
use Rattle.fips180.specs.Digest.{digest_bytes}
use Rattle.world.specs.declared.World.{World}
use Rattle.world.specs.declared.roster.Roster.{Roster}
use Rattle.world.specs.declared.outgoing.Packet.{Packet}
use Rattle.world.specs.declared.hold.Entry.{Entry}
use Rattle.world.specs.Sizes.{servers, requests_most}
use Rattle.world.specs.Outgoing.{packet_at}
use Rattle.world.specs.Hold.{entry_at}
use Rattle.world.specs.Boxes.{outgoing_of, hold_of}
use Rattle.protocol.specs.declared.boxes.Boxes.{Boxes}
use Rattle.protocol.specs.declared.boxes.Ruling.{Ruling}
use Rattle.protocol.specs.Rules.{multicast_of, arrive_of, propose_of, settle_of, deliver_of, forge_packet_of, forge_send_of}
use Rattle.protocol.specs.Rules.{forge_receive_of}
use Rattle.format.specs.declared.kinds.Act.{Act}
use Rattle.format.specs.declared.kinds.Act.TheVariants.{Multicast, Arrive, Propose, Settle, Deliver, ForgePacket}
use Rattle.format.specs.declared.kinds.Act.TheVariants.{ForgeSend, ForgeReceive}
use Rattle.format.specs.Fields.{byte_at, two_at, bytes_at}
use Rattle.protocol.specs.declared.boxes.Touch.{Touch}
use Rattle.protocol.specs.Steps.{touch, touch_for}

abbrev pub touch_by : Act → ℕ → ℕ → Packet → Entry → Touch
touch_by Multicast x y p e = touch x x x y
touch_by Arrive x y p e = touch x p.to x 0
touch_by Propose x y p e = touch_for x e.sending
touch_by Settle x y p e = touch_for x e.sending
touch_by Deliver x y p e = touch x x x 0
touch_by ForgePacket x y p e = touch x x x 0
touch_by ForgeSend x y p e = touch x x x 0
touch_by ForgeReceive x y p e = touch x x y 0

-- every box that is touched is there
pub record Seated (t : Touch) : Type 0 where
  pub server : t.server < servers
  pub holder : t.holder < servers
  pub sender : t.sender < servers
  pub slot : t.slot < requests_most

abbrev pub touch_of : World → Act → List ℕ → ℕ → Touch
touch_of w a s b =
    touch_by a (byte_at s b) (byte_at s (b + 1)) (packet_at (outgoing_of w (byte_at s b)) (byte_at s (b + 1)))
    (entry_at (hold_of w (byte_at s b)) (byte_at s (b + 1)))

abbrev pub act_of : Roster → Act → List ℕ → ℕ → Boxes → Ruling
act_of r Multicast s b boxes = multicast_of r (byte_at s b) (byte_at s (b + 1)) boxes
act_of r Arrive s b boxes = arrive_of r (byte_at s b) (byte_at s (b + 1)) boxes
act_of r Propose s b boxes = propose_of r (byte_at s b) (byte_at s (b + 1)) boxes
act_of r Settle s b boxes = settle_of r (byte_at s b) (byte_at s (b + 1)) boxes
act_of r Deliver s b boxes = deliver_of r (byte_at s b) boxes
act_of r ForgePacket s b boxes =
    forge_packet_of r (byte_at s b) (byte_at s (b + 1)) (byte_at s (b + 2)) (two_at s (b + 3)) (byte_at s (b + 5)) boxes
act_of r ForgeSend s b boxes = forge_send_of r (byte_at s b) (two_at s (b + 1)) (bytes_at s (b + 3) digest_bytes) boxes
act_of r ForgeReceive s b boxes =
    forge_receive_of r (byte_at s b) (byte_at s (b + 1)) (two_at s (b + 2)) (bytes_at s (b + 4) digest_bytes) boxes
