-- What a step does to the whole world: the boxes that it touches are taken out, its rule is applied to them, and they
-- are put back.
use Rattle.std.specs.Prelude.{ℕ, List, [], ◌∷◌, get_or, set}
use Rattle.world.specs.declared.World.{World}
use Rattle.world.specs.declared.sending.Sending.{Sending}
use Rattle.world.specs.Sizes.{requests_most}
use Rattle.world.specs.Requests.{request_at}
use Rattle.world.specs.Outgoing.{packet_at}
use Rattle.world.specs.Hold.{entry_at}
use Rattle.world.specs.Boxes.{within, seat, with_requests, no_table, no_packets, no_entries, no_items, outgoing_of, hold_of}
use Rattle.protocol.specs.declared.boxes.Boxes.{Boxes}
use Rattle.protocol.specs.declared.boxes.Ruling.{Ruling}
use Rattle.protocol.specs.declared.boxes.Requested.{Requested}
use Rattle.protocol.specs.Answers.{answer_code}
use Rattle.protocol.specs.Rules.{request_of, multicast_of, arrive_of, propose_of, settle_of, deliver_of, forge_packet_of}
use Rattle.protocol.specs.Rules.{forge_send_of, forge_receive_of}
use Rattle.format.specs.Records.{Asked, Request, Multicast, Arrive, Propose, Settle, Deliver, ForgePacket, ForgeSend}
use Rattle.format.specs.Records.{ForgeReceive}
use Rattle.protocol.specs.declared.boxes.Touch.{Touch}
use Rattle.protocol.specs.declared.ending.Outcome.{Outcome}

-- a code and the world after
abbrev pub ends : ℕ → World → Outcome
ends code w = record { code = code; world = w }

-- whose boxes a step touches: the outgoing places and delivered list of one server, the hold of one, the executions of
-- one sender, and the request of one slot
abbrev pub touch : ℕ → ℕ → ℕ → ℕ → Touch
touch server holder sender slot = record {
  server = seat server;
  holder = seat holder;
  sender = seat sender;
  slot = within requests_most slot;
}

-- those of a server with an entry of the sending
abbrev pub touch_for : ℕ → Sending → Touch
touch_for server s = touch server server s.sender s.slot

abbrev pub boxes_of : World → Touch → Boxes
boxes_of w t = record {
  numbered = w.numbered;
  stored = w.requests.count;
  request = request_at w.requests t.slot;
  executions = get_or w.executions t.sender no_table;
  outgoing = get_or w.outgoing t.server no_packets;
  hold = get_or w.holds t.holder no_entries;
  delivered = get_or w.delivered t.server no_items;
}

abbrev pub put_back : World → Touch → Boxes → World
put_back w t b = record {
  roster = w.roster;
  numbered = b.numbered;
  requests = w.requests;
  executions = set w.executions t.sender b.executions;
  outgoing = set w.outgoing t.server b.outgoing;
  holds = set w.holds t.holder b.hold;
  delivered = set w.delivered t.server b.delivered;
}

abbrev pub put_back_step : World → Touch → Ruling → Outcome
put_back_step w t s = ends (answer_code s.answer) (put_back w t s.boxes)

-- a rule on the boxes
abbrev pub on : World → Touch → (Boxes → Ruling) → Outcome
on w t rule = put_back_step w t (rule (boxes_of w t))

abbrev pub put_requests : World → Requested → Outcome
put_requests w r = ends (answer_code r.answer) (with_requests w r.requests)

-- each step, with the boxes that document 01's rule speaks of: a packet's recipient, an entry's sender and slot
unfoldable pub step_of : World → Asked → Outcome
step_of w (Request client serial seals command) =
    put_requests w (request_of w.roster client serial seals command w.requests)
step_of w (Multicast server slot) = on w (touch server server server slot) (multicast_of w.roster server slot)
step_of w (Arrive origin place) =
    on w (touch origin (packet_at (outgoing_of w origin) place).to origin 0) (arrive_of w.roster origin place)
step_of w (Propose server place) =
    on w (touch_for server (entry_at (hold_of w server) place).sending) (propose_of w.roster server place)
step_of w (Settle server place) =
    on w (touch_for server (entry_at (hold_of w server) place).sending) (settle_of w.roster server place)
step_of w (Deliver server) = on w (touch server server server 0) (deliver_of w.roster server)
step_of w (ForgePacket from to sender id slot) =
    on w (touch from from from 0) (forge_packet_of w.roster from to sender id slot)
step_of w (ForgeSend server id digest) = on w (touch server server server 0) (forge_send_of w.roster server id digest)
step_of w (ForgeReceive server sender id digest) =
    on w (touch server server sender 0) (forge_receive_of w.roster server sender id digest)

-- a row of steps: the world after, and the answers
unfoldable pub world_after : World → List Asked → World
world_after w [] = w
world_after w (a ∷ l) = world_after (step_of w a).world l

unfoldable pub answers_of : World → List Asked → List ℕ
answers_of w [] = []
answers_of w (a ∷ l) = (step_of w a).code ∷ answers_of (step_of w a).world l
