-- Document 01, "Steps, with tests in order": a rule for each kind, its tests in the document's order. A test is `must
-- WHAT-HOLDS ANSWER-IF-NOT NEXT`. A rule speaks of the boxes that its step touches; which ones these are is in
-- `Steps`.
use Rattle.std.specs.Prelude.{ℕ, ◌+◌, Bool, not, ◌&&◌, ◌||◌, List, eqb, ltb, leb, replicate, None, Option, Some, is_some}
use Rattle.fips180.specs.Sha256.{digest_of}
use Rattle.fips180.specs.Digest.{digest_bytes}
use Rattle.world.specs.declared.roster.Roster.{Roster}
use Rattle.world.specs.declared.request.Request.{Request}
use Rattle.world.specs.declared.request.Requests.{Requests}
use Rattle.world.specs.declared.execution.Executions.{Executions}
use Rattle.world.specs.declared.execution.Ordered.{Ordered}
use Rattle.world.specs.declared.sending.Sending.{Sending}
use Rattle.world.specs.declared.outgoing.Outgoing.{Outgoing}
use Rattle.world.specs.declared.hold.Hold.{Hold}
use Rattle.world.specs.declared.delivered.Delivered.{Delivered}
use Rattle.world.specs.Sizes.{requests_most, executions_most}
use Rattle.world.specs.Masks.{nobody, has}
use Rattle.world.specs.Roster.{member, faulty, strays}
use Rattle.world.specs.Requests.{request_added, with_digest, request_bytes, same_digest, known_digest}
use Rattle.world.specs.Executions.{execution_at, execution_put, execution_added, execution_of, opened, called, ordered}
use Rattle.world.specs.Outgoing.{packet_at, packet_for, free_outgoing, free_places, packet_added, packet_freed, needed, sent}
use Rattle.world.specs.Hold.{entry_of, entry_at, holding, ready_place, free_hold, entry_put, entry_freed, entry_added}
use Rattle.world.specs.Delivered.{next_of, appended}
use Rattle.protocol.specs.declared.answer.Answer.{Answer}
use Rattle.protocol.specs.declared.answer.Answer.TheVariants.{Done, Dropped, Wait, Dismissed, BadServer}
use Rattle.protocol.specs.declared.answer.Answer.TheVariants.{WrongSide, NoSuch, BadField, SameDigest, NoRoom}
use Rattle.protocol.specs.declared.answer.Answer.TheVariants.{Quota, Unknown, WrongDigest, Recall}
use Rattle.protocol.specs.declared.boxes.Boxes.{Boxes}
use Rattle.protocol.specs.declared.boxes.Ruling.{Ruling}
use Rattle.protocol.specs.declared.boxes.Requested.{Requested}
use Rattle.search.specs.Tests.{must}

-- an answer beside the boxes. Every answer but DONE and DROPPED stands beside the boxes as they were.
abbrev pub answered : Answer → Boxes → Ruling
answered a b = record { answer = a; boxes = b }

-- the boxes with one of them changed
abbrev pub with_hold : Boxes → Hold → Boxes
with_hold b h = record {
  numbered = b.numbered;
  stored = b.stored;
  request = b.request;
  executions = b.executions;
  outgoing = b.outgoing;
  hold = h;
  delivered = b.delivered;
}

abbrev pub with_outgoing : Boxes → Outgoing → Boxes
with_outgoing b o = record {
  numbered = b.numbered;
  stored = b.stored;
  request = b.request;
  executions = b.executions;
  outgoing = o;
  hold = b.hold;
  delivered = b.delivered;
}

abbrev pub with_delivered : Boxes → Delivered → Boxes
with_delivered b d = record {
  numbered = b.numbered;
  stored = b.stored;
  request = b.request;
  executions = b.executions;
  outgoing = b.outgoing;
  hold = b.hold;
  delivered = d;
}

abbrev pub with_executions : Boxes → Executions → ℕ → Boxes
with_executions b t m = record {
  numbered = m;
  stored = b.stored;
  request = b.request;
  executions = t;
  outgoing = b.outgoing;
  hold = b.hold;
  delivered = b.delivered;
}

-- the orderer: an execution made, and a call recorded at the execution of place k
abbrev pub made_by : Boxes → Ordered → Boxes
made_by b o = with_executions b (execution_added b.executions o.execution) o.numbered

unfoldable pub made : Roster → ℕ → ℕ → List ℕ → Boxes → Boxes
made r sender id digest b = made_by b (ordered r (opened sender id digest) b.numbered)

abbrev pub recorded_by : Boxes → ℕ → Ordered → Boxes
recorded_by b k o = with_executions b (execution_put b.executions k o.execution) o.numbered

unfoldable pub recorded : Roster → ℕ → ℕ → Boxes → Boxes
recorded r server k b = recorded_by b k (ordered r (called (execution_at b.executions k) server) b.numbered)

-- Request: BAD_FIELD for a seal of no server, SAME_DIGEST for bytes whose digest is stored, NO_ROOM where every slot
-- is given; else it goes into the next slot with its digest.
abbrev pub bare_request : ℕ → ℕ → ℕ → List ℕ → Request
bare_request client serial seals command = record {
  serial = serial;
  client = client;
  seals = seals;
  command = command;
  digest = replicate digest_bytes 0;
}

unfoldable pub request_from : ℕ → ℕ → ℕ → List ℕ → Request
request_from client serial seals command =
    let q = bare_request client serial seals command in with_digest q (digest_of (request_bytes q))

abbrev pub stored_with : Answer → Requests → Requested
stored_with a q = record { answer = a; requests = q }

unfoldable pub request_of : Roster → ℕ → ℕ → ℕ → List ℕ → Requests → Requested
request_of r client serial seals command q =
    let new = request_from client serial seals command in
    must (not (strays r seals)) (stored_with BadField q)
    (must (not (known_digest q new.digest)) (stored_with SameDigest q)
    (must (ltb q.count requests_most) (stored_with NoRoom q)
    (stored_with Done (request_added q new))))

-- Multicast, by a correct server, of a stored request: DISMISSED without its own good seal, QUOTA with all its
-- executions made, NO_ROOM without an outgoing place for each other server and a place in its hold. Then its next
-- execution is made, it holds the sending at stage two, and a packet goes to each other server.
abbrev pub own_sending : ℕ → ℕ → Boxes → Sending
own_sending server slot b = record { id = b.executions.count + 1; sender = server; slot = slot }

unfoldable pub multicast_done : Roster → ℕ → ℕ → Boxes → Boxes
multicast_done r server slot b =
    let s = own_sending server slot b in
    with_outgoing
    (with_hold (made r server s.id b.request.digest b) (entry_added b.hold (entry_of 2 s 0)))
    (sent r nobody server s b.outgoing)

abbrev pub roomy : Roster → ℕ → Boxes → Bool
roomy r server b = leb (needed r nobody server) (free_places b.outgoing) && is_some (free_hold b.hold)

unfoldable pub multicast_of : Roster → ℕ → ℕ → Boxes → Ruling
multicast_of r server slot b =
    must (member r server) (answered BadServer b)
    (must (not (faulty r server)) (answered WrongSide b)
    (must (ltb slot b.stored) (answered NoSuch b)
    (must (has b.request.seals server) (answered Dismissed b)
    (must (ltb b.executions.count executions_most) (answered Quota b)
    (must (roomy r server b) (answered NoRoom b)
    (answered Done (multicast_done r server slot b)))))))

-- Arrive, of the packet at a place of an origin: it is DROPPED where its recipient is faulty or holds that very sending
-- already, at any stage; NO_ROOM leaves it under way; else it leaves its place and is held at stage one.
unfoldable pub arrive_of : Roster → ℕ → ℕ → Boxes → Ruling
arrive_of r origin place b =
    let p = packet_at b.outgoing place in
    let rest = with_outgoing b (packet_freed b.outgoing place) in
    must (member r origin) (answered BadServer b)
    (must p.there (answered NoSuch b)
    (must (not (faulty r p.to || holding b.hold p.sending)) (answered Dropped rest)
    (must (is_some (free_hold b.hold)) (answered NoRoom b)
    (answered Done (with_hold rest (entry_added b.hold (entry_of 1 p.sending 0)))))))

-- an entry at a later stage; and freed, which drops the step
abbrev pub raised : ℕ → ℕ → ℕ → Boxes → Boxes
raised place stage number b =
    with_hold b (entry_put b.hold place (entry_of stage (entry_at b.hold place).sending number))

abbrev pub dropped_at : ℕ → Boxes → Ruling
dropped_at place b = answered Dropped (with_hold b (entry_freed b.hold place))

-- Propose, by a correct server, of an entry at stage one: WAIT as long as its execution is not there; DROPPED, the
-- entry freed, where the server has called before, or its seal is good and the digest is another one. Without a good
-- seal the entry goes on to stage two and the orderer is told nothing; with one the call is recorded too.
unfoldable pub propose_to : Roster → ℕ → ℕ → ℕ → Boxes → Ruling
propose_to r server place k b =
    let x = execution_at b.executions k in
    must (not (has x.called server)) (dropped_at place b)
    (must (has b.request.seals server) (answered Done (raised place 2 0 b))
    (must (same_digest b.request.digest x.digest) (dropped_at place b)
    (answered Done (recorded r server k (raised place 2 0 b)))))

unfoldable pub propose_found : Roster → ℕ → ℕ → Boxes → Option ℕ → Ruling
propose_found r server place b (Some k) = propose_to r server place k b
propose_found r server place b None = answered Wait b

unfoldable pub propose_of : Roster → ℕ → ℕ → Boxes → Ruling
propose_of r server place b =
    let e = entry_at b.hold place in
    must (member r server) (answered BadServer b)
    (must (not (faulty r server)) (answered WrongSide b)
    (must (eqb e.stage 1) (answered NoSuch b)
    (propose_found r server place b (execution_of b.executions e.sending.id))))

-- Settle, by a correct server, of an entry at stage two: WAIT without a number; DROPPED, the entry freed, where the
-- digest is another one. Who is not the sender forwards it to everybody outside the mask, in ascending order, or is
-- told NO_ROOM. Then the entry is at stage three and has the number.
unfoldable pub settle_to : Roster → ℕ → ℕ → ℕ → Boxes → Ruling
settle_to r server place k b =
    let e = entry_at b.hold place in
    let x = execution_at b.executions k in
    let third = raised place 3 x.number b in
    must (not (eqb x.number 0)) (answered Wait b)
    (must (same_digest b.request.digest x.digest) (dropped_at place b)
    (must (not (eqb e.sending.sender server)) (answered Done third)
    (must (leb (needed r x.mask server) (free_places b.outgoing)) (answered NoRoom b)
    (answered Done (with_outgoing third (sent r x.mask server e.sending b.outgoing))))))

unfoldable pub settle_found : Roster → ℕ → ℕ → Boxes → Option ℕ → Ruling
settle_found r server place b (Some k) = settle_to r server place k b
settle_found r server place b None = answered Wait b

unfoldable pub settle_of : Roster → ℕ → ℕ → Boxes → Ruling
settle_of r server place b =
    let e = entry_at b.hold place in
    must (member r server) (answered BadServer b)
    (must (not (faulty r server)) (answered WrongSide b)
    (must (eqb e.stage 2) (answered NoSuch b)
    (settle_found r server place b (execution_of b.executions e.sending.id))))

-- Deliver, by a correct server: WAIT where no entry at stage three has its next number; else the lowest of them leaves
-- its place, and its sending is the next delivered item.
unfoldable pub deliver_found : Boxes → Option ℕ → Ruling
deliver_found b (Some k) =
    let e = entry_at b.hold k in
    answered Done (with_delivered (with_hold b (entry_freed b.hold k)) (appended b.delivered e.sending))
deliver_found b None = answered Wait b

unfoldable pub deliver_of : Roster → ℕ → Boxes → Ruling
deliver_of r server b =
    must (member r server) (answered BadServer b)
    (must (not (faulty r server)) (answered WrongSide b)
    (deliver_found b (ready_place b.hold (next_of b.delivered))))

-- Forge packet, by a faulty server: a packet of a stored request to anyone, in anyone's name, as long as it has a free
-- place.
unfoldable pub forge_packet_of : Roster → ℕ → ℕ → ℕ → ℕ → ℕ → Boxes → Ruling
forge_packet_of r from to sender id slot b =
    let s : Sending = record { id = id; sender = sender; slot = slot } in
    must (member r from && member r to && member r sender) (answered BadServer b)
    (must (faulty r from) (answered WrongSide b)
    (must (ltb slot b.stored) (answered NoSuch b)
    (must (is_some (free_outgoing b.outgoing)) (answered NoRoom b)
    (answered Done (with_outgoing b (packet_added b.outgoing (packet_for to s)))))))

-- Forge send, by a faulty server: an execution of its own with any digest. RECALL for an id that it has, QUOTA after
-- the last.
unfoldable pub forge_send_of : Roster → ℕ → ℕ → List ℕ → Boxes → Ruling
forge_send_of r server id digest b =
    must (member r server) (answered BadServer b)
    (must (faulty r server) (answered WrongSide b)
    (must (not (is_some (execution_of b.executions id))) (answered Recall b)
    (must (ltb b.executions.count executions_most) (answered Quota b)
    (answered Done (made r server id digest b)))))

-- Forge receive, by a faulty server: a call at any execution. UNKNOWN, RECALL for a second call, WRONG_DIGEST; else it
-- is recorded as a correct one is.
unfoldable pub forge_receive_to : Roster → ℕ → List ℕ → ℕ → Boxes → Ruling
forge_receive_to r server digest k b =
    let x = execution_at b.executions k in
    must (not (has x.called server)) (answered Recall b)
    (must (same_digest x.digest digest) (answered WrongDigest b)
    (answered Done (recorded r server k b)))

unfoldable pub forge_receive_found : Roster → ℕ → List ℕ → Boxes → Option ℕ → Ruling
forge_receive_found r server digest b (Some k) = forge_receive_to r server digest k b
forge_receive_found r server digest b None = answered Unknown b

unfoldable pub forge_receive_of : Roster → ℕ → ℕ → ℕ → List ℕ → Boxes → Ruling
forge_receive_of r server sender id digest b =
    must (member r server && member r sender) (answered BadServer b)
    (must (faulty r server) (answered WrongSide b)
    (forge_receive_found r server digest b (execution_of b.executions id)))
