-- Document 01, "Refusing a whole schedule": what a sound world is, box by box, in the document's order within each box.
use Rattle.std.specs.Prelude.{ℕ, ◌+◌, ◌*◌, ◌/◌, ◌%◌, Bool, cond, not, ◌&&◌, ◌||◌, List, eqb, ltb, leb, is_some}
use Rattle.std.specs.Int.Count.{ones}
use Rattle.search.specs.Search.{every, count}
use Rattle.search.specs.Tests.{implies}
use Rattle.fips180.specs.Sha256.{digest_of}
use Rattle.world.specs.declared.World.{World}
use Rattle.world.specs.declared.roster.Roster.{Roster}
use Rattle.world.specs.declared.request.Request.{Request}
use Rattle.world.specs.declared.request.Requests.{Requests}
use Rattle.world.specs.declared.execution.Execution.{Execution}
use Rattle.world.specs.declared.execution.Executions.{Executions}
use Rattle.world.specs.declared.sending.Sending.{Sending}
use Rattle.world.specs.declared.outgoing.Outgoing.{Outgoing}
use Rattle.world.specs.declared.outgoing.Packet.{Packet}
use Rattle.world.specs.declared.hold.Entry.{Entry}
use Rattle.world.specs.declared.hold.Hold.{Hold}
use Rattle.world.specs.declared.delivered.Delivered.{Delivered}
use Rattle.world.specs.Sizes.{servers, requests_most, executions_most, outgoing_places, hold_places, delivered_most}
use Rattle.world.specs.Masks.{has}
use Rattle.world.specs.Roster.{member, correct, threshold, strays, good_roster}
use Rattle.world.specs.Requests.{request_at, request_bytes, same_digest}
use Rattle.world.specs.Executions.{execution_at}
use Rattle.world.specs.Outgoing.{packet_at}
use Rattle.world.specs.Hold.{entry_at}
use Rattle.world.specs.Boxes.{executions_of, outgoing_of, hold_of, delivered_of, item_at}
use Rattle.protocol.specs.Zeros.{zero_request, zero_execution, zero_sending, zero_packet, zero_entry}
use Rattle.protocol.specs.Names.{names, table_of, own_execution}

-- a stored request: it has no seal of a server that is not there, and its digest is that of its bytes
unfoldable pub stored_sound : Roster → Request → Bool
stored_sound r q = not (strays r q.seals) && same_digest q.digest (digest_of (request_bytes q))

-- slot k, stored or not; where it is not given, zeros
unfoldable pub slot_sound : Roster → ℕ → ℕ → Request → Bool
slot_sound r stored k q = cond (ltb k stored) (stored_sound r q) (zero_request q)

-- the stored digests differ: no slot before slot k has its digest
unfoldable pub new_digest : Requests → ℕ → Bool
new_digest q k = every (λ (j : ℕ). not (same_digest (request_at q j).digest (request_at q k).digest)) k

-- the requests, no more than there are slots
unfoldable pub requests_sound : Roster → Requests → Bool
requests_sound r q =
    leb q.count requests_most && every (λ (k : ℕ). slot_sound r q.count k (request_at q k)) requests_most
    && every (λ (k : ℕ). new_digest q k) q.count

-- an execution's masks: servers that are there; who proposed has called; its sender did both
unfoldable pub lies_within : ℕ → ℕ → Bool
lies_within mask called = every (λ (i : ℕ). implies (has mask i) (has called i)) servers

unfoldable pub masks_sound : Roster → ℕ → Execution → Bool
masks_sound r sender x =
    not (strays r x.called) && not (strays r x.mask) && lies_within x.mask x.called && has x.called sender
    && has x.mask sender

-- it has a number, one of 1 to M, where its mask has exactly T members, and none otherwise
unfoldable pub order_sound : Roster → ℕ → Execution → Bool
order_sound r m x =
    cond (eqb x.number 0) (not (eqb (ones x.mask) (threshold r)))
    (eqb (ones x.mask) (threshold r) && leb x.number m)

-- an execution in use; of a correct sender, the one at place k has id k + 1
unfoldable pub execution_sound : Roster → ℕ → ℕ → ℕ → Execution → Bool
execution_sound r m sender k x =
    masks_sound r sender x && order_sound r m x && implies (correct r sender) (eqb x.id (k + 1))

-- place k of the table, used or not
unfoldable pub place_sound : Roster → ℕ → ℕ → ℕ → ℕ → Execution → Bool
place_sound r m sender made k x = cond (ltb k made) (execution_sound r m sender k x) (zero_execution x)

-- keys differ: no execution of the sender before place k has its id
unfoldable pub new_id : Executions → ℕ → Bool
new_id t k = every (λ (j : ℕ). not (eqb (execution_at t j).id (execution_at t k).id)) k

-- the executions of one sender; a name at n or above has none
unfoldable pub executions_sound : Roster → ℕ → ℕ → Executions → Bool
executions_sound r m sender t =
    leb t.count executions_most && (member r sender || eqb t.count 0)
    && every (λ (k : ℕ). place_sound r m sender t.count k (execution_at t k)) executions_most
    && every (λ (k : ℕ). new_id t k) t.count

-- each of the numbers 1 to M was given once; the executions are counted one sender after the other
abbrev pub number_at : List Executions → ℕ → ℕ
number_at ts i = (execution_at (table_of ts (i / executions_most)) (i % executions_most)).number

unfoldable pub numbers_sound : List Executions → ℕ → Bool
numbers_sound ts m =
    leb m delivered_most
    && every (λ (k : ℕ). eqb (count (λ (i : ℕ). eqb (number_at ts i) (k + 1)) (servers * executions_most)) 1) m

-- an outgoing place: a packet between servers that are there, of a stored request; or zeros
unfoldable pub packet_sound : Roster → ℕ → ℕ → Packet → Bool
packet_sound r stored origin p =
    cond p.there (member r origin && member r p.to && names r stored p.sending) (zero_packet p)

-- the packets of one origin
unfoldable pub outgoing_sound : Roster → ℕ → ℕ → Outgoing → Bool
outgoing_sound r stored origin o = every (λ (k : ℕ). packet_sound r stored origin (packet_at o k)) outgoing_places

-- an entry's number: one of 1 to M at stage three, none before it
unfoldable pub stage_sound : ℕ → Entry → Bool
stage_sound m e = cond (eqb e.stage 3) (leb 1 e.number && leb e.number m) (eqb e.number 0)

-- a place of a hold: zeros, or an entry of a server that is there; after stage one its execution is in the table
unfoldable pub entry_sound : Roster → ℕ → ℕ → ℕ → Executions → Entry → Bool
entry_sound r stored m server t e =
    cond (eqb e.stage 0) (zero_entry e)
    (leb e.stage 3 && member r server && names r stored e.sending
    && implies (ltb 1 e.stage) (is_some (own_execution t e.sending)) && stage_sound m e)

-- the entries of one server
unfoldable pub hold_sound : Roster → ℕ → ℕ → List Executions → ℕ → Hold → Bool
hold_sound r stored m ts server h =
    every (λ (k : ℕ). entry_sound r stored m server (table_of ts (entry_at h k).sending.sender) (entry_at h k)) hold_places

-- place k of what a server has delivered, used or not
unfoldable pub item_sound : Roster → ℕ → ℕ → ℕ → Sending → Bool
item_sound r stored done k s = cond (ltb k done) (names r stored s) (zero_sending s)

-- what a server has delivered: no more items than numbers were given. (Its next number is derived from their count.)
unfoldable pub delivered_sound : Roster → ℕ → ℕ → ℕ → Delivered → Bool
delivered_sound r stored m server d =
    leb d.count m && (member r server || eqb d.count 0)
    && every (λ (k : ℕ). item_sound r stored d.count k (item_at d k)) delivered_most

-- the boxes of one server
unfoldable pub server_sound : World → ℕ → Bool
server_sound w s =
    executions_sound w.roster w.numbered s (executions_of w s)
    && outgoing_sound w.roster w.requests.count s (outgoing_of w s)
    && hold_sound w.roster w.requests.count w.numbered w.executions s (hold_of w s)
    && delivered_sound w.roster w.requests.count w.numbered s (delivered_of w s)

-- and of all
unfoldable pub servers_sound : World → Bool
servers_sound w = every (λ (s : ℕ). server_sound w s) servers

-- a roster that 25 would let start, and every box
unfoldable pub sound : World → Bool
sound w =
    good_roster w.roster && requests_sound w.roster w.requests && numbers_sound w.executions w.numbered
    && servers_sound w
