-- Document 01, "Errors that look right". Three of the four break demand 3. Each is made here in a copy of the one rule
-- that it changes, in one place; all other rules are those of protocol/specs/Rules.antt. (The fourth, a mask that
-- grows after its execution was numbered, is an edit of `world`.)
use Rattle.std.specs.Prelude.{ℕ, ◌≡◌, not, ◌||◌, List, [], ◌∷◌, eqb, replicate, None, Option, Some, is_some}
use Rattle.search.specs.Tests.{must}
use Rattle.world.specs.declared.World.{World}
use Rattle.world.specs.declared.roster.Roster.{Roster}
use Rattle.world.specs.declared.sending.Sending.{Sending}
use Rattle.world.specs.Masks.{has}
use Rattle.world.specs.Roster.{member, faulty}
use Rattle.world.specs.Requests.{same_digest}
use Rattle.world.specs.Executions.{execution_at, execution_of}
use Rattle.world.specs.Outgoing.{packet_at, packet_freed}
use Rattle.world.specs.Hold.{entry_of, entry_at, holding, free_hold, entry_added}
use Rattle.world.specs.Boxes.{outgoing_of, hold_of}
use Rattle.world.specs.Fresh.{fresh_world}
use Rattle.protocol.specs.declared.answer.Answer.TheVariants.{Done, Dropped, Wait, BadServer, WrongSide, NoSuch}
use Rattle.protocol.specs.declared.answer.Answer.TheVariants.{NoRoom}
use Rattle.protocol.specs.declared.boxes.Boxes.{Boxes}
use Rattle.protocol.specs.declared.boxes.Ruling.{Ruling}
use Rattle.protocol.specs.Rules.{answered, with_hold, with_outgoing, recorded, raised, dropped_at, request_from, arrive_of}
use Rattle.protocol.specs.Rules.{propose_to, propose_of}
use Rattle.format.specs.Records.{Asked, Request, Multicast, Arrive, Propose, Settle, Deliver, ForgePacket, ForgeSend}
use Rattle.format.specs.Records.{ForgeReceive}
use Rattle.protocol.specs.Steps.{touch, touch_for, on}
use Rattle.agreement.specs.Agreement.{through, Demand, by_record}
use Rattle.agreement.specs.Sanity.{LeftBehind}

-- The first error: a call with a wrong digest counts as a call. The entry is freed, as it should be, but the call is
-- recorded as in the last line, in the mask too, so that the true copy looks like a second call.
unfoldable pub recording_wrong : Roster → ℕ → ℕ → ℕ → Boxes → Ruling
recording_wrong r server place k b =
    let x = execution_at b.executions k in
    must (not (has x.called server)) (dropped_at place b)
    (must (has b.request.seals server) (answered Done (raised place 2 0 b))
    (must (same_digest b.request.digest x.digest) (dropped_at place (recorded r server k b))
    (answered Done (recorded r server k (raised place 2 0 b)))))

-- The third error: a server without a good seal drops the entry at propose, in place of going on silently.
unfoldable pub dropping_unsealed : Roster → ℕ → ℕ → ℕ → Boxes → Ruling
dropping_unsealed r server place k b =
    let x = execution_at b.executions k in
    must (not (has x.called server)) (dropped_at place b)
    (must (has b.request.seals server) (dropped_at place b)
    (must (same_digest b.request.digest x.digest) (dropped_at place b)
    (answered Done (recorded r server k (raised place 2 0 b)))))

-- The fourth error: whoever forwarded a packet is taken for its sender: the entry goes under the origin's name.
unfoldable pub keeping_origin : Roster → ℕ → ℕ → Boxes → Ruling
keeping_origin r origin place b =
    let p = packet_at b.outgoing place in
    let s : Sending = record { id = p.sending.id; sender = origin; slot = p.sending.slot } in
    let rest = with_outgoing b (packet_freed b.outgoing place) in
    must (member r origin) (answered BadServer b)
    (must p.there (answered NoSuch b)
    (must (not (faulty r p.to || holding b.hold p.sending)) (answered Dropped rest)
    (must (is_some (free_hold b.hold)) (answered NoRoom b)
    (answered Done (with_hold rest (entry_added b.hold (entry_of 1 s 0)))))))

-- propose with its last tests left open: 4, 5, 6 and 2 as they are
module _ (last : Roster → ℕ → ℕ → ℕ → Boxes → Ruling) where
  unfoldable pub propose_found_by : Roster → ℕ → ℕ → Boxes → Option ℕ → Ruling
  propose_found_by r server place b (Some k) = last r server place k b
  propose_found_by r server place b None = answered Wait b

  unfoldable pub propose_by : Roster → ℕ → ℕ → Boxes → Ruling
  propose_by r server place b =
      let e = entry_at b.hold place in
      must (member r server) (answered BadServer b)
      (must (not (faulty r server)) (answered WrongSide b)
      (must (eqb e.stage 1) (answered NoSuch b)
      (propose_found_by r server place b (execution_of b.executions e.sending.id))))

-- all steps, with the rules for arrive and propose left open
module _ (arrive propose : Roster → ℕ → ℕ → Boxes → Ruling) where
  unfoldable pub step_by : World → Asked → World
  step_by w (Arrive origin place) =
      (on w (touch origin (packet_at (outgoing_of w origin) place).to origin 0) (arrive w.roster origin place)).world
  step_by w (Propose server place) =
      (on w (touch_for server (entry_at (hold_of w server) place).sending) (propose w.roster server place)).world
  step_by w (Request client serial seals command) = by_record w (Request client serial seals command)
  step_by w (Multicast server slot) = by_record w (Multicast server slot)
  step_by w (Settle server place) = by_record w (Settle server place)
  step_by w (Deliver server) = by_record w (Deliver server)
  step_by w (ForgePacket from to sender id slot) = by_record w (ForgePacket from to sender id slot)
  step_by w (ForgeSend server id digest) = by_record w (ForgeSend server id digest)
  step_by w (ForgeReceive server sender id digest) = by_record w (ForgeReceive server sender id digest)

-- with the right rules these are the right steps
abbrev pub CopyIsTrue : Type 0
CopyIsTrue = (w : World) (a : Asked) → step_by arrive_of (propose_by propose_to) w a ≡ by_record w a

-- the steps of the three copies
abbrev pub wrong_recorded : World → Asked → World
wrong_recorded = step_by arrive_of (propose_by recording_wrong)

abbrev pub unsealed_dropped : World → Asked → World
unsealed_dropped = step_by arrive_of (propose_by dropping_unsealed)

abbrev pub origin_kept : World → Asked → World
origin_kept = step_by keeping_origin propose_of

-- Three rows of steps, each that of a schedule of examples/ with n 3 and faulty 4: server 2 lies. The commands of
-- their requests:
abbrev pub command : ℕ → List ℕ
command filter = 2 ∷ 0 ∷ 7 ∷ 0 ∷ 0 ∷ 0 ∷ filter ∷ replicate 17 0

-- incident3: a forged copy reaches server 1 ahead of the true one
abbrev pub incident : List Asked
incident =
    Request 5 1 7 (command 99) ∷ Request 5 2 7 (command 11) ∷ Multicast 0 0
    ∷ ForgePacket 2 1 0 1 1 ∷ Arrive 2 0 ∷ Propose 1 0
    ∷ Arrive 0 0 ∷ Propose 1 0 ∷ Settle 1 0 ∷ Deliver 1
    ∷ Settle 0 0 ∷ Deliver 0 ∷ []

-- mixed_seals_helped: server 1 has no good seal on the request
abbrev pub unsealed : List Asked
unsealed =
    Request 5 1 1 (command 99) ∷ Multicast 0 0
    ∷ Arrive 0 0 ∷ Propose 1 0 ∷ Settle 1 0
    ∷ ForgeReceive 2 0 1 (request_from 5 1 1 (command 99)).digest
    ∷ Settle 1 0 ∷ Deliver 1
    ∷ Settle 0 0 ∷ Deliver 0 ∷ []

-- partial_send: the sender lies and hands its packet to server 0 alone, which forwards it to server 1
abbrev pub forwarded : List Asked
forwarded =
    Request 5 1 7 (command 99) ∷ ForgeSend 2 1 (request_from 5 1 7 (command 99)).digest ∷ ForgePacket 2 0 2 1 0
    ∷ Arrive 2 0 ∷ Propose 0 0 ∷ Settle 0 0 ∷ Deliver 0
    ∷ Arrive 0 0 ∷ Propose 1 0 ∷ Settle 1 0 ∷ Deliver 1 ∷ []

-- the world after such a row
abbrev pub at_end : (World → Asked → World) → List Asked → World
at_end go l = through go (fresh_world 3 4) l

-- after the row a correct server is left behind in a quiet world; so demand 3 of the row is false
pub record Breaks (go : World → Asked → World) (l : List Asked) : Type 0 where
  pub left : LeftBehind (at_end go l)
  pub demand_false : Demand go (fresh_world 3 4) l → ⊥

-- each copy does that
abbrev pub ErrorsBreak : Type 0
ErrorsBreak = Breaks wrong_recorded incident × (Breaks unsealed_dropped unsealed × Breaks origin_kept forwarded)

-- no row of the right steps does
abbrev pub RightStepsDoNot : Type 0
RightStepsDoNot = (l : List Asked) → LeftBehind (at_end by_record l) → ⊥
