-- Each of the three errors breaks demand 3: the rows by computation, SHA-256 among it, the lemma by what demand 3 would say of them. Assumes
-- nothing.
use Rattle.std.specs.Prelude.{None, Option, Some}
use mathlib.Core.Path.{◌≡◌, refl}
use mathlib.Core.Bool.{Bool, true, ◌&&◌}
use mathlib.Core.List.{List}
use Prim.Native.Nat.{ℕ}
use lib.Count.{ones_in, ones}
use lib.Dec.{ltb}
use lib.ListN.{length}
use borrow.Author.Tests.{ltb-true}
use Rattle.search.specs.Search.{first_from, count}
use Rattle.search.specs.Tests.{must}
use Rattle.fips180.specs.Sha256.{padded, next_word, scheduled, round_of, rounds_of, fed, block_words, compressed, hashed, state_bytes, digest_of}
use Rattle.world.specs.declared.World.{World}
use Rattle.world.specs.declared.roster.Roster.{Roster}
use Rattle.world.specs.Masks.{has, join}
use Rattle.world.specs.Roster.{correct}
use Rattle.world.specs.Requests.{fresh_requests, request_bytes, same_digest, known_digest}
use Rattle.world.specs.Executions.{fresh_executions, ordered}
use Rattle.world.specs.Outgoing.{fresh_outgoing, packet_added_at, packet_added, sent_below}
use Rattle.world.specs.Hold.{fresh_hold, entry_added_at, entry_added}
use Rattle.world.specs.Delivered.{fresh_delivered}
use Rattle.world.specs.Fresh.{fresh_world}
use Rattle.protocol.specs.declared.boxes.Boxes.{Boxes}
use Rattle.protocol.specs.Rules.{made, recorded, request_from, request_of, multicast_done, multicast_of, arrive_of, propose_to, propose_found, propose_of, settle_to, settle_found, settle_of, deliver_found, deliver_of, forge_packet_of, forge_send_of, forge_receive_to, forge_receive_found, forge_receive_of}
use Rattle.protocol.specs.Quiet.{outgoing_quiet, stirs, hold_quiet, server_quiet, quiet}
use Rattle.format.specs.Records.{Asked, Request, Multicast, Arrive, Propose, Settle, Deliver, ForgePacket, ForgeSend, ForgeReceive}
use Rattle.protocol.specs.Steps.{step_of}
use Rattle.search.proofs.Booleans.{and3}
use Rattle.agreement.specs.Agreement.{through, Demand, by_record, delivered_by}
use Rattle.agreement.specs.Sanity.{LeftBehind}
use Rattle.agreement.proofs.Members.{Good}
use Rattle.agreement.proofs.Starting.{start_good}
use Rattle.agreement.proofs.Rows.{Leads, demand}
use Rattle.agreement.proofs.Sanity.{left_behind}
use Rattle.agreement.proofs.Theorem.{by_record_lem}
use Rattle.errors.specs.Errors.{recording_wrong, dropping_unsealed, keeping_origin, propose_found_by, propose_by, step_by, CopyIsTrue, wrong_recorded, unsealed_dropped, origin_kept, incident, unsealed, forwarded, at_end, Breaks, ErrorsBreak, RightStepsDoNot}

found_same : (r : Roster) (server place : ℕ) (b : Boxes) (f : Option ℕ) → propose_found_by propose_to r server place b f ≡ propose_found r server place b f
unfolding propose_found_by propose_found
found_same r server place b (Some k) = refl
found_same r server place b None = refl

propose_same : (r : Roster) (server place : ℕ) (b : Boxes) → propose_by propose_to r server place b ≡ propose_of r server place b
unfolding propose_by propose_of
propose_same r server place b = simp found_same

pub copy_is_true : CopyIsTrue
unfolding step_by step_of
copy_is_true w (Request client serial seals command) = refl
copy_is_true w (Multicast server slot) = refl
copy_is_true w (Arrive origin place) = refl
copy_is_true w (Propose server place) = simp propose_same
copy_is_true w (Settle server place) = refl
copy_is_true w (Deliver server) = refl
copy_is_true w (ForgePacket from to sender id slot) = refl
copy_is_true w (ForgeSend server id digest) = refl
copy_is_true w (ForgeReceive server sender id digest) = refl

-- the lemma on which demand 3 rests (`by-record` of agreement's Theorem, of the right steps)
abbrev pub EachLeads : (World → Asked → World) → Type 0
EachLeads go = (w : World) (a : Asked) → Good w → Leads w (go w a)

-- demand 3 of a row of steps of which the lemma holds
good_start : Good (fresh_world 3 4)
unfolding ones_in ones first_from has
good_start = start_good 3 4 refl

none_numbered : (fresh_world 3 4).numbered ≡ 0
unfolding fresh_world
none_numbered = refl

demanded : (go : World → Asked → World) → EachLeads go → (l : List Asked) → Demand go (fresh_world 3 4) l
demanded go leads l = demand go leads (fresh_world 3 4) good_start none_numbered l

-- what a row comes to, as one test
unfoldable leaves : World → ℕ → Bool
leaves w server = quiet w && correct w.roster server && ltb (length (delivered_by w server)) w.numbered

left : (w : World) (server : ℕ) → leaves w server ≡ true → LeftBehind w
unfolding leaves
left w server e = let a = and3 _ _ _ e in record { still = a.0; server = server; good = a.1; less = ltb-true _ _ a.2 }

breaks : (go : World → Asked → World) (l : List Asked) (server : ℕ) → leaves (at_end go l) server ≡ true → Breaks go l
breaks go l server e =
    let b = left (at_end go l) server e in
    let no : Demand go (fresh_world 3 4) l → ⊥ = λ d. left_behind (at_end go l) b d.agreed in
    record { left = b; demand_false = no }

-- so the lemma on which demand 3 rests, that each step leads from a good world to a good world, is false of such steps
pub lemma_false : (go : World → Asked → World) (l : List Asked) → Breaks go l → EachLeads go → ⊥
lemma_false go l b leads = b.demand_false (demanded go leads l)

pub right_steps_do_not : RightStepsDoNot
right_steps_do_not l b = left_behind (at_end by_record l) b (demanded by_record by_record_lem l).agreed

pub errors_break : ErrorsBreak
unfolding ones_in ones first_from count must padded next_word scheduled round_of rounds_of fed block_words compressed hashed state_bytes digest_of has join fresh_requests request_bytes same_digest known_digest fresh_executions ordered fresh_outgoing packet_added_at packet_added sent_below fresh_hold entry_added_at entry_added fresh_delivered fresh_world made recorded request_from request_of multicast_done multicast_of arrive_of propose_to propose_found propose_of settle_to settle_found settle_of deliver_found deliver_of forge_packet_of forge_send_of forge_receive_to forge_receive_found forge_receive_of step_of outgoing_quiet stirs hold_quiet server_quiet quiet through recording_wrong dropping_unsealed keeping_origin propose_found_by propose_by step_by leaves
errors_break = (
  breaks wrong_recorded incident 1 refl,
  (breaks unsealed_dropped unsealed 1 refl, breaks origin_kept forwarded 1 refl),
)
