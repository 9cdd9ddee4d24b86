-- Start gives sound worlds and steps keep them so; so runs and rows of steps end in one. Assumes nothing.
use Rattle.std.specs.Prelude.{Ok, Err}
use mathlib.Core.Path.{◌≡◌, refl, sym}
use mathlib.Core.Bool.{true}
use mathlib.Core.List.{List, [], ◌∷◌}
use Prim.Native.Nat.{ℕ, ◌<◌}
use native.Mathlib.Omega.{arith}
use lib.Dec.{leb}
use borrow.Author.Tests.{ltb-true}
use Rattle.world.specs.declared.World.{World}
use Rattle.world.specs.Sizes.{servers}
use Rattle.world.specs.Roster.{member, good_roster}
use Rattle.world.specs.Fresh.{fresh_world}
use Rattle.world.specs.Outgoing.{packet_at}
use Rattle.world.specs.Hold.{entry_at}
use Rattle.world.specs.Boxes.{seat, outgoing_of, hold_of}
use Rattle.protocol.specs.Sound.{sound}
use Rattle.world.proofs.Seats.{seat_own, seated, few_servers}
use Rattle.protocol.specs.declared.boxes.Boxes.{Boxes}
use Rattle.format.specs.declared.reading.Read.{Read}
use Rattle.format.specs.declared.reading.Read.TheVariants as read
use Rattle.format.specs.Fields.{byte_at}
use Rattle.format.specs.Records.{Asked, Request, Multicast, Arrive, Propose, Settle, Deliver, ForgePacket, ForgeSend, ForgeReceive, read_at, asked}
use Rattle.format.specs.Judging.{Verdict, judged}
use Rattle.protocol.specs.declared.ending.Outcome.{Outcome}
use Rattle.protocol.specs.Steps.{touch, boxes_of, put_back, step_of, world_after}
use Rattle.protocol.specs.Runs.{start_of, public_step_by, public_step, start_world, with_room, ran_by, ran_of}
use Rattle.format.proofs.Judged.{never, accepted_means}
use Rattle.kept.specs.Kept.{StartSound, StartShaped, StepSound, StepShaped, RunSound, RanSound, public_steps, RowSound}
use Rattle.search.proofs.Booleans.{musts}
use Rattle.kept.proofs.Facts.{FactsOf, world_out, world_in, world_shaped}
use Rattle.kept.proofs.Start.{start_facts}
use Rattle.kept.proofs.Putting.{Fits, boxes_fit, put_facts}
use Rattle.kept.proofs.Requesting.{request_facts}
use Rattle.kept.proofs.Delivering.{deliver_keeps}
use Rattle.kept.proofs.Arriving.{arrive_keeps}
use Rattle.kept.proofs.Forging.{forge_packet_keeps}
use Rattle.kept.proofs.Calling.{forge_send_keeps, forge_receive_keeps}
use Rattle.kept.proofs.Proposing.{propose_keeps, settle_keeps}
use Rattle.kept.proofs.Multicasting.{multicast_keeps}

module _ (w : World) (f : FactsOf w) where
  -- a server's name is its seat
  at : (x : ℕ) → member w.roster x ≡ true → seat x ≡ x
  at x e = let n = few_servers w.roster f.roster in seat_own x (omega (arith, ltb-true x w.roster.n e))

  here : (x : ℕ) → seat x < servers
  here x = seated x (seat x) refl

  module _ (server holder sender slot : ℕ) where
    fits : Fits w.roster w.requests.count w.numbered w.executions (seat server) (seat holder) (seat sender) (boxes_of w (touch server holder sender slot))
    fits = boxes_fit w f (touch server holder sender slot) (here server) (here holder) (here sender)

    kept_by : (b : Boxes) → Fits w.roster w.requests.count w.numbered w.executions (seat server) (seat holder) (seat sender) b
        → FactsOf (put_back w (touch server holder sender slot) b)
    kept_by b g = put_facts w f (touch server holder sender slot) (here server) (here holder) (here sender) b g

pub step_facts : (w : World) (a : Asked) → FactsOf w → FactsOf (step_of w a).world
unfolding step_of
step_facts w (Request client serial seals command) f = request_facts w f client serial seals command
step_facts w (Multicast server slot) f =
    kept_by w f server server server slot _
    (multicast_keeps f.all_tables (here w f server) (fits w f server server server slot) server slot (at w f server))
step_facts w (Arrive origin place) f =
    let to = (packet_at (outgoing_of w origin) place).to in
    kept_by w f origin to origin 0 _
    (arrive_keeps (fits w f origin to origin 0) origin place (at w f to))
step_facts w (Propose server place) f =
    let s = (entry_at (hold_of w server) place).sending in
    kept_by w f server server s.sender s.slot _
    (propose_keeps (few_servers w.roster f.roster) f.all_tables (fits w f server server s.sender s.slot) place refl server (here w f server) (at w f server))
step_facts w (Settle server place) f =
    let s = (entry_at (hold_of w server) place).sending in
    kept_by w f server server s.sender s.slot _
    (settle_keeps (few_servers w.roster f.roster) f.all_tables (fits w f server server s.sender s.slot) place refl server)
step_facts w (Deliver server) f =
    kept_by w f server server server 0 _
    (deliver_keeps (fits w f server server server 0) server (at w f server))
step_facts w (ForgePacket from to sender id slot) f =
    kept_by w f from from from 0 _
    (forge_packet_keeps (fits w f from from from 0) from to sender id slot (at w f from))
step_facts w (ForgeSend server id digest) f =
    kept_by w f server server server 0 _
    (forge_send_keeps f.all_tables (here w f server) (fits w f server server server 0) server id digest (at w f server))
step_facts w (ForgeReceive server sender id digest) f =
    kept_by w f server server sender 0 _
    (forge_receive_keeps f.all_tables (here w f server) (here w f sender)
    (fits w f server server sender 0) server (at w f server) sender id digest (at w f sender))

pub start_sound : StartSound
start_sound n faulty e = world_in (fresh_world n faulty) (start_facts n faulty e)

pub start_shaped : StartShaped
start_shaped n faulty e = world_shaped (fresh_world n faulty) (start_facts n faulty e)

pub step_sound : StepSound
step_sound w a g e = world_in (step_of w a).world (step_facts w a (world_out w g e))

pub step_shaped : StepShaped
step_shaped w a g e = world_shaped (step_of w a).world (step_facts w a (world_out w g e))

-- a run
run_facts : (w : World) (l : List Asked) → FactsOf w → FactsOf (world_after w l)
unfolding world_after
run_facts w [] f = f
run_facts w (a ∷ l) f = run_facts (step_of w a).world l (step_facts w a f)

pub run_sound : RunSound
run_sound s k e =
    world_in (world_after (start_world s) (asked s)) (run_facts (start_world s) (asked s) (start_facts (byte_at s 1) (byte_at s 2) (accepted_means s k e).good))

-- what holds of the world after every schedule that is not refused holds of what `run` hands back
module _ (P : World → Type 0) (s : List ℕ) (room k : ℕ) (h : (j : ℕ) → judged s ≡ Ok j → P (world_after (start_world s) (asked s))) where
  ran_by_lem : (v : Verdict) → v ≡ judged s → (ran_by s (with_room room v)).verdict ≡ Ok k → P (ran_by s (with_room room v)).world
  ran_by_lem (Ok j) e =
      musts (λ (u : Verdict). (ran_by s u).verdict ≡ Ok k → P (ran_by s u).world) (leb j room) _ _ (λ z. never z) (λ _ _. h j (sym e))
  ran_by_lem (Err x) e = λ z. never z

  pub ran_keeps : (ran_of s room).verdict ≡ Ok k → P (ran_of s room).world
  unfolding ran_of
  ran_keeps e = ran_by_lem (judged s) refl e

pub ran_sound : RanSound
ran_sound s room k e = ran_keeps (λ (w : World). sound w ≡ true) s room k (run_sound s) e

-- what holds of a world and of the world after every step holds of the world after a public step
module _ (P : World → Type 0) (w : World) (s : List ℕ) (same : P w) (next : (a : Asked) → P (step_of w a).world) where
  public_by : (v : Read) → P (public_step_by w s v).world
  unfolding public_step_by
  public_by (read.Record kind b at) = next _
  public_by (read.Refused why) = same
  public_by read.End = same

  pub public_keeps : P (public_step w s).world
  unfolding public_step
  public_keeps = musts (λ (v : Outcome). P v.world) (sound w) _ _ same (λ _. public_by (read_at s 0))

-- and what holds of a fresh world, of a public start that answers 0
pub started_keeps : (P : World → Type 0) (n faulty : ℕ) → (good_roster (record { n = n; faulty = faulty }) ≡ true → P (fresh_world n faulty))
    → (start_of n faulty).code ≡ 0 → P (start_of n faulty).world
unfolding start_of
started_keeps P n faulty h =
    musts (λ (v : Outcome). v.code ≡ 0 → P v.world) (good_roster (record { n = n; faulty = faulty })) _ _ (λ e. absurd (omega arith)) (λ g _. h g)

-- a row of public steps
row_facts : (w : World) (l : List (List ℕ)) → FactsOf w → FactsOf (public_steps w l)
unfolding public_steps
row_facts w [] f = f
row_facts w (s ∷ l) f = row_facts (public_step w s).world l (public_keeps FactsOf w s f (λ a. step_facts w a f))

pub row_sound : RowSound
row_sound n faulty l e =
    world_in (public_steps (start_of n faulty).world l) (row_facts (start_of n faulty).world l (started_keeps FactsOf n faulty (start_facts n faulty) e))
