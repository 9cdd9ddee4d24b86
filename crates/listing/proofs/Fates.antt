-- What a run's fate tells of the listing. Assumes nothing.
use Rattle.std.specs.Prelude.{Ok, Err}
use mathlib.Core.Path.{◌≡◌, refl, sym, ap, ◌∙◌}
use mathlib.Core.List.{List, [], ◌∷◌, ◌++◌}
use Prim.Native.Nat.{ℕ, suc, ◌*◌, ◌≤◌}
use native.Mathlib.Omega.{arith}
use lib.Dec.{leb}
use lib.ListN.{length, take, drop, length-append}
use lib.Seq.{take_at}
use Rattle.world.specs.declared.World.{World}
use Rattle.world.specs.Sizes.{servers}
use Rattle.world.specs.Fresh.{fresh_world}
use Rattle.format.specs.declared.refusal.Refusal.TheVariants.{OutSmall}
use Rattle.format.specs.declared.refusal.Refused.{Refused}
use Rattle.format.specs.Fields.{byte_at}
use Rattle.format.specs.Records.{Asked, Request, Multicast, Arrive, Propose, Settle, Deliver, ForgePacket, ForgeSend, ForgeReceive, asked}
use Rattle.format.specs.Judging.{refusal_code, Verdict, schedule_most, start_roster, judged}
use Rattle.protocol.specs.declared.ending.Ran.{Ran}
use Rattle.protocol.specs.Steps.{step_of, world_after, answers_of}
use Rattle.protocol.specs.Runs.{Fate, with_room, start_world, ran_by, run_told, ran_of, written_of}
use Rattle.format.proofs.Judged.{must_accepts, accepted_means, few_records}
use Rattle.world.proofs.Seats.{few_servers}
use Rattle.protocol.specs.Longest.{record_bytes_least}
use Rattle.protocol.specs.Listing.{refused_line, run_lines, listing_by, listing_of}

-- an answer for each
answers_length : (w : World) (l : List Asked) → length (answers_of w l) ≡ length l
unfolding answers_of
answers_length w [] = refl
answers_length w (a ∷ l) = ap suc (answers_length (step_of w a).world l)

-- the roster stays
step_roster : (w : World) (a : Asked) → (step_of w a).world.roster ≡ w.roster
unfolding step_of
step_roster w (Request client serial seals command) = refl
step_roster w (Multicast server slot) = refl
step_roster w (Arrive origin place) = refl
step_roster w (Propose server place) = refl
step_roster w (Settle server place) = refl
step_roster w (Deliver server) = refl
step_roster w (ForgePacket from to sender id slot) = refl
step_roster w (ForgeSend server id digest) = refl
step_roster w (ForgeReceive server sender id digest) = refl

roster_kept : (w : World) (l : List Asked) → (world_after w l).roster ≡ w.roster
unfolding world_after
roster_kept w [] = refl
roster_kept w (a ∷ l) = roster_kept (step_of w a).world l ∙ step_roster w a

start_n : (s : List ℕ) → (start_world s).roster.n ≡ byte_at s 1
unfolding fresh_world
start_n s = refl

-- there is room
room_for : (room k : ℕ) (v : Verdict) → with_room room v ≡ Ok k → v ≡ Ok k
room_for room k (Ok j) e = (must_accepts (leb j room) OutSmall 0 k (Ok j) e).1
room_for room k (Err x) e = e

ran_verdict : (s : List ℕ) (v : Verdict) → (ran_by s v).verdict ≡ v
ran_verdict s (Ok k) = refl
ran_verdict s (Err x) = refl

fate : (s : List ℕ) (room : ℕ) (f : Fate) → f ≡ ran_of s room → with_room room (judged s) ≡ f.verdict
unfolding ran_of
fate s room f e = sym (ran_verdict s (with_room room (judged s))) ∙ ap (λ (x : Fate). x.verdict) (sym e)

-- an accepted run, with the answers as they are written
pub record Lists (s out now : List ℕ) (r : Ran) : Type 0 where
  pub few : r.records * record_bytes_least ≤ schedule_most
  pub room : r.records ≤ length now
  pub seats : r.world.roster.n ≤ servers
  pub same : run_lines r.records (take r.records now) r.world ≡ listing_of s (length out)

accepts_by : (s out now : List ℕ) (r : Ran) (w : World) (given : List ℕ) → r.records * record_bytes_least ≤ schedule_most → w.roster.n ≤ servers → length given ≡ r.records → r.world ≡ w
    → now ≡ given ++ drop r.records out → run_lines r.records given w ≡ listing_of s (length out) → Lists s out now r
accepts_by s out now r w given f n l ew ea q =
    let t : take r.records now ≡ given = rw ea (take_at given (drop r.records out) r.records l) in
    record {
      few = f;
      room = rw (ea, length-append) (omega arith);
      seats = rw ew n;
      same = rw (t, ew) q;
    }

listing_is : (s : List ℕ) (room : ℕ) (v : Verdict) → with_room room (judged s) ≡ v → listing_by s v ≡ listing_of s room
unfolding listing_of
listing_is s room v e = rw e

pub accepted : (s out now : List ℕ) (r : Ran) → run_told (Ok r) ≡ ran_of s (length out) → now ≡ written_of s out → Lists s out now r
unfolding ran_of written_of
accepted s out now r e ea =
    let v : with_room (length out) (judged s) ≡ Ok r.records = fate s (length out) (run_told (Ok r)) e in
    let j = room_for (length out) r.records (judged s) v in
    let g = accepted_means s r.records j in
    let c : r.records ≡ length (asked s) = g.count in
    let n : byte_at s 1 ≤ servers = few_servers (start_roster s) g.good in
    let ro : (world_after (start_world s) (asked s)).roster ≡ (start_world s).roster = roster_kept (start_world s) (asked s) in
    let f : length (asked s) * record_bytes_least ≤ length s = few_records s in
    let d : length s ≤ schedule_most = g.short in
    let w : r.world ≡ world_after (start_world s) (asked s) = rw v at (ap (λ (x : Fate). x.world) e) in
    accepts_by s out now r (world_after (start_world s) (asked s)) (answers_of (start_world s) (asked s)) (omega arith) (rw (ro, start_n s) n) (answers_length (start_world s) (asked s) ∙ sym c) w (rw (ea, v)) (listing_is s (length out) (Ok r.records) v)

-- a refused one
pub refused : (s : List ℕ) (room : ℕ) (e : Refused) → run_told (Err e) ≡ ran_of s room → refused_line (refusal_code e.why) e.offset ≡ listing_of s room
refused s room e q = listing_is s room (Err e) (fate s room (run_told (Err e)) q)
