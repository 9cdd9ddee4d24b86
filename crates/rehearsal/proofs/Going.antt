-- What a run that has ends k records knows. Assumes nothing.
use mathlib.Core.Path.{◌≡◌, refl, sym, ◌∙◌}
use mathlib.Core.List.{List, [], ◌∷◌, ◌++◌, append_assoc, append-nil}
use Prim.Native.Nat.{ℕ, zero, suc, ◌+◌, ◌-◌, ◌<◌, ◌≤◌}
use native.Mathlib.Omega.{arith}
use native.Mathlib.Numerals.{add-one}
use lib.ListN.{take-append-drop, get_or, length, take, drop, set, length-set}
use lib.Seq.{take-suc-set, drop-set-lt, drop-drop}
use mathlib.Core.Bool.{true}
use borrow.Author.Tests.{le-leb}
use lib.Dec.{leb}
use Rattle.std.specs.Prelude.{Ok}
use Rattle.search.specs.Tests.{must}
use Rattle.world.specs.Fresh.{fresh_world}
use Rattle.format.specs.Judging.{judged}
use Rattle.format.proofs.Judged.{accepted_means}
use Rattle.protocol.specs.Runs.{start_world, ran_of, run_told, written_of}
use Rattle.rehearsal.proofs.Public.{sliced}
use Rattle.world.specs.declared.World.{World}
use Rattle.world.specs.declared.outgoing.Packet.{Packet}
use Rattle.world.specs.declared.hold.Entry.{Entry}
use Rattle.world.specs.Outgoing.{packet_at}
use Rattle.world.specs.Hold.{entry_at}
use Rattle.world.specs.Boxes.{seat, no_packets, no_entries}
use Rattle.protocol.specs.declared.boxes.Ruling.{Ruling}
use Rattle.format.specs.declared.kinds.Act.{Act}
use Rattle.format.specs.declared.kinds.Kind.{Kind}
use Rattle.format.specs.declared.kinds.Kind.TheVariants as kind
use Rattle.format.specs.declared.reading.Read.{Read}
use Rattle.format.specs.declared.reading.Read.TheVariants.{Record, End}
use Rattle.format.specs.declared.reading.Read.TheVariants as read
use Rattle.format.specs.Fields.{byte_at}
use Rattle.format.specs.Records.{read_at, Asked, asked_from, asked_by, asked_after, asked}
use Rattle.format.proofs.Reader.{Known, known, is_record}
use Rattle.protocol.specs.declared.boxes.Touch.{Touch}
use Rattle.protocol.specs.Steps.{ends, put_back_step, boxes_of, step_of, world_after, answers_of}
use Rattle.rehearsal.specs.Acts.{touch_by, touch_of, act_of}
use Rattle.rehearsal.proofs.Lenses.{lens}

-- what is left to do after k records
abbrev pub rest_of : List ℕ → ℕ → ℕ → List Asked
rest_of s at k = asked_after s (length s - k) at

pub record Going (s out₀ : List ℕ) (w₀ : World) (out : List ℕ) (v : World) (at k : ℕ) : Type 0 where
  pub near : k ≤ at
  pub room : length (asked s) ≤ length out₀
  pub size : length out ≡ length out₀
  pub count : k + length (rest_of s at k) ≡ length (asked s)
  pub answers : take k out ++ answers_of v (rest_of s at k) ≡ answers_of w₀ (asked s)
  pub beyond : drop k out ≡ drop k out₀
  pub world : world_after v (rest_of s at k) ≡ world_after w₀ (asked s)

pub going_start : (s out : List ℕ) (v : World) (x y k : ℕ) → judged s ≡ Ok k → k ≤ length out → x ≡ byte_at s 1 → y ≡ byte_at s 2 → v ≡ fresh_world x y
    → Going s out (start_world s) out v 3 0
going_start s out v x y k j r ex ey ev =
    let e : k ≡ length (asked s) = (accepted_means s k j).count in
    let w : v ≡ start_world s = rw (ev, ex, ey) in
    let f : length s - 0 ≡ length s = omega arith in
    record { near = omega arith; room = omega arith; size = refl; count = rw f (omega arith); answers = rw (w, f); beyond = refl; world = rw (w, f) }

asked_more : (s : List ℕ) (fuel at b next : ℕ) (j : Kind) → read_at s at ≡ Record j b next → asked_after s (suc fuel) at ≡ asked_from j s b ∷ asked_after s fuel next
unfolding asked_after asked_by
asked_more s fuel at b next j q = rw q

rest_is : (s : List ℕ) (at k b next : ℕ) (j : Kind) → k ≤ at → read_at s at ≡ Record j b next → rest_of s at k ≡ asked_from j s b ∷ rest_of s next (k + 1)
rest_is s at k b next j n q =
    let o : Known s at b next = known s at b next j q in
    let f : length s - k ≡ suc (length s - (k + 1)) = omega arith in
    rw f (asked_more s (length s - (k + 1)) at b next j q)

-- there is room for the answer of a record that is there
pub going_room : {s out₀ out : List ℕ} {w₀ v : World} {at k : ℕ} (b next : ℕ) (j : Kind) → Going s out₀ w₀ out v at k → read_at s at ≡ Record j b next → k < length out
going_room {s} {out₀} {out} {w₀} {v} {at} {k} b next j g q =
    let r = rest_is s at k b next j g.near q in
    let n : k + suc (length (rest_of s next (k + 1))) ≡ length (asked s) = rw r at g.count in
    let h : length (asked s) ≤ length out₀ = g.room in
    let l : length out ≡ length out₀ = g.size in
    omega arith

answers_more : (v : World) (x : Asked) (l : List Asked) (a : ℕ) (v' : World) → ends a v' ≡ step_of v x → answers_of v (x ∷ l) ≡ a ∷ answers_of v' l
unfolding answers_of
answers_more v x l a v' e = rw (← e)

world_more : (v : World) (x : Asked) (l : List Asked) (a : ℕ) (v' : World) → ends a v' ≡ step_of v x → world_after v (x ∷ l) ≡ world_after v' l
unfolding world_after
world_more v x l a v' e = rw (← e)

told_more : (out rest : List ℕ) (k a : ℕ) → k < length out → take (k + 1) (set out k a) ++ rest ≡ take k out ++ (a ∷ rest)
told_more out rest k a p = rw (add-one, take-suc-set, append_assoc)

drop_later : (l m : List ℕ) (k : ℕ) → drop k l ≡ drop k m → drop (k + 1) l ≡ drop (k + 1) m
drop_later l m k e = sym (drop-drop 1 k l) ∙ rw e (drop-drop 1 k m)

-- one record more
pub going_on : (s out₀ out : List ℕ) (w₀ v : World) (at k b next a n : ℕ) (j : Kind) (v' : World) → Going s out₀ w₀ out v at k → read_at s at ≡ Record j b next
    → ends a v' ≡ step_of v (asked_from j (take (length s - b) (drop b s)) 0) → n ≡ a → Going s out₀ w₀ (set out k n) v' next (k + 1)
going_on s out₀ out w₀ v at k b next a n j v' g q t z =
    let r = rest_is s at k b next j g.near q in
    let o : Known s at b next = known s at b next j q in
    let p : k < length out = going_room b next j g q in
    let c : k + suc (length (rest_of s next (k + 1))) ≡ length (asked s) = rw r at g.count in
    let m : k ≤ at = g.near in
    let f : k < k + 1 = omega arith in
    let u : ends n v' ≡ step_of v (asked_from j s b) = rw z (rw (sliced s b j) at t) in
    record {
      near = omega arith;
      room = g.room;
      size = simp length-set g.size;
      count = omega arith;
      answers = told_more out (answers_of v' (rest_of s next (k + 1))) k n p ∙ rw (← answers_more v (asked_from j s b) (rest_of s next (k + 1)) n v' u, ← r) g.answers;
      beyond = rw (drop-set-lt (k + 1) out k n f) (drop_later out out₀ k g.beyond);
      world = rw (← world_more v (asked_from j s b) (rest_of s next (k + 1)) n v' u, ← r) g.world;
    }

-- the boxes that an act touches
touch_is : (s : List ℕ) (x y i : ℕ) (a : Act) (v : World) (p : Packet) (e : Entry) (t : Touch) → x ≡ byte_at s 0 → y ≡ byte_at s 1 → i ≡ seat x
    → p ≡ packet_at (get_or v.outgoing i no_packets) y → e ≡ entry_at (get_or v.holds i no_entries) y → t ≡ touch_by a x y p e → t ≡ touch_of v a s 0
touch_is s x y i a v p e t ex ey ei ep ee et = rw (et, ep, ee, ei, ex, ey)

-- an act's turn: the boxes are taken out, its rule is applied, and they are put back
pub act_turn : (s : List ℕ) (x y i : ℕ) (a : Act) (v : World) (p : Packet) (e : Entry) (t : Touch) (r : Ruling)
    → x ≡ byte_at s 0 → y ≡ byte_at s 1 → i ≡ seat x → p ≡ packet_at (get_or v.outgoing i no_packets) y
    → e ≡ entry_at (get_or v.holds i no_entries) y → t ≡ touch_by a x y p e → r ≡ act_of v.roster a s 0 (boxes_of v t)
    → put_back_step v t r ≡ step_of v (asked_from (kind.Act a) s 0)
act_turn s x y i a v p e t r ex ey ei ep ee et er =
    let z : t ≡ touch_of v a s 0 = touch_is s x y i a v p e t ex ey ei ep ee et in
    rw (er, z) (lens v a s 0)

none_by : (s : List ℕ) (x : Read) (more : ℕ → List Asked) → is_record x ≡ 0 → asked_by more s x ≡ []
unfolding asked_by
none_by s (Record j b next) more h = absurd (omega arith)
none_by s (read.Refused why) more h = refl
none_by s End more h = refl

rest_none : (s : List ℕ) (fuel at : ℕ) → is_record (read_at s at) ≡ 0 → asked_after s fuel at ≡ []
unfolding asked_after
rest_none s zero at h = refl
rest_none s (suc fuel) at h = none_by s (read_at s at) _ h

-- where no record is left
pub record Ended (s out₀ out : List ℕ) (v : World) (k : ℕ) : Type 0 where
  pub value : run_told (Ok (record { records = k; world = v })) ≡ ran_of s (length out₀)
  pub answers_after : out ≡ written_of s out₀

pub going_end : {s out₀ out : List ℕ} {v : World} {at k : ℕ} (m : ℕ) → Going s out₀ (start_world s) out v at k → judged s ≡ Ok m → is_record (read_at s at) ≡ 0
    → Ended s out₀ out v k
unfolding answers_of world_after ran_of written_of must
going_end {s} {out₀} {out} {v} {at} {k} m g j h =
    let r : rest_of s at k ≡ [] = rest_none s (length s - k) at h in
    let n : k + 0 ≡ length (asked s) = rw r at g.count in
    let a : take k out ++ [] ≡ answers_of (start_world s) (asked s) = rw r at g.answers in
    let b : take k out ≡ answers_of (start_world s) (asked s) = sym (append-nil (take k out)) ∙ a in
    let e : m ≡ k = (accepted_means s m j).count ∙ omega arith in
    let room = g.room in
    let l : leb k (length out₀) ≡ true = le-leb _ _ (omega arith) in
    let w : v ≡ world_after (start_world s) (asked s) = rw r at g.world in
    record {
      value = rw (j, e, l, w);
      answers_after = rw (j, e, l) (sym (take-append-drop k out) ∙ rw (b, g.beyond));
    }
