-- Packets that are packet_added stay under way, and where there is room enough one goes to each recipient. Assumes nothing.
use Rattle.std.specs.Prelude.{None, Option, Some, is_some}
use mathlib.Core.Path.{◌≡◌, refl, sym, ap, ◌∙◌}
use mathlib.Core.Logic.{◌⊎◌, inl, inr, ◌≢◌}
use mathlib.Core.Bool.{Bool, true, false, cond, not}
use mathlib.Core.List.{List}
use Prim.Native.Nat.{ℕ, zero, suc, ◌+◌, ◌<◌, ◌≤◌}
use native.Mathlib.Omega.{arith}
use lib.ListN.{length, get_or, set, length-set}
use lib.Seq.{get_or-set_same, get_or-set_other}
use Rattle.std.proofs.lemmas.Bool.{cases_eq, not-true}
use Rattle.search.specs.Search.{count}
use Rattle.search.proofs.Laws.{found_in, count_same}
use Rattle.world.specs.declared.roster.Roster.{Roster}
use Rattle.world.specs.declared.outgoing.Outgoing.{Outgoing}
use Rattle.world.specs.declared.outgoing.Packet.{Packet}
use Rattle.world.specs.declared.sending.Sending.{Sending}
use Rattle.world.specs.Sizes.{servers, outgoing_places}
use Rattle.world.specs.Outgoing.{free_packet, packet_for, packet_at, is_free, free_outgoing, free_places, packet_put, packet_freed, packet_added_at, packet_added, recipient, needed, sent_below, sent}
use Rattle.world.specs.Boxes.{no_packets}
use Rattle.search.proofs.Booleans.{apart, either}
use Rattle.search.proofs.Every.{found_at}
use Rattle.kept.proofs.Counts.{count_some}
use Rattle.kept.proofs.Facts.{set_cases}
use Rattle.agreement.proofs.Invariant.{Goes, Under}

-- a packet of one origin
pub record Way (o : Outgoing) (p s i sl : ℕ) : Type 0 where
  pub place : ℕ
  pub goes : Goes (packet_at o place) p s i sl

-- a count with one place less
count_drop : (t u : ℕ → Bool) (z n : ℕ) → z < n → t z ≡ true → u z ≡ false → ((i : ℕ) → i ≢ z → u i ≡ t i) → count t n ≡ count u n + 1
unfolding count
count_drop t u z zero p a b h = absurd (omega arith)
count_drop t u z (suc n) p a b h =
    either (cases_eq z n)
    (λ (e : z ≡ n).
    let c = count_same t u n (λ i l. sym (h i (omega arith))) in
    let x : t n ≡ true = rw e at a in
    let y : u n ≡ false = rw e at b in
    rw (x, y) (omega arith))
    (λ (e : z ≢ n).
    let c = count_drop t u z n (omega arith) a b h in
    let d = h n (λ y. e (sym y)) in
    rw d (omega arith))

-- one packet packet_added
module _ (o : Outgoing) (k : Packet) (size : length o.places ≡ outgoing_places) where
  module _ (z : ℕ) (free : is_free o z ≡ true) (inside : z < outgoing_places) where
    put_way : (p s i sl : ℕ) → Way o p s i sl → Way (packet_put o z k) p s i sl
    put_way p s i sl w =
        record {
          place = w.place;
          goes = set_cases (λ y. Goes y p s i sl) o.places z w.place k free_packet (omega arith)
              (λ (e : w.place ≡ z). apart (packet_at o z).there (rw e at w.goes.there) (not-true _ free))
              (λ _. w.goes);
        }

    put_goes : (p s i sl : ℕ) → Goes k p s i sl → Way (packet_put o z k) p s i sl
    put_goes p s i sl g = record { place = z; goes = rw (get_or-set_same o.places z k free_packet (omega arith)) g }

    put_count : k.there ≡ true → free_places o ≡ free_places (packet_put o z k) + 1
    put_count there =
        count_drop (λ (j : ℕ). is_free o j) (λ (j : ℕ). is_free (packet_put o z k) j) z outgoing_places inside free
        (ap (λ (y : Packet). not y.there) (get_or-set_same o.places z k free_packet (omega arith)) ∙ ap not there)
        (λ i d. ap (λ (y : Packet). not y.there) (get_or-set_other o.places z i k free_packet d))

  -- what a packet_added packet leaves
  record Posts (n : Outgoing) : Type 0 where
    size_of : length n.places ≡ outgoing_places
    ways : (p s i sl : ℕ) → Way o p s i sl → Way n p s i sl
    goes : 0 < free_places o → (p s i sl : ℕ) → Goes k p s i sl → Way n p s i sl
    fewer : 0 < free_places o → k.there ≡ true → free_places o ≡ free_places n + 1

  posts_at : (f : Option ℕ) → f ≡ free_outgoing o → Posts (packet_added_at o k f)
  unfolding packet_added_at
  posts_at (Some z) e =
      let l = found_in _ outgoing_places z (Some z) e refl in
      let free = found_at (λ (j : ℕ). is_free o j) outgoing_places z (sym e) in
      record { size_of = length-set o.places z k ∙ size; ways = put_way z free l; goes = λ _. put_goes z free l; fewer = λ _. put_count z free l }
  posts_at None e =
      record {
        size_of = size;
        ways = λ p s i sl w. w;
        goes = λ l. apart (is_some (free_outgoing o)) (count_some (λ (j : ℕ). is_free o j) outgoing_places l) (rw (← e));
        fewer = λ l. apart (is_some (free_outgoing o)) (count_some (λ (j : ℕ). is_free o j) outgoing_places l) (rw (← e));
      }

  posts : Posts (packet_added o k)
  unfolding packet_added
  posts = posts_at (free_outgoing o) refl

-- one packet to each recipient
module _ (r : Roster) (mask server : ℕ) (d : Sending) (o : Outgoing) (size : length o.places ≡ outgoing_places) where
  abbrev wanted : ℕ → ℕ
  wanted n = count (λ (to : ℕ). recipient r mask server to) n

  record Sends (n : ℕ) (now : Outgoing) : Type 0 where
    size_of : length now.places ≡ outgoing_places
    ways : (p s i sl : ℕ) → Way o p s i sl → Way now p s i sl
    room : wanted n ≤ free_places o → free_places o ≡ free_places now + wanted n
    goes : wanted n ≤ free_places o → (to : ℕ) → to < n → recipient r mask server to ≡ true
        → Way now to d.sender d.id d.slot

  wanted_more : (n : ℕ) (b : Bool) → recipient r mask server n ≡ b → wanted (suc n) ≡ wanted n + cond b 1 0
  unfolding count
  wanted_more n b e = rw e

  sends_more : (n : ℕ) (now : Outgoing) → Sends n now → (b : Bool) → recipient r mask server n ≡ b → Sends (suc n) (cond b (packet_added now (packet_for n d)) now)
  sends_more n now f true e =
      let g = posts now (packet_for n d) f.size_of in
      let c : wanted (suc n) ≡ wanted n + 1 = wanted_more n true e in
      record {
        size_of = g.size_of;
        ways = λ p s i sl w. g.ways p s i sl (f.ways p s i sl w);
        room = λ l. let a = f.room (omega arith) in let b = g.fewer (omega arith) refl in omega arith;
        goes = λ l to h y.
            let a = f.room (omega arith) in
            either (cases_eq to n)
            (λ (z : to ≡ n). g.goes (omega arith) to d.sender d.id d.slot (record { there = refl; to = sym z; sender = refl; id = refl; slot = refl }))
            (λ (z : to ≢ n). g.ways to d.sender d.id d.slot (f.goes (omega arith) to (omega arith) y));
      }
  sends_more n now f false e =
      let c : wanted (suc n) ≡ wanted n = wanted_more n false e ∙ omega arith in
      record {
        size_of = f.size_of;
        ways = f.ways;
        room = λ l. let a = f.room (omega arith) in omega arith;
        goes = λ l to h y.
            either (cases_eq to n)
            (λ (z : to ≡ n). apart (recipient r mask server n) (rw z at y) e)
            (λ (z : to ≢ n). f.goes (omega arith) to (omega arith) y);
      }

  sends : (n : ℕ) → Sends n (sent_below r mask server d o n)
  unfolding sent_below count
  sends zero = record { size_of = size; ways = λ p s i sl w. w; room = λ l. omega arith; goes = λ l to h. absurd (omega arith) }
  sends (suc n) = sends_more n (sent_below r mask server d o n) (sends n) (recipient r mask server n) refl

  pub sent_ways : (p s i sl : ℕ) → Way o p s i sl → Way (sent r mask server d o) p s i sl
  sent_ways = (sends servers).ways

  pub sent_goes : needed r mask server ≤ free_places o → (to : ℕ) → to < servers → recipient r mask server to ≡ true
      → Way (sent r mask server d o) to d.sender d.id d.slot
  sent_goes = (sends servers).goes

pub packet_added_ways : (o : Outgoing) (k : Packet) → length o.places ≡ outgoing_places → (p s i sl : ℕ) → Way o p s i sl → Way (packet_added o k) p s i sl
packet_added_ways o k size = (posts o k size).ways

-- a place packet_freed: only what stood there is gone
pub packet_freed_ways : (o : Outgoing) (z : ℕ) (p s i sl : ℕ) → Way o p s i sl → Way (packet_freed o z) p s i sl ⊎ Goes (packet_at o z) p s i sl
packet_freed_ways o z p s i sl w =
    either (cases_eq w.place z)
    (λ (e : w.place ≡ z). inr (rw e at w.goes))
    (λ (e : w.place ≢ z). inl (record { place = w.place; goes = rw (get_or-set_other o.places z w.place free_packet free_packet e) w.goes }))

-- the boxes of all origins, with that of one changed
module _ (os : List Outgoing) (x : ℕ) (o : Outgoing) (seated : x < length os) where
  pub under_now : (p s i sl : ℕ) → Way o p s i sl → Under (set os x o) p s i sl
  under_now p s i sl w = record { origin = x; place = w.place; goes = rw (get_or-set_same os x o no_packets seated) w.goes }

  pub under_still : {A : Type 0} (p s i sl : ℕ) → (Way (get_or os x no_packets) p s i sl → Way o p s i sl ⊎ A) → Under os p s i sl → Under (set os x o) p s i sl ⊎ A
  under_still p s i sl f u =
      either (cases_eq u.origin x)
      (λ (e : u.origin ≡ x).
      either (f (record { place = u.place; goes = rw e at u.goes })) (λ w. inl (under_now p s i sl w)) (λ a. inr a))
      (λ (e : u.origin ≢ x). inl (record { origin = u.origin; place = u.place; goes = rw (get_or-set_other os x u.origin o no_packets e) u.goes }))
