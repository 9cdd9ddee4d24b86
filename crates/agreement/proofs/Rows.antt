-- Demand 3 of every row of steps, each of which keeps the invariant, from a world without numbers. Assumes nothing.
use mathlib.Core.Path.{◌≡◌, refl, sym, ap, subst, ◌∙◌}
use mathlib.Core.Logic.{inl}
use mathlib.Core.Bool.{true}
use mathlib.Core.List.{List, [], ◌∷◌, ◌++◌}
use Prim.Native.Nat.{ℕ, ◌+◌, ◌<◌, ◌≤◌}
use native.Mathlib.Omega.{arith}
use borrow.Author.Tests.{eq-eqb, ne_eqb}
use Rattle.std.proofs.lemmas.Bool.{and_from, cases_lt, not_from_false}
use Rattle.world.specs.declared.World.{World}
use Rattle.world.specs.declared.roster.Roster.{Roster}
use Rattle.world.specs.declared.hold.Entry.{Entry}
use Rattle.world.specs.declared.delivered.Delivered.{Delivered}
use Rattle.world.specs.declared.sending.Sending.{Sending}
use Rattle.world.specs.Sizes.{hold_places}
use Rattle.world.specs.Hold.{entry_at, free_entry, is_entry, holding}
use Rattle.world.proofs.Seats.{seat_own}
use Rattle.search.proofs.Booleans.{either}
use Rattle.search.proofs.Every.{any_in}
use Rattle.kept.proofs.Facts.{inside}
use Rattle.agreement.specs.Agreement.{sendings, sending_of, Begins, through, Vouched, InTime, Demand}
use Rattle.agreement.proofs.Invariant.{Correct, hold_at, done_at, made, Of, Holds, Done, Belongs}
use Rattle.agreement.proofs.Moves.{Moves}
use Rattle.agreement.proofs.Sendings.{sending_of_lem, sendings_length, sendings_at, begins_by}
use Rattle.agreement.proofs.Moving.{seated, few}
use Rattle.agreement.proofs.Members.{Good, Member, member_of, member_belongs}
use Rattle.agreement.proofs.Agreeing.{agreed}

-- what one step leads to: a good world, and what the step did to it
pub record Leads (w v : World) : Type 0 where
  pub good : Good v
  pub moves : Moves w v

-- a refused step leaves the world
pub leads_same : {w : World} → Good w → Leads w w
leads_same g =
    record { good = g; moves = record { inv = g.inv; roster = refl; more = omega arith; belongs = λ s i sl n b. b; still = inl refl } }

-- an entry of a sending passes the test for one
entry_is : {e : Entry} {stage : ℕ} {s : Sending} → 0 < stage → Of e stage s.sender s.id s.slot → is_entry e s ≡ true
entry_is {e} {stage} {s} some o =
    let up = o.up in
    and_from _ _
    (and_from _ _
    (and_from _ _ (not_from_false _ (ne_eqb e.stage 0 (λ z. omega arith))) (eq-eqb e.sending.sender s.sender o.sender))
    (eq-eqb e.sending.id s.id o.id))
    (eq-eqb e.sending.slot s.slot o.slot)

module _ (w : World) (g : Good w) where
  held_in : (p : ℕ) → Correct w.roster p → (s : Sending) → Holds (hold_at w.holds p) 2 s.sender s.id s.slot
      → holding (hold_at w.holds p) s ≡ true
  held_in p c s h =
      let k = hold_at w.holds p in
      let up = h.is.up in
      let l =
      inside (λ (e : Entry). 2 ≤ e.stage) k.places h.place hold_places free_entry
      (g.facts.entries p (seated w g.facts p c)).size up (λ e. omega arith)
      in
      any_in (λ (z : ℕ). is_entry (entry_at k z) s) hold_places h.place l (entry_is (omega arith) h.is)

  -- a correct server that has called for a sending and holds it vouches for it
  member_vouched : {n : ℕ} (m : Member w n)
      → Holds (hold_at w.holds m.server) 2 m.sender (made w.executions m.sender m.place).id m.called.slot
      → Vouched w (record { id = (made w.executions m.sender m.place).id; sender = m.sender; slot = m.called.slot })
  member_vouched m h =
      record {
        server = m.server;
        good = m.good;
        seal = m.called.seal;
        held = rw (seat_own m.server (seated w g.facts m.server m.good)) (held_in m.server m.good _ h);
      }

-- the sending of a number that a step gives
module _ (w v : World) (g : Good w) (l : Leads w v) (n : ℕ) (before : w.numbered < n) (after : n ≤ v.numbered) where
  -- was delivered by no correct server, since the step delivers nothing
  not_done : (m : Member v n) → Done (made v.executions m.sender m.place) (done_at v.delivered m.server) → ⊥
  not_done m d =
      let p = m.server in
      let e = m.number in
      let r = d.reached in
      let c = subst (λ (r : Roster). Correct r p) l.moves.roster m.good in
      let most = few w g.facts p c in
      either l.moves.still
      (λ (z : v.numbered ≡ w.numbered). omega arith)
      (λ (z : v.delivered ≡ w.delivered). let y = ap (λ (ds : List Delivered). (done_at ds p).count) z in omega arith)

  -- so a correct server vouches for its sending
  new_vouched : (i : Sending) → ((s j sl : ℕ) → Belongs v.requests v.executions s j sl n → i ≡ record { id = j; sender = s; slot = sl }) → Vouched v i
  new_vouched i same =
      let m = member_of v l.good n (omega arith) after in
      subst (λ (i : Sending). Vouched v i) (sym (same _ _ _ (member_belongs v (omega arith) m)))
      (member_vouched v l.good m
      (either m.called.kept
      (λ (h : Holds (hold_at v.holds m.server) 2 m.sender (made v.executions m.sender m.place).id m.called.slot). h)
      (λ h. absurd (not_done m h))))

module _ {A : Type 0} (go : World → A → World) (leads : (w : World) (a : A) → Good w → Leads w (go w a)) where
  through_good : (w : World) (l : List A) → Good w → Good (through go w l)
  unfolding through
  through_good w [] g = g
  through_good w (a ∷ l) g = through_good (go w a) l (leads w a g).good

  through_belongs : (w : World) (l : List A) → Good w → (s i sl n : ℕ) → Belongs w.requests w.executions s i sl n
      → Belongs (through go w l).requests (through go w l).executions s i sl n
  unfolding through
  through_belongs w [] g s i sl n b = b
  through_belongs w (a ∷ l) g s i sl n b = let d = leads w a g in through_belongs (go w a) l d.good s i sl n (d.moves.belongs s i sl n b)

  through_more : (w : World) (l : List A) → Good w → w.numbered ≤ (through go w l).numbered
  unfolding through
  through_more w [] g = omega arith
  through_more w (a ∷ l) g = let d = leads w a g in let m = d.moves.more in let r = through_more (go w a) l d.good in omega arith

  through_append : (w : World) (a b : List A) → through go w (a ++ b) ≡ through go (through go w a) b
  unfolding through
  through_append w [] b = refl
  through_append w (x ∷ a) b = through_append (go w x) a b

  -- a sending that belongs to a number in a world is that number's in every later world
  later_sending : (w : World) (l : List A) → Good w → (s i sl n : ℕ) → Belongs w.requests w.executions s i sl n
      → sending_of (through go w l) n ≡ record { id = i; sender = s; slot = sl }
  later_sending w l g s i sl n b = sending_of_lem (through go w l) (through_good w l g).facts (through_belongs w l g s i sl n b)

  -- so the list only grows
  grows_on : (w : World) (l : List A) → Good w → Begins (sendings w) (sendings (through go w l))
  grows_on w l g =
      let v = through go w l in
      let a = sendings_length w w.numbered in
      let b = sendings_length v v.numbered in
      let more = through_more w l g in
      begins_by (sendings w) (sendings v) (omega arith)
      (λ k h.
      let m = member_belongs w (omega arith) (member_of w g (k + 1) (omega arith) (omega arith)) in
      sendings_at w w.numbered k (omega arith) ∙ sending_of_lem w g.facts m
      ∙ sym (sendings_at v v.numbered k (omega arith) ∙ later_sending w l g _ _ _ _ m))

  -- a number of the world at the end was given by one of the steps
  in_time : (w : World) (l : List A) → Good w → (n : ℕ) → w.numbered < n → n ≤ (through go w l).numbered → InTime go w l n
  unfolding through
  in_time w [] g n a b = absurd (omega arith)
  in_time w (x ∷ l) g n a b =
      let d = leads w x g in
      either (cases_lt (go w x).numbered n)
      (λ (h : (go w x).numbered < n). let r = in_time (go w x) l d.good n h b in
      record {
        earlier = x ∷ r.earlier;
        now = r.now;
        later = r.later;
        row = ap (λ (m : List A). x ∷ m) r.row;
        not_yet = r.not_yet;
        given = r.given;
        vouched = r.vouched;
      })
      (λ (h : n ≤ (go w x).numbered).
      record {
        earlier = [];
        now = x;
        later = l;
        row = refl;
        not_yet = a;
        given = h;
        vouched = new_vouched w (go w x) g d n a h (sending_of (through go (go w x) l) n) (λ s i sl b. later_sending (go w x) l d.good s i sl n b);
      })

  pub demand : (w : World) → Good w → w.numbered ≡ 0 → (l : List A) → Demand go w l
  demand w g none l =
      record {
        agreed = agreed (through go w l) (through_good w l g);
        in_time = λ n a b. in_time w l g n (omega arith) b;
        grows = λ a b e.
            subst (λ (m : List A). Begins (sendings (through go w a)) (sendings (through go w m))) (sym e)
            (subst (λ (v : World). Begins (sendings (through go w a)) (sendings v)) (sym (through_append w a b)) (grows_on (through go w a) b (through_good w a g)));
      }
