-- The invariant stays where the orderer makes an execution or records a call. Assumes nothing.
use mathlib.Core.Path.{◌≡◌, refl}
use mathlib.Core.Logic.{◌⊎◌, inl, inr, ◌≢◌}
use mathlib.Core.Bool.{true, ◌&&◌}
use mathlib.Core.List.{List}
use Prim.Native.Nat.{ℕ, ◌+◌, ◌<◌, ◌≤◌}
use native.Mathlib.Omega.{arith}
use lib.Count.{ones}
use lib.Dec.{eqb}
use lib.ListN.{length, set}
use borrow.Author.Tests.{eqb-true}
use Rattle.std.proofs.lemmas.Bool.{and_parts, cond_both}
use Rattle.world.specs.declared.roster.Roster.{Roster}
use Rattle.world.specs.declared.request.Requests.{Requests}
use Rattle.world.specs.declared.execution.Execution.{Execution}
use Rattle.world.specs.declared.execution.Executions.{Executions}
use Rattle.world.specs.declared.execution.Ordered.{Ordered}
use Rattle.world.specs.declared.outgoing.Outgoing.{Outgoing}
use Rattle.world.specs.declared.hold.Hold.{Hold}
use Rattle.world.specs.declared.delivered.Delivered.{Delivered}
use Rattle.world.specs.Sizes.{servers, executions_most, delivered_most}
use Rattle.world.specs.Masks.{nobody, has}
use Rattle.world.specs.Roster.{threshold}
use Rattle.world.specs.Executions.{no_execution, next_number, execution_at, opened, called, ordered}
use Rattle.world.specs.Boxes.{no_table}
use Rattle.search.proofs.Booleans.{apart, either}
use Rattle.world.proofs.Bits.{join_back, join_keeps, nobody_has}
use Rattle.kept.proofs.Facts.{set_cases}
use Rattle.kept.proofs.Ordering.{changed}
use Rattle.agreement.proofs.Invariant.{Correct, hold_at, done_at, table_at, made, Made, Matches, Done, Belongs, Called, Spread, Cause, sender, settled, delivered, Inv}
use Rattle.agreement.proofs.Keeping.{Grown, tables_keep, belongs_on}

-- what the orderer leaves of an execution, and the number that it may give
pub record Orders (e : Execution) (m : ℕ) (o : Ordered) : Type 0 where
  pub id : o.execution.id ≡ e.id
  pub digest : o.execution.digest ≡ e.digest
  pub called : o.execution.called ≡ e.called
  pub mask : o.execution.mask ≡ e.mask
  pub number : ((o.numbered ≡ m) × (o.execution.number ≡ e.number)) ⊎ ((e.number ≡ 0) × (o.numbered ≡ next_number m) × (o.execution.number ≡ next_number m))

pub orders : (r : Roster) (e : Execution) (m : ℕ) → Orders e m (ordered r e m)
unfolding ordered
orders r e m =
    cond_both (eqb e.number 0 && eqb (ones e.mask) (threshold r)) _ _ (λ o. Orders e m o)
    (λ p.
    let a = and_parts (eqb e.number 0) (eqb (ones e.mask) (threshold r)) p in
    record { id = refl; digest = refl; called = refl; mask = refl; number = inr (eqb-true e.number 0 a.0, refl, refl) })
    (λ _. record { id = refl; digest = refl; called = refl; mask = refl; number = inl (refl, refl) })

-- an execution as the orderer makes it, and as it leaves it after a call
abbrev pub opening : Roster → ℕ → ℕ → List ℕ → ℕ → Execution
opening r s id digest m = (ordered r (opened s id digest) m).execution

abbrev pub calling : Roster → Execution → ℕ → ℕ → Execution
calling r e caller m = (ordered r (called e caller) m).execution

pub orders_more : (e : Execution) (m : ℕ) (o : Ordered) → Orders e m o → m ≤ delivered_most → m ≤ o.numbered
orders_more e m o f small = either f.number (λ a. omega (arith, a.0)) (λ a. omega (arith, a.1))

-- the invariant, with other executions; and no sending loses its number
pub record Grew (r : Roster) (q : Requests) (ts ns : List Executions) (os : List Outgoing) (hs : List Hold) (ds : List Delivered) : Type 0 where
  pub inv : Inv r q ns os hs ds
  pub belongs : (s i sl n : ℕ) → Belongs q ts s i sl n → Belongs q ns s i sl n

-- a number that is given now is delivered by nobody yet
not_done : (e : Execution) (m : ℕ) (o : Ordered) (d : Delivered) → Orders e m o → m ≤ delivered_most → d.count ≤ m → Done o.execution d → Done e d
not_done e m o d f small few g =
    either f.number
    (λ (a : (o.numbered ≡ m) × (o.execution.number ≡ e.number)).
    let x = g.numbered in let y = g.reached in record { numbered = omega (arith, a.1); reached = omega (arith, a.1) })
    (λ (a : (e.number ≡ 0) × (o.numbered ≡ next_number m) × (o.execution.number ≡ next_number m)). let y = g.reached in absurd (omega (arith, a.2)))

module _ {r : Roster} {q : Requests} {ts : List Executions} {os : List Outgoing} {hs : List Hold} {ds : List Delivered} (v : Inv r q ts os hs ds)
    (one : (a b : ℕ) (x : Execution) → Matches q a x → Matches q b x → a ≡ b) (x : ℕ) (seated : x < servers) (all : length ts ≡ servers)
    (size : length (table_at ts x).table ≡ executions_most) (k : ℕ) (inside : k < executions_most) (c : ℕ) (y : Execution) where
  abbrev pub now : List Executions
  now = set ts x (changed (table_at ts x) k c y)

  -- the execution at the place, and the others as they were
  made_cases : (P : ℕ → ℕ → Execution → Type 0) → P x k y → ((s j : ℕ) → (s ≡ x → j ≢ k) → P s j (made ts s j)) → (s j : ℕ) → P s j (made now s j)
  made_cases P here else s j =
      set_cases (λ t. P s j (execution_at t j)) ts x s (changed (table_at ts x) k c y) no_table (omega arith)
      (λ (e : s ≡ x).
      set_cases (λ w. P s j w) (table_at ts x).table k j y no_execution (omega arith)
      (λ (f : j ≡ k). rw (e, f) here)
      (λ (f : j ≢ k). rw e (else x j (λ _. f))))
      (λ (e : s ≢ x). else s j (λ f. absurd (e f)))

  count_cases : (s : ℕ) (P : ℕ → ℕ → Type 0) → P x c → ((s : ℕ) → s ≢ x → P s (table_at ts s).count) → P s (table_at now s).count
  count_cases s P here else =
      set_cases (λ t. P s t.count) ts x s (changed (table_at ts x) k c y) no_table (omega arith)
      (λ (e : s ≡ x). rw e here)
      (λ (e : s ≢ x). else s e)

  module _ (counted : k < c) (least : (table_at ts x).count ≤ c) (most : (j : ℕ) → j < c → j ≢ k → j < (table_at ts x).count)
      (old : k < (table_at ts x).count → Grown (made ts x k) y)
      (calls : (p : ℕ) → Correct r p → has y.called p ≡ true
      → ((k < (table_at ts x).count) × (has (made ts x k).called p ≡ true)) ⊎ Called q y x (hold_at hs p) (done_at ds p) p)
      (causes : (sl : ℕ) → Matches q sl y → Cause r hs ds x y sl → ((k < (table_at ts x).count) × Cause r hs ds x (made ts x k) sl) ⊎ Spread r os hs ds x y sl) where
    there : (s j : ℕ) → Made ts s j → Made now s j
    there s j h =
        let u = h.used in
        record { seated = h.seated; used = count_cases s (λ s n. j < (table_at ts s).count → j < n) (λ w. omega arith) (λ s _ w. w) u }

    back : (s j : ℕ) → Made now s j → (s ≡ x → j ≢ k) → Made ts s j
    back s j h d =
        record {
          seated = h.seated;
          used = count_cases s (λ s n. j < n → (s ≡ x → j ≢ k) → j < (table_at ts s).count) (λ w f. most j w (f refl)) (λ s _ w _. w) h.used d;
        }

    same : (z : Execution) → Grown z z
    same z = record { id = refl; digest = refl; number = λ _. refl; called = λ p e. e }

    grown : (s j : ℕ) → Made ts s j → Grown (made ts s j) (made now s j)
    grown s j h = made_cases (λ s j z. Made ts s j → Grown (made ts s j) z) (λ h. old h.used) (λ s j _ _. same (made ts s j)) s j h

    made_inv : Inv r q now os hs ds
    made_inv =
        tables_keep v one now there grown
        (λ s j p.
        made_cases
        (λ s j z. Made now s j → Correct r p → has z.called p ≡ true
        → (Made ts s j × (has (made ts s j).called p ≡ true)) ⊎ Called q z s (hold_at hs p) (done_at ds p) p)
        (λ h ok e. either (calls p ok e)
        (λ (a : (k < (table_at ts x).count) × (has (made ts x k).called p ≡ true)). inl (record { seated = seated; used = a.0 }, a.1))
        (λ a. inr a))
        (λ s j d h ok e. inl (back s j h d, e)) s j)
        (λ s j sl.
        made_cases
        (λ s j z. Made now s j → Matches q sl z → Cause r hs ds s z sl → (Made ts s j × Cause r hs ds s (made ts s j) sl) ⊎ Spread r os hs ds s z sl)
        (λ h g w. either (causes sl g w)
        (λ (a : (k < (table_at ts x).count) × Cause r hs ds x (made ts x k) sl). inl (record { seated = seated; used = a.0 }, a.1))
        (λ a. inr a))
        (λ s j d h g w. inl (back s j h d, w)) s j)

    pub made_keeps : Grew r q ts now os hs ds
    made_keeps = record { inv = made_inv; belongs = belongs_on v one now there grown }

-- a call recorded
module _ {r : Roster} {q : Requests} {ts : List Executions} {os : List Outgoing} {hs : List Hold} {ds : List Delivered} (v : Inv r q ts os hs ds)
    (one : (a b : ℕ) (x : Execution) → Matches q a x → Matches q b x → a ≡ b) (x : ℕ) (seated : x < servers) (all : length ts ≡ servers)
    (size : length (table_at ts x).table ≡ executions_most) (m : ℕ) (small : m ≤ delivered_most) (few : (p : ℕ) → Correct r p → (done_at ds p).count ≤ m) where
  module _ (k : ℕ) (inside : k < executions_most) (used : k < (table_at ts x).count) (caller : ℕ) (named : caller < servers) where
    recorded_grown : Grown (made ts x k) (calling r (made ts x k) caller m)
    recorded_grown =
        let o = orders r (called (made ts x k) caller) m in
        record {
          id = o.id;
          digest = o.digest;
          number = λ l. either o.number (λ a. a.1) (λ a. absurd (omega (arith, a.0)));
          called = λ p e. rw o.called (join_keeps (made ts x k).called caller p named e);
        }

    recorded_cause : (sl : ℕ) → Cause r hs ds x (calling r (made ts x k) caller m) sl → Cause r hs ds x (made ts x k) sl
    recorded_cause sl (sender ok) = sender ok
    recorded_cause sl (settled p ok h) = settled p ok (rw recorded_grown.id at h)
    recorded_cause sl (delivered p ok d) =
        delivered p ok
        (let o = not_done (called (made ts x k) caller) m _ (done_at ds p) (orders r _ m) small (few p ok) d in
        record { numbered = o.numbered; reached = o.reached })

    module _ (answers : Correct r caller → Called q (calling r (made ts x k) caller m) x (hold_at hs caller) (done_at ds caller) caller) where
      new_call : (p : ℕ) → Correct r p → has (calling r (made ts x k) caller m).called p ≡ true
          → ((k < (table_at ts x).count) × (has (made ts x k).called p ≡ true)) ⊎ Called q (calling r (made ts x k) caller m) x (hold_at hs p) (done_at ds p) p
      new_call p ok e =
          either (join_back (made ts x k).called caller p named (rw (orders r (called (made ts x k) caller) m).called at e))
          (λ (z : p ≡ caller). inr (rw z (answers (rw z at ok))))
          (λ z. inl (used, z))

      pub call_keeps : Grew r q ts (set ts x (changed (table_at ts x) k (table_at ts x).count (calling r (made ts x k) caller m))) os hs ds
      call_keeps =
          made_keeps v one x seated all size k inside (table_at ts x).count (calling r (made ts x k) caller m) used (omega arith) (λ j l _. l) (λ _. recorded_grown) new_call
          (λ sl _ w. inl (used, recorded_cause sl w))

  -- an execution made: only its sender has called
  module _ (room : (table_at ts x).count < executions_most) (id : ℕ) (digest : List ℕ) where
    pub not_delivered : (p : ℕ) → Correct r p → Done (opening r x id digest m) (done_at ds p) → ⊥
    not_delivered p ok d =
        let o = not_done (opened x id digest) m _ (done_at ds p) (orders r _ m) small (few p ok) d in
        let z = o.numbered in
        omega arith

    module _ (answers : Correct r x → Called q (opening r x id digest m) x (hold_at hs x) (done_at ds x) x)
        (spreads : (sl : ℕ) → Matches q sl (opening r x id digest m) → Cause r hs ds x (opening r x id digest m) sl → Spread r os hs ds x (opening r x id digest m) sl) where
      first_call : (p : ℕ) → Correct r p → has (opening r x id digest m).called p ≡ true
          → (((table_at ts x).count < (table_at ts x).count) × (has (made ts x (table_at ts x).count).called p ≡ true))
          ⊎ Called q (opening r x id digest m) x (hold_at hs p) (done_at ds p) p
      first_call p ok e =
          either (join_back nobody x p seated (rw (orders r (opened x id digest) m).called at e))
          (λ (z : p ≡ x). inr (rw z (answers (rw z at ok))))
          (λ z. apart (has nobody p) z (nobody_has p))

      pub send_keeps : Grew r q ts (set ts x (changed (table_at ts x) (table_at ts x).count ((table_at ts x).count + 1) (opening r x id digest m))) os hs ds
      send_keeps =
          made_keeps v one x seated all size (table_at ts x).count room ((table_at ts x).count + 1) (opening r x id digest m) (omega arith) (omega arith) (λ j l d. omega arith)
          (λ l. absurd (omega arith)) first_call (λ sl g w. inr (spreads sl g w))
