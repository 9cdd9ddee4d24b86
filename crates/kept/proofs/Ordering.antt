-- The orderer: an execution made and a call recorded leave boxes that fit. Assumes nothing.
use Rattle.std.specs.Prelude.{Some, is_some}
use mathlib.Core.Path.{◌≡◌, refl, sym, ap, ◌∙◌}
use mathlib.Core.Logic.{◌≢◌}
use mathlib.Core.Bool.{true, false, not, ◌&&◌}
use mathlib.Core.List.{List}
use Prim.Native.Nat.{ℕ, ◌+◌, ◌*◌, ◌/◌, ◌%◌, ◌<◌, ◌≤◌}
use native.Mathlib.Omega.{arith}
use lib.Dec.{eqb, ltb}
use lib.ListN.{length, get_or, set, length-set}
use lib.Seq.{get_or-set_same, get_or-set_other}
use borrow.Author.Tests.{eq-eqb, ne_eqb, eqb-true, eqb-false, ltb-true, lt-ltb, le-ltb}
use Rattle.std.proofs.lemmas.Bool.{and_from, and_parts, cases_eq, cases_lt, not-true, not_from_false, or_left}
use Rattle.search.proofs.Laws.{found_in}
use Rattle.world.specs.declared.roster.Roster.{Roster}
use Rattle.world.specs.declared.execution.Execution.{Execution}
use Rattle.world.specs.declared.execution.Executions.{Executions}
use Rattle.world.specs.declared.execution.Ordered.{Ordered}
use Rattle.world.specs.Sizes.{servers, executions_most}
use Rattle.world.specs.Roster.{member, correct}
use Rattle.world.specs.Executions.{no_execution, execution_at, execution_of, opened, called, ordered}
use Rattle.world.specs.Boxes.{no_table}
use Rattle.protocol.specs.Sound.{order_sound, place_sound, new_id, number_at}
use Rattle.world.proofs.Seats.{seat_own}
use Rattle.protocol.specs.declared.boxes.Boxes.{Boxes}
use Rattle.protocol.specs.Rules.{with_executions, made, recorded}
use Rattle.search.proofs.Booleans.{either, sides_more}
use Rattle.search.proofs.Every.{found_at, found_where, any_in, any_none, every_at, every_all}
use Rattle.kept.proofs.Counts.{Numbers, numbers_same, numbers_more}
use Rattle.kept.proofs.Facts.{set_cases, Table, Made, place_in, place_out, place_unused}
use Rattle.kept.proofs.More.{Grows, place_more, entries_more, items_more}
use Rattle.kept.proofs.Putting.{Fits, tables_grow}
use Rattle.kept.proofs.Masking.{Orders, orders, ordered_id, opened_masks, called_masks}

-- a table keeps what can be found in it
grows_by : (t u : Executions) → ((k : ℕ) → k < t.count → k < executions_most → (k < u.count) × ((execution_at u k).id ≡ (execution_at t k).id)) → Grows t u
grows_by t u h id p =
    let w = found_where (execution_of t id) p in
    let k = w.0 in
    let l = found_in _ executions_most k (execution_of t id) refl w.1 in
    let a = and_parts (ltb k t.count) (eqb (execution_at t k).id id) (found_at _ executions_most k w.1) in
    let g = h k (ltb-true k t.count a.0) l in
    let e = eqb-true (execution_at t k).id id a.1 in
    any_in (λ (k : ℕ). ltb k u.count && eqb (execution_at u k).id id) executions_most k l (rw (lt-ltb k u.count g.0) (eq-eqb (execution_at u k).id id (g.1 ∙ e)))

-- what is found is in use, and where nothing is found no id is equal
pub found_made : (t : Executions) (id k : ℕ) → execution_of t id ≡ Some k → k < t.count
found_made t id k e = ltb-true k t.count (and_parts (ltb k t.count) (eqb (execution_at t k).id id) (found_at _ executions_most k e)).0

pub not_found : (t : Executions) (id j : ℕ) → is_some (execution_of t id) ≡ false → t.count ≤ executions_most → j < t.count → (execution_at t j).id ≢ id
not_found t id j e m l =
    eqb-false (execution_at t j).id id (rw (lt-ltb j t.count l) at (any_none (λ (k : ℕ). ltb k t.count && eqb (execution_at t k).id id) executions_most j e (omega arith)))

-- the numbers of all executions, with one sender's table in the place of another
own_number : (ts : List Executions) (x i : ℕ) (t : Executions) → length ts ≡ servers → i < servers * executions_most → i / executions_most ≡ x
    → number_at (set ts x t) i ≡ (execution_at t (i % executions_most)).number
own_number ts x i t l h e =
    let s = seat_own (i / executions_most) (omega arith) ∙ e in
    ap (λ (k : ℕ). (execution_at (get_or (set ts x t) k no_table) (i % executions_most)).number) s
    ∙ ap (λ (v : Executions). (execution_at v (i % executions_most)).number) (get_or-set_same ts x t no_table (omega arith))

other_number : (ts : List Executions) (x i : ℕ) (t : Executions) → i < servers * executions_most → i / executions_most ≢ x → number_at (set ts x t) i ≡ number_at ts i
other_number ts x i t h d =
    let s = seat_own (i / executions_most) (omega arith) in
    ap (λ (k : ℕ). (execution_at (get_or (set ts x t) k no_table) (i % executions_most)).number) s
    ∙ ap (λ (v : Executions). (execution_at v (i % executions_most)).number) (get_or-set_other ts x (i / executions_most) t no_table d)
    ∙ sym (ap (λ (k : ℕ). (execution_at (get_or ts k no_table) (i % executions_most)).number) s)

module _ (ts : List Executions) (x : ℕ) (t u : Executions) (all : length ts ≡ servers) where
  both_numbers : (i : ℕ) → i < servers * executions_most → (i / executions_most ≡ x → (execution_at u (i % executions_most)).number ≡ (execution_at t (i % executions_most)).number)
      → number_at (set ts x u) i ≡ number_at (set ts x t) i
  both_numbers i h f =
      either (cases_eq (i / executions_most) x)
      (λ (e : i / executions_most ≡ x). own_number ts x i u all h e ∙ f e ∙ sym (own_number ts x i t all h e))
      (λ (e : i / executions_most ≢ x). other_number ts x i u h e ∙ sym (other_number ts x i t h e))

-- the ids of a table differ
module _ {r : Roster} {m x : ℕ} {t : Executions} (f : Table r m x t) where
  older : (j i : ℕ) → j < i → i < t.count → (execution_at t j).id ≢ (execution_at t i).id
  unfolding new_id
  older j i a b =
      eqb-false (execution_at t j).id (execution_at t i).id
      (not-true _ (every_at (λ (j : ℕ). not (eqb (execution_at t j).id (execution_at t i).id)) i (f.new i b) j a))

  pub ids_differ : (j i : ℕ) → j < t.count → i < t.count → j ≢ i → (execution_at t j).id ≢ (execution_at t i).id
  ids_differ j i a b d =
      either (cases_lt j i) (λ (l : j < i). older j i l b) (λ (l : i ≤ j). λ z. older i j (omega arith) a (sym z))

-- a table with one execution changed or made
abbrev pub changed : Executions → ℕ → ℕ → Execution → Executions
changed t k c e = record { table = set t.table k e; count = c }

module _ (t : Executions) (k c : ℕ) (e : Execution) (size : length t.table ≡ executions_most) (inside : k < executions_most) where
  changed_here : execution_at (changed t k c e) k ≡ e
  changed_here = get_or-set_same t.table k e no_execution (omega arith)

  changed_else : (j : ℕ) → j ≢ k → execution_at (changed t k c e) j ≡ execution_at t j
  changed_else j d = get_or-set_other t.table k j e no_execution d

  -- numbers
  module _ (ts : List Executions) (x m : ℕ) (all : length ts ≡ servers) (seated : x < servers) (n : Numbers (number_at (set ts x t)) (servers * executions_most) m) where
    pub same_numbers : e.number ≡ (execution_at t k).number → Numbers (number_at (set ts x (changed t k c e))) (servers * executions_most) m
    same_numbers q =
        numbers_same (number_at (set ts x t)) (number_at (set ts x (changed t k c e))) (servers * executions_most) m
        (λ i h. both_numbers ts x t (changed t k c e) all i h
        (λ _. either (cases_eq (i % executions_most) k)
        (λ (z : i % executions_most ≡ k). rw (z, changed_here) q)
        (λ (z : i % executions_most ≢ k). ap (λ (v : Execution). v.number) (changed_else (i % executions_most) z))))
        n

    pub more_numbers : (execution_at t k).number ≡ 0 → e.number ≡ m + 1 → Numbers (number_at (set ts x (changed t k c e))) (servers * executions_most) (m + 1)
    more_numbers none next =
        let z = x * executions_most + k in
        let a : z / executions_most ≡ x = omega arith in
        let b : z % executions_most ≡ k = omega arith in
        let l : z < servers * executions_most = omega arith in
        numbers_more (number_at (set ts x t)) (number_at (set ts x (changed t k c e))) (servers * executions_most) m z n l
        (own_number ts x z t all l a ∙ ap (λ (j : ℕ). (execution_at t j).number) b ∙ none)
        (own_number ts x z (changed t k c e) all l a ∙ ap (λ (j : ℕ). (execution_at (changed t k c e) j).number) b ∙ ap (λ (v : Execution). v.number) changed_here ∙ next)
        (λ i h d. both_numbers ts x t (changed t k c e) all i h
        (λ w. ap (λ (v : Execution). v.number) (changed_else (i % executions_most) (λ y. d (omega arith)))))

  -- the table itself
  module _ (r : Roster) (m n x : ℕ) (f : Table r m x t) (mine : member r x ≡ true) (more : m ≤ n) (counted : k < c) (most : c ≤ executions_most)
      (sides : (j : ℕ) → j ≢ k → ltb j t.count ≡ ltb j c) (good : Made r n x k e) (new : (j : ℕ) → j < c → j ≢ k → (execution_at t j).id ≢ e.id) where
    apart_ids : (j i : ℕ) → j < i → i < c → (execution_at (changed t k c e) j).id ≢ (execution_at (changed t k c e) i).id
    apart_ids j i a b =
        set_cases (λ y. y.id ≢ (execution_at (changed t k c e) i).id) t.table k j e no_execution (omega arith)
        (λ (p : j ≡ k).
        set_cases (λ y. e.id ≢ y.id) t.table k i e no_execution (omega arith)
        (λ (q : i ≡ k). absurd (omega arith))
        (λ (q : i ≢ k). λ z. new i b q (sym z)))
        (λ (p : j ≢ k).
        set_cases (λ y. (execution_at t j).id ≢ y.id) t.table k i e no_execution (omega arith)
        (λ (q : i ≡ k). new j (omega arith) p)
        (λ (q : i ≢ k). older f j i a (ltb-true i t.count (sides i q ∙ lt-ltb i c b))))

    pub table_changed : Table r n x (changed t k c e)
    unfolding new_id
    table_changed =
        record {
          size = length-set t.table k e ∙ size;
          most = most;
          theirs = or_left (member r x) _ mine;
          places = λ j h.
              set_cases (λ y. place_sound r n x c j y ≡ true) t.table k j e no_execution (omega arith)
              (λ (p : j ≡ k). rw p (place_in r n x c k e counted good))
              (λ (p : j ≢ k). place_more r m n x t.count c j _ more (sides j p) (f.places j h));
          new = λ i b. every_all (λ (j : ℕ). not (eqb (execution_at (changed t k c e) j).id (execution_at (changed t k c e) i).id)) i
              (λ j a. not_from_false _ (ne_eqb _ _ (apart_ids j i a b)));
        }

    pub table_grows : (k < t.count → e.id ≡ (execution_at t k).id) → Grows t (changed t k c e)
    table_grows keeps =
        grows_by t (changed t k c e)
        (λ j h _. (
          either (cases_eq j k) (λ (p : j ≡ k). rw p counted) (λ (p : j ≢ k). ltb-true j c (sym (sides j p) ∙ lt-ltb j t.count h)),
          set_cases (λ y. y.id ≡ (execution_at t j).id) t.table k j e no_execution (omega arith)
              (λ (p : j ≡ k). rw p (keeps (rw p at h)))
              (λ _. refl),
        ))

-- a numbered execution's mask is final
called_order : (r : Roster) (m : ℕ) (e : Execution) (s : ℕ) → e.number ≢ 0 → order_sound r m e ≡ true → order_sound r m (called e s) ≡ true
unfolding order_sound
called_order r m e s d p = let z = ne_eqb e.number 0 d in rw z (rw z at p)

-- boxes with a table changed by the orderer
module _ {r : Roster} {stored m : ℕ} {ts : List Executions} {server holder x : ℕ} {b : Boxes} (f : Fits r stored m ts server holder x b)
    (all : length ts ≡ servers) (seated : x < servers) (mine : member r x ≡ true) where
  module _ (k c : ℕ) (e : Execution) (o : Ordered) (ord : Orders r b.numbered x k e o) (inside : k < executions_most) (counted : k < c) (most : c ≤ executions_most)
      (sides : (j : ℕ) → j ≢ k → ltb j b.executions.count ≡ ltb j c) (new : (j : ℕ) → j < c → j ≢ k → (execution_at b.executions j).id ≢ e.id)
      (was : (execution_at b.executions k).number ≡ e.number) (keeps : k < b.executions.count → e.id ≡ (execution_at b.executions k).id) where
    up : b.numbered ≤ o.numbered
    up = either ord.change (λ a. omega (arith, a.0)) (λ a. omega (arith, a.0))

    numbers_of : Numbers (number_at (set ts x (changed b.executions k c o.execution))) (servers * executions_most) o.numbered
    numbers_of =
        either ord.change
        (λ (a : (o.numbered ≡ b.numbered) × (o.execution.number ≡ e.number)).
        rw a.0
        (same_numbers b.executions k c o.execution f.table.size inside ts x b.numbered all seated f.numbers (a.1 ∙ sym was)))
        (λ (a : (o.numbered ≡ b.numbered + 1) × (e.number ≡ 0) × (o.execution.number ≡ b.numbered + 1)).
        rw a.0
        (more_numbers b.executions k c o.execution f.table.size inside ts x b.numbered all seated f.numbers (was ∙ a.1) a.2))

    new_of : (j : ℕ) → j < c → j ≢ k → (execution_at b.executions j).id ≢ o.execution.id
    new_of j p q z = new j p q (z ∙ ord.id)

    grows_of : Grows b.executions (changed b.executions k c o.execution)
    grows_of =
        table_grows b.executions k c o.execution f.table.size inside r b.numbered o.numbered x f.table mine up counted most sides ord.made new_of
        (λ h. ord.id ∙ keeps h)

    pub changed_fits : Fits r stored m ts server holder x (with_executions b (changed b.executions k c o.execution) o.numbered)
    changed_fits =
        record {
          same = f.same;
          more = omega (arith, f.more, up);
          grows = λ id p. grows_of id (f.grows id p);
          numbers = numbers_of;
          table = table_changed b.executions k c o.execution f.table.size inside r b.numbered o.numbered x f.table mine up counted most sides ord.made new_of;
          packets = f.packets;
          entries =
              entries_more (omega arith) up
              (tables_grow ts x b.executions (changed b.executions k c o.execution) (omega arith) grows_of) f.entries;
          items = items_more (omega arith) up f.items;
        }

  -- an execution made
  pub made_fits : (id : ℕ) (digest : List ℕ) → b.executions.count < executions_most
      → ((j : ℕ) → j < b.executions.count → (execution_at b.executions j).id ≢ id) → (correct r x ≡ true → id ≡ b.executions.count + 1)
      → Fits r stored m ts server holder x (made r x id digest b)
  unfolding made
  made_fits id digest room new gapless =
      let c = b.executions.count in
      changed_fits c (c + 1) (opened x id digest) (ordered r (opened x id digest) b.numbered)
      (orders r b.numbered x c (opened x id digest) f.numbers.most (opened_masks r x id digest seated mine) (λ z. absurd (z refl)) gapless)
      room (omega arith) (omega arith) (λ j d. sides_more j c d) (λ j p d. new j (omega arith))
      (place_unused r b.numbered x c c _ (le-ltb c c (omega arith)) (f.table.places c room)) (λ z. absurd (omega arith))

  -- which can then be found
  pub made_found : (id : ℕ) (digest : List ℕ) → b.executions.count < executions_most → is_some (execution_of (made r x id digest b).executions id) ≡ true
  unfolding made
  made_found id digest room =
      let c = b.executions.count in
      let o = ordered r (opened x id digest) b.numbered in
      let t = changed b.executions c (c + 1) o.execution in
      let e : (execution_at t c).id ≡ id =
      ap (λ (v : Execution). v.id) (changed_here b.executions c (c + 1) o.execution f.table.size room) ∙ ordered_id r (opened x id digest) b.numbered
      in
      any_in (λ (k : ℕ). ltb k t.count && eqb (execution_at t k).id id) executions_most c room
      (and_from _ _ (lt-ltb c (c + 1) (omega arith)) (eq-eqb (execution_at t c).id id e))

  -- a call recorded
  pub recorded_fits : (s k : ℕ) → k < b.executions.count → s < servers → member r s ≡ true → Fits r stored m ts server holder x (recorded r s k b)
  unfolding recorded
  recorded_fits s k there l caller =
      let t = b.executions in
      let e = execution_at t k in
      let top = f.table.most in
      let inside : k < executions_most = omega arith in
      let g = place_out r b.numbered x t.count k e there (f.table.places k inside) in
      changed_fits k t.count (called e s) (ordered r (called e s) b.numbered)
      (orders r b.numbered x k (called e s) f.numbers.most (called_masks r x e s l caller g.masks) (λ d. called_order r b.numbered e s d g.order) g.gapless)
      inside there top (λ j d. refl) (λ j p d. ids_differ f.table j k p there d) refl (λ z. refl)
