-- The masks of an execution, and its number: made, called, and ordered. Assumes nothing.
use mathlib.Core.Path.{◌≡◌, refl}
use mathlib.Core.Logic.{◌⊎◌, inl, inr, ◌≢◌}
use mathlib.Core.Bool.{Bool, true, false, cond, not, ◌&&◌}
use mathlib.Core.List.{List}
use Prim.Native.Nat.{ℕ, ◌+◌, ◌*◌, ◌<◌, ◌≤◌}
use native.Mathlib.Omega.{arith}
use lib.Count.{ones}
use lib.Dec.{eqb}
use borrow.Author.Tests.{ne_eqb, eqb-true, eqb-false, le-leb}
use Rattle.std.proofs.lemmas.Bool.{and_from, and_parts, cond_both, not-false, not-true, not_from_false}
use Rattle.world.specs.declared.roster.Roster.{Roster}
use Rattle.world.specs.declared.execution.Execution.{Execution}
use Rattle.world.specs.declared.execution.Ordered.{Ordered}
use Rattle.world.specs.Sizes.{servers, executions_most}
use Rattle.world.specs.Masks.{nobody, has, join}
use Rattle.world.specs.Roster.{member, correct, threshold, strays}
use Rattle.world.specs.Executions.{next_number, opened, called, with_number, ordered}
use Rattle.protocol.specs.Sound.{lies_within, masks_sound, order_sound}
use Rattle.search.specs.Tests.{implies}
use Rattle.search.proofs.Booleans.{apart, either, test, and5, implies_in, implies_out}
use Rattle.search.proofs.Every.{any_none, any_no, every_at, every_all}
use Rattle.world.proofs.Bits.{join_same, join_back, join_keeps, nobody_has}
use Rattle.kept.proofs.Facts.{Made}

-- no bit at n or above
members_out : (r : Roster) (mask : ℕ) → not (strays r mask) ≡ true → (i : ℕ) → i < servers → has mask i ≡ true → member r i ≡ true
members_out r mask e i h y = not-false (member r i) (rw y at (any_none (λ (i : ℕ). has mask i && not (member r i)) servers i (not-true _ e) h))

members_in : (r : Roster) (mask : ℕ) → ((i : ℕ) → i < servers → has mask i ≡ true → member r i ≡ true) → not (strays r mask) ≡ true
members_in r mask f =
    not_from_false (strays r mask)
    (any_no (λ (i : ℕ). has mask i && not (member r i)) servers
    (λ i h. test (has mask i) (λ y. rw (y, f i h y)) (λ n. rw n)))

pub record Masked (r : Roster) (x : ℕ) (calls mask : ℕ) : Type 0 where
  pub callers : (i : ℕ) → i < servers → has calls i ≡ true → member r i ≡ true
  pub proposers : (i : ℕ) → i < servers → has mask i ≡ true → member r i ≡ true
  pub within : (i : ℕ) → i < servers → has mask i ≡ true → has calls i ≡ true
  pub caller : has calls x ≡ true
  pub proposer : has mask x ≡ true

pub masks_out : (r : Roster) (x : ℕ) (e : Execution) → masks_sound r x e ≡ true → Masked r x e.called e.mask
unfolding masks_sound lies_within
masks_out r x e p =
    let a = and5 (not (strays r e.called)) (not (strays r e.mask)) (lies_within e.mask e.called) (has e.called x) (has e.mask x) p in
    record {
      callers = members_out r e.called a.0;
      proposers = members_out r e.mask a.1;
      within = λ i h. implies_out (has e.mask i) (has e.called i) (every_at (λ (i : ℕ). implies (has e.mask i) (has e.called i)) servers a.2 i h);
      caller = a.3;
      proposer = a.4;
    }

masks_in : (r : Roster) (x : ℕ) (e : Execution) → Masked r x e.called e.mask → masks_sound r x e ≡ true
unfolding masks_sound lies_within
masks_in r x e f =
    and_from _ _
    (and_from _ _
    (and_from _ _ (and_from _ _ (members_in r e.called f.callers) (members_in r e.mask f.proposers))
    (every_all (λ (i : ℕ). implies (has e.mask i) (has e.called i)) servers (λ i h. implies_in (has e.mask i) (has e.called i) (f.within i h))))
    f.caller)
    f.proposer

-- one server more in a mask of members
joined : (r : Roster) (mask s : ℕ) → s < servers → member r s ≡ true → ((i : ℕ) → i < servers → has mask i ≡ true → member r i ≡ true)
    → (i : ℕ) → i < servers → has (join mask s) i ≡ true → member r i ≡ true
joined r mask s l mine f i h y = either (join_back mask s i l y) (λ (e : i ≡ s). rw e mine) (λ (z : has mask i ≡ true). f i h z)

pub opened_masks : (r : Roster) (s id : ℕ) (digest : List ℕ) → s < servers → member r s ≡ true → masks_sound r s (opened s id digest) ≡ true
opened_masks r s id digest l mine =
    let none : (i : ℕ) → i < servers → has nobody i ≡ true → member r i ≡ true = λ i _ y. apart (has nobody i) y (nobody_has i) in
    masks_in r s (opened s id digest)
    (record {
      callers = joined r nobody s l mine none;
      proposers = joined r nobody s l mine none;
      within = λ i h y. y;
      caller = join_same nobody s l;
      proposer = join_same nobody s l;
    })

-- a call, at an execution with a number and at one without
called_masked : (r : Roster) (x calls mask s : ℕ) (b : Bool) → s < servers → member r s ≡ true → Masked r x calls mask
    → Masked r x (join calls s) (cond b (join mask s) mask)
called_masked r x calls mask s true l mine f =
    record {
      callers = joined r calls s l mine f.callers;
      proposers = joined r mask s l mine f.proposers;
      within = λ i h y. either (join_back mask s i l y) (λ (e : i ≡ s). rw e (join_same calls s l)) (λ (z : has mask i ≡ true). join_keeps calls s i l (f.within i h z));
      caller = join_keeps calls s x l f.caller;
      proposer = join_keeps mask s x l f.proposer;
    }
called_masked r x calls mask s false l mine f =
    record {
      callers = joined r calls s l mine f.callers;
      proposers = f.proposers;
      within = λ i h y. join_keeps calls s i l (f.within i h y);
      caller = join_keeps calls s x l f.caller;
      proposer = f.proposer;
    }

pub called_masks : (r : Roster) (x : ℕ) (e : Execution) (s : ℕ) → s < servers → member r s ≡ true → masks_sound r x e ≡ true → masks_sound r x (called e s) ≡ true
called_masks r x e s l mine p =
    masks_in r x (called e s) (called_masked r x e.called e.mask s (eqb e.number 0) l mine (masks_out r x e p))

-- the orderer keeps an execution's id
pub ordered_id : (r : Roster) (e : Execution) (m : ℕ) → (ordered r e m).execution.id ≡ e.id
unfolding ordered
ordered_id r e m = cond_both (eqb e.number 0 && eqb (ones e.mask) (threshold r)) _ _ (λ (o : Ordered). o.execution.id ≡ e.id) (λ _. refl) (λ _. refl)

-- what it makes of an execution
pub record Orders (r : Roster) (m x k : ℕ) (e : Execution) (o : Ordered) : Type 0 where
  pub id : o.execution.id ≡ e.id
  pub made : Made r o.numbered x k o.execution
  pub change : ((o.numbered ≡ m) × (o.execution.number ≡ e.number)) ⊎ ((o.numbered ≡ m + 1) × (e.number ≡ 0) × (o.execution.number ≡ m + 1))

module _ (r : Roster) (m x k : ℕ) (e : Execution) (small : m ≤ servers * executions_most) (masks : masks_sound r x e ≡ true)
    (order : e.number ≢ 0 → order_sound r m e ≡ true) (gapless : correct r x ≡ true → e.id ≡ k + 1) where
  next_number_lem : next_number m ≡ m + 1
  next_number_lem = omega arith

  given : (eqb e.number 0 && eqb (ones e.mask) (threshold r)) ≡ true → Orders r m x k e (record { execution = with_number e (next_number m); numbered = next_number m })
  unfolding masks_sound order_sound
  given p =
      let a = and_parts (eqb e.number 0) (eqb (ones e.mask) (threshold r)) p in
      record {
        id = refl;
        made = record {
          masks = masks;
          order = rw (ne_eqb (next_number m) 0 (λ z. omega arith)) (and_from _ _ a.1 (le-leb (next_number m) (next_number m) (omega arith)));
          gapless = gapless;
        };
        change = inr (next_number_lem, eqb-true e.number 0 a.0, next_number_lem);
      }

  left : (eqb e.number 0 && eqb (ones e.mask) (threshold r)) ≡ false → Orders r m x k e (record { execution = e; numbered = m })
  unfolding order_sound
  left p =
      record {
        id = refl;
        made = record {
          masks = masks;
          order = test (eqb e.number 0) (λ z. let n = rw z at p in rw (z, n)) (λ z. order (eqb-false e.number 0 z));
          gapless = gapless;
        };
        change = inl (refl, refl);
      }

  pub orders : Orders r m x k e (ordered r e m)
  unfolding ordered
  orders = cond_both (eqb e.number 0 && eqb (ones e.mask) (threshold r)) _ _ (λ o. Orders r m x k e o) given left
