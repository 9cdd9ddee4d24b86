-- What a chain of iterators returns, said of places: std's lemma of the call and the law of `Items` in one. Assumes nothing.
use Rattle.std.proofs.Common.{◌≡◌, ℕ, Bool, true, false, ◌&&◌, List, length, get_or, take, ◌∙◌, ltb, Option, Some, None}
use denote.Param.Members.{Mut}
use denote.Ref.{Bor}
use Rattle.std.specs.Fn.{Called, CalledAt}
use Rattle.std.specs.Iterator.{YieldsThen, Drains}
use Rattle.std.specs.Iterator.Adapters.{filter_source, filter_callee, filter_steps}
use Rattle.std.specs.declared.iter.Filter.{Filter}
use Rattle.std.specs.List.{FoldsTo, count_by, range_with_len}
use Rattle.std.specs.Option.{MatchOption}
use Rattle.std.proofs.lemmas.Iterator.{YieldsList}
use Rattle.std.proofs.lemmas.Iterator.Search.{all_from_yields_List, any_from_yields_List, position_from_yields_List}
use Rattle.std.proofs.lemmas.Iterator.Consumers.{YieldsList-from_filter, count_from_yields_List}
use Rattle.std.proofs.lemmas.List.Sums.{length-filter}
use Rattle.search.specs.Search.{first, any, every, count}
use Rattle.search.proofs.Items.{first_items, any_items, every_items, count_items, first_taken, any_taken, any_numbers, every_numbers, count_numbers}

-- a closure that computes a test of what it is given, and of what it is lent
abbrev pub Tests : {A B F : Type 0} → (A → B) → Mut F (A × Unit {0}) Bool → F → (B → Bool) → Type 0
Tests {A = A} {F = F} v g f p = (x : A) (b : Bool) (q : F) → Called g f (x, tt) b q → (q ≡ f) × (b ≡ p (v x))

abbrev pub TestsLent : {A B F : Type 0} → (A → B) → Mut F (Bor A × Unit {0}) Bool → F → (B → Bool) → Type 0
TestsLent {A = A} {F = F} v g f p = (x : A) (b : Bool) (q : F) → CalledAt g f x b q → (q ≡ f) × (b ≡ p (v x))

-- the clauses `ran` of `all`, `any`, `position` and `count`
abbrev pub AllRan : {S A F : Type 0} → (S → Option A → S → Type 0) → Mut F (A × Unit {0}) Bool → S → S → F → Bool → Type 0
AllRan {A = A} {F = F} steps g s u f r =
    (xs : List A) × (o : Option A) × (j : F) × YieldsThen steps s xs o u × FoldsTo (λ p x q. Called g p (x, tt) true q) f xs j
    × MatchOption o (r ≡ true) (λ x. (r ≡ false) × ((h : F) × Called g j (x, tt) false h))

abbrev pub AnyRan : {S A F : Type 0} → (S → Option A → S → Type 0) → Mut F (A × Unit {0}) Bool → S → S → F → Bool → Type 0
AnyRan {A = A} {F = F} steps g s u f r =
    (xs : List A) × (o : Option A) × (j : F) × YieldsThen steps s xs o u × FoldsTo (λ p x q. Called g p (x, tt) false q) f xs j
    × MatchOption o (r ≡ false) (λ x. (r ≡ true) × ((h : F) × Called g j (x, tt) true h))

abbrev pub PositionRan : {S A F : Type 0} → (S → Option A → S → Type 0) → Mut F (A × Unit {0}) Bool → S → S → F → Option ℕ → Type 0
PositionRan {A = A} {F = F} steps g s u f r =
    (xs : List A) × (o : Option A) × (j : F) × YieldsThen steps s xs o u × FoldsTo (λ p x q. Called g p (x, tt) false q) f xs j
    × MatchOption o (r ≡ None) (λ x. (r ≡ Some (length xs)) × ((h : F) × Called g j (x, tt) true h))

abbrev pub CountRan : {S A : Type 0} → (S → Option A → S → Type 0) → S → ℕ → Type 0
CountRan {A = A} steps s r = (xs : List A) × Drains steps s xs × (r ≡ length xs)

module _ {S A F : Type 0} {steps : S → Option A → S → Type 0} {g : Mut F (A × Unit {0}) Bool} {s : S} {f : F} (u : S) where
  -- at a list's elements, and at its first c
  module _ {B : Type 0} {v : A → B} (p : B → Bool) (d : B) (xs : List B) (n : ℕ) where
    pub every_places : (r : Bool) → AllRan steps g s u f r → YieldsList steps v s xs → Tests v g f p → length xs ≡ n → r ≡ every (λ (k : ℕ). p (get_or xs k d)) n
    every_places r ran road k l = all_from_yields_List p _ _ r ran road k ∙ every_items p d xs n l

    pub any_places : (r : Bool) → AnyRan steps g s u f r → YieldsList steps v s xs → Tests v g f p → length xs ≡ n → r ≡ any (λ (k : ℕ). p (get_or xs k d)) n
    any_places r ran road k l = any_from_yields_List p _ _ r ran road k ∙ any_items p d xs n l

    pub first_places : (r : Option ℕ) → PositionRan steps g s u f r → YieldsList steps v s xs → Tests v g f p → length xs ≡ n → r ≡ first (λ (k : ℕ). p (get_or xs k d)) n
    first_places r ran road k l = position_from_yields_List p _ _ r ran road k ∙ first_items p d xs n l

    pub any_places_taken : (c : ℕ) (r : Bool) → AnyRan steps g s u f r → YieldsList steps v s (take c xs) → Tests v g f p → length xs ≡ n
        → r ≡ any (λ (k : ℕ). ltb k c && p (get_or xs k d)) n
    any_places_taken c r ran road k l = any_from_yields_List p _ _ r ran road k ∙ any_taken p d xs c n l

    pub first_places_taken : (c : ℕ) (r : Option ℕ) → PositionRan steps g s u f r → YieldsList steps v s (take c xs) → Tests v g f p → length xs ≡ n
        → r ≡ first (λ (k : ℕ). ltb k c && p (get_or xs k d)) n
    first_places_taken c r ran road k l = position_from_yields_List p _ _ r ran road k ∙ first_taken p d xs c n l

  -- at the numbers below n
  module _ {v : A → ℕ} (t : ℕ → Bool) (n : ℕ) where
    pub every_numbered : (r : Bool) → AllRan steps g s u f r → YieldsList steps v s (range_with_len 0 n) → Tests v g f t → r ≡ every t n
    every_numbered r ran road k = all_from_yields_List t _ _ r ran road k ∙ every_numbers t n

    pub any_numbered : (r : Bool) → AnyRan steps g s u f r → YieldsList steps v s (range_with_len 0 n) → Tests v g f t → r ≡ any t n
    any_numbered r ran road k = any_from_yields_List t _ _ r ran road k ∙ any_numbers t n

-- `count` after `filter`
module _ {S A F : Type 0} {steps : S → Option A → S → Type 0} {g : Mut F (Bor A × Unit {0}) Bool} {s : Filter S F} {f : F} where
  filtered : {B : Type 0} {v : A → B} (p : B → Bool) (all : List B) (r : ℕ) → CountRan (filter_steps steps g) s r → YieldsList steps v (filter_source s) all → filter_callee s ≡ f → TestsLent v g f p → r ≡ count_by p all
  filtered p all r ran road e k = count_from_yields_List s r ran (YieldsList-from_filter g p road e k) ∙ length-filter p all

  pub count_places : {B : Type 0} {v : A → B} (p : B → Bool) (d : B) (xs : List B) (n r : ℕ) → CountRan (filter_steps steps g) s r → YieldsList steps v (filter_source s) xs → filter_callee s ≡ f → TestsLent v g f p → length xs ≡ n
      → r ≡ count (λ (k : ℕ). p (get_or xs k d)) n
  count_places p d xs n r ran road e k l = filtered p xs r ran road e k ∙ count_items p d xs n l

  pub count_numbered : {v : A → ℕ} (t : ℕ → Bool) (n r : ℕ) → CountRan (filter_steps steps g) s r → YieldsList steps v (filter_source s) (range_with_len 0 n) → filter_callee s ≡ f → TestsLent v g f t → r ≡ count t n
  count_numbered t n r ran road e k = filtered t (range_with_len 0 n) r ran road e k ∙ count_numbers t n
