-- Tables whose places are used below a count; from there on they are all zeros.
use Rattle.std.specs.Prelude.{ℕ, ◌≡◌, Bool, cond, List, ltb, slice_index_or}
use Rattle.std.specs.Borrow.{Bor}
use Rattle.search.specs.Search.{every}

module _ {A : Type 0} where
  -- the test of an element, with its place or without, that a caller's closure answers
  abbrev pub TestsAt : (ℕ → Bor A → Bool → Type 0) → (ℕ → A → Bool) → Type 0
  TestsAt post t = (k : ℕ) (x : Bor A) (r : Bool) → post k x r → r ≡ t k x.now

  abbrev pub Tests : (Bor A → Bool → Type 0) → (A → Bool) → Type 0
  Tests post t = (x : Bor A) (r : Bool) → post x r → r ≡ t x.now

  -- one test for the places below the count, another for the others of the n
  abbrev pub used_below : (ℕ → A → Bool) → (A → Bool) → A → List A → ℕ → ℕ → Bool
  used_below t z d xs count n =
      every (λ (k : ℕ). cond (ltb k count) (t k (slice_index_or xs k d)) (z (slice_index_or xs k d))) n
