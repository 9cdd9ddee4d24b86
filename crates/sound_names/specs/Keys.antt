-- Keys that no two places of a table may share.
use Rattle.std.specs.Prelude.{ℕ, ◌≡◌, Bool, not, List, slice_index_or}
use Rattle.std.specs.Borrow.{Bor}
use Rattle.search.specs.Search.{every}

module _ {A : Type 0} where
  -- the test of two elements that a caller's closure answers
  abbrev pub Compares : (Bor A → Bor A → Bool → Type 0) → (A → A → Bool) → Type 0
  Compares post t = (x y : Bor A) (r : Bool) → post x y r → r ≡ t x.now y.now

  -- no earlier place has the key of place k, by that test; and so for each of the n places
  abbrev pub new_key : (A → A → Bool) → A → List A → ℕ → Bool
  new_key t d xs k = every (λ (j : ℕ). not (t (slice_index_or xs j d) (slice_index_or xs k d))) k

  abbrev pub keys_differ : (A → A → Bool) → A → List A → ℕ → Bool
  keys_differ t d xs n = every (λ (k : ℕ). new_key t d xs k) n
