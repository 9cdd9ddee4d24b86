-- Arrays of places of which some are free.
use Rattle.std.specs.Prelude.{ℕ, Bool, List, slice_index_or, slice_set, Option, Some, None}
use Rattle.search.specs.Search.{first}

-- the lowest of n places that is free by a test; past the places stands what a free place holds
abbrev pub free_place : {A : Type 0} → (A → Bool) → A → List A → ℕ → Option ℕ
free_place vacant nothing places n = first (λ (k : ℕ). vacant (slice_index_or places k nothing)) n

-- the places with another value at a place that was found; where none was, as they were
unfoldable pub put_at : {A : Type 0} → List A → A → Option ℕ → List A
put_at places x (Some k) = slice_set places k x
put_at places x None = places
