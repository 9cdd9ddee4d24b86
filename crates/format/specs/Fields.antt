-- Document 01, "Schedule records": the fields of a record, the higher byte of a number first. A byte past the end
-- reads as 0; the reader never hands out a record that reaches there.
use Rattle.std.specs.Prelude.{ℕ, zero, suc, ◌+◌, ◌*◌, ◌^◌, List, [], ◌∷◌, ◌++◌, get_or}

abbrev pub byte_at : List ℕ → ℕ → ℕ
byte_at s at = get_or s at 0

abbrev pub two_at : List ℕ → ℕ → ℕ
two_at s at = byte_at s at * 2 ^ 8 + byte_at s (at + 1)

abbrev pub four_at : List ℕ → ℕ → ℕ
four_at s at = two_at s at * 2 ^ 16 + two_at s (at + 2)

-- n bytes
unfoldable pub bytes_at : List ℕ → ℕ → ℕ → List ℕ
bytes_at s at zero = []
bytes_at s at (suc n) = bytes_at s at n ++ byte_at s (at + n) ∷ []
