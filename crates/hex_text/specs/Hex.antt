-- A digest as a line of hex digits.
use Rattle.std.specs.Prelude.{ℕ, zero, suc, ◌+◌, ◌/◌, ◌%◌, cond, List, [], ◌∷◌, ◌++◌, ltb, get_or}
use Rattle.fips180.specs.Digest.{digest_bytes}

-- '0' to '9' are 48 to 57, 'a' to 'f' are 97 to 102
abbrev pub digit : ℕ → ℕ
digit n = cond (ltb n 10) (48 + n) (87 + n % 16)

-- two digits for each of the first n bytes
unfoldable pub hex_digits : List ℕ → ℕ → List ℕ
hex_digits bs zero = []
hex_digits bs (suc n) = hex_digits bs n ++ digit (get_or bs n 0 / 16) ∷ digit (get_or bs n 0 % 16) ∷ []

-- all of them, and a newline
abbrev pub hex_line : List ℕ → List ℕ
hex_line bs = hex_digits bs digest_bytes ++ 10 ∷ []
