-- A list of bytes equal to one of zeros. Assumes nothing.
use Rattle.std.proofs.Common.{◌≡◌, ℕ, ◌&&◌, List, [], ◌∷◌, length, refl, ap, ◌∙◌, eqb, replicate}
use Rattle.std.specs.Cmp.Lexicographic.{pointwise}
use Rattle.std.specs.List.{list_all}
use Rattle.search.proofs.Items.{every_items}
use Rattle.protocol.specs.Zeros.{zero_bytes}

zeros_all : (xs : List ℕ) → pointwise eqb xs (replicate (length xs) 0) ≡ list_all (λ b. eqb b 0) xs
zeros_all [] = refl
zeros_all (x ∷ xs) = ap (λ b. eqb x 0 && b) (zeros_all xs)

pub zeros_same : (xs : List ℕ) (n : ℕ) → length xs ≡ n → pointwise eqb xs (replicate n 0) ≡ zero_bytes xs n
unfolding zero_bytes
zeros_same xs n l = rw (← l) (zeros_all xs ∙ every_items (λ b. eqb b 0) 0 xs (length xs) refl)
