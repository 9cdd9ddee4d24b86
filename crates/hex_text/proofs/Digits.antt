-- The digits of bytes, as the library `hex` writes them. Assumes nothing.
use Rattle.std.proofs.Common.{◌≡◌, ℕ, zero, suc, ◌/◌, ◌%◌, ◌<◌, ◌≤◌, ◌==◌, List, [], ◌∷◌, ◌++◌, length, get_or, take, slice_index, refl, sym, ap, ◌∙◌, arith, take_all}
use lib.Seq.{take-suc}
use Rattle.std.proofs.lemmas.Bool.{eqb-true}
use Rattle.search.specs.Search.{first_from}
use Rattle.search.proofs.Every.{every_at}
use Rattle.hex.specs.Hex.{IsBytes, encode_with, encode_lower, lower_digits}
use Rattle.hex_text.specs.Hex.{digit, hex_digits}

-- the digit of a number below 16, as the table has it
digit_is : (n : ℕ) → n < 16 → slice_index lower_digits n ≡ digit n
unfolding first_from
digit_is n h = eqb-true _ _ (every_at (λ (k : ℕ). slice_index lower_digits k == digit k) 16 refl n h)

encode-append : (t xs ys : List ℕ) → encode_with t (xs ++ ys) ≡ encode_with t xs ++ encode_with t ys
unfolding encode_with
encode-append t [] ys = refl
encode-append t (b ∷ xs) ys = rw (encode-append t xs ys) refl

encode_first : (bs : List ℕ) → IsBytes bs → (n : ℕ) → n ≤ length bs → encode_lower (take n bs) ≡ hex_digits bs n
unfolding encode_with hex_digits
encode_first bs b zero h = refl
encode_first bs b (suc n) h =
    let f : get_or bs n 0 < 256 = b n in
    let x = digit_is (get_or bs n 0 / 16) (omega arith) in
    let y = digit_is (get_or bs n 0 % 16) (omega arith) in
    rw (take-suc bs n 0 h, encode-append, encode_first bs b n (omega arith), x, y) refl

pub encode_is : (bs : List ℕ) (n : ℕ) → IsBytes bs → length bs ≡ n → encode_lower bs ≡ hex_digits bs n
encode_is bs n b e = ap encode_lower (sym (take_all n bs (omega arith))) ∙ encode_first bs b n (omega arith)
