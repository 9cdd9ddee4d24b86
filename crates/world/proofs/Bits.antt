-- Laws of masks as the code tests and joins them, and of a mask with one server more. Assumes nothing.
use Rattle.std.proofs.Common.{◌≡◌, ℕ, zero, suc, ◌+◌, ◌*◌, ◌/◌, ◌%◌, ◌^◌, ◌<◌, ◌≤◌, true, false, eqb, ◌≢◌, ◌⊎◌, sym, refl, ◌∙◌, inl, inr, lt_of_lt_of_le, mod-eq_of_lt, div-one, arith, pow_mono, le-ltb, lt-ltb}
use native.Mathlib.Nat.{div-div-eq-div-mul, pow-succ', div-eq_of_lt}
use lib.Bits.{bit_and, bit_or, and_mask, or_step, or_zero_r}
use lib.Pow.{pow-lt}
use Rattle.std.proofs.lemmas.Bool.{cases_eq}
use Rattle.search.proofs.Booleans.{either}
use Rattle.world.specs.Sizes.{servers}
use Rattle.world.specs.Masks.{has, join}

-- no server past the eight is in a mask of eight bits
pub has_past : (m i : ℕ) → m < 256 → 8 ≤ i → false ≡ has m i
unfolding has
has_past m i h k = let l : m < 2 ^ i = lt_of_lt_of_le h (pow_mono k) in rw (div-eq_of_lt l)

pub has_bit : (m i : ℕ) → eqb (bit_and (m / 2 ^ i) 1) 1 ≡ has m i
unfolding has
has_bit m i = rw (and_mask (m / 2 ^ i) 1)

pub join_past : (m i : ℕ) → 8 ≤ i → m ≡ join m i
unfolding join
join_past m i k = rw (le-ltb _ _ k)

pub join_bit : (m i : ℕ) → i < 8 → bit_or m (1 * 2 ^ i % 256) ≡ join m i
unfolding join
join_bit m i k =
    let e : 1 * 2 ^ i ≡ 2 ^ i = omega arith in
    rw (e, mod-eq_of_lt (pow-lt k), lt-ltb _ _ k)

pub has_zero : (m : ℕ) → has m 0 ≡ eqb (m % 2) 1
unfolding has
has_zero m = rw div-one

pub has_suc : (m i : ℕ) → has m (suc i) ≡ has (m / 2) i
unfolding has
has_suc m i = rw (pow-succ' 2 i, ← div-div-eq-div-mul m 2 (2 ^ i))

-- a digit in front of a number
digit : (a b i : ℕ) → b < 2 → has (a * 2 + b) (suc i) ≡ has a i
digit a b i h = let e : (a * 2 + b) / 2 ≡ a = omega arith in has_suc (a * 2 + b) i ∙ rw e

first_digit : (a b : ℕ) → b < 2 → has (a * 2 + b) 0 ≡ eqb b 1
first_digit a b h = let e : (a * 2 + b) % 2 ≡ b = omega arith in has_zero (a * 2 + b) ∙ rw e

pow_half : (i : ℕ) → (2 ^ suc i / 2 ≡ 2 ^ i) × (2 ^ suc i % 2 ≡ 0)
pow_half i = omega arith

or_suc : (m i : ℕ) → bit_or m (2 ^ suc i) ≡ bit_or (m / 2) (2 ^ i) * 2 + m % 2
or_suc m i = or_step m (2 ^ suc i) ∙ rw ((pow_half i).0, (pow_half i).1) (omega arith)

or_one : (m : ℕ) → bit_or m 1 ≡ m / 2 * 2 + 1
or_one m = or_step m 1 ∙ rw (or_zero_r (m / 2)) (omega arith)

or_same : (i m : ℕ) → has (bit_or m (2 ^ i)) i ≡ true
or_same zero m = rw (or_one m) (first_digit (m / 2) 1 (omega arith))
or_same (suc i) m = rw (or_suc m i) (digit (bit_or (m / 2) (2 ^ i)) (m % 2) i (omega arith) ∙ or_same i (m / 2))

or_other : (i m j : ℕ) → j ≢ i → has (bit_or m (2 ^ i)) j ≡ has m j
or_other zero m zero d = absurd (d refl)
or_other zero m (suc j) d = rw (or_one m) (digit (m / 2) 1 j (omega arith) ∙ sym (has_suc m j))
or_other (suc i) m zero d = rw (or_suc m i) (first_digit (bit_or (m / 2) (2 ^ i)) (m % 2) (omega arith) ∙ sym (has_zero m))
or_other (suc i) m (suc j) d =
    rw (or_suc m i) (digit (bit_or (m / 2) (2 ^ i)) (m % 2) j (omega arith) ∙ or_other i (m / 2) j (omega arith) ∙ sym (has_suc m j))

pub join_same : (m i : ℕ) → i < servers → has (join m i) i ≡ true
unfolding join
join_same m i h = rw (lt-ltb i servers h) (or_same i m)

join_other : (m i j : ℕ) → i < servers → j ≢ i → has (join m i) j ≡ has m j
unfolding join
join_other m i j h d = rw (lt-ltb i servers h) (or_other i m j d)

-- a server of the mask with i is i, or was there
pub join_back : (m i j : ℕ) → i < servers → has (join m i) j ≡ true → (j ≡ i) ⊎ (has m j ≡ true)
join_back m i j h e = either (cases_eq j i) (λ k. inl k) (λ k. inr (sym (join_other m i j h k) ∙ e))

pub join_keeps : (m i j : ℕ) → i < servers → has m j ≡ true → has (join m i) j ≡ true
join_keeps m i j h e = either (cases_eq j i) (λ (k : j ≡ i). rw k (join_same m i h)) (λ (k : j ≢ i). join_other m i j h k ∙ e)

pub nobody_has : (j : ℕ) → has 0 j ≡ false
nobody_has zero = has_zero 0
nobody_has (suc j) = has_suc 0 j ∙ nobody_has j
