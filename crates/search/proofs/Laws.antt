-- The law of a search: its loop's invariant is `Passed t n k`; and that of a count. Assumes nothing.
use Rattle.std.specs.Prelude.{None, Option, Some}
use mathlib.Core.Path.{◌≡◌, refl, sym, ap, ◌∙◌}
use mathlib.Core.Bool.{Bool, true, false, cond}
use Prim.Native.Nat.{ℕ, zero, suc, ◌+◌, ◌-◌, ◌<◌, ◌≤◌}
use native.Mathlib.Omega.{arith}
use native.Mathlib.Numerals.{add-one}
use Rattle.search.specs.Search.{first_from, first, count}

first_here : (t : ℕ → Bool) (at n : ℕ) → t at ≡ true → first_from t at (suc n) ≡ Some at
unfolding first_from
first_here t at n e = rw e

first_more : (t : ℕ → Bool) (at n : ℕ) → t at ≡ false → first_from t at (suc n) ≡ first_from t (at + 1) n
unfolding first_from
first_more t at n e = rw e

first_none : (t : ℕ → Bool) (at : ℕ) → first_from t at 0 ≡ None
unfolding first_from
first_none t at = refl

-- what a search that has passed k of n places knows
pub record Passed (t : ℕ → Bool) (n k : ℕ) : Type 0 where
  pub within : k ≤ n
  pub same : first t n ≡ first_from t k (n - k)

pub passed_none : (t : ℕ → Bool) (n : ℕ) → Passed t n 0
passed_none t n =
    let b : n - 0 ≡ n = omega arith in
    record { within = omega arith; same = rw b }

pub passed_more : (t : ℕ → Bool) (n k : ℕ) → k < n → t k ≡ false → Passed t n k → Passed t n (k + 1)
passed_more t n k p e q =
    let s : n - k ≡ suc (n - (k + 1)) = omega arith in
    record { within = omega arith; same = q.same ∙ rw (s, first_more t k (n - (k + 1)) e) }

pub passed_here : (t : ℕ → Bool) (n k : ℕ) → k < n → t k ≡ true → Passed t n k → Some k ≡ first t n
passed_here t n k p e q =
    let s : n - k ≡ suc (n - (k + 1)) = omega arith in
    sym (q.same ∙ rw s (first_here t k (n - (k + 1)) e))

pub passed_all : (t : ℕ → Bool) (n k : ℕ) → k ≡ n → Passed t n k → None ≡ first t n
passed_all t n k p q =
    let s : n - k ≡ 0 = omega arith in
    sym (q.same ∙ rw s (first_none t k))

in_step : (rest : Option ℕ) (at n i : ℕ) (b : Bool) → (rest ≡ Some i → i < at + 1 + n) → cond b (Some at) rest ≡ Some i → i < at + suc n
in_step rest at n i true h e = let z : i ≡ at = cc in omega arith
in_step rest at n i false h e = omega (arith, h e)

in_from : (t : ℕ → Bool) (at n i : ℕ) → first_from t at n ≡ Some i → i < at + n
unfolding first_from
in_from t at zero i e = let z : ◌≡◌ {A = ℕ} 0 1 = cc in omega arith
in_from t at (suc n) i e = in_step (first_from t (at + 1) n) at n i (t at) (in_from t (at + 1) n i) e

-- what is found lies among the n places
pub found_in : (t : ℕ → Bool) (n i : ℕ) (f : Option ℕ) → f ≡ first t n → f ≡ Some i → i < n
found_in t n i f e q = omega (arith, in_from t 0 n i (sym e ∙ q))

-- a count: none yet, one place more at which the test holds or not, and never more than the places
pub count_none : (t : ℕ → Bool) → count t 0 ≡ 0
unfolding count
count_none t = refl

count_yes : (t : ℕ → Bool) (n : ℕ) → t n ≡ true → count t (n + 1) ≡ count t n + 1
unfolding count
count_yes t n e = ap (λ (m : ℕ). count t m) (add-one n) ∙ rw e

count_no : (t : ℕ → Bool) (n : ℕ) → t n ≡ false → count t (n + 1) ≡ count t n
unfolding count
count_no t n e = let z : count t n + 0 ≡ count t n = omega arith in ap (λ (m : ℕ). count t m) (add-one n) ∙ rw (e, z)

-- a counting loop's turn
pub counted_yes : (t : ℕ → Bool) (k n m : ℕ) → n ≡ count t k → t k ≡ true → m ≡ n + 1 → m ≡ count t (k + 1)
counted_yes t k n m e y q = q ∙ ap (λ (x : ℕ). x + 1) e ∙ sym (count_yes t k y)

pub counted_no : (t : ℕ → Bool) (k n m : ℕ) → n ≡ count t k → t k ≡ false → m ≡ n → m ≡ count t (k + 1)
counted_no t k n m e y q = q ∙ e ∙ sym (count_no t k y)

-- two tests that agree at the n places have the same count
pub count_same : (t u : ℕ → Bool) (n : ℕ) → ((i : ℕ) → i < n → t i ≡ u i) → count t n ≡ count u n
unfolding count
count_same t u zero h = refl
count_same t u (suc n) h = rw (h n (omega arith), count_same t u n (λ i p. h i (omega arith)))
