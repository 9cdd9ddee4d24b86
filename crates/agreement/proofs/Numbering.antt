-- Each of the numbers 1 to M stands at one place; and a search for what stands at one place only finds it. Assumes nothing.
use Rattle.std.specs.Prelude.{Some}
use mathlib.Core.Path.{◌≡◌, refl, sym, ap, subst, ◌∙◌}
use mathlib.Core.Logic.{◌≢◌}
use mathlib.Core.Bool.{Bool, true}
use Prim.Native.Nat.{ℕ, zero, suc, ◌+◌, ◌-◌, ◌<◌, ◌≤◌}
use native.Mathlib.Omega.{arith}
use lib.Dec.{eqb}
use borrow.Author.Tests.{eq-eqb, eqb-true}
use Rattle.std.proofs.lemmas.Bool.{cases_eq, cases_lt}
use Rattle.search.specs.Search.{first, count}
use Rattle.search.proofs.Laws.{found_in}
use Rattle.search.proofs.Booleans.{either}
use Rattle.search.proofs.Every.{found_at, found_where, any_in}
use Rattle.kept.proofs.Counts.{Numbers, count_some}

-- a search for what stands at one place only
pub first_one : (t : ℕ → Bool) (n k : ℕ) → k < n → t k ≡ true → ((i : ℕ) → i < n → t i ≡ true → i ≡ k) → first t n ≡ Some k
first_one t n k h e one =
    let w = found_where (first t n) (any_in t n k h e) in
    w.1 ∙ ap Some (one w.0 (found_in t n w.0 (first t n) refl w.1) (found_at t n w.0 w.1))

-- what stands at one place counts one or more, and at two places two or more
count_up : (t : ℕ → Bool) (i n : ℕ) → i < n → t i ≡ true → 1 ≤ count t n
unfolding count
count_up t i zero h e = absurd (omega arith)
count_up t i (suc n) h e =
    either (cases_eq i n)
    (λ (s : i ≡ n). let y : t n ≡ true = rw (← s) e in rw y (omega arith))
    (λ (s : i ≢ n). let a = count_up t i n (omega arith) e in omega arith)

count_two : (t : ℕ → Bool) (i j n : ℕ) → i < j → j < n → t i ≡ true → t j ≡ true → 2 ≤ count t n
unfolding count
count_two t i j zero l h d e = absurd (omega arith)
count_two t i j (suc n) l h d e =
    either (cases_eq j n)
    (λ (s : j ≡ n). let a = count_up t i n (omega arith) d in let y : t n ≡ true = rw (← s) e in rw y (omega arith))
    (λ (s : j ≢ n). let a = count_two t i j n l (omega arith) d e in omega arith)

module _ {f : ℕ → ℕ} {n m : ℕ} (s : Numbers f n m) where
  once_of : (k : ℕ) → 0 < k → k ≤ m → count (λ (i : ℕ). eqb (f i) k) n ≡ 1
  once_of k a b = let e : k - 1 + 1 ≡ k = omega arith in subst (λ (j : ℕ). count (λ (i : ℕ). eqb (f i) j) n ≡ 1) e (s.once (k - 1) (omega arith))

  twice : (i j : ℕ) → i < j → j < n → f i ≡ f j → f i ≢ 0 → ⊥
  twice i j l h e d =
      let low = s.low j h in
      let one = once_of (f j) (omega arith) low in
      let two = count_two (λ (i : ℕ). eqb (f i) (f j)) i j n l h (eq-eqb (f i) (f j) e) (eq-eqb (f j) (f j) refl) in
      omega arith

  -- two places that have one number are the same
  pub number_one : (i j : ℕ) → i < n → j < n → f i ≡ f j → f i ≢ 0 → i ≡ j
  number_one i j a b e d =
      either (cases_lt i j)
      (λ (l : i < j). absurd (twice i j l b e d))
      (λ (l : j ≤ i).
      either (cases_lt j i)
      (λ (k : j < i). absurd (twice j i k a (sym e) (λ z. d (e ∙ z))))
      (λ (k : i ≤ j). omega arith))

  -- and each number has a place
  pub number_some : (k : ℕ) → 0 < k → k ≤ m → (i : ℕ) × (i < n) × (f i ≡ k)
  number_some k a b =
      let t : ℕ → Bool = λ (i : ℕ). eqb (f i) k in
      let one = once_of k a b in
      let w = found_where (first t n) (count_some t n (omega arith)) in
      (w.0, found_in t n w.0 (first t n) refl w.1, eqb-true (f w.0) k (found_at t n w.0 w.1))
