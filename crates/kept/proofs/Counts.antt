-- The numbers given are 1 to M, each once: what a number more does to that. Assumes nothing.
use mathlib.Core.Path.{◌≡◌, refl, sym, ap, ◌∙◌}
use mathlib.Core.Logic.{◌≢◌}
use mathlib.Core.Bool.{Bool, true, false, cond, not}
use Prim.Native.Nat.{ℕ, zero, suc, ◌+◌, ◌<◌, ◌≤◌}
use native.Mathlib.Omega.{arith}
use lib.Dec.{eqb}
use borrow.Author.Tests.{eq-eqb, ne_eqb}
use Rattle.std.proofs.lemmas.Bool.{cases_eq}
use Rattle.search.specs.Search.{any, count}
use Rattle.search.proofs.Laws.{count_same}
use Rattle.search.proofs.Booleans.{either, test}
use Rattle.search.proofs.Every.{any_none}

count_none : (t : ℕ → Bool) (n : ℕ) → ((i : ℕ) → i < n → t i ≡ false) → count t n ≡ 0
unfolding count
count_none t zero h = refl
count_none t (suc n) h = rw (h n (omega arith), count_none t n (λ i p. h i (omega arith)))

-- where something is counted, a search finds it
pub count_some : (t : ℕ → Bool) (n : ℕ) → 0 < count t n → any t n ≡ true
count_some t n l = test (any t n) (λ y. y) (λ (y : any t n ≡ false). let z = count_none t n (λ k h. any_none t n k y h) in absurd (omega arith))

-- one place at which the test holds
count_one : (t : ℕ → Bool) (z n : ℕ) → z < n → t z ≡ true → ((i : ℕ) → i < n → i ≢ z → t i ≡ false) → count t n ≡ 1
unfolding count
count_one t z zero p e h = absurd (omega arith)
count_one t z (suc n) p e h =
    either (cases_eq z n)
    (λ (s : z ≡ n). let a = count_none t n (λ i q. h i (omega arith) (omega arith)) in let y : t n ≡ true = rw (← s) e in rw y (omega arith))
    (λ (s : z ≢ n). let a = count_one t z n (omega arith) e (λ i q d. h i (omega arith) d) in rw (h n (omega arith) (omega arith)) (omega arith))

at_most_one : (b : Bool) → cond {A = ℕ} b 1 0 ≤ 1
at_most_one true = omega arith
at_most_one false = omega arith

count_most : (t : ℕ → Bool) (n : ℕ) → count t n ≤ n
unfolding count
count_most t zero = omega arith
count_most t (suc n) = let a = count_most t n in let b = at_most_one (t n) in omega arith

-- one place at which it does not
count_less : (t : ℕ → Bool) (z n : ℕ) → z < n → t z ≡ false → count t n < n
unfolding count
count_less t z zero p e = absurd (omega arith)
count_less t z (suc n) p e =
    either (cases_eq z n)
    (λ (s : z ≡ n). let a = count_most t n in let y : t n ≡ false = rw (← s) e in rw y (omega arith))
    (λ (s : z ≢ n). let a = count_less t z n (omega arith) e in let b = at_most_one (t n) in omega arith)

-- how often the numbers 1 to m stand at the first n places, together
unfoldable total : (ℕ → ℕ) → ℕ → ℕ → ℕ
total f n zero = 0
total f n (suc m) = total f n m + count (λ (i : ℕ). eqb (f i) (m + 1)) n

-- of one place
unfoldable hits : ℕ → ℕ → ℕ
hits v zero = 0
hits v (suc m) = hits v m + cond (eqb v (m + 1)) 1 0

total_none : (f : ℕ → ℕ) (m : ℕ) → total f 0 m ≡ 0
unfolding total count
total_none f zero = refl
total_none f (suc m) = rw (total_none f m)

total_more : (f : ℕ → ℕ) (n m : ℕ) → total f (suc n) m ≡ total f n m + hits (f n) m
unfolding total hits count
total_more f n zero = refl
total_more f n (suc m) = let a = total_more f n m in omega arith

-- a place holds one number at most
hits_none : (v m : ℕ) → (v ≡ 0 → ⊥) → m < v → hits v m ≡ 0
unfolding hits
hits_none v zero d h = refl
hits_none v (suc m) d h = let a = hits_none v m d (omega arith) in rw (ne_eqb v (m + 1) (λ e. omega arith)) (omega arith)

hits_one : (v m : ℕ) → hits v m ≤ 1
unfolding hits
hits_one v zero = omega arith
hits_one v (suc m) =
    either (cases_eq v (m + 1))
    (λ (e : v ≡ m + 1). let a = hits_none v m (λ z. omega arith) (omega arith) in let b = at_most_one (eqb v (m + 1)) in omega arith)
    (λ (e : v ≢ m + 1). let a = hits_one v m in rw (ne_eqb v (m + 1) e) (omega arith))

hits_zero : (m : ℕ) → hits 0 m ≡ 0
unfolding hits
hits_zero zero = refl
hits_zero (suc m) = let a = hits_zero m in rw (ne_eqb 0 (m + 1) (λ e. omega arith)) (omega arith)

hits_most : (v m : ℕ) → hits v m ≤ cond (not (eqb v 0)) 1 0
hits_most v m =
    either (cases_eq v 0)
    (λ (e : v ≡ 0). rw (e, hits_zero m) (omega arith))
    (λ (e : v ≢ 0). rw (ne_eqb v 0 e) (hits_one v m))

total_most : (f : ℕ → ℕ) (n m : ℕ) → total f n m ≤ count (λ (i : ℕ). not (eqb (f i) 0)) n
unfolding count
total_most f zero m = rw (total_none f m) (omega arith)
total_most f (suc n) m = let a = total_more f n m in let b = total_most f n m in let c = hits_most (f n) m in omega arith

total_once : (f : ℕ → ℕ) (n m : ℕ) → ((k : ℕ) → k < m → count (λ (i : ℕ). eqb (f i) (k + 1)) n ≡ 1) → total f n m ≡ m
unfolding total
total_once f n zero h = refl
total_once f n (suc m) h = let a = total_once f n m (λ k p. h k (omega arith)) in let b = h m (omega arith) in omega arith

-- the numbers at the first n places are 1 to m, each once, and zeros
pub record Numbers (f : ℕ → ℕ) (n m : ℕ) : Type 0 where
  pub most : m ≤ n
  pub low : (i : ℕ) → i < n → f i ≤ m
  pub once : (k : ℕ) → k < m → count (λ (i : ℕ). eqb (f i) (k + 1)) n ≡ 1

-- no number changes
pub numbers_same : (f g : ℕ → ℕ) (n m : ℕ) → ((i : ℕ) → i < n → g i ≡ f i) → Numbers f n m → Numbers g n m
numbers_same f g n m h s =
    record {
      most = s.most;
      low = λ i p. rw (h i p) (s.low i p);
      once = λ k p. count_same _ _ n (λ i q. ap (λ (x : ℕ). eqb x (k + 1)) (h i q)) ∙ s.once k p;
    }

-- one place gets the next number
module _ (f g : ℕ → ℕ) (n m z : ℕ) (s : Numbers f n m) (p : z < n) (none : f z ≡ 0) (next : g z ≡ m + 1)
    (else : (i : ℕ) → i < n → i ≢ z → g i ≡ f i) where
  more_low : (i : ℕ) → i < n → g i ≤ m + 1
  more_low i q =
      either (cases_eq i z)
      (λ (e : i ≡ z). rw (e, next) (omega arith))
      (λ (e : i ≢ z). rw (else i q e) (omega (arith, s.low i q)))

  more_room : m < n
  more_room =
      let a = total_once f n m s.once in
      let b = total_most f n m in
      let c = count_less (λ (i : ℕ). not (eqb (f i) 0)) z n p (rw none) in
      omega arith

  older : (k : ℕ) → k < m → (i : ℕ) → i < n → eqb (g i) (k + 1) ≡ eqb (f i) (k + 1)
  older k l i q =
      either (cases_eq i z)
      (λ (e : i ≡ z). rw (e, next, none) (ne_eqb (m + 1) (k + 1) (λ d. omega arith) ∙ sym (ne_eqb 0 (k + 1) (λ d. omega arith))))
      (λ (e : i ≢ z). rw (else i q e))

  newest : (i : ℕ) → i < n → i ≢ z → eqb (g i) (m + 1) ≡ false
  newest i q d = rw (else i q d) (ne_eqb (f i) (m + 1) (λ e. omega (arith, s.low i q)))

  more_once : (k : ℕ) → k < m + 1 → count (λ (i : ℕ). eqb (g i) (k + 1)) n ≡ 1
  more_once k l =
      either (cases_eq k m)
      (λ (e : k ≡ m). rw e (count_one _ z n p (eq-eqb (g z) (m + 1) next) newest))
      (λ (e : k ≢ m). count_same _ _ n (older k (omega arith)) ∙ s.once k (omega arith))

  pub numbers_more : Numbers g n (m + 1)
  numbers_more = record { most = omega (arith, more_room); low = more_low; once = more_once }
