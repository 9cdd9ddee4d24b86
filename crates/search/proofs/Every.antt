-- What searches, and tests at any or every place, say. Assumes nothing.
use Rattle.std.specs.Prelude.{None, Option, Some, is_some}
use mathlib.Core.Path.{◌≡◌, refl, sym, ap}
use mathlib.Core.Logic.{◌≢◌}
use mathlib.Core.Bool.{Bool, true, false, cond, not}
use Prim.Native.Nat.{ℕ, zero, suc, ◌+◌, ◌<◌, ◌≤◌}
use native.Mathlib.Omega.{arith}
use Rattle.std.proofs.lemmas.Bool.{cases_Bool, cases_eq, not-false, not-true, not_from_false}
use Rattle.search.specs.Search.{first_from, first, any, every}
use Rattle.search.proofs.Booleans.{apart, either}
use Rattle.search.proofs.Laws.{found_in}

-- a search finds a place at which the test holds, and if there is one, it finds one
from_step : (rest : Option ℕ) (t : ℕ → Bool) (at i : ℕ) (b : Bool) → t at ≡ b → (rest ≡ Some i → t i ≡ true) → cond b (Some at) rest ≡ Some i → t i ≡ true
from_step rest t at i true e h p = let z : at ≡ i = cc in rw (← z) e
from_step rest t at i false e h p = h p

from_at : (t : ℕ → Bool) (at n i : ℕ) → first_from t at n ≡ Some i → t i ≡ true
unfolding first_from
from_at t at zero i e = let z : ◌≡◌ {A = ℕ} 0 1 = cc in absurd (omega arith)
from_at t at (suc n) i e = from_step (first_from t (at + 1) n) t at i (t at) refl (from_at t (at + 1) n i) e

pub found_at : (t : ℕ → Bool) (n i : ℕ) → first t n ≡ Some i → t i ≡ true
found_at t n i e = from_at t 0 n i e

any_step : (rest : Option ℕ) (at : ℕ) (b : Bool) → (b ≡ false → is_some rest ≡ true) → is_some (cond b (Some at) rest) ≡ true
any_step rest at true h = refl
any_step rest at false h = h refl

any_from : (t : ℕ → Bool) (at n k : ℕ) → at ≤ k → k < at + n → t k ≡ true → is_some (first_from t at n) ≡ true
unfolding first_from
any_from t at zero k a b e = absurd (omega arith)
any_from t at (suc n) k a b e =
    any_step (first_from t (at + 1) n) at (t at)
    (λ no. either (cases_eq at k)
    (λ (s : at ≡ k). apart (t k) e (rw s at no))
    (λ (s : at ≢ k). any_from t (at + 1) n k (omega arith) (omega arith) e))

pub any_in : (t : ℕ → Bool) (n k : ℕ) → k < n → t k ≡ true → any t n ≡ true
any_in t n k h e = any_from t 0 n k (omega arith) (omega arith) e

pub any_none : (t : ℕ → Bool) (n k : ℕ) → any t n ≡ false → k < n → t k ≡ false
any_none t n k e h = either (cases_Bool (t k)) (λ (y : t k ≡ true). apart (any t n) (any_in t n k h y) e) (λ (y : t k ≡ false). y)

-- the place that was found
pub found_where : (f : Option ℕ) → is_some f ≡ true → (i : ℕ) × (f ≡ Some i)
found_where (Some i) e = (i, refl)
found_where None e = apart false e refl

-- a test at every place
pub every_at : (t : ℕ → Bool) (n : ℕ) → every t n ≡ true → (k : ℕ) → k < n → t k ≡ true
every_at t n e k h = not-false (t k) (any_none (λ (i : ℕ). not (t i)) n k (not-true _ e) h)

no_by : (t : ℕ → Bool) (n : ℕ) → ((k : ℕ) → k < n → t k ≡ false) → (f : Option ℕ) → f ≡ first t n → is_some f ≡ false
no_by t n h (Some i) e = apart (t i) (found_at t n i (sym e)) (h i (found_in _ n i (Some i) e refl))
no_by t n h None e = refl

pub any_no : (t : ℕ → Bool) (n : ℕ) → ((k : ℕ) → k < n → t k ≡ false) → any t n ≡ false
any_no t n h = no_by t n h (first t n) refl

pub every_all : (t : ℕ → Bool) (n : ℕ) → ((k : ℕ) → k < n → t k ≡ true) → every t n ≡ true
every_all t n h = not_from_false _ (any_no (λ (k : ℕ). not (t k)) n (λ k p. ap not (h k p)))
