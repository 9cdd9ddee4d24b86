-- Searches and counts over places 0, 1, 2, .. by a test: what every loop over places means.
use Rattle.std.specs.Prelude.{Bool, cond, not, ℕ, zero, suc, ◌+◌, is_some, Option, Some, None}

-- the lowest of the n places from `at` on at which the test holds
unfoldable pub first_from : (ℕ → Bool) → ℕ → ℕ → Option ℕ
first_from t at zero = None
first_from t at (suc n) = let rest = first_from t (at + 1) n in cond (t at) (Some at) rest

-- of the n places from 0 on
abbrev pub first : (ℕ → Bool) → ℕ → Option ℕ
first t n = first_from t 0 n

-- whether there is one
abbrev pub any : (ℕ → Bool) → ℕ → Bool
any t n = is_some (first t n)

-- whether the test holds at each of them: there is none at which it does not
abbrev pub every : (ℕ → Bool) → ℕ → Bool
every t n = not (any (λ (k : ℕ). not (t k)) n)

-- at how many of the n places from 0 on the test holds
unfoldable pub count : (ℕ → Bool) → ℕ → ℕ
count t zero = 0
count t (suc n) = count t n + cond (t n) 1 0
