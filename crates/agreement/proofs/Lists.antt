-- What holds of every element: of a list with one element replaced, and of one value repeated. Assumes nothing.
use mathlib.Core.List.{List, [], ◌∷◌}
use Prim.Native.Nat.{ℕ, zero, suc}
use lib.ListN.{get_or, set, replicate}

pub set_both : {A : Type 0} (P : A → Type 0) (l : List A) (i j : ℕ) (a d : A) → P a → P (get_or l j d) → P (get_or (set l i a) j d)
set_both P [] i j a d p q = q
set_both P (x ∷ l) zero zero a d p q = p
set_both P (x ∷ l) zero (suc j) a d p q = q
set_both P (x ∷ l) (suc i) zero a d p q = q
set_both P (x ∷ l) (suc i) (suc j) a d p q = set_both P l i j a d p q

pub filled : {A : Type 0} (P : A → Type 0) (n i : ℕ) (a d : A) → P a → P d → P (get_or (replicate n a) i d)
filled P zero i a d p q = q
filled P (suc n) zero a d p q = p
filled P (suc n) (suc i) a d p q = filled P n i a d p q
