-- Laws of the loops that fill an array from the front. Assumes nothing.
use mathlib.Core.Path.{◌≡◌, sym, ap, ◌∙◌}
use mathlib.Core.List.{List, [], ◌∷◌, ◌++◌}
use Prim.Native.Nat.{ℕ, ◌+◌, ◌<◌}
use native.Mathlib.Numerals.{add-one}
use native.Mathlib.Omega.{arith}
use lib.ListN.{length, get_or, take, drop, set, length-drop}
use lib.Seq.{take-suc, take-suc-set, get_or-drop}

-- one more element stored after the first t
pub stored : (ws l : List ℕ) (t v : ℕ) → t < length ws → take t ws ≡ l → take (t + 1) (set ws t v) ≡ l ++ v ∷ []
stored ws l t v h e = rw (add-one, take-suc-set) (ap (λ (r : List ℕ). r ++ v ∷ []) e)

-- one more element copied of the part of l from a on
pub copied : (b l : List ℕ) (a j v : ℕ) → j < length b → a + j < length l → take j b ≡ take j (drop a l) → v ≡ get_or l (a + j) 0
    → take (j + 1) (set b j v) ≡ take (j + 1) (drop a l)
copied b l a j v h k e q =
    stored b (take j (drop a l)) j v h e
    ∙ ap (λ (x : ℕ). take j (drop a l) ++ x ∷ []) (q ∙ sym (get_or-drop a l j 0))
    ∙ sym (ap (λ (n : ℕ). take n (drop a l)) (add-one j) ∙ take-suc (drop a l) j 0 (omega (arith, length-drop a l)))
