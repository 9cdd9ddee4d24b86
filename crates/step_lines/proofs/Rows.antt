-- Lines of steps, one more after the others. Assumes nothing.
use Rattle.std.proofs.Common.{◌≡◌, arith, ℕ, ◌+◌, List, [], ◌∷◌, ◌++◌, length, append_assoc, append-nil}
use Rattle.protocol.specs.Listing.{step_line, step_lines}

steps_from : (k j : ℕ) (l : List ℕ) (a : ℕ) → j ≡ k + length l → step_lines k (l ++ a ∷ []) ≡ step_lines k l ++ step_line j a
unfolding step_lines
steps_from k j [] a e = let i : j ≡ k = omega (arith, e) in rw i (append-nil (step_line k a))
steps_from k j (x ∷ l) a e = rw (steps_from (k + 1) j l a (omega (arith, e)), ← append_assoc (step_line k x))

pub steps_push : (l : List ℕ) (a : ℕ) → step_lines 1 (l ++ a ∷ []) ≡ step_lines 1 l ++ step_line (length l + 1) a
steps_push l a = steps_from 1 (length l + 1) l a (omega arith)
