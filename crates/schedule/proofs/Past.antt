-- Several bytes of a schedule, with zeros past its end. Assumes nothing.
use Rattle.std.proofs.Common.{◌≡◌, ℕ, zero, suc, ◌+◌, ◌-◌, ◌<◌, ◌≤◌, min, List, [], ◌∷◌, ◌++◌, length, take, drop, refl, sym, ap, ◌∙◌, arith, add-zero, append_assoc}
use Rattle.std.proofs.Math.ListN.{replicate}
use Rattle.std.proofs.Math.Seq.{take-suc}
use Rattle.std.proofs.lemmas.List.{append-nil, drop-replicate, get_or-drop, length-drop, take_rest}
use Rattle.std.proofs.lemmas.Bool.{cases_lt}
use Rattle.std.proofs.lemmas.List.{get_or_past}
use Rattle.search.proofs.Booleans.{either}
use Rattle.std.specs.Int.{w16, w32, from_be_bytes}
use Rattle.format.specs.Fields.{byte_at, two_at, four_at, bytes_at}

-- all of them there
inside : (s : List ℕ) (at n : ℕ) → at + n ≤ length s → take n (drop at s) ≡ bytes_at s at n
unfolding bytes_at
inside s at zero h = refl
inside s at (suc n) h =
    let l : n < length (drop at s) = omega (arith, length-drop at s) in
    rw (take-suc (drop at s) n 0 l, get_or-drop at s n 0, inside s at n (omega arith))

-- and from a place past the end on
past : (s : List ℕ) (at m k : ℕ) → length s ≤ at + m → bytes_at s at m ++ replicate k 0 ≡ bytes_at s at (m + k)
unfolding bytes_at
past s at m zero h = rw (add-zero, append-nil)
past s at m (suc k) h =
    let z : byte_at s (at + m) ≡ 0 = get_or_past s (at + m) 0 h in
    let e : suc m + k ≡ m + suc k = omega arith in
    sym (append_assoc (bytes_at s at m) (0 ∷ []) (replicate k 0)) ∙ rw z at (past s at (suc m) k (omega arith)) ∙ ap (bytes_at s at) e

-- what is there of them, and zeros
filled : (s : List ℕ) (at n a m : ℕ) → a ≡ min at (length s) → m ≡ min (length s - a) n → take m (drop a s) ++ replicate (n - m) 0 ≡ bytes_at s at n
unfolding bytes_at
filled s at n a m ea em =
    let there : take m (drop a s) ≡ bytes_at s at m =
    either (cases_lt (length s) at)
    (λ (h : length s < at). let z : m ≡ 0 = omega arith in rw z refl)
    (λ (h : at ≤ length s). let e : a ≡ at = omega arith in rw e (inside s at m (omega arith))) in
    rw there
    (either (cases_lt m n)
    (λ (h : m < n). let e : m + (n - m) ≡ n = omega arith in past s at m (n - m) (omega arith) ∙ ap (bytes_at s at) e)
    (λ (h : n ≤ m). let e : m ≡ n = omega arith in let z : n - m ≡ 0 = omega arith in rw (z, append-nil, e)))

-- copied to the front of zeros
pub returned : (s b : List ℕ) (at n a m : ℕ) → a ≡ min at (length s) → m ≡ min (length (take (length s - a) (drop a s))) n
    → b ≡ take m (take (length s - a) (drop a s)) → b ++ drop m (replicate n 0) ≡ bytes_at s at n
returned s b at n a m ea em eb =
    let r = take_rest s a in
    let l : m ≡ min (length s - a) n = rw (← length-drop a s) (rw r at em) in
    rw (drop-replicate, eb, r) (filled s at n a m ea l)

-- numbers of two and of four bytes, the higher first
pub two : (s : List ℕ) (at : ℕ) → from_be_bytes w16 (bytes_at s at 2) ≡ two_at s at
unfolding bytes_at
two s at = rw (add-zero) (omega arith)

pub four : (s : List ℕ) (at : ℕ) → from_be_bytes w32 (bytes_at s at 4) ≡ four_at s at
unfolding bytes_at
four s at = let e : at + 2 + 1 ≡ at + 3 = omega arith in rw (add-zero, e) (omega arith)
