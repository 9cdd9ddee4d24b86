-- Laws of the table of kinds, each by one test that is computed over the whole table. Assumes nothing.
use mathlib.Core.Path.{◌≡◌, refl}
use mathlib.Core.Bool.{Bool, true}
use mathlib.Core.Logic.{◌≢◌}
use Prim.Native.Nat.{ℕ, suc, ◌≤◌, ◌<◌}
use native.Mathlib.Omega.{arith}
use lib.Dec.{eqb, leb}
use lib.ListN.{length, get_or}
use borrow.Author.Tests.{eqb-true, leb-true}
use Rattle.std.proofs.lemmas.Bool.{cases_lt}
use Rattle.std.proofs.lemmas.List.{get_or_past}
use Rattle.search.specs.Search.{first_from, every}
use Rattle.search.proofs.Booleans.{either}
use Rattle.search.proofs.Every.{every_at}
use Rattle.format.specs.declared.kinds.Kind.{Kind}
use Rattle.format.specs.declared.kinds.Form.{Form}
use Rattle.format.specs.declared.kinds.Form.TheVariants.{Start, Step, Bad}
use Rattle.format.specs.Records.{start_body, kinds, form_of}

-- a number that is none of the first ones is a later one
pub later : {n k : ℕ} → n ≤ k → k ≢ n → suc n ≤ k
later h d = omega arith

-- a start's body is n and the mask; every other has one byte at least
abbrev fits : Form → Bool
fits (Start body) = eqb body start_body
fits (Step kind body) = leb 1 body
fits Bad = true

all_fit : every (λ (k : ℕ). fits (get_or kinds k Bad)) (length kinds) ≡ true
unfolding first_from
all_fit = refl

pub fits_at : (k : ℕ) → fits (form_of k) ≡ true
unfolding form_of
fits_at k =
    either (cases_lt k (length kinds))
    (λ (h : k < length kinds). every_at (λ (i : ℕ). fits (get_or kinds i Bad)) (length kinds) all_fit k h)
    (λ (h : length kinds ≤ k). rw (get_or_past kinds k Bad h))

pub start_body_lem : (k body : ℕ) → form_of k ≡ Start body → body ≡ start_body
start_body_lem k body e = eqb-true body start_body (rw e at (fits_at k))

pub step_body : (k body : ℕ) (kind : Kind) → form_of k ≡ Step kind body → 1 ≤ body
step_body k body kind e = leb-true 1 body (rw e at (fits_at k))
