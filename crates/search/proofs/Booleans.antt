-- What tests say: truth values, joined tests, tests of the opposite, and tests in order. Assumes nothing.
use mathlib.Core.Path.{◌≡◌, refl, sym, ◌∙◌}
use mathlib.Core.Logic.{◌⊎◌, inl, inr, ◌≢◌}
use mathlib.Core.Bool.{Bool, true, false, ◌&&◌}
use Prim.Native.Nat.{ℕ, ◌+◌, ◌<◌, ◌≤◌}
use native.Mathlib.Omega.{arith}
use lib.Dec.{ltb}
use Rattle.std.proofs.lemmas.Bool.{cases_Bool, cases_lt, and_parts, lt-ltb, le-ltb}
use Rattle.search.specs.Tests.{implies, must}

-- two truth values
pub apart : {A : Type 0} (b : Bool) → b ≡ true → b ≡ false → A
apart b e f = let z : ◌≡◌ {A = ℕ} 0 1 = cc in absurd (omega arith)

pub either : {A B C : Type 0} → A ⊎ B → (A → C) → (B → C) → C
either (inl a) f g = f a
either (inr b) f g = g b

-- by a test's value
pub test : {C : Type 0} (b : Bool) → (b ≡ true → C) → (b ≡ false → C) → C
test b f g = either (cases_Bool b) f g

-- a place other than c lies on the same side of c and of c + 1
pub sides_more : (j c : ℕ) → j ≢ c → ltb j c ≡ ltb j (c + 1)
sides_more j c d =
    either (cases_lt j c)
    (λ (l : j < c). lt-ltb j c l ∙ sym (lt-ltb j (c + 1) (omega arith)))
    (λ (l : c ≤ j). le-ltb j c l ∙ sym (le-ltb j (c + 1) (omega arith)))

-- joined tests
pub and3 : (a b c : Bool) → (a && b && c) ≡ true → (a ≡ true) × (b ≡ true) × (c ≡ true)
and3 a b c e = let f = and_parts (a && b) c e in let g = and_parts a b f.0 in (g.0, g.1, f.1)

pub and4 : (a b c d : Bool) → (a && b && c && d) ≡ true → (a ≡ true) × (b ≡ true) × (c ≡ true) × (d ≡ true)
and4 a b c d e = let f = and_parts (a && b && c) d e in let g = and3 a b c f.0 in (g.0, g.1, g.2, f.1)

pub and5 : (a b c d g : Bool) → (a && b && c && d && g) ≡ true → (a ≡ true) × (b ≡ true) × (c ≡ true) × (d ≡ true) × (g ≡ true)
and5 a b c d g e = let f = and_parts (a && b && c && d) g e in let h = and4 a b c d f.0 in (h.0, h.1, h.2, h.3, f.1)

-- an implication is known by its parts
pub implies_out : (a b : Bool) → implies a b ≡ true → a ≡ true → b ≡ true
implies_out true b e p = e
implies_out false b e p = apart false p refl

pub implies_in : (a b : Bool) → (a ≡ true → b ≡ true) → implies a b ≡ true
implies_in true b f = f refl
implies_in false b f = refl

-- what holds of a refusal where the test fails, and of what follows where it holds, holds of the test's outcome
pub must_cases : {A : Type 0} (P : A → Type 0) (c : Bool) (x y : A) → (c ≡ false → P x) → (c ≡ true → P y) → P (must c x y)
unfolding must
must_cases P true x y p f = f refl
must_cases P false x y p f = p refl

pub musts : {A : Type 0} (P : A → Type 0) (c : Bool) (x y : A) → P x → (c ≡ true → P y) → P (must c x y)
musts P c x y p f = must_cases P c x y (λ _. p) f
