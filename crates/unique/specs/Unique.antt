-- What it means that a contract settles its answer: no two ends of one call both meet it. A contract is meant as the
-- checker reads it, the `Post` of the function's generated `Reads`.
use Rattle.std.specs.Prelude.{ℕ, ◌≡◌, List}
use contract.Lifetimes.{Lfts}
use denote.Triple.Clauses.{AtExit}
use borrow.Fn.Kinds.{ParamKind, ResultKind, Out, Dens, res_t, ended_of}

-- of a function that lends nothing to be written: the result is settled
abbrev pub Unique : (n : ℕ) (ps : List (ParamKind n)) (r : ResultKind n) → Out n ps r → Type 0
Unique n ps r post =
    (κs : Lfts n) (a : Dens κs ps) (x y : (res_t r κs).Denot) (e f : AtExit (ended_of n ps r) κs) → post κs a x e
    → post κs a y f → x ≡ y

-- of a function that writes lent bytes: so are they, which `bytes` reads off the parameters at exit
abbrev pub UniqueBytes : (n : ℕ) (ps : List (ParamKind n)) (r : ResultKind n) → ((κs : Lfts n) → AtExit (ended_of n ps r) κs → List ℕ)
    → Out n ps r → Type 0
UniqueBytes n ps r bytes post =
    (κs : Lfts n) (a : Dens κs ps) (x y : (res_t r κs).Denot) (e f : AtExit (ended_of n ps r) κs)
    → post κs a x e → post κs a y f → (x ≡ y) × (bytes κs e ≡ bytes κs f)
