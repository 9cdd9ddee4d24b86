-- What it means that a contract settles the text that it writes: no two ends of one call both meet it. A contract is
-- meant as the checker reads it, the `Post` of the function's generated `Reads`.
use Rattle.std.specs.Prelude.{ℕ, ◌≡◌, List}
use contract.Lifetimes.{Lfts}
use denote.Triple.Clauses.{AtExit}
use borrow.Fn.Kinds.{ParamKind, ResultKind, Out, Dens, res_t, ended_of}
use Rattle.writing.specs.declared.Text.{Text}

-- so are the place after what was written and the lent bytes, which `text` reads off the answer or the parameters at
-- exit
abbrev pub UniqueText : (n : ℕ) (ps : List (ParamKind n)) (r : ResultKind n)
    → ((κs : Lfts n) → (res_t r κs).Denot → AtExit (ended_of n ps r) κs → Text) → Out n ps r → Type 0
UniqueText n ps r text post =
    (κs : Lfts n) (a : Dens κs ps) (x y : (res_t r κs).Denot) (e f : AtExit (ended_of n ps r) κs)
    → post κs a x e → post κs a y f
    → ((text κs x e).at ≡ (text κs y f).at) × ((text κs x e).bytes.now ≡ (text κs y f).bytes.now)
