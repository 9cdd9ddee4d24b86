-- Demand 3 of what `run` returns: of every end of a call that meets its contract, as the checker reads it. Assumes nothing.
use mathlib.Core.Path.{◌≡◌, subst, sym, ap, ◌∙◌}
use contract.Lifetimes.{Lfts}
use denote.Triple.Clauses.{AtExit}
use borrow.Fn.Kinds.{Dens, res_t, ended_of}
use Rattle.world.specs.declared.World.{World}
use Rattle.std.specs.Prelude.{Ok}
use Rattle.protocol.specs.Runs.{Fate, run_told, ran_of}
use Rattle.protocol.specs.declared.ending.Ran.{Ran}
use Rattle.rehearsal.proofs.run.Kinds as run-kinds
use Rattle.rehearsal.proofs.run.Reads as run-reads
use Rattle.agreement.specs.Agreement.{Agreed}
use Rattle.agreement.proofs.Theorem.{ran_agrees}

pub returned_agrees : (κs : Lfts 2) (a : Dens κs run-kinds.ps) (r : (res_t run-kinds.r κs).Denot) (e : AtExit (ended_of 2 run-kinds.ps run-kinds.r) κs)
    → run-reads.Post κs a r e → (x : Ran) → r ≡ Ok x → Agreed x.world
returned_agrees κs a r e p x v =
    let f : run_told (Ok x) ≡ ran_of _ _ = ap run_told (sym v) ∙ p.0 in
    subst (λ (w : World). Agreed w) (sym (ap (λ (t : Fate). t.world) f)) (ran_agrees _ _ x.records (sym (ap (λ (t : Fate). t.verdict) f)))
