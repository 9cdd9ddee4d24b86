-- Where the execution of a sending stands. Assumes nothing.
use Rattle.std.specs.Prelude.{None, Option, Some}
use mathlib.Core.Path.{◌≡◌, refl, sym, ◌∙◌}
use mathlib.Core.Bool.{Bool, true, false, cond}
use Prim.Native.Nat.{ℕ, ◌<◌}
use native.Mathlib.Omega.{arith}
use lib.Dec.{ltb}
use Rattle.search.proofs.Laws.{found_in}
use Rattle.world.specs.declared.execution.Executions.{Executions}
use Rattle.world.specs.declared.sending.Sending.{Sending}
use Rattle.world.specs.Sizes.{servers, executions_most}
use Rattle.world.specs.Executions.{execution_of}
use Rattle.protocol.specs.Names.{own_execution}

own_by : (t : Executions) (id k : ℕ) (b : Bool) → cond b (execution_of t id) None ≡ Some k → k < executions_most
own_by t id k true h = found_in _ _ _ _ refl h
own_by t id k false h = let z : ◌≡◌ {A = ℕ} 0 1 = cc in omega arith

-- the execution of a sending stands in the table
pub own_in : (t : Executions) (s : Sending) (k : ℕ) (f : Option ℕ) → f ≡ own_execution t s → f ≡ Some k → k < executions_most
own_in t s k f p q = own_by t s.id k (ltb s.sender servers) (sym p ∙ q)
