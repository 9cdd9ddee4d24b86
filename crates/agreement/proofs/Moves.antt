-- What every step does to a world of the invariant: it keeps it so, and no sending loses its number.
use mathlib.Core.Path.{◌≡◌}
use mathlib.Core.Logic.{◌⊎◌}
use Prim.Native.Nat.{ℕ, ◌≤◌}
use Rattle.world.specs.declared.World.{World}
use Rattle.format.specs.Records.{Asked}
use Rattle.protocol.specs.Steps.{step_of}
use Rattle.kept.proofs.Facts.{FactsOf}
use Rattle.agreement.proofs.Invariant.{Belongs, InvOf}

pub record Moves (w v : World) : Type 0 where
  pub inv : InvOf v
  pub roster : v.roster ≡ w.roster
  pub more : w.numbered ≤ v.numbered
  pub belongs : (s i sl n : ℕ) → Belongs w.requests w.executions s i sl n → Belongs v.requests v.executions s i sl n
  -- a step that gives a number delivers nothing
  pub still : (v.numbered ≡ w.numbered) ⊎ (v.delivered ≡ w.delivered)

abbrev pub StepMoves : Type 0
StepMoves = (w : World) (a : Asked) → FactsOf w → InvOf w → Moves w (step_of w a).world
