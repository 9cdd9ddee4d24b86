-- Document 01, "Refusing a whole schedule", its last sentence: a start that is not refused is sound, and so is what
-- any step makes of a sound world. Steps are `step_of`'s, with every field of a record unrestricted; `sound` is the
-- test for 27.
use Rattle.std.specs.Prelude.{ℕ, ◌<◌, ◌≡◌, true, List, [], ◌∷◌, length, Ok}
use Rattle.world.specs.declared.World.{World}
use Rattle.world.specs.Sizes.{servers, requests_most, executions_most, outgoing_places, hold_places, delivered_most}
use Rattle.world.specs.Roster.{good_roster}
use Rattle.world.specs.Fresh.{fresh_world}
use Rattle.world.specs.Boxes.{executions_of, outgoing_of, hold_of, delivered_of}
use Rattle.protocol.specs.Sound.{sound}
use Rattle.format.specs.Records.{Asked, asked}
use Rattle.format.specs.Judging.{judged}
use Rattle.protocol.specs.Steps.{step_of, world_after}
use Rattle.protocol.specs.Runs.{start_of, public_step, start_world, ran_of}

-- every array of a world has the size that its type says
pub record Shaped (w : World) : Type 0 where
  pub slots : length w.requests.slots ≡ requests_most
  pub executions : length w.executions ≡ servers
  pub outgoing : length w.outgoing ≡ servers
  pub holds : length w.holds ≡ servers
  pub delivered : length w.delivered ≡ servers
  pub tables : (s : ℕ) → s < servers → length (executions_of w s).table ≡ executions_most
  pub packets : (s : ℕ) → s < servers → length (outgoing_of w s).places ≡ outgoing_places
  pub entries : (s : ℕ) → s < servers → length (hold_of w s).places ≡ hold_places
  pub items : (s : ℕ) → s < servers → length (delivered_of w s).items ≡ delivered_most

-- a start that 25 does not refuse
abbrev pub StartSound : Type 0
StartSound = (n faulty : ℕ) → good_roster (record { n = n; faulty = faulty }) ≡ true → sound (fresh_world n faulty) ≡ true

abbrev pub StartShaped : Type 0
StartShaped = (n faulty : ℕ) → good_roster (record { n = n; faulty = faulty }) ≡ true → Shaped (fresh_world n faulty)

-- a step, whatever is asked for and whatever the answer
abbrev pub StepSound : Type 0
StepSound = (w : World) (a : Asked) → Shaped w → sound w ≡ true → sound (step_of w a).world ≡ true

abbrev pub StepShaped : Type 0
StepShaped = (w : World) (a : Asked) → Shaped w → sound w ≡ true → Shaped (step_of w a).world

-- so the world at the end of every schedule that is not refused is sound
abbrev pub RunSound : Type 0
RunSound = (s : List ℕ) (k : ℕ) → judged s ≡ Ok k → sound (world_after (start_world s) (asked s)) ≡ true

-- as `run` hands it back
abbrev pub RanSound : Type 0
RanSound = (s : List ℕ) (room k : ℕ) → (ran_of s room).verdict ≡ Ok k → sound (ran_of s room).world ≡ true

-- and so is the world after a public start that answers 0 and any row of public steps, each by its bytes
unfoldable pub public_steps : World → List (List ℕ) → World
public_steps w [] = w
public_steps w (s ∷ l) = public_steps (public_step w s).world l

abbrev pub RowSound : Type 0
RowSound =
    (n faulty : ℕ) (l : List (List ℕ)) → (start_of n faulty).code ≡ 0
    → sound (public_steps (start_of n faulty).world l) ≡ true
