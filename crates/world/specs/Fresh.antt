-- The world before the first step: nothing in any box.
use Rattle.std.specs.Prelude.{ℕ, replicate}
use Rattle.world.specs.declared.World.{World}
use Rattle.world.specs.Sizes.{servers}
use Rattle.world.specs.Requests.{fresh_requests}
use Rattle.world.specs.Executions.{fresh_executions}
use Rattle.world.specs.Outgoing.{fresh_outgoing}
use Rattle.world.specs.Hold.{fresh_hold}
use Rattle.world.specs.Delivered.{fresh_delivered}

unfoldable pub fresh_world : ℕ → ℕ → World
fresh_world n faulty = record {
  roster = record { n = n; faulty = faulty };
  numbered = 0;
  requests = fresh_requests;
  executions = replicate servers fresh_executions;
  outgoing = replicate servers fresh_outgoing;
  holds = replicate servers fresh_hold;
  delivered = replicate servers fresh_delivered;
}
