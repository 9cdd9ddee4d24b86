use Rattle.std.proofs.Common.{eqb, rules, tests}
use Rattle.std.proofs.lemmas.Iterator.{YieldsList-from_slice, YieldsList-from_take}
use Rattle.search.proofs.Chains.{first_places_taken}
use Rattle.world.specs.Executions.{no_execution}
use Rattle.world.proofs.execution.Executions.find.Goals as goal

pub returns : goal.returns
returns c = first_places_taken _ (λ x. eqb x.id c.args.id) no_execution _ _ _ _ c.position.ensures.ran (YieldsList-from_take c.args.self.count (YieldsList-from_slice c.args.self.table (cc)) (cc)) (λ x b q k. search (rules, tests)) (search rules)
