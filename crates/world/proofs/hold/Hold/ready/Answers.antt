use Rattle.std.proofs.Common.{rules, tests}
use Rattle.std.proofs.lemmas.Iterator.{YieldsList-from_slice}
use Rattle.search.proofs.Chains.{first_places}
use Rattle.world.specs.Hold.{is_ready, free_entry}
use Rattle.world.proofs.hold.Hold.ready.Goals as goal

pub returns : goal.returns
returns c = first_places _ (λ e. is_ready e c.args.number) free_entry _ _ _ c.position.ensures.ran (YieldsList-from_slice _ (cc)) (λ x b q k. search (rules, tests)) (search rules)
