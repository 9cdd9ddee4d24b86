use Rattle.std.proofs.Common.{rules, tests}
use Rattle.std.proofs.lemmas.Iterator.{YieldsList-from_slice}
use Rattle.search.proofs.Chains.{any_places}
use Rattle.world.specs.Hold.{is_entry, free_entry}
use Rattle.world.proofs.hold.Hold.holds.Goals as goal

pub returns : goal.returns
returns c = any_places _ (λ e. is_entry e c.args.sending) free_entry _ _ _ c.any.ensures.ran (YieldsList-from_slice _ (cc)) (λ x b q k. search (rules, tests)) (search rules)
