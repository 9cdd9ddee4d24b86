use Rattle.std.proofs.Common.{not, ◌&&◌, refl, rules, tests}
use Rattle.std.proofs.lemmas.Iterator.{YieldsList-from_range}
use Rattle.search.proofs.Chains.{any_numbered}
use Rattle.world.specs.Masks.{has}
use Rattle.world.specs.Roster.{member}
use Rattle.world.proofs.roster.Roster.strays.Goals as goal

pub returns : goal.returns
returns c = any_numbered _ (λ i. has c.args.mask i && not (member c.args.self i)) 8 _ c.any.ensures.ran (YieldsList-from_range 0 8 8 (cc) refl) (λ x b q k. search (rules, tests))
