use Rattle.std.proofs.Common.{not, rules, tests}
use Rattle.std.proofs.lemmas.Iterator.{YieldsList-from_slice}
use Rattle.search.proofs.Chains.{count_places}
use Rattle.world.specs.Outgoing.{free_packet}
use Rattle.world.proofs.outgoing.Outgoing.room.Goals as goal

pub returns : goal.returns
returns c = count_places (λ p. not p.there) free_packet c.args.self.places _ _ c.count.ensures.ran (YieldsList-from_slice _ (cc)) c.filter.ensures.closure (λ x b q k. search (rules, tests)) (search rules)
