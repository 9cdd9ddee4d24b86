use Rattle.std.proofs.Common.{refl, rules, tests}
use Rattle.std.proofs.lemmas.Iterator.{YieldsList-from_range}
use Rattle.search.proofs.Chains.{count_numbered}
use Rattle.world.specs.Outgoing.{recipient}
use Rattle.world.proofs.outgoing.recipients.Goals as goal

pub returns : goal.returns
returns c = count_numbered (recipient c.args.roster c.args.mask c.args.server) 8 _ c.count.ensures.ran (YieldsList-from_range 0 8 8 (cc) refl) c.filter.ensures.closure (λ x b q k. search (rules, tests))
