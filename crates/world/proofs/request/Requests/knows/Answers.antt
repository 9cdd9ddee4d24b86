use Rattle.std.proofs.Common.{rules, tests}
use Rattle.std.proofs.lemmas.Iterator.{YieldsList-from_slice, YieldsList-from_take}
use Rattle.search.proofs.Chains.{any_places_taken}
use Rattle.world.specs.Requests.{no_request, same_digest, known_digest}
use Rattle.world.proofs.request.Requests.knows.Goals as goal

pub returns : goal.returns
unfolding known_digest
returns c = any_places_taken _ (λ r. same_digest r.digest c.args.digest) no_request _ _ _ _ c.any.ensures.ran (YieldsList-from_take c.args.self.count (YieldsList-from_slice c.args.self.slots (cc)) (cc)) (λ x b q k. search (rules, tests)) (search rules)
