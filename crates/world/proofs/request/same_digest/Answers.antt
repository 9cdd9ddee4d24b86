use Rattle.std.proofs.Common.{eqb, ◌∙◌, rules}
use Rattle.search.proofs.Items.{every_pair}
use Rattle.world.specs.Requests.{same_digest}
use Rattle.world.proofs.request.same_digest.Goals as goal

pub returns : goal.returns
unfolding same_digest
returns c = c.eq.ensures ∙ every_pair eqb 0 c.args.a c.args.b 32 (search rules) (search rules)
