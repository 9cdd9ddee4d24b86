use Rattle.std.proofs.Common.{rules}
use Rattle.writing.proofs.Placing.{then, left}
use Rattle.listing.proofs.put_run.Goals as goal

pub returns-clause-wrote : goal.returns-clause-wrote
returns-clause-wrote c = left (then c.put_world-text.ensures.wrote (then c.put_steps.ensures.wrote (then c.put_servers.ensures.wrote c.put_numbered.ensures.wrote))) (search rules)
