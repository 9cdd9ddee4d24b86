use Rattle.std.proofs.Common.{rules}
use Rattle.writing.proofs.Decimals.{in_decimal}
use Rattle.writing.proofs.Placing.{then}
use Rattle.listing.proofs.put_numbered.Goals as goal

pub returns-clause-wrote : goal.returns-clause-wrote
returns-clause-wrote c = then c.word.ensures (then (in_decimal c.args.m (search rules) c.number.ensures.wrote) c.byte.ensures)
