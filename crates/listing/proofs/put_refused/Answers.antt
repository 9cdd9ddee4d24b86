use Rattle.std.proofs.Common.{rules}
use Rattle.writing.proofs.Decimals.{in_decimal}
use Rattle.writing.proofs.Placing.{then, left}
use Rattle.listing.proofs.put_refused.Goals as goal

pub returns-clause-wrote : goal.returns-clause-wrote
returns-clause-wrote c =
    let number = in_decimal c.from.result (search rules) c.number.ensures.wrote in
    let offset = in_decimal c.args.refused.offset (search rules) c.number-2.ensures.wrote in
    rw (← c.from.ensures) (left (then c.word.ensures (then number (then c.byte.ensures (then offset c.byte-2.ensures)))) (search rules))
