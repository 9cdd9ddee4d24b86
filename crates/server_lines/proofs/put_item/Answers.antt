use Rattle.std.proofs.Common.{rules}
use Rattle.writing.proofs.Decimals.{in_decimal}
use Rattle.writing.proofs.Placing.{then}
use Rattle.server_lines.proofs.put_item.Goals as goal

pub returns-clause-wrote : goal.returns-clause-wrote
returns-clause-wrote c =
    let sender = in_decimal c.args.item.sender (search rules) c.number.ensures.wrote in
    let id = in_decimal c.args.item.id (search rules) c.number-2.ensures.wrote in
    let slot = in_decimal c.args.item.slot (search rules) c.number-3.ensures.wrote in
    then c.byte.ensures (then sender (then c.byte-2.ensures (then id (then c.byte-3.ensures slot))))
