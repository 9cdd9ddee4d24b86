use Rattle.std.proofs.Common.{rules, sym, ◌∙◌}
use Rattle.writing.proofs.Decimals.{in_decimal}
use Rattle.writing.proofs.Placing.{then}
use Rattle.server_lines.proofs.Rows.{items_all}
use Rattle.server_lines.proofs.put_server.Goals as goal

pub returns-then-is_faulty-clause-wrote : goal.returns-then-is_faulty-clause-wrote
returns-then-is_faulty-clause-wrote c =
    let server = in_decimal c.args.server (search rules) c.number.ensures.wrote in
    rw (sym c.is_faulty.ensures ∙ c.if-is_faulty.true) (then c.word.ensures (then server c.word-then-is_faulty.ensures))

pub returns-clause-wrote : goal.returns-clause-wrote
returns-clause-wrote c =
    let server = in_decimal c.args.server (search rules) c.number.ensures.wrote in
    let count = in_decimal c.args.d.count (search rules) c.number-2.ensures.wrote in
    let items = rw (items_all c.args.d.count 128 c.min-shown.result c.args.d.items c.min-shown.ensures (search rules)) at c.put_items.ensures.wrote in
    rw (sym c.is_faulty.ensures ∙ c.if-is_faulty.false) (then c.word.ensures (then server (then c.byte.ensures (then count (then items c.byte-2.ensures)))))
