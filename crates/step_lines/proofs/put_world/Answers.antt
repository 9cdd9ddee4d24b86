use Rattle.std.proofs.Common.{rules, arith}
use Rattle.std.proofs.lemmas.Fmt.{length-decimal-le}
use Rattle.writing.proofs.Decimals.{in_decimal}
use Rattle.writing.proofs.Placing.{then}
use Rattle.step_lines.proofs.put_world.Goals as goal

pub returns-clause-wrote : goal.returns-clause-wrote
returns-clause-wrote c =
    let n = in_decimal c.args.roster.n (search rules) c.number.ensures.wrote in
    let f = in_decimal c.faults.result (search rules) c.number-2.ensures.wrote in
    let t = in_decimal c.threshold.result (search rules) c.number-3.ensures.wrote in
    let r = in_decimal c.args.records c.ranges.records.fits c.number-4.ensures.wrote in
    rw (← c.threshold.ensures, ← c.faults.ensures) (then c.word.ensures (then n (then c.byte.ensures (then f (then c.byte-2.ensures (then t (then c.byte-3.ensures (then r c.byte-4.ensures))))))))

pub returns-clause-upper_bound : goal.returns-clause-upper_bound
returns-clause-upper_bound c = omega (arith, length-decimal-le 5 c.args.records)
