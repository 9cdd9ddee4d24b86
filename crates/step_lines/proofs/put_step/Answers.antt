use Rattle.std.proofs.Common.{rules, arith}
use Rattle.std.proofs.lemmas.Fmt.{length-decimal-le}
use Rattle.writing.proofs.Decimals.{in_decimal}
use Rattle.writing.proofs.Placing.{then}
use Rattle.step_lines.proofs.put_step.Goals as goal

pub returns-clause-wrote : goal.returns-clause-wrote
returns-clause-wrote c = then c.word.ensures (then (in_decimal c.args.k c.ranges.k.fits c.number.ensures.wrote) (then c.byte.ensures (then (in_decimal c.args.answer (search rules) c.number-2.ensures.wrote) c.byte-2.ensures)))

pub returns-clause-upper_bound : goal.returns-clause-upper_bound
returns-clause-upper_bound c = omega (arith, length-decimal-le 5 c.args.k)
