use Rattle.std.proofs.Common.{take}
use Rattle.writing.specs.Writing.{Writes}
use Rattle.writing.proofs.Text.word.Given as goal

abbrev pub invariant-loop-b : goal.invariant-loop-b
invariant-loop-b l = Writes l.initial.self (take l.b-index l.word) l.self
