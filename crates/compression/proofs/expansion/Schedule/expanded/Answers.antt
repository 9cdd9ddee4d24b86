use Rattle.std.proofs.Common.{◌≡◌, sym, ◌∙◌, arith, length-set, take_all, rules}
use Rattle.compression.proofs.Words.{more_schedule}
use Rattle.compression.proofs.expansion.Schedule.expanded.Goals as goal

pub loop-t-preserved : goal.loop-t-preserved
loop-t-preserved c = let a = c.loop-t in
    (simp length-set (search rules), more_schedule a.ws _ a.t _ (omega arith) a.invariant.1 c.next_word.ensures)

pub returns : goal.returns
returns c = let a = c.loop-t in
    let e : a.t ≡ 48 = omega arith in
    sym (take_all 64 a.ws (omega arith)) ∙ rw e at a.invariant.1
