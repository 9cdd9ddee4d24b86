use Rattle.std.proofs.Common.{sym, ◌∙◌}
use Rattle.std.proofs.Common.{arith}
use Rattle.format.proofs.Reader.{no_record}
use Rattle.rehearsal.proofs.Going.{going_start, going_on, going_end}
use Rattle.rehearsal.proofs.running.run.Goals as goal

pub loop-kind-init : goal.loop-kind-init
loop-kind-init c = going_start _ _ _ _ _ _ (sym c.judge.ensures ∙ c.in_ok-records.was) (omega arith) c.byte_at.ensures c.byte_at-2.ensures c.fresh-world.ensures

pub returns-in_default : goal.returns-in_default
returns-in_default c =
    let e = going_end _ c.loop-kind.invariant (sym c.judge.ensures ∙ c.in_ok-records.was) (rw c.read_at.ensures at (no_record c.read_at.result c.in_default.not-Record)) in
    record { value = e.value; answers_after = e.answers_after }

pub loop-kind-preserved : goal.loop-kind-preserved
loop-kind-preserved c =
    going_on _ _ _ _ _ _ _ _ _ _ _ _ _ c.loop-kind.invariant (sym c.read_at.ensures ∙ c.in-Record.is) c.step_in-answer.ensures (cc)
