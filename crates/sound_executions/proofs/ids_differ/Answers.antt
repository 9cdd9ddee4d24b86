use Rattle.std.proofs.Common.{◌≡◌, ◌∙◌, ap, take, length, arith, rules, tests, eqb}
use Rattle.world.specs.declared.execution.Execution.{Execution}
use Rattle.world.specs.Executions.{no_execution}
use Rattle.protocol.specs.Sound.{new_id}
use Rattle.sound_names.proofs.Places.{keys_taken}
use Rattle.sound_executions.proofs.ids_differ.Goals as goal

pub returns : goal.returns
unfolding new_id
returns c =
    let same = λ (a b : Execution). eqb a.id b.id in
    let l : length c.args.t.now.table ≡ 16 = search rules in
    c.keys_differ.ensures same no_execution (λ x y r p. search (rules, tests))
    ∙ keys_taken same no_execution c.args.t.now.table _ c.args.t.now.count (c.split_at.ensures.front ∙ ap (λ n. take n c.args.t.now.table) c.from.ensures) (omega arith)
