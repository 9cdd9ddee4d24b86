use Rattle.std.proofs.Common.{◌≡◌, ◌∙◌, ℕ, ap, length, rules, tests}
use Rattle.world.specs.declared.execution.Execution.{Execution}
use Rattle.world.specs.Executions.{no_execution}
use Rattle.protocol.specs.Zeros.{zero_execution}
use Rattle.protocol.specs.Sound.{execution_sound, place_sound}
use Rattle.sound_names.specs.Tables.{used_below}
use Rattle.sound_executions.proofs.places_sound.Goals as goal

pub returns : goal.returns
unfolding place_sound
returns c =
    let l : length c.args.t.now.table ≡ 16 = search rules in
    let t = λ (k : ℕ) (x : Execution). execution_sound c.args.known.roster c.args.known.numbered c.args.sender k x in
    c.used_below.ensures t zero_execution no_execution (λ k x r p. search (rules, tests)) (λ x r p. search (rules, tests))
    ∙ ap (λ n. used_below t zero_execution no_execution c.args.t.now.table n (length c.args.t.now.table)) c.from-made.ensures
    ∙ ap (λ n. used_below t zero_execution no_execution c.args.t.now.table c.args.t.now.count n) l
