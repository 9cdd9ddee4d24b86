use Rattle.std.proofs.Common.{◌≡◌, ◌∙◌, ℕ, ap, length, rules, tests}
use Rattle.world.specs.declared.sending.Sending.{Sending}
use Rattle.world.specs.Sending.{no_sending}
use Rattle.protocol.specs.Names.{names}
use Rattle.protocol.specs.Zeros.{zero_sending}
use Rattle.protocol.specs.Sound.{item_sound}
use Rattle.sound_names.specs.Tables.{used_below}
use Rattle.sound_boxes.proofs.items.items_sound.Goals as goal

pub returns : goal.returns
unfolding item_sound
returns c =
    let l : length c.args.d.now.items ≡ 128 = search rules in
    let t = λ (k : ℕ) (i : Sending). names c.args.known.roster c.args.known.stored i in
    c.used_below.ensures t zero_sending no_sending (λ k x r p. search (rules, tests)) (λ x r p. search (rules, tests))
    ∙ ap (λ n. used_below t zero_sending no_sending c.args.d.now.items c.args.d.now.count n) l
