use Rattle.std.proofs.Common.{◌≡◌, ◌∙◌, ℕ, ap, length, rules, tests}
use Rattle.world.specs.declared.request.Request.{Request}
use Rattle.world.specs.Requests.{no_request}
use Rattle.protocol.specs.Zeros.{zero_request}
use Rattle.protocol.specs.Sound.{stored_sound, slot_sound}
use Rattle.sound_names.specs.Tables.{used_below}
use Rattle.sound_requests.proofs.slots_sound.Goals as goal

pub returns : goal.returns
unfolding slot_sound
returns c =
    let l : length c.args.q.now.slots ≡ 128 = search rules in
    let t = λ (k : ℕ) (x : Request). stored_sound c.args.roster x in
    c.used_below.ensures t zero_request no_request (λ k x r p. search (rules, tests)) (λ x r p. search (rules, tests))
    ∙ ap (λ n. used_below t zero_request no_request c.args.q.now.slots n (length c.args.q.now.slots)) c.from-stored.ensures
    ∙ ap (λ n. used_below t zero_request no_request c.args.q.now.slots c.args.q.now.count n) l
