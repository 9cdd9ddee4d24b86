use Rattle.std.proofs.Common.{◌≡◌, ◌∙◌, ap, take, length, arith, rules, tests}
use Rattle.world.specs.declared.request.Request.{Request}
use Rattle.world.specs.Requests.{no_request, same_digest}
use Rattle.protocol.specs.Sound.{new_digest}
use Rattle.sound_names.proofs.Places.{keys_taken}
use Rattle.sound_requests.proofs.digests_differ.Goals as goal

pub returns : goal.returns
unfolding new_digest
returns c =
    let same = λ (a b : Request). same_digest a.digest b.digest in
    let l : length c.args.q.now.slots ≡ 128 = search rules in
    c.keys_differ.ensures same no_request (λ x y r p. search (rules, tests))
    ∙ keys_taken same no_request c.args.q.now.slots _ c.args.q.now.count (c.split_at.ensures.front ∙ ap (λ n. take n c.args.q.now.slots) c.from.ensures) (omega arith)
