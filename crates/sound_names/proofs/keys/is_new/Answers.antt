use Rattle.std.proofs.Common.{◌∙◌, refl, take, not, length-take-le, arith, rules, tests}
use Rattle.std.proofs.lemmas.List.{get_or-take, get_or_read_under}
use Rattle.sound_names.proofs.Places.{every_of_slice, every_same}
use Rattle.sound_names.proofs.keys.is_new.Goals as goal

pub returns : goal.returns
returns g c t d h =
    let e = get_or_read_under c.args.all.now c.args.k _ c.index-all-k.result d c.index-all-k.is c.requires.there refl in
    every_of_slice (λ y. not (t y c.index-all-k.result)) d (take c.args.k c.args.all.now) c.args.k _ _ _ c.all.ensures.ran (cc) (length-take-le _ _ (omega arith)) (λ y b q k. search (rules, tests, h))
    ∙ every_same _ _ _ (λ j l. rw (get_or-take c.args.k c.args.all.now j d l, e))
