use Rattle.std.proofs.Common.{refl, cond, ltb, rules, tests}
use Rattle.sound_names.proofs.Places.{every_of_places}
use Rattle.sound_names.proofs.tables.used_below.Goals as goal

pub returns : goal.returns
returns g c t z d h e =
    every_of_places (λ k x. cond (ltb k c.args.count) (t k x) (z x)) d c.args.places.now _ _ _ _ c.all.ensures.ran (cc) (cc) refl (λ x b q k. search (rules, tests, h, e))
