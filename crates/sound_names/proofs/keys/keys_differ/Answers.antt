use Rattle.std.proofs.Common.{length, rules, tests}
use Rattle.sound_names.specs.Keys.{new_key}
use Rattle.sound_names.proofs.Places.{every_of_range}
use Rattle.sound_names.proofs.keys.keys_differ.Goals as goal

pub returns : goal.returns
returns g c t d h = every_of_range (λ k. new_key t d c.args.all.now k) (length c.args.all.now) _ _ _ c.all.ensures.ran (cc) (λ k b q r. search (rules, tests, h))
