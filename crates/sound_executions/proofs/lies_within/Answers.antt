use Rattle.std.proofs.Common.{rules, tests}
use Rattle.search.specs.Tests.{implies}
use Rattle.world.specs.Masks.{has}
use Rattle.protocol.specs.Sound.{lies_within}
use Rattle.sound_names.proofs.Places.{every_of_range}
use Rattle.sound_executions.proofs.lies_within.Goals as goal

pub returns : goal.returns
unfolding lies_within
returns c = every_of_range (λ i. implies (has c.args.mask i) (has c.args.called i)) _ _ _ _ c.all.ensures.ran (cc) (λ i b q k. search (rules, tests))
