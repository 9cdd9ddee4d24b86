use Rattle.std.proofs.Common.{rules, tests}
use Rattle.protocol.specs.Quiet.{server_quiet, quiet}
use Rattle.sound_names.proofs.Places.{every_of_range}
use Rattle.quiet.proofs.quiet.Goals as goal

pub returns : goal.returns
unfolding quiet
returns c = every_of_range (λ s. server_quiet c.args.w s) _ _ _ _ c.all.ensures.ran (cc) (λ s b q k. search (rules, tests))
