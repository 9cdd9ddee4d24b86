use Rattle.std.proofs.Common.{not, ◌&&◌, rules, tests}
use Rattle.world.specs.Roster.{correct}
use Rattle.world.specs.Outgoing.{free_packet}
use Rattle.protocol.specs.Quiet.{outgoing_quiet}
use Rattle.sound_names.proofs.Places.{every_of_slice}
use Rattle.quiet_boxes.proofs.outgoing_quiet.Goals as goal

pub returns : goal.returns
unfolding outgoing_quiet
returns c = every_of_slice (λ p. not (p.there && correct c.args.roster p.to)) free_packet c.args.o.now.places _ _ _ _ c.all.ensures.ran (cc) (search rules) (λ x b q k. search (rules, tests))
