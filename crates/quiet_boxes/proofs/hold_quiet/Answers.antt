use Rattle.std.proofs.Common.{not, rules, tests}
use Rattle.world.specs.Hold.{free_entry}
use Rattle.protocol.specs.Names.{table_of}
use Rattle.protocol.specs.Quiet.{stirs, hold_quiet}
use Rattle.sound_names.proofs.Places.{every_of_slice}
use Rattle.quiet_boxes.proofs.hold_quiet.Goals as goal

pub returns : goal.returns
unfolding hold_quiet
returns c = every_of_slice (λ e. not (stirs (table_of c.args.tables.now e.sending.sender) c.args.next e)) free_entry c.args.h.now.places _ _ _ _ c.all.ensures.ran (cc) (search rules) (λ x b q k. search (rules, tests))
