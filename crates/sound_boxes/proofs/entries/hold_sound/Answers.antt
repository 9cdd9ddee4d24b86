use Rattle.std.proofs.Common.{rules, tests}
use Rattle.world.specs.Hold.{free_entry}
use Rattle.protocol.specs.Names.{table_of}
use Rattle.protocol.specs.Sound.{entry_sound, hold_sound}
use Rattle.sound_names.proofs.Places.{every_of_slice}
use Rattle.sound_boxes.proofs.entries.hold_sound.Goals as goal

pub returns : goal.returns
unfolding hold_sound
returns c = every_of_slice (λ e. entry_sound c.args.known.roster c.args.known.stored c.args.known.numbered c.args.server (table_of c.args.tables.now e.sending.sender) e) free_entry c.args.h.now.places _ _ _ _ c.all.ensures.ran (cc) (search rules) (λ x b q k. search (rules, tests))
