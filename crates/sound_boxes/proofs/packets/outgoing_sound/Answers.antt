use Rattle.std.proofs.Common.{rules, tests}
use Rattle.world.specs.Outgoing.{free_packet}
use Rattle.protocol.specs.Sound.{packet_sound, outgoing_sound}
use Rattle.sound_names.proofs.Places.{every_of_slice}
use Rattle.sound_boxes.proofs.packets.outgoing_sound.Goals as goal

pub returns : goal.returns
unfolding outgoing_sound
returns c = every_of_slice (λ p. packet_sound c.args.known.roster c.args.known.stored c.args.origin p) free_packet c.args.o.now.places _ _ _ _ c.all.ensures.ran (cc) (search rules) (λ x b q k. search (rules, tests))
