use Rattle.std.proofs.Common.{rules, tests}
use Rattle.protocol.specs.Sound.{server_sound, servers_sound}
use Rattle.sound_names.proofs.Places.{every_of_range}
use Rattle.soundness.proofs.servers.servers_sound.Goals as goal

pub returns : goal.returns
unfolding servers_sound
returns c = every_of_range (λ s. server_sound c.args.w.now s) _ _ _ _ c.all.ensures.ran (cc) (λ s b q k. search (rules, tests))
