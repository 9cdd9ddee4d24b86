use Rattle.std.proofs.Common.{◌<◌, ◌/◌, arith, rules, tests}
use Rattle.world.proofs.Seats.{seat_own}
use Rattle.protocol.specs.Sound.{number_at}
use Rattle.sound_names.proofs.Places.{made_each}
use Rattle.sound_numbers.proofs.numbers_of.Goals as goal

pub returns : goal.returns
returns c = made_each (λ i. number_at c.args.tables.now i) 0 _ _ _ c.from_fn.ensures.items (λ k y q l k'.
    let m : k < 128 = l in
    let h : k / 16 < 8 = omega arith in
    rw (number_at, seat_own (k / 16) h) (search (rules, tests)))
