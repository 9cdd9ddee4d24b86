-- A message is no longer than the 55 bytes that it is cut from.
use Rattle.std.proofs.Common.{◌/◌, ◌≤◌, arith, take, length, length-take-le}
use Rattle.digest.proofs.Short.{short_ok}
use Rattle.vectors.proofs.main.Goals as goal

pub unwrap-digest-requires : goal.unwrap-digest-requires
unwrap-digest-requires c =
    let few : c.loop-c.digits ≤ 110 = c.loop-c.invariant in
    let at = c.loop-c.digits / 2 in
    short_ok (take at c.loop-c.message) c.sha256.result c.sha256.ensures (grind (arith, length-take-le at c.loop-c.message))
