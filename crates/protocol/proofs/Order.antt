-- The order of the tests in three rules: each is refused by the earlier of two tests that fail. Assumes nothing.
use mathlib.Core.Bool.{not}
use borrow.Author.Tests.{lt-ltb, le-ltb}
use Rattle.std.proofs.lemmas.Bool.{and_parts, or_right}
use Rattle.search.specs.Tests.{must}
use Rattle.world.specs.Roster.{member, faulty}
use Rattle.world.specs.Hold.{holding}
use Rattle.protocol.specs.Rules.{multicast_of, arrive_of, forge_receive_to, forge_receive_found, forge_receive_of}
use Rattle.protocol.specs.Order.{QuotaFirst, EqualFirst, RecallFirst}

pub quota_first : QuotaFirst
unfolding multicast_of must
quota_first r server slot b m g s q =
    let c = and_parts (member r server) (not (faulty r server)) m in
    rw (c.0, c.1, lt-ltb _ _ g, s, le-ltb _ _ q)

pub equal_first : EqualFirst
unfolding arrive_of must
equal_first r origin place b p m e t h =
    rw (m, e, t, or_right (faulty r p.to) (holding b.hold p.sending) h)

pub recall_first : RecallFirst
unfolding forge_receive_of forge_receive_found forge_receive_to must
recall_first r server sender id k digest b m n f e h = rw (m, n, f, e, h)
