-- The law of the loop that sends a packet to each recipient. Assumes nothing.
use Rattle.std.proofs.Common.{◌≡◌, ℕ, ◌+◌, cond, add-one}
use Rattle.world.specs.declared.roster.Roster.{Roster}
use Rattle.world.specs.declared.sending.Sending.{Sending}
use Rattle.world.specs.declared.outgoing.Outgoing.{Outgoing}
use Rattle.world.specs.Outgoing.{recipient, packet_added, packet_for, sent_below}

-- one server more
pub sent_more : (r : Roster) (mask server : ℕ) (s : Sending) (o p q : Outgoing) (to : ℕ) → p ≡ sent_below r mask server s o to
    → q ≡ cond (recipient r mask server to) (packet_added p (packet_for to s)) p → q ≡ sent_below r mask server s o (to + 1)
unfolding sent_below
sent_more r mask server s o p q to e d = rw (add-one to, ← e) d
