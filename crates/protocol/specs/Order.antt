-- The order of tests, as promises about three rules (proofs/Order): where two fail, the earlier one gives the answer.
use Rattle.std.specs.Prelude.{◌≡◌, true, List, ℕ, ◌<◌, ◌≤◌, Some}
use Rattle.world.specs.declared.roster.Roster.{Roster}
use Rattle.world.specs.declared.outgoing.Packet.{Packet}
use Rattle.world.specs.Sizes.{executions_most}
use Rattle.world.specs.Masks.{has}
use Rattle.world.specs.Roster.{member, faulty, correct}
use Rattle.world.specs.Executions.{execution_at, execution_of}
use Rattle.world.specs.Outgoing.{packet_at}
use Rattle.world.specs.Hold.{holding}
use Rattle.protocol.specs.declared.answer.Answer.TheVariants.{Dropped, Quota, Recall}
use Rattle.protocol.specs.declared.boxes.Boxes.{Boxes}
use Rattle.protocol.specs.Rules.{answered, multicast_of, arrive_of, forge_receive_of}

-- multicast: a server with 16 executions of its own is answered 10, even where there is no room
abbrev pub QuotaFirst : Type 0
QuotaFirst =
    (r : Roster) (server slot : ℕ) (b : Boxes) → correct r server ≡ true → slot < b.stored
    → has b.request.seals server ≡ true → executions_most ≤ b.executions.count
    → multicast_of r server slot b ≡ answered Quota b

-- arrive: a packet whose entry is already held is answered 1, even where the hold is full
abbrev pub EqualFirst : Type 0
EqualFirst =
    (r : Roster) (origin place : ℕ) (b : Boxes) (p : Packet) → member r origin ≡ true
    → packet_at b.outgoing place ≡ p → p.there ≡ true → holding b.hold p.sending ≡ true
    → (arrive_of r origin place b).answer ≡ Dropped

-- forge receive: a server that has called is answered 13, whatever digest it gives
abbrev pub RecallFirst : Type 0
RecallFirst =
    (r : Roster) (server sender id k : ℕ) (digest : List ℕ) (b : Boxes) → member r server ≡ true
    → member r sender ≡ true → faulty r server ≡ true → execution_of b.executions id ≡ Some k
    → has (execution_at b.executions k).called server ≡ true
    → forge_receive_of r server sender id digest b ≡ answered Recall b
