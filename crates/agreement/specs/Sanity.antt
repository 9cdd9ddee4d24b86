-- What `Agreed` shuts out: three kinds of worlds of which it must not hold. Nothing else is asked of these worlds,
-- sound or not.
use Rattle.std.specs.Prelude.{ℕ, ◌<◌, ◌≡◌, ◌≢◌, true, length, get_or}
use Rattle.world.specs.declared.World.{World}
use Rattle.world.specs.declared.sending.Sending.{Sending}
use Rattle.world.specs.Roster.{correct}
use Rattle.world.specs.Sending.{no_sending}
use Rattle.protocol.specs.Quiet.{quiet}
use Rattle.agreement.specs.Agreement.{delivered_by, Agreed}

-- the item that a server delivered at a place of its list
abbrev pub delivered_at : World → ℕ → ℕ → Sending
delivered_at w server k = get_or (delivered_by w server) k no_sending

-- two correct servers delivered in different order: somewhere their lists differ
pub record OrdersDiffer (w : World) : Type 0 where
  pub one : ℕ
  pub other : ℕ
  pub good_one : correct w.roster one ≡ true
  pub good_other : correct w.roster other ≡ true
  pub place : ℕ
  pub in_one : place < length (delivered_by w one)
  pub in_other : place < length (delivered_by w other)
  pub differ : delivered_at w one place ≢ delivered_at w other place

-- a correct server delivered a sending twice: the same sender and id at two places of its list
pub record DeliveredTwice (w : World) : Type 0 where
  pub server : ℕ
  pub good : correct w.roster server ≡ true
  pub place : ℕ
  pub again : ℕ
  pub two : place ≢ again
  pub in_list : place < length (delivered_by w server)
  pub again_in_list : again < length (delivered_by w server)
  pub sender : (delivered_at w server place).sender ≡ (delivered_at w server again).sender
  pub id : (delivered_at w server place).id ≡ (delivered_at w server again).id

-- the world is quiet, and a correct server has delivered less than is numbered
pub record LeftBehind (w : World) : Type 0 where
  pub still : quiet w ≡ true
  pub server : ℕ
  pub good : correct w.roster server ≡ true
  pub less : length (delivered_by w server) < w.numbered

-- no world of these kinds agrees
abbrev pub ShutOut : (World → Type 0) → Type 0
ShutOut P = (w : World) → P w → Agreed w → ⊥

abbrev pub Sane : Type 0
Sane = ShutOut OrdersDiffer × (ShutOut DeliveredTwice × ShutOut LeftBehind)
