-- Every number belongs to a sending that a correct server called for. Assumes nothing.
use mathlib.Core.Path.{◌≡◌, refl}
use Prim.Native.Nat.{ℕ, ◌<◌, ◌≤◌}
use native.Mathlib.Omega.{arith}
use Rattle.world.specs.declared.World.{World}
use Rattle.kept.proofs.Facts.{FactsOf}
use Rattle.agreement.proofs.Invariant.{Correct, hold_at, done_at, made, Made, Belongs, Called, InvOf}
use Rattle.agreement.proofs.Small.{Small}
use Rattle.agreement.proofs.Pigeon.{correct_caller}
use Rattle.agreement.proofs.Sendings.{given}

-- all that is known of a world that a start and steps lead to
pub record Good (w : World) : Type 0 where
  pub facts : FactsOf w
  pub inv : InvOf w
  pub small : Small w.executions

-- the execution that has a number, and a correct server that has called for it
pub record Member (w : World) (n : ℕ) : Type 0 where
  pub sender : ℕ
  pub place : ℕ
  pub there : Made w.executions sender place
  pub number : (made w.executions sender place).number ≡ n
  pub server : ℕ
  pub good : Correct w.roster server
  pub called : Called w.requests (made w.executions sender place) sender (hold_at w.holds server) (done_at w.delivered server) server

module _ (w : World) where
  pub member_of : Good w → (n : ℕ) → 0 < n → n ≤ w.numbered → Member w n
  member_of g n a b =
      let v = given w g.facts n a b in
      let e = v.number in
      let c = correct_caller w g.facts g.small v.sender v.place v.there (λ z. omega arith) in
      record {
        sender = v.sender;
        place = v.place;
        there = v.there;
        number = v.number;
        server = c.server;
        good = c.good;
        called = g.inv.calls v.sender v.place c.server v.there c.good c.called;
      }

  -- the sending
  pub member_belongs : {n : ℕ} → 0 < n → (m : Member w n)
      → Belongs w.requests w.executions m.sender (made w.executions m.sender m.place).id m.called.slot n
  member_belongs some m =
      record { place = m.place; there = m.there; id = refl; number = m.number; some = some; matches = m.called.matches }
