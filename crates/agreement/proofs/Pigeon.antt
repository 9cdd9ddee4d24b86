-- A numbered execution has a correct caller: its mask has more members than there are faulty servers. Assumes nothing.
use mathlib.Core.Path.{◌≡◌, ◌∙◌}
use mathlib.Core.Logic.{◌⊎◌, inl, inr, ◌≢◌}
use mathlib.Core.Bool.{true, false, not}
use Prim.Native.Nat.{ℕ, zero, suc, ◌^◌, ◌/◌, ◌%◌, ◌<◌, ◌≤◌}
use native.Mathlib.Omega.{arith}
use lib.Count.{ones, ones_step, ones-le}
use lib.Dec.{eqb, leb}
use borrow.Author.Tests.{eqb-true, leb-true, ne_eqb}
use Rattle.std.proofs.lemmas.Bool.{and_from, and_parts, cases_lt, not_from_false}
use Rattle.world.specs.declared.World.{World}
use Rattle.world.specs.declared.roster.Roster.{Roster}
use Rattle.world.specs.declared.execution.Execution.{Execution}
use Rattle.world.specs.Sizes.{servers}
use Rattle.world.specs.Masks.{has}
use Rattle.world.specs.Roster.{faulty, threshold, faults, strays, good_roster}
use Rattle.protocol.specs.Sound.{order_sound}
use Rattle.search.proofs.Booleans.{either, and4}
use Rattle.world.proofs.Bits.{has_zero, has_suc}
use Rattle.kept.proofs.Facts.{FactsOf}
use Rattle.kept.proofs.Masking.{masks_out}
use Rattle.agreement.proofs.Invariant.{Correct, made, Made}
use Rattle.agreement.proofs.Small.{Small}
use Rattle.agreement.proofs.Moving.{used}

-- a server of one mask that is not in another
record Outside (mask other : ℕ) (k : ℕ) : Type 0 where
  server : ℕ
  below : server < k
  inside : has mask server ≡ true
  outside : has other server ≡ false

module _ (mask other : ℕ) where
  lowest : mask % 2 ≡ 1 → other % 2 ≡ 0 → (k : ℕ) → Outside mask other (suc k)
  lowest a b k = record { server = 0; below = omega arith; inside = has_zero mask ∙ rw a; outside = has_zero other ∙ rw b }

  higher : (k : ℕ) → Outside (mask / 2) (other / 2) k → Outside mask other (suc k)
  higher k o =
      record {
        server = suc o.server;
        below = omega arith;
        inside = has_suc mask o.server ∙ o.inside;
        outside = has_suc other o.server ∙ o.outside;
      }

  -- where the upper digits have no more members, the lowest digit makes the difference
  digits : ones other < ones mask → (ones (other / 2) < ones (mask / 2)) ⊎ ((mask % 2 ≡ 1) × (other % 2 ≡ 0))
  digits h =
      either (cases_lt (ones (other / 2)) (ones (mask / 2)))
      (λ (l : ones (other / 2) < ones (mask / 2)). inl l)
      (λ (l : ones (mask / 2) ≤ ones (other / 2)). let a = ones_step mask in let b = ones_step other in inr (omega arith))

-- a mask with more members than another has one outside of it
pigeon : (k mask other : ℕ) → mask < 2 ^ k → ones other < ones mask → Outside mask other k
pigeon zero mask other b h = absurd (omega (arith, ones-le 0 mask b))
pigeon (suc k) mask other b h =
    either (digits mask other h)
    (λ (l : ones (other / 2) < ones (mask / 2)). higher mask other k (pigeon k (mask / 2) (other / 2) (omega arith) l))
    (λ (l : (mask % 2 ≡ 1) × (other % 2 ≡ 0)). lowest mask other l.0 l.1 k)

-- "at most f liars"
few_faulty : (r : Roster) → good_roster r ≡ true → ones r.faulty ≤ faults r
few_faulty r e =
    leb-true (ones r.faulty) (faults r) (and4 (leb 1 r.n) (leb r.n servers) (not (strays r r.faulty)) (leb (ones r.faulty) (faults r)) e).3

-- a numbered execution's mask has T members
full_mask : (r : Roster) (m : ℕ) (x : Execution) → x.number ≢ 0 → order_sound r m x ≡ true → ones x.mask ≡ threshold r
unfolding order_sound
full_mask r m x d e =
    eqb-true (ones x.mask) (threshold r) (and_parts (eqb (ones x.mask) (threshold r)) (leb x.number m) (rw (ne_eqb x.number 0 d) at e)).0

pub record Caller (r : Roster) (x : Execution) : Type 0 where
  pub server : ℕ
  pub good : Correct r server
  pub called : has x.called server ≡ true

pub correct_caller : (w : World) → FactsOf w → Small w.executions → (s k : ℕ) → Made w.executions s k → (made w.executions s k).number ≢ 0
    → Caller w.roster (made w.executions s k)
correct_caller w f small s k there numbered =
    let x = made w.executions s k in
    let g = used w f there in
    let full = full_mask w.roster w.numbered x numbered g.order in
    let few = few_faulty w.roster f.roster in
    let o = pigeon servers x.mask w.roster.faulty (small s k) (omega arith) in
    let m = masks_out w.roster s x g.masks in
    record {
      server = o.server;
      good = and_from _ _ (m.proposers o.server o.below o.inside) (not_from_false (faulty w.roster o.server) o.outside);
      called = m.within o.server o.below o.inside;
    }
