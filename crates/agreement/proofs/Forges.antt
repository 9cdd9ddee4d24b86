-- A forged send and a forged receive keep the invariant. Assumes nothing.
use Rattle.std.specs.Prelude.{None, Option, Some, is_some}
use mathlib.Core.Path.{◌≡◌, refl, sym, ◌∙◌}
use mathlib.Core.Bool.{true, false, not, ◌&&◌}
use mathlib.Core.List.{List}
use Prim.Native.Nat.{ℕ, ◌<◌}
use native.Mathlib.Omega.{arith}
use lib.Dec.{ltb}
use lib.Seq.{set-get_or}
use borrow.Author.Tests.{ltb-true}
use Rattle.std.proofs.lemmas.Bool.{and_parts, not-true}
use Rattle.world.specs.declared.World.{World}
use Rattle.world.specs.Sizes.{servers, executions_most}
use Rattle.world.specs.Masks.{has}
use Rattle.world.specs.Roster.{member, faulty}
use Rattle.world.specs.Requests.{same_digest}
use Rattle.world.specs.Executions.{execution_at, execution_of, opened, called}
use Rattle.world.specs.Boxes.{no_packets, no_entries, seat}
use Rattle.world.proofs.Seats.{seat_own}
use Rattle.protocol.specs.declared.boxes.Ruling.{Ruling}
use Rattle.protocol.specs.Rules.{made, recorded, forge_send_of, forge_receive_to, forge_receive_found, forge_receive_of}
use Rattle.protocol.specs.Steps.{touch, boxes_of, put_back}
use Rattle.search.proofs.Booleans.{apart, musts}
use Rattle.kept.proofs.Facts.{FactsOf}
use Rattle.kept.proofs.Ordering.{found_made, not_found}
use Rattle.agreement.proofs.Invariant.{Correct, table_at, Cause, sender, settled, delivered, InvOf}
use Rattle.agreement.proofs.Orders.{orders, orders_more, opening, not_delivered, send_keeps, call_keeps}
use Rattle.agreement.proofs.Moves.{Moves}
use Rattle.agreement.proofs.Moving.{at, one, named, few, good, stays, ordered}

module _ (w : World) (f : FactsOf w) (v : InvOf w) where
  -- a faulty server is not correct
  liar : {A : Type 0} (p : ℕ) → faulty w.roster p ≡ true → Correct w.roster p → A
  liar p bad ok = apart (faulty w.roster p) bad (good w f p ok)

  module _ (x : ℕ) (seated : x < servers) (id : ℕ) (digest : List ℕ) (bad : faulty w.roster x ≡ true)
      (none : is_some (execution_of (table_at w.executions x) id) ≡ false) (room : (table_at w.executions x).count < executions_most) where
    -- the sender is faulty, and no correct server has settled or delivered an execution that was not there
    unspread : (sl : ℕ) → Cause w.roster w.holds w.delivered x (opening w.roster x id digest w.numbered) sl → ⊥
    unspread sl (sender ok) = liar x bad ok
    unspread sl (settled p ok h) =
        let b = rw h.is.sender at (v.third p h.place ok h.is.up) in
        not_found (table_at w.executions x) id b.place none (f.tables x seated).most b.there.used
        (b.id ∙ h.is.id ∙ (orders w.roster (opened x id digest) w.numbered).id)
    unspread sl (delivered p ok d) =
        not_delivered v (one w f) x seated f.all_tables (f.tables x seated).size w.numbered f.numbers.most (few w f) room id digest p ok d

    sent_moves : (y : ℕ) → Moves w (put_back w (at x x x y) (made w.roster x id digest (boxes_of w (at x x x y))))
    unfolding made
    sent_moves y =
        ordered w f (at x x x y) (made w.roster x id digest (boxes_of w (at x x x y)))
        (orders_more _ w.numbered _ (orders w.roster (opened x id digest) w.numbered) f.numbers.most) refl
        (rw (set-get_or w.outgoing x no_packets, set-get_or w.holds x no_entries)
        (send_keeps v (one w f) x seated f.all_tables (f.tables x seated).size w.numbered f.numbers.most (few w f) room id digest (liar x bad)
        (λ sl _ c. absurd (unspread sl c))))

  pub forge_send_moves : (server id : ℕ) (digest : List ℕ)
      → (let t = touch server server server 0 in Moves w (put_back w t (forge_send_of w.roster server id digest (boxes_of w t)).boxes))
  unfolding forge_send_of
  forge_send_moves server id digest =
      let t = touch server server server 0 in
      let P : Ruling → Type 0 = λ s. Moves w (put_back w t s.boxes) in
      let same = stays w f t v in
      musts P (member w.roster server) _ _ same λ mine.
      let l = named w f server mine in
      let e = seat_own server l in
      musts P (faulty w.roster server) _ _ same λ bad.
      musts P (not (is_some (execution_of (table_at w.executions (seat server)) id))) _ _ same λ none.
      musts P (ltb (table_at w.executions (seat server)).count executions_most) _ _ same λ room.
      rw e
      (sent_moves server l id digest bad (rw e at (not-true (is_some (execution_of (table_at w.executions (seat server)) id)) none))
      (rw e at (ltb-true (table_at w.executions (seat server)).count executions_most room)) 0)

  module _ (p x y : ℕ) (caller : p < servers) (seated : x < servers) (bad : faulty w.roster p ≡ true) (digest : List ℕ) where
    received : (id : ℕ) (g : Option ℕ) → g ≡ execution_of (table_at w.executions x) id
        → Moves w (put_back w (at p p x y) (forge_receive_found w.roster p digest (boxes_of w (at p p x y)) g).boxes)
    unfolding forge_receive_found forge_receive_to recorded
    received id (Some k) q =
        let t = at p p x y in
        let P : Ruling → Type 0 = λ s. Moves w (put_back w t s.boxes) in
        let e = execution_at (table_at w.executions x) k in
        let same = stays w f t v in
        let u = found_made (table_at w.executions x) id k (sym q) in
        let g = f.tables x seated in
        let i : k < executions_most = omega (arith, g.most, u) in
        musts P (not (has e.called p)) _ _ same λ _.
        musts P (same_digest e.digest digest) _ _ same λ _.
        ordered w f t (recorded w.roster p k (boxes_of w t))
        (orders_more _ w.numbered _ (orders w.roster (called e p) w.numbered) f.numbers.most) refl
        (rw (set-get_or w.outgoing p no_packets, set-get_or w.holds p no_entries)
        (call_keeps v (one w f) x seated f.all_tables g.size w.numbered f.numbers.most (few w f) k i u p caller (liar p bad)))
    received id None q = stays w f (at p p x y) v

  pub forge_receive_moves : (server from id : ℕ) (digest : List ℕ)
      → (let t = touch server server from 0 in Moves w (put_back w t (forge_receive_of w.roster server from id digest (boxes_of w t)).boxes))
  unfolding forge_receive_of
  forge_receive_moves server from id digest =
      let t = touch server server from 0 in
      let P : Ruling → Type 0 = λ s. Moves w (put_back w t s.boxes) in
      let same = stays w f t v in
      musts P (member w.roster server && member w.roster from) _ _ same λ both.
      let a = and_parts (member w.roster server) (member w.roster from) both in
      let l = named w f server a.0 in
      let m = named w f from a.1 in
      musts P (faulty w.roster server) _ _ same λ bad.
      rw (seat_own server l, seat_own from m) (received server from 0 l m bad digest id _ refl)
