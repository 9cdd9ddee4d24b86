-- A deliver step keeps the invariant. Assumes nothing.
use Rattle.std.specs.Prelude.{None, Option, Some}
use mathlib.Core.Path.{◌≡◌, refl, sym}
use mathlib.Core.Logic.{inl}
use mathlib.Core.Bool.{not}
use Prim.Native.Nat.{ℕ, ◌+◌, ◌<◌}
use native.Mathlib.Omega.{arith}
use lib.Dec.{eqb}
use lib.ListN.{length}
use lib.Seq.{set-get_or, get_or-set_same}
use borrow.Author.Tests.{eqb-true}
use Rattle.std.proofs.lemmas.Bool.{and_from, and_parts}
use Rattle.search.proofs.Laws.{found_in}
use Rattle.world.specs.declared.World.{World}
use Rattle.world.specs.Sizes.{hold_places}
use Rattle.world.specs.Roster.{member, faulty}
use Rattle.world.specs.Hold.{entry_at, ready_place}
use Rattle.world.specs.Delivered.{next_of, appended}
use Rattle.world.specs.Boxes.{no_packets, no_items}
use Rattle.world.proofs.Seats.{seat_own}
use Rattle.protocol.specs.declared.boxes.Ruling.{Ruling}
use Rattle.protocol.specs.Rules.{deliver_found, deliver_of}
use Rattle.protocol.specs.Steps.{touch, boxes_of, put_back}
use Rattle.search.proofs.Booleans.{musts}
use Rattle.search.proofs.Every.{found_at}
use Rattle.kept.proofs.Facts.{FactsOf, entry_out}
use Rattle.kept.proofs.Delivering.{third_number}
use Rattle.agreement.proofs.Invariant.{Correct, hold_at, done_at, InvOf}
use Rattle.agreement.proofs.Keeping.{belongs_at}
use Rattle.agreement.proofs.Entries.{entry_freed_lem}
use Rattle.agreement.proofs.Items.{item_keeps}
use Rattle.agreement.proofs.Moves.{Moves}
use Rattle.agreement.proofs.Moving.{at, one, named, seated, few, keys, calm, stays, in_holds}

module _ (w : World) (f : FactsOf w) (v : InvOf w) where
  delivered_at_lem : (p x y : ℕ) → Correct w.roster p → (g : Option ℕ) → g ≡ ready_place (hold_at w.holds p) (next_of (done_at w.delivered p))
      → Moves w (put_back w (at p p x y) (deliver_found (boxes_of w (at p p x y)) g).boxes)
  unfolding deliver_found
  delivered_at_lem p x y ok (Some z) q =
      let e = entry_at (hold_at w.holds p) z in
      let d = done_at w.delivered p in
      let l = found_in _ hold_places z (Some z) q refl in
      let a = and_parts (eqb e.stage 3) (eqb e.number (next_of d)) (found_at _ hold_places z (sym q)) in
      let third = eqb-true e.stage 3 a.0 in
      let number = eqb-true e.number (next_of d) a.1 in
      let s = seated w f p ok in
      let h = entry_out w.roster _ w.numbered p _ e (λ c. omega arith) ((f.entries p s).places z l) in
      let low = third_number w.numbered e third h.number in
      let top = f.numbers.most in
      let less = few w f p ok in
      let next : e.number ≡ d.count + 1 = omega arith in
      let all : p < length w.delivered = rw f.all_items s in
      let now = item_keeps v (one w f) w.numbered (keys w f) p ok all (f.items p s).size (omega arith) z third next in
      calm w f (at p p x y) _ _ _
      (rw (set-get_or w.outgoing p no_packets)
      (entry_freed_lem now (one w f) p (in_holds w f p ok) z (f.entries p s).size l
      (λ u k sl m g o.
      let b = rw o.sender at (v.third p z ok (omega arith)) in
      let c = (belongs_at (keys w f) k b m o.id).0 in
      inl (record {
        numbered = rw c b.some;
        reached = rw (get_or-set_same w.delivered p (appended d e.sending) no_items all) (omega arith);
      }))))
  delivered_at_lem p x y ok None q = stays w f (at p p x y) v

  pub deliver_moves : (server : ℕ) → (let t = touch server server server 0 in Moves w (put_back w t (deliver_of w.roster server (boxes_of w t)).boxes))
  unfolding deliver_of
  deliver_moves server =
      let t = touch server server server 0 in
      let P : Ruling → Type 0 = λ s. Moves w (put_back w t s.boxes) in
      let same = stays w f t v in
      musts P (member w.roster server) _ _ same λ mine.
      musts P (not (faulty w.roster server)) _ _ same λ good.
      rw (seat_own server (named w f server mine)) (delivered_at_lem server server 0 (and_from _ _ mine good) _ refl)
