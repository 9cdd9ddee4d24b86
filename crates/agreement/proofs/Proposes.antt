-- A propose step keeps the invariant. Assumes nothing.
use Rattle.std.specs.Prelude.{None, Option, Some}
use mathlib.Core.Path.{◌≡◌, refl, sym, ◌∙◌}
use mathlib.Core.Logic.{inl, inr}
use mathlib.Core.Bool.{true, false, not}
use Prim.Native.Nat.{ℕ, ◌<◌}
use native.Mathlib.Omega.{arith}
use lib.ListN.{set}
use lib.Seq.{set-get_or, get_or-set_same}
use Rattle.std.proofs.lemmas.Bool.{not-false}
use Rattle.world.specs.declared.World.{World}
use Rattle.world.specs.declared.sending.Sending.{Sending}
use Rattle.world.specs.declared.hold.Entry.{Entry}
use Rattle.world.specs.Sizes.{executions_most}
use Rattle.world.specs.Masks.{has}
use Rattle.world.specs.Requests.{request_at, same_digest}
use Rattle.world.specs.Executions.{execution_of, called}
use Rattle.world.specs.Hold.{entry_of, entry_at, entry_put}
use Rattle.world.specs.Boxes.{no_packets, no_entries, hold_of}
use Rattle.protocol.specs.declared.boxes.Ruling.{Ruling}
use Rattle.protocol.specs.Rules.{raised, recorded, propose_to, propose_found, propose_of}
use Rattle.protocol.specs.Steps.{touch_for, boxes_of, put_back}
use Rattle.search.proofs.Booleans.{musts, must_cases}
use Rattle.kept.proofs.Facts.{FactsOf}
use Rattle.agreement.proofs.Invariant.{Correct, hold_at, done_at, table_at, made, Called, Inv, InvOf}
use Rattle.agreement.proofs.Entries.{entry_second, put_holds}
use Rattle.agreement.proofs.Orders.{orders, orders_more, calling, call_keeps}
use Rattle.agreement.proofs.Moves.{Moves}
use Rattle.agreement.proofs.Moving.{at, one, seated, few, calm_entry, stays, ordered, in_holds}
use Rattle.agreement.proofs.Uses.{Uses, uses, its_made, its_id, dropped, entry_moves}

module _ (w : World) (f : FactsOf w) (v : InvOf w) where
  module _ (p : ℕ) (ok : Correct w.roster p) (place : ℕ) (first : (entry_at (hold_at w.holds p) place).stage ≡ 1) where
    abbrev sending : Sending
    sending = (entry_at (hold_at w.holds p) place).sending

    abbrev second : Entry
    second = entry_of 2 sending 0

    u : Uses w f v p ok place
    u = uses w f v p ok place 1 (λ z. omega arith) first

    raises : Inv w.roster w.requests w.executions w.outgoing (set w.holds p (entry_put (hold_at w.holds p) place second)) w.delivered
    raises =
        entry_second v (one w f) p (in_holds w f p ok) place (f.entries p (seated w f p ok)).size u.within second (omega arith) first (omega arith) refl

    module _ (k : ℕ) (q : execution_of (table_at w.executions sending.sender) sending.id ≡ Some k) where
      -- the call is answered for: its server holds the entry
      answers : has (request_at w.requests sending.slot).seals p ≡ true → same_digest (request_at w.requests sending.slot).digest (made w.executions sending.sender k).digest ≡ true
          → Called w.requests (calling w.roster (made w.executions sending.sender k) p w.numbered) sending.sender
          (hold_at (set w.holds p (entry_put (hold_at w.holds p) place second)) p) (done_at w.delivered p) p
      answers seal same =
          let o = orders w.roster (called (made w.executions sending.sender k) p) w.numbered in
          record {
            slot = sending.slot;
            matches = record { stored = u.slot; same = rw o.digest same };
            seal = seal;
            kept = inl
                (rw (get_or-set_same w.holds p (entry_put (hold_at w.holds p) place second) no_entries (in_holds w f p ok))
                (put_holds (hold_at w.holds p) place second (f.entries p (seated w f p ok)).size u.within 2 sending.sender _ sending.slot
                (record { up = omega arith; sender = refl; id = sym (o.id ∙ its_id w f v p ok place u k q); slot = refl })));
          }

    proposed : (g : Option ℕ) → g ≡ execution_of (table_at w.executions sending.sender) sending.id
        → (let t = at p p sending.sender sending.slot in Moves w (put_back w t (propose_found w.roster p place (boxes_of w t) g).boxes))
    unfolding propose_found propose_to recorded
    proposed (Some k) q =
        let t = at p p sending.sender sending.slot in
        let P : Ruling → Type 0 = λ s. Moves w (put_back w t s.boxes) in
        let x = made w.executions sending.sender k in
        let drops = dropped w f v p ok place u k (sym q) sending.sender sending.slot in
        let g = f.tables sending.sender u.sender in
        let m = its_made w f v p ok place u k (sym q) in
        let i : k < executions_most = omega (arith, g.most, m.used) in
        must_cases P (not (has x.called p)) _ _
        (λ (n : not (has x.called p) ≡ false). drops (inl (first, not-false (has x.called p) n))) λ _.
        musts P (has (request_at w.requests sending.slot).seals p) _ _ (calm_entry w f t _ raises) λ seal.
        must_cases P (same_digest (request_at w.requests sending.slot).digest x.digest) _ _ (λ n. drops (inr n)) λ same.
        ordered w f t (recorded w.roster p k (raised place 2 0 (boxes_of w t)))
        (orders_more _ w.numbered _ (orders w.roster (called x p) w.numbered) f.numbers.most) refl
        (rw (set-get_or w.outgoing p no_packets)
        (call_keeps raises (one w f) sending.sender u.sender f.all_tables g.size w.numbered f.numbers.most (few w f) k i m.used p (seated w f p ok)
        (λ _. answers k (sym q) seal same)))
    proposed None q = stays w f (at p p sending.sender sending.slot) v

  pub propose_moves : (server place : ℕ)
      → (let t = touch_for server (entry_at (hold_of w server) place).sending in
      Moves w (put_back w t (propose_of w.roster server place (boxes_of w t)).boxes))
  unfolding propose_of
  propose_moves server place =
      entry_moves w f v 1 (λ z. omega arith) server place (λ b. propose_found w.roster server place b (execution_of b.executions (entry_at b.hold place).sending.id))
      (λ ok first. proposed server ok place first _ refl)
