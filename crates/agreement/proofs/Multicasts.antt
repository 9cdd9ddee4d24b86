-- A multicast step keeps the invariant: its sender holds the sending, and a packet goes to each other server. Assumes nothing.
use Rattle.std.specs.Prelude.{is_some}
use mathlib.Core.Path.{◌≡◌, refl}
use mathlib.Core.Logic.{inl, inr, ◌≢◌}
use mathlib.Core.Bool.{true, not}
use mathlib.Core.List.{List}
use Prim.Native.Nat.{ℕ, ◌+◌, ◌<◌, ◌≤◌}
use native.Mathlib.Omega.{arith}
use lib.Dec.{ltb, leb}
use lib.ListN.{get_or, set}
use lib.Seq.{get_or-set_same}
use borrow.Author.Tests.{ltb-true, leb-true}
use Rattle.std.proofs.lemmas.Bool.{and_from, and_parts, cases_eq}
use Rattle.world.specs.declared.World.{World}
use Rattle.world.specs.declared.execution.Execution.{Execution}
use Rattle.world.specs.declared.outgoing.Outgoing.{Outgoing}
use Rattle.world.specs.declared.sending.Sending.{Sending}
use Rattle.world.specs.declared.hold.Entry.{Entry}
use Rattle.world.specs.declared.hold.Hold.{Hold}
use Rattle.world.specs.Sizes.{executions_most}
use Rattle.world.specs.Masks.{nobody, has}
use Rattle.world.specs.Roster.{member, faulty}
use Rattle.world.specs.Requests.{request_at}
use Rattle.world.specs.Executions.{opened}
use Rattle.world.specs.Outgoing.{free_places, needed}
use Rattle.world.specs.Hold.{entry_of, free_hold, entry_added}
use Rattle.world.specs.Boxes.{no_packets, no_entries}
use Rattle.world.proofs.Seats.{seat_own}
use Rattle.protocol.specs.declared.boxes.Ruling.{Ruling}
use Rattle.protocol.specs.Rules.{made, multicast_done, roomy, multicast_of}
use Rattle.protocol.specs.Steps.{touch, boxes_of, put_back}
use Rattle.search.proofs.Booleans.{either, musts}
use Rattle.world.proofs.Bits.{nobody_has}
use Rattle.kept.proofs.Requesting.{same_digest_lem}
use Rattle.kept.proofs.Facts.{FactsOf}
use Rattle.agreement.proofs.Invariant.{Correct, hold_at, done_at, table_at, Matches, Holds, Called, Spread, Inv, InvOf}
use Rattle.agreement.proofs.Entries.{kept_holds, entry_kept}
use Rattle.agreement.proofs.Orders.{orders, orders_more, opening, send_keeps}
use Rattle.agreement.proofs.Posts.{posts, posts_keep, posts_under}
use Rattle.agreement.proofs.Moves.{Moves}
use Rattle.agreement.proofs.Moving.{at, one, named, seated, few, stays, ordered, in_holds}
use Rattle.agreement.proofs.Uses.{slot_own}

module _ (w : World) (f : FactsOf w) (v : InvOf w) where
  module _ (p : ℕ) (ok : Correct w.roster p) (slot : ℕ) (stored : slot < w.requests.count) (seal : has (request_at w.requests slot).seals p ≡ true)
      (quota : (table_at w.executions p).count < executions_most) (vacant : is_some (free_hold (hold_at w.holds p)) ≡ true)
      (room : needed w.roster nobody p ≤ free_places (get_or w.outgoing p no_packets)) where
    abbrev id : ℕ
    id = (table_at w.executions p).count + 1

    abbrev sending : Sending
    sending = record { id = id; sender = p; slot = slot }

    abbrev entry : Entry
    entry = entry_of 2 sending 0

    abbrev holds : List Hold
    holds = set w.holds p (entry_added (hold_at w.holds p) entry)

    abbrev mail : List Outgoing
    mail = posts w f p ok nobody sending

    abbrev x : Execution
    x = opening w.roster p id (request_at w.requests slot).digest w.numbered

    sends : Inv w.roster w.requests w.executions mail holds w.delivered
    sends = posts_keep w f p ok nobody sending (entry_kept v (one w f) p (in_holds w f p ok) (f.entries p (seated w f p ok)).size entry (omega arith) vacant)

    x_id : x.id ≡ id
    x_id = (orders w.roster (opened p id (request_at w.requests slot).digest) w.numbered).id

    matches : Matches w.requests slot x
    matches =
        record {
          stored = stored;
          same = rw (orders w.roster (opened p id (request_at w.requests slot).digest) w.numbered).digest (same_digest_lem (request_at w.requests slot).digest);
        }

    own : (stage : ℕ) → stage ≤ 2 → Holds (hold_at holds p) stage p x.id slot
    own stage l =
        rw (get_or-set_same w.holds p (entry_added (hold_at w.holds p) entry) no_entries (in_holds w f p ok), x_id)
        (kept_holds (hold_at w.holds p) entry (f.entries p (seated w f p ok)).size vacant stage p id slot (record { up = l; sender = refl; id = refl; slot = refl }))

    answers : Called w.requests x p (hold_at holds p) (done_at w.delivered p) p
    answers = record { slot = slot; matches = matches; seal = seal; kept = inl (own 2 (omega arith)) }

    spreads : (sl : ℕ) → Matches w.requests sl x → Spread w.roster mail holds w.delivered p x sl
    spreads sl g o good =
        let e = one w f slot sl x matches g in
        either (cases_eq o p) (λ (z : o ≡ p). inr (inl (rw (z, ← e) (own 1 (omega arith)))))
        (λ (z : o ≢ p). inl (rw (← e, x_id) (posts_under w f p ok nobody sending room o good z (nobody_has o))))

    multicasts : Moves w (put_back w (at p p p slot) (multicast_done w.roster p slot (boxes_of w (at p p p slot))))
    unfolding multicast_done made
    multicasts =
        let g = f.tables p (seated w f p ok) in
        ordered w f (at p p p slot) (multicast_done w.roster p slot (boxes_of w (at p p p slot)))
        (orders_more _ w.numbered _ (orders w.roster (opened p id (request_at w.requests slot).digest) w.numbered) f.numbers.most) refl
        (send_keeps sends (one w f) p (seated w f p ok) f.all_tables g.size w.numbered f.numbers.most (few w f) quota id (request_at w.requests slot).digest
        (λ _. answers) (λ sl m _. spreads sl m))

  pub multicast_moves : (server slot : ℕ)
      → (let t = touch server server server slot in Moves w (put_back w t (multicast_of w.roster server slot (boxes_of w t)).boxes))
  unfolding multicast_of
  multicast_moves server slot =
      let t = touch server server server slot in
      let b = boxes_of w t in
      let P : Ruling → Type 0 = λ s. Moves w (put_back w t s.boxes) in
      let same = stays w f t v in
      musts P (member w.roster server) _ _ same λ mine.
      musts P (not (faulty w.roster server)) _ _ same λ good.
      musts P (ltb slot w.requests.count) _ _ same λ there.
      let l = named w f server mine in
      let k = ltb-true slot w.requests.count there in
      let e = seat_own server l in
      let c = slot_own w f slot k in
      musts P (has b.request.seals server) _ _ same λ seal.
      musts P (ltb b.executions.count executions_most) _ _ same λ quota.
      musts P (roomy w.roster server b) _ _ same λ roomy.
      let a = and_parts (leb (needed w.roster nobody server) (free_places b.outgoing)) (is_some (free_hold b.hold)) roomy in
      rw (e, c)
      (multicasts server (and_from _ _ mine good) slot k (rw c at seal) (rw e at (ltb-true b.executions.count executions_most quota)) (rw e at a.1)
      (rw e at (leb-true (needed w.roster nobody server) (free_places b.outgoing) a.0)))
