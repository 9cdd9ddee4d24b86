-- A settle step keeps the invariant: whoever settles has served everyone. Assumes nothing.
use Rattle.std.specs.Prelude.{None, Option, Some}
use mathlib.Core.Path.{◌≡◌, refl, sym}
use mathlib.Core.Logic.{inl, inr, ◌≢◌}
use mathlib.Core.Bool.{true, false, not}
use mathlib.Core.List.{List}
use Prim.Native.Nat.{ℕ, ◌≤◌}
use native.Mathlib.Omega.{arith}
use lib.Dec.{eqb, leb}
use lib.ListN.{get_or, set}
use lib.Seq.{set-get_or}
use borrow.Author.Tests.{eqb-true, eqb-false, leb-true}
use Rattle.std.proofs.lemmas.Bool.{cases_eq, not-false, not-true}
use Rattle.world.specs.declared.World.{World}
use Rattle.world.specs.declared.execution.Execution.{Execution}
use Rattle.world.specs.declared.outgoing.Outgoing.{Outgoing}
use Rattle.world.specs.declared.sending.Sending.{Sending}
use Rattle.world.specs.Masks.{has}
use Rattle.world.specs.Requests.{request_at, same_digest}
use Rattle.world.specs.Executions.{execution_of}
use Rattle.world.specs.Outgoing.{free_places, needed}
use Rattle.world.specs.Hold.{entry_of, entry_at, entry_put}
use Rattle.world.specs.Boxes.{no_packets, no_items, hold_of}
use Rattle.protocol.specs.declared.boxes.Ruling.{Ruling}
use Rattle.protocol.specs.Rules.{settle_to, settle_found, settle_of}
use Rattle.protocol.specs.Steps.{touch_for, boxes_of, put_back}
use Rattle.search.proofs.Booleans.{either, test, musts, must_cases}
use Rattle.kept.proofs.Facts.{FactsOf}
use Rattle.agreement.proofs.Invariant.{Correct, hold_at, done_at, table_at, made, Matches, Belongs, Served, Spread, sender, Inv, InvOf}
use Rattle.agreement.proofs.Keeping.{holds_less}
use Rattle.agreement.proofs.Entries.{entry_third}
use Rattle.agreement.proofs.Posts.{posts, posts_keep, posts_under}
use Rattle.agreement.proofs.Moves.{Moves}
use Rattle.agreement.proofs.Moving.{at, one, seated, keys, calm, calm_entry, stays, in_holds}
use Rattle.agreement.proofs.Uses.{Uses, uses, its_made, its_id, its_only, dropped, entry_moves}

module _ (w : World) (f : FactsOf w) (v : InvOf w) where
  module _ (p : ℕ) (ok : Correct w.roster p) (place : ℕ) (second : (entry_at (hold_at w.holds p) place).stage ≡ 2) where
    abbrev sending : Sending
    sending = (entry_at (hold_at w.holds p) place).sending

    u : Uses w f v p ok place
    u = uses w f v p ok place 2 (λ z. omega arith) second

    module _ (k : ℕ) (q : execution_of (table_at w.executions sending.sender) sending.id ≡ Some k) where
      abbrev x : Execution
      x = made w.executions sending.sender k

      module _ (some : x.number ≢ 0) (same : same_digest (request_at w.requests sending.slot).digest x.digest ≡ true) where
        matches : Matches w.requests sending.slot x
        matches = record { stored = u.slot; same = same }

        belongs : Belongs w.requests w.executions sending.sender sending.id sending.slot x.number
        belongs =
            record { place = k; there = its_made w f v p ok place u k q; id = its_id w f v p ok place u k q; number = refl; some = omega arith; matches = matches }

        -- the entry goes to stage three where its sending is spread
        raises : {os : List Outgoing} → Inv w.roster w.requests w.executions os w.holds w.delivered
            → Spread w.roster os w.holds w.delivered sending.sender x sending.slot
            → Inv w.roster w.requests w.executions os (set w.holds p (entry_put (hold_at w.holds p) place (entry_of 3 sending x.number))) w.delivered
        raises {os} n spread =
            let s = seated w f p ok in
            entry_third n (one w f) p (in_holds w f p ok) place (f.entries p s).size u.within x.number belongs
            (λ s j sl m g o.
            rw (its_only w f v p ok place u k q {stage = 0} m (record { up = omega arith; sender = o.sender; id = o.id; slot = o.slot }), ← o.sender, ← o.slot) spread)

        -- a correct sender's sending is spread
        own_spread : sending.sender ≡ p → Spread w.roster w.outgoing w.holds w.delivered sending.sender x sending.slot
        own_spread y = v.spread sending.sender k sending.slot (its_made w f v p ok place u k q) matches (sender (rw y ok))

        abbrev mail : List Outgoing
        mail = posts w f p ok x.mask sending

        -- a server of the final mask has called, so it holds the sending or has delivered it
        member_served : (o : ℕ) → Correct w.roster o → has x.mask o ≡ true → Served mail (hold_at w.holds o) x (done_at w.delivered o) sending.sender sending.slot o
        member_served o good y =
            let m = its_made w f v p ok place u k q in
            let c = v.calls sending.sender k o m good ((keys w f).within sending.sender k o (seated w f o good) m y) in
            let z = one w f c.slot sending.slot x c.matches matches in
            inr (either c.kept (λ h. inl (rw z at (holds_less {b = 1} (omega arith) h))) (λ d. inr d))

        sent_spread : needed w.roster x.mask p ≤ free_places (get_or w.outgoing p no_packets) → Spread w.roster mail w.holds w.delivered sending.sender x sending.slot
        sent_spread room o good =
            either (cases_eq o p)
            (λ (z : o ≡ p).
            inr (inl (rw z (record { place = place; is = record { up = omega arith; sender = refl; id = sym (its_id w f v p ok place u k q); slot = refl } }))))
            (λ (z : o ≢ p).
            test (has x.mask o) (λ y. member_served o good y) (λ n. inl (rw (its_id w f v p ok place u k q) (posts_under w f p ok x.mask sending room o good z n))))

    settles : (g : Option ℕ) → g ≡ execution_of (table_at w.executions sending.sender) sending.id
        → (let t = at p p sending.sender sending.slot in Moves w (put_back w t (settle_found w.roster p place (boxes_of w t) g).boxes))
    unfolding settle_found settle_to
    settles (Some k) q =
        let t = at p p sending.sender sending.slot in
        let P : Ruling → Type 0 = λ s. Moves w (put_back w t s.boxes) in
        let y = made w.executions sending.sender k in
        let r = sym q in
        let nothing = stays w f t v in
        musts P (not (eqb y.number 0)) _ _ nothing λ number.
        let some = eqb-false y.number 0 (not-true (eqb y.number 0) number) in
        must_cases P (same_digest (request_at w.requests sending.slot).digest y.digest) _ _
        (λ n. dropped w f v p ok place u k r sending.sender sending.slot (inr n)) λ same.
        must_cases P (not (eqb sending.sender p)) _ _
        (λ (n : not (eqb sending.sender p) ≡ false).
        calm_entry w f t _ (raises k r some same v (own_spread k r some same (eqb-true sending.sender p (not-false (eqb sending.sender p) n))))) λ _.
        musts P (leb (needed w.roster y.mask p) (free_places (get_or w.outgoing p no_packets))) _ _ nothing λ room.
        calm w f t _ _ _
        (rw (set-get_or w.delivered p no_items)
        (raises k r some same (posts_keep w f p ok y.mask sending v)
        (sent_spread k r some same (leb-true (needed w.roster y.mask p) (free_places (get_or w.outgoing p no_packets)) room))))
    settles None q = stays w f (at p p sending.sender sending.slot) v

  pub settle_moves : (server place : ℕ)
      → (let t = touch_for server (entry_at (hold_of w server) place).sending in
      Moves w (put_back w t (settle_of w.roster server place (boxes_of w t)).boxes))
  unfolding settle_of
  settle_moves server place =
      entry_moves w f v 2 (λ z. omega arith) server place (λ b. settle_found w.roster server place b (execution_of b.executions (entry_at b.hold place).sending.id))
      (λ ok second. settles server ok place second _ refl)
