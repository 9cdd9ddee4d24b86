-- An entry that a propose or a settle step takes up: where it stands, and the execution that it names. Assumes nothing.
use Rattle.std.specs.Prelude.{Some}
use mathlib.Core.Path.{◌≡◌, sym, ap, ◌∙◌}
use mathlib.Core.Logic.{◌⊎◌, inr, ◌≢◌}
use mathlib.Core.Bool.{true, false, not}
use Prim.Native.Nat.{ℕ, ◌<◌}
use native.Mathlib.Omega.{arith}
use lib.Dec.{eqb, ltb}
use borrow.Author.Tests.{ltb-true, lt-ltb, eqb-true}
use Rattle.std.proofs.lemmas.Bool.{and_from, and_parts}
use Rattle.world.specs.declared.World.{World}
use Rattle.world.specs.declared.execution.Execution.{Execution}
use Rattle.world.specs.declared.hold.Entry.{Entry}
use Rattle.world.specs.Sizes.{servers, requests_most, executions_most, hold_places}
use Rattle.world.specs.Masks.{has}
use Rattle.world.specs.Roster.{member, faulty}
use Rattle.world.specs.Requests.{request_at, same_digest}
use Rattle.world.specs.Executions.{execution_at, execution_of}
use Rattle.world.specs.Hold.{free_entry, entry_at, entry_freed}
use Rattle.world.specs.Boxes.{within, hold_of}
use Rattle.world.proofs.Seats.{seat_own}
use Rattle.protocol.specs.Steps.{touch_for, boxes_of, put_back}
use Rattle.search.specs.Tests.{must}
use Rattle.protocol.specs.declared.answer.Answer.TheVariants.{BadServer, WrongSide, NoSuch}
use Rattle.protocol.specs.declared.boxes.Boxes.{Boxes}
use Rattle.protocol.specs.declared.boxes.Ruling.{Ruling}
use Rattle.protocol.specs.Rules.{answered, with_hold}
use Rattle.search.proofs.Booleans.{apart, either, musts}
use Rattle.search.proofs.Every.{found_at}
use Rattle.kept.proofs.Facts.{FactsOf, inside, entry_out}
use Rattle.kept.proofs.Ordering.{found_made}
use Rattle.agreement.proofs.Invariant.{Correct, hold_at, table_at, made, Made, Matches, Of, InvOf}
use Rattle.agreement.proofs.Keeping.{matches_on}
use Rattle.agreement.proofs.Entries.{entry_freed_lem}
use Rattle.agreement.proofs.Moves.{Moves}
use Rattle.agreement.proofs.Moving.{at, one, named, seated, keys, calm_entry, stays, in_holds}

module _ (w : World) (f : FactsOf w) (v : InvOf w) (p : ℕ) (ok : Correct w.roster p) (place : ℕ) where
  abbrev pub taken : Entry
  taken = entry_at (hold_at w.holds p) place

  -- the entry is in use
  pub record Uses : Type 0 where
    pub within : place < hold_places
    pub sender : taken.sending.sender < servers
    pub slot : taken.sending.slot < w.requests.count

  pub uses : (stage : ℕ) → stage ≢ 0 → taken.stage ≡ stage → Uses
  uses stage d q =
      let s = seated w f p ok in
      let h = f.entries p s in
      let l = inside (λ (e : Entry). e.stage ≡ stage) (hold_at w.holds p).places place hold_places free_entry h.size q (λ z. d (sym z)) in
      let e = entry_out w.roster _ w.numbered p _ taken (λ z. d (sym q ∙ z)) (h.places place l) in
      record { within = l; sender = named w f taken.sending.sender e.sender; slot = ltb-true taken.sending.slot w.requests.count e.slot }

  module _ (u : Uses) (k : ℕ) (q : execution_of (table_at w.executions taken.sending.sender) taken.sending.id ≡ Some k) where
    -- the execution that it names
    abbrev pub its : Execution
    its = made w.executions taken.sending.sender k

    pub its_made : Made w.executions taken.sending.sender k
    its_made = record { seated = u.sender; used = found_made (table_at w.executions taken.sending.sender) taken.sending.id k q }

    pub its_id : its.id ≡ taken.sending.id
    its_id =
        let t = table_at w.executions taken.sending.sender in
        eqb-true its.id taken.sending.id (and_parts (ltb k t.count) (eqb (execution_at t k).id taken.sending.id) (found_at _ executions_most k q)).1

    -- and no other
    pub its_only : {stage s j sl : ℕ} → Made w.executions s j → Of taken stage s (made w.executions s j).id sl → made w.executions s j ≡ its
    its_only {s = s} {j = j} m o =
        let m : Made w.executions taken.sending.sender j = rw o.sender m in
        let e : (made w.executions taken.sending.sender j).id ≡ its.id = rw o.sender (sym o.id) ∙ sym its_id in
        let z = (keys w f).ids taken.sending.sender j k m its_made e in
        rw (← o.sender, z)

    -- it goes, where the server has called or the digest is another
    pub dropped : (x y : ℕ) → ((taken.stage ≡ 1) × (has its.called p ≡ true)) ⊎ (same_digest (request_at w.requests taken.sending.slot).digest its.digest ≡ false)
        → Moves w (put_back w (at p p x y) (with_hold (boxes_of w (at p p x y)) (entry_freed (hold_at w.holds p) place)))
    dropped x y why =
        let s = seated w f p ok in
        calm_entry w f (at p p x y) _
        (entry_freed_lem v (one w f) p (in_holds w f p ok) place (f.entries p s).size u.within
        (λ s j sl m g o.
        let e = its_only m o in
        either why
        (λ (c : (taken.stage ≡ 1) × (has its.called p ≡ true)). inr (c.0, rw e c.1))
        (λ n.
        let c : Matches w.requests sl its = matches_on (ap (λ (x : Execution). x.digest) (sym e)) g in
        apart (same_digest (request_at w.requests taken.sending.slot).digest its.digest) (rw o.slot c.same) n)))

-- a stored slot's own place
pub slot_own : (w : World) → FactsOf w → (slot : ℕ) → slot < w.requests.count → within requests_most slot ≡ slot
slot_own w f slot l = rw (lt-ltb slot requests_most (omega (arith, f.requests.most)))

-- the tests of both steps: 4, 5, and 6 for an entry at another stage
pub entry_moves : (w : World) (f : FactsOf w) → InvOf w → (n : ℕ) → n ≢ 0 → (server place : ℕ) (next : Boxes → Ruling)
    → ((ok : Correct w.roster server) → (entry_at (hold_at w.holds server) place).stage ≡ n
    → (let s = (entry_at (hold_at w.holds server) place).sending in let t = at server server s.sender s.slot in Moves w (put_back w t (next (boxes_of w t)).boxes)))
    → (let e = entry_at (hold_of w server) place in let t = touch_for server e.sending in let b = boxes_of w t in
    Moves w
    (put_back w t
    (must (member w.roster server) (answered BadServer b)
    (must (not (faulty w.roster server)) (answered WrongSide b)
    (must (eqb e.stage n) (answered NoSuch b)
    (next b)))).boxes))
entry_moves w f v n some server place next moves =
    let d = entry_at (hold_of w server) place in
    let t = touch_for server d.sending in
    let P : Ruling → Type 0 = λ s. Moves w (put_back w t s.boxes) in
    let same = stays w f t v in
    musts P (member w.roster server) _ _ same λ mine.
    musts P (not (faulty w.roster server)) _ _ same λ good.
    musts P (eqb d.stage n) _ _ same λ stage.
    let l = named w f server mine in
    let ok = and_from _ _ mine good in
    let s = (entry_at (hold_at w.holds server) place).sending in
    let at_stage = rw (seat_own server l) at (eqb-true d.stage n stage) in
    let u = uses w f v server ok place n some at_stage in
    rw (seat_own server l, seat_own s.sender u.sender, slot_own w f s.slot u.slot) (moves ok at_stage)
