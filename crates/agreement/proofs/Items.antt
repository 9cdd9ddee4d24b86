-- The invariant stays where a server delivers an entry of stage three that has its next number. Assumes nothing.
use mathlib.Core.Path.{◌≡◌, sym, ◌∙◌}
use mathlib.Core.Logic.{◌≢◌}
use mathlib.Core.List.{List}
use Prim.Native.Nat.{ℕ, ◌+◌, ◌<◌, ◌≤◌}
use native.Mathlib.Omega.{arith}
use lib.ListN.{length, set}
use Rattle.std.proofs.lemmas.Bool.{cases_lt}
use Rattle.world.specs.declared.roster.Roster.{Roster}
use Rattle.world.specs.declared.request.Requests.{Requests}
use Rattle.world.specs.declared.execution.Execution.{Execution}
use Rattle.world.specs.declared.execution.Executions.{Executions}
use Rattle.world.specs.declared.outgoing.Outgoing.{Outgoing}
use Rattle.world.specs.declared.hold.Hold.{Hold}
use Rattle.world.specs.declared.sending.Sending.{Sending}
use Rattle.world.specs.declared.delivered.Delivered.{Delivered}
use Rattle.world.specs.Sizes.{delivered_most}
use Rattle.world.specs.Hold.{entry_at}
use Rattle.world.specs.Sending.{no_sending}
use Rattle.world.specs.Delivered.{next_of, appended}
use Rattle.world.specs.Boxes.{no_items, item_at}
use Rattle.search.proofs.Booleans.{either}
use Rattle.kept.proofs.Facts.{set_cases}
use Rattle.agreement.proofs.Invariant.{Correct, hold_at, done_at, made, Made, Matches, Holds, Done, BelongsAs, Cause, delivered, settled, Inv}
use Rattle.agreement.proofs.Keeping.{Keys, items_keep}

module _ {r : Roster} {q : Requests} {ts : List Executions} {os : List Outgoing} {hs : List Hold} {ds : List Delivered} (v : Inv r q ts os hs ds)
    (one : (a b : ℕ) (x : Execution) → Matches q a x → Matches q b x → a ≡ b) (m : ℕ) (keys : Keys m ts) (p : ℕ) (ok : Correct r p) (seated : p < length ds)
    (size : length (done_at ds p).items ≡ delivered_most) (few : (done_at ds p).count < delivered_most) (z : ℕ) (third : (entry_at (hold_at hs p) z).stage ≡ 3)
    (next : (entry_at (hold_at hs p) z).number ≡ (done_at ds p).count + 1) where
  e : Sending
  e = (entry_at (hold_at hs p) z).sending

  belongs : BelongsAs q ts e ((done_at ds p).count + 1)
  unfolding e
  belongs = rw next at (v.third p z ok (omega arith))

  abbrev pub now : List Delivered
  now = set ds p (appended (done_at ds p) (entry_at (hold_at hs p) z).sending)

  counted : next_of (done_at ds p) ≡ (done_at ds p).count + 1
  counted = omega arith

  done_cases : (P : ℕ → Delivered → Type 0) → P p (appended (done_at ds p) (entry_at (hold_at hs p) z).sending) → ((o : ℕ) → P o (done_at ds o)) → (o : ℕ) → P o (done_at now o)
  done_cases P here else o =
      set_cases (λ y. P o y) ds p o (appended (done_at ds p) (entry_at (hold_at hs p) z).sending) no_items seated (λ (w : o ≡ p). rw w here) (λ _. else o)

  new_items : (j : ℕ) → j < next_of (done_at ds p)
      → (let i = item_at (appended (done_at ds p) (entry_at (hold_at hs p) z).sending) j in BelongsAs q ts i (j + 1))
  unfolding e
  new_items j l =
      set_cases (λ (i : Sending). BelongsAs q ts i (j + 1)) (done_at ds p).items (done_at ds p).count j (entry_at (hold_at hs p) z).sending no_sending (omega arith)
      (λ (w : j ≡ (done_at ds p).count). rw w belongs)
      (λ (w : j ≢ (done_at ds p).count). v.prefix p j ok (omega (arith, counted)))

  -- what is delivered now was settled
  newest : (s k sl : ℕ) → Made ts s k → Matches q sl (made ts s k) → (made ts s k).number ≡ (done_at ds p).count + 1 → Holds (hold_at hs p) 3 s (made ts s k).id sl
  unfolding e
  newest s k sl h g w =
      let b = belongs in
      let y = keys.numbers e.sender s b.place k b.there h (b.number ∙ sym w) (rw b.number b.some) in
      let f : Matches q e.slot (made ts s k) = rw (y.0, y.1) at b.matches in
      let i : (made ts s k).id ≡ e.id = rw (y.0, y.1) at b.id in
      record { place = z; is = record { up = omega arith; sender = y.0; id = sym i; slot = one e.slot sl _ f g } }

  back : (o s k sl : ℕ) → Correct r o → Made ts s k → Matches q sl (made ts s k) → Done (made ts s k) (done_at now o) → Cause r hs ds s (made ts s k) sl
  back o s k sl =
      done_cases (λ o d. Correct r o → Made ts s k → Matches q sl (made ts s k) → Done (made ts s k) d → Cause r hs ds s (made ts s k) sl)
      (λ ok h g d.
      let a = d.numbered in
      let b = d.reached in
      either (cases_lt (done_at ds p).count (made ts s k).number)
      (λ (l : (done_at ds p).count < (made ts s k).number). settled p ok (newest s k sl h g (omega (arith, counted))))
      (λ (l : (made ts s k).number ≤ (done_at ds p).count). delivered p ok (record { numbered = a; reached = l })))
      (λ o ok h g d. delivered o ok d) o

  pub item_keeps : Inv r q ts os hs (set ds p (appended (done_at ds p) (entry_at (hold_at hs p) z).sending))
  item_keeps =
      items_keep v one now
      (λ o. done_cases (λ o d. (done_at ds o).count ≤ d.count) (omega (arith, counted)) (λ _. omega arith) o)
      (λ o j.
      done_cases (λ o d. Correct r o → j < d.count → BelongsAs q ts (item_at d j) (j + 1))
      (λ _ l. new_items j l) (λ o. v.prefix o j) o)
      back
