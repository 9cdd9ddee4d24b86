-- The invariant stays where one entry is put into a hold: a new one, one at a later stage, or none. Assumes nothing.
use Rattle.std.specs.Prelude.{Option, is_some}
use mathlib.Core.Path.{◌≡◌, refl, ap, ◌∙◌}
use mathlib.Core.Logic.{◌⊎◌, inl, inr, ◌≢◌}
use mathlib.Core.Bool.{true}
use mathlib.Core.List.{List}
use Prim.Native.Nat.{ℕ, ◌<◌, ◌≤◌}
use native.Mathlib.Omega.{arith}
use lib.Dec.{eqb}
use lib.ListN.{length, set}
use lib.Seq.{get_or-set_same}
use borrow.Author.Tests.{eqb-true}
use Rattle.std.proofs.lemmas.Bool.{cases_eq}
use Rattle.search.proofs.Laws.{found_in}
use Rattle.world.specs.declared.roster.Roster.{Roster}
use Rattle.world.specs.declared.request.Requests.{Requests}
use Rattle.world.specs.declared.execution.Execution.{Execution}
use Rattle.world.specs.declared.execution.Executions.{Executions}
use Rattle.world.specs.declared.sending.Sending.{Sending}
use Rattle.world.specs.declared.outgoing.Outgoing.{Outgoing}
use Rattle.world.specs.declared.hold.Entry.{Entry}
use Rattle.world.specs.declared.hold.Hold.{Hold}
use Rattle.world.specs.declared.delivered.Delivered.{Delivered}
use Rattle.world.specs.Sizes.{hold_places}
use Rattle.world.specs.Masks.{has}
use Rattle.world.specs.Hold.{entry_of, free_entry, entry_at, free_hold, entry_put, entry_freed, entry_added_at, entry_added}
use Rattle.world.specs.Boxes.{no_entries}
use Rattle.search.proofs.Booleans.{either}
use Rattle.search.proofs.Every.{found_at, found_where}
use Rattle.kept.proofs.Facts.{set_cases}
use Rattle.agreement.proofs.Invariant.{Correct, hold_at, done_at, made, Made, Matches, Of, Holds, Done, BelongsAs, Served, Spread, Inv}
use Rattle.agreement.proofs.Keeping.{entries_keep}

-- a hold with an entry put at a place
module _ (h : Hold) (z : ℕ) (e : Entry) (size : length h.places ≡ hold_places) (inside : z < hold_places) where
  pub put_here : entry_at (entry_put h z e) z ≡ e
  put_here = get_or-set_same h.places z e free_entry (omega arith)

  pub put_holds : (stage s i sl : ℕ) → Of e stage s i sl → Holds (entry_put h z e) stage s i sl
  put_holds stage s i sl o = record { place = z; is = rw put_here o }

  put_keeps : (stage s i sl : ℕ) → Holds h stage s i sl → Holds (entry_put h z e) stage s i sl ⊎ Of (entry_at h z) stage s i sl
  put_keeps stage s i sl g =
      either (cases_eq g.place z)
      (λ (y : g.place ≡ z). inr (rw y at g.is))
      (λ (y : g.place ≢ z).
      inl (record {
        place = g.place;
        is = set_cases (λ v. Of v stage s i sl) h.places z g.place e free_entry (omega arith) (λ d. absurd (y d)) (λ _. g.is);
      }))

  put_back : (stage s i sl : ℕ) → Holds (entry_put h z e) stage s i sl → Holds h stage s i sl ⊎ Of e stage s i sl
  put_back stage s i sl g =
      set_cases (λ v. Of v stage s i sl → Holds h stage s i sl ⊎ Of e stage s i sl) h.places z g.place e free_entry (omega arith)
      (λ _ o. inr o)
      (λ _ o. inl (record { place = g.place; is = o }))
      g.is

module _ {r : Roster} {q : Requests} {ts : List Executions} {os : List Outgoing} {hs : List Hold} {ds : List Delivered} (v : Inv r q ts os hs ds)
    (one : (a b : ℕ) (x : Execution) → Matches q a x → Matches q b x → a ≡ b) (p : ℕ) (seated : p < length hs) (z : ℕ)
    (size : length (hold_at hs p).places ≡ hold_places) (inside : z < hold_places) where
  module _ (e : Entry) where
    abbrev pub now : List Hold
    now = set hs p (entry_put (hold_at hs p) z e)

    -- what holds of the hold with the entry, and of the others as they were
    held_cases : (P : ℕ → Hold → Type 0) → P p (entry_put (hold_at hs p) z e) → ((o : ℕ) → P o (hold_at hs o)) → (o : ℕ) → P o (hold_at now o)
    held_cases P here else o =
        set_cases (λ y. P o y) hs p o (entry_put (hold_at hs p) z e) no_entries seated (λ (w : o ≡ p). rw w here) (λ _. else o)

    module _ (second : (s k sl : ℕ) → Made ts s k → Matches q sl (made ts s k) → Of (entry_at (hold_at hs p) z) 2 s (made ts s k).id sl
        → Of e 2 s (made ts s k).id sl ⊎ Done (made ts s k) (done_at ds p))
        (first : (s k sl : ℕ) → Made ts s k → Matches q sl (made ts s k) → Of (entry_at (hold_at hs p) z) 1 s (made ts s k).id sl
        → Of e 1 s (made ts s k).id sl ⊎ (Done (made ts s k) (done_at ds p) ⊎ (has (made ts s k).called p ≡ true)))
        (third : 3 ≤ e.stage → BelongsAs q ts e.sending e.number)
        (cause : (s k sl : ℕ) → Made ts s k → Matches q sl (made ts s k) → Of e 3 s (made ts s k).id sl → Spread r os now ds s (made ts s k) sl) where
      pub entry_put_lem : Inv r q ts os (set hs p (entry_put (hold_at hs p) z e)) ds
      entry_put_lem =
          entries_keep v one now
          (λ o s k sl ok m g.
          held_cases
          (λ o y. Holds (hold_at hs o) 2 s (made ts s k).id sl → Holds y 2 s (made ts s k).id sl ⊎ Done (made ts s k) (done_at ds o))
          (λ h. either (put_keeps (hold_at hs p) z e size inside 2 s _ sl h)
          (λ y. inl y)
          (λ y. either (second s k sl m g y) (λ n. inl (put_holds (hold_at hs p) z e size inside 2 s _ sl n)) (λ n. inr n)))
          (λ _ h. inl h) o)
          (λ o s k sl ok m g.
          held_cases
          (λ o y. Holds (hold_at hs o) 1 s (made ts s k).id sl
          → Holds y 1 s (made ts s k).id sl ⊎ (Done (made ts s k) (done_at ds o) ⊎ (has (made ts s k).called o ≡ true)))
          (λ h. either (put_keeps (hold_at hs p) z e size inside 1 s _ sl h)
          (λ y. inl y)
          (λ y. either (first s k sl m g y) (λ n. inl (put_holds (hold_at hs p) z e size inside 1 s _ sl n)) (λ n. inr n)))
          (λ _ h. inl h) o)
          (λ o y.
          held_cases
          (λ o h. Correct r o → 3 ≤ (entry_at h y).stage → BelongsAs q ts (entry_at h y).sending (entry_at h y).number)
          (λ ok.
          set_cases (λ (x : Entry). 3 ≤ x.stage → BelongsAs q ts x.sending x.number) (hold_at hs p).places z y e free_entry (omega arith)
          (λ _. third) (λ _. v.third p y ok))
          (λ o. v.third o y) o)
          (λ o s k sl ok m g.
          held_cases
          (λ o h. Holds h 3 s (made ts s k).id sl → Holds (hold_at hs o) 3 s (made ts s k).id sl ⊎ Spread r os now ds s (made ts s k) sl)
          (λ h. either (put_back (hold_at hs p) z e size inside 3 s _ sl h) (λ y. inl y) (λ y. inr (cause s k sl m g y)))
          (λ _ h. inl h) o)

  -- no sending of stage three
  module _ (e : Entry) (low : e.stage < 3) where
    none_third : 3 ≤ e.stage → BelongsAs q ts e.sending e.number
    none_third u = absurd (omega arith)

    none_cause : (s k sl : ℕ) → Made ts s k → Matches q sl (made ts s k) → Of e 3 s (made ts s k).id sl → Spread r os (now e) ds s (made ts s k) sl
    none_cause s k sl m g o = let u = o.up in absurd (omega arith)

    -- a new entry, at a free place
    pub entry_added_lem : (entry_at (hold_at hs p) z).stage ≡ 0 → Inv r q ts os (set hs p (entry_put (hold_at hs p) z e)) ds
    entry_added_lem free =
        entry_put_lem e (λ s k sl m g o. let u = o.up in absurd (omega arith)) (λ s k sl m g o. let u = o.up in absurd (omega arith)) none_third none_cause

    -- an entry of stage one, at stage two
    pub entry_second : (entry_at (hold_at hs p) z).stage ≡ 1 → 1 ≤ e.stage → e.sending ≡ (entry_at (hold_at hs p) z).sending
        → Inv r q ts os (set hs p (entry_put (hold_at hs p) z e)) ds
    entry_second stage up same =
        entry_put_lem e (λ s k sl m g o. let u = o.up in absurd (omega arith))
        (λ s k sl m g o.
        inl
        (record {
          up = up;
          sender = ap (λ (y : Sending). y.sender) same ∙ o.sender;
          id = ap (λ (y : Sending). y.id) same ∙ o.id;
          slot = ap (λ (y : Sending). y.slot) same ∙ o.slot;
        }))
        none_third none_cause

  -- an entry that goes: its execution has another digest, or it is delivered, or it is at stage one and its server has called
  pub entry_freed_lem : ((s k sl : ℕ) → Made ts s k → Matches q sl (made ts s k) → Of (entry_at (hold_at hs p) z) 1 s (made ts s k).id sl
      → Done (made ts s k) (done_at ds p) ⊎ (((entry_at (hold_at hs p) z).stage ≡ 1) × (has (made ts s k).called p ≡ true)))
      → Inv r q ts os (set hs p (entry_freed (hold_at hs p) z)) ds
  entry_freed_lem why =
      entry_put_lem free_entry
      (λ s k sl m g o.
      let u = o.up in
      either (why s k sl m g (record { up = omega arith; sender = o.sender; id = o.id; slot = o.slot }))
      (λ d. inr d)
      (λ (c : ((entry_at (hold_at hs p) z).stage ≡ 1) × (has (made ts s k).called p ≡ true)). absurd (omega (arith, c.0))))
      (λ s k sl m g o. inr (either (why s k sl m g o) (λ d. inl d) (λ c. inr c.1)))
      (λ u. absurd (omega arith))
      (λ s k sl m g o. let u = o.up in absurd (omega arith))

  -- an entry at stage three: its number is its execution's, and its sending is spread
  module _ (n : ℕ) where
    abbrev pub third : Entry
    third = entry_of 3 (entry_at (hold_at hs p) z).sending n

    as_third : (stage s i sl : ℕ) → stage ≤ 3 → Of (entry_at (hold_at hs p) z) stage s i sl → Of third stage s i sl
    as_third stage s i sl l o = record { up = l; sender = o.sender; id = o.id; slot = o.slot }

    third_served : (x : Execution) (s sl o : ℕ) → Served os (hold_at hs o) x (done_at ds o) s sl o → Served os (hold_at (now third) o) x (done_at ds o) s sl o
    third_served x s sl o =
        held_cases third (λ o y. Served os (hold_at hs o) x (done_at ds o) s sl o → Served os y x (done_at ds o) s sl o)
        (λ g. either g
        (λ u. inl u)
        (λ w. inr (either w
        (λ h. inl (either (put_keeps (hold_at hs p) z third size inside 1 s _ sl h)
        (λ y. y)
        (λ y. put_holds (hold_at hs p) z third size inside 1 s _ sl (as_third 1 s _ sl (omega arith) y))))
        (λ d. inr d))))
        (λ _ g. g) o

    pub entry_third : BelongsAs q ts third.sending n
        → ((s k sl : ℕ) → Made ts s k → Matches q sl (made ts s k) → Of third 3 s (made ts s k).id sl → Spread r os hs ds s (made ts s k) sl)
        → Inv r q ts os (set hs p (entry_put (hold_at hs p) z third)) ds
    entry_third belongs spread =
        entry_put_lem third
        (λ s k sl m g o. inl (as_third 2 s _ sl (omega arith) o))
        (λ s k sl m g o. inl (as_third 1 s _ sl (omega arith) o))
        (λ _. belongs)
        (λ s k sl m g o a ok. third_served (made ts s k) s sl a (spread s k sl m g o a ok))

-- an entry kept where there is room
pub record Room (h : Hold) (e : Entry) : Type 0 where
  pub place : ℕ
  pub inside : place < hold_places
  pub free : (entry_at h place).stage ≡ 0
  pub kept_there : entry_added h e ≡ entry_put h place e

pub room : (h : Hold) (e : Entry) → is_some (free_hold h) ≡ true → Room h e
unfolding entry_added entry_added_at
room h e y =
    let z = found_where (free_hold h) y in
    record {
      place = z.0;
      inside = found_in _ hold_places z.0 (free_hold h) refl z.1;
      free = eqb-true (entry_at h z.0).stage 0 (found_at (λ (k : ℕ). eqb (entry_at h k).stage 0) hold_places z.0 z.1);
      kept_there = ap (λ (g : Option ℕ). entry_added_at h e g) z.1;
    }

pub kept_holds : (h : Hold) (e : Entry) → length h.places ≡ hold_places → is_some (free_hold h) ≡ true → (stage s i sl : ℕ) → Of e stage s i sl → Holds (entry_added h e) stage s i sl
kept_holds h e size y stage s i sl o =
    let z = room h e y in
    rw z.kept_there (put_holds h z.place e size z.inside stage s i sl o)

pub entry_kept : {r : Roster} {q : Requests} {ts : List Executions} {os : List Outgoing} {hs : List Hold} {ds : List Delivered} → Inv r q ts os hs ds
    → ((a b : ℕ) (x : Execution) → Matches q a x → Matches q b x → a ≡ b) → (p : ℕ) → p < length hs → length (hold_at hs p).places ≡ hold_places
    → (e : Entry) → e.stage < 3 → is_some (free_hold (hold_at hs p)) ≡ true → Inv r q ts os (set hs p (entry_added (hold_at hs p) e)) ds
entry_kept {hs = hs} v one p seated size e low y =
    let z = room (hold_at hs p) e y in
    rw z.kept_there (entry_added_lem v one p seated z.place size z.inside e low z.free)
