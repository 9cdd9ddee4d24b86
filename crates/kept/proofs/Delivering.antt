-- A deliver step's boxes fit. Assumes nothing.
use Rattle.std.specs.Prelude.{None, Option, Some}
use mathlib.Core.Path.{◌≡◌, refl, sym}
use mathlib.Core.Bool.{true, not}
use mathlib.Core.List.{List}
use Prim.Native.Nat.{ℕ, ◌≤◌}
use native.Mathlib.Omega.{arith}
use lib.Dec.{eqb, leb}
use borrow.Author.Tests.{eqb-true, leb-true}
use Rattle.std.proofs.lemmas.Bool.{and_from, and_parts}
use Rattle.search.proofs.Laws.{found_in}
use Rattle.world.specs.declared.roster.Roster.{Roster}
use Rattle.world.specs.declared.execution.Executions.{Executions}
use Rattle.world.specs.declared.hold.Entry.{Entry}
use Rattle.world.specs.Sizes.{hold_places}
use Rattle.world.specs.Roster.{member, faulty}
use Rattle.world.specs.Hold.{entry_at, ready_place}
use Rattle.world.specs.Delivered.{next_of}
use Rattle.protocol.specs.Sound.{stage_sound}
use Rattle.protocol.specs.declared.boxes.Boxes.{Boxes}
use Rattle.protocol.specs.declared.boxes.Ruling.{Ruling}
use Rattle.protocol.specs.Rules.{deliver_found, deliver_of}
use Rattle.search.proofs.Booleans.{musts}
use Rattle.search.proofs.Every.{found_at}
use Rattle.kept.proofs.Facts.{entry_out}
use Rattle.kept.proofs.Places.{entry_freed_lem, item_appended}
use Rattle.kept.proofs.Putting.{Fits, Keeps, with_hold_lem, with_delivered_lem}

pub third_number : (m : ℕ) (e : Entry) → e.stage ≡ 3 → stage_sound m e ≡ true → e.number ≤ m
unfolding stage_sound
third_number m e s p = leb-true e.number m (and_parts (leb 1 e.number) (leb e.number m) (rw s at p)).1

module _ {r : Roster} {stored m : ℕ} {ts : List Executions} {s x : ℕ} {b : Boxes} (f : Fits r stored m ts s s x b) where
  delivered_at_lem : member r s ≡ true → (g : Option ℕ) → g ≡ ready_place b.hold (next_of b.delivered) → Keeps r stored m ts s s x (deliver_found b g)
  unfolding deliver_found
  delivered_at_lem mine (Some k) q =
      let l = found_in _ hold_places k (Some k) q refl in
      let e = entry_at b.hold k in
      let a = and_parts (eqb e.stage 3) (eqb e.number (next_of b.delivered)) (found_at _ hold_places k (sym q)) in
      let st = eqb-true e.stage 3 a.0 in
      let nu = eqb-true e.number (next_of b.delivered) a.1 in
      let h = entry_out r stored b.numbered s _ e (λ z. omega arith) (f.entries.places k l) in
      let le = third_number b.numbered e st h.number in
      let top = f.numbers.most in
      let done = f.items.most in
      with_delivered_lem (with_hold_lem f _ (entry_freed_lem f.entries k l)) _
      (item_appended _ (omega arith) (omega arith) mine (and_from _ _ h.sender h.slot) f.items)
  delivered_at_lem mine None q = f

  pub deliver_keeps : (server : ℕ) → (member r server ≡ true → s ≡ server) → Keeps r stored m ts s s x (deliver_of r server b)
  unfolding deliver_of
  deliver_keeps server at =
      let P : Ruling → Type 0 = Keeps r stored m ts s s x in
      musts P (member r server) _ _ f λ a.
      musts P (not (faulty r server)) _ _ f λ _.
      delivered_at_lem (rw (at a) a) _ refl
