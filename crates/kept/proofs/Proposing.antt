-- The boxes of a propose step and of a settle step fit. Assumes nothing.
use Rattle.std.specs.Prelude.{None, Option, Some, is_some}
use mathlib.Core.Path.{◌≡◌, refl, sym, ap, subst, ◌∙◌}
use mathlib.Core.Logic.{◌≢◌}
use mathlib.Core.Bool.{true, not}
use mathlib.Core.List.{List}
use Prim.Native.Nat.{ℕ, ◌<◌, ◌≤◌}
use native.Mathlib.Omega.{arith}
use lib.Dec.{eqb, leb}
use lib.ListN.{length, get_or, set}
use lib.Seq.{get_or-set_same}
use borrow.Author.Tests.{ltb-true, lt-ltb, eqb-true, eqb-false}
use Rattle.std.proofs.lemmas.Bool.{and_from, not-true}
use Rattle.world.specs.declared.roster.Roster.{Roster}
use Rattle.world.specs.declared.execution.Executions.{Executions}
use Rattle.world.specs.declared.sending.Sending.{Sending}
use Rattle.world.specs.declared.hold.Entry.{Entry}
use Rattle.world.specs.Sizes.{servers, hold_places}
use Rattle.world.specs.Masks.{has}
use Rattle.world.specs.Roster.{member, faulty}
use Rattle.world.specs.Requests.{same_digest}
use Rattle.world.specs.Executions.{execution_at, execution_of}
use Rattle.world.specs.Outgoing.{needed, free_places}
use Rattle.world.specs.Hold.{free_entry, entry_at}
use Rattle.world.specs.Boxes.{seat, no_table}
use Rattle.protocol.specs.Names.{table_of, own_execution}
use Rattle.world.proofs.Seats.{seat_own}
use Rattle.protocol.specs.declared.boxes.Boxes.{Boxes}
use Rattle.protocol.specs.declared.boxes.Ruling.{Ruling}
use Rattle.protocol.specs.Rules.{raised, dropped_at, propose_to, propose_found, propose_of, settle_to, settle_found, settle_of}
use Rattle.search.proofs.Booleans.{musts}
use Rattle.kept.proofs.Facts.{inside, Held, entry_out, place_out, order_low}
use Rattle.kept.proofs.Places.{second_entry, third_entry, entry_put_lem, entry_freed_lem, packets_sent}
use Rattle.kept.proofs.Ordering.{found_made, recorded_fits}
use Rattle.kept.proofs.Putting.{Fits, Keeps, with_hold_lem, with_outgoing_lem}

-- a sending's execution, in its sender's table
pub own_found : (ts : List Executions) (x : ℕ) (t : Executions) (s : Sending) → length ts ≡ servers → x ≡ s.sender
    → s.sender < servers → is_some (execution_of t s.id) ≡ true
    → is_some (own_execution (table_of (set ts x t) s.sender) s) ≡ true
own_found ts x t s all e l p =
    let a : get_or (set ts x t) s.sender no_table ≡ t =
    ap (λ (k : ℕ). get_or (set ts x t) k no_table) (sym e) ∙ get_or-set_same ts x t no_table (omega arith) in
    rw (lt-ltb s.sender servers l) (subst (λ (v : Executions). is_some (execution_of v s.id) ≡ true) (sym a) p)

module _ {r : Roster} (few : r.n ≤ servers) {stored m : ℕ} {ts : List Executions} (all : length ts ≡ servers) {s x : ℕ} {b : Boxes}
    (f : Fits r stored m ts s s x b) (place : ℕ) (own : x ≡ seat (entry_at b.hold place).sending.sender) where
  e : Entry
  e = entry_at b.hold place

  -- the entry is in use
  record Used : Type 0 where
    within : place < hold_places
    held : Held r stored b.numbered s (table_of (set ts x b.executions) e.sending.sender) e
    below : e.sending.sender < servers
    whose : x ≡ e.sending.sender

  used : (stage : ℕ) → stage ≢ 0 → (entry_at b.hold place).stage ≡ stage → Used
  unfolding e
  used stage d q =
      let l = inside (λ (y : Entry). y.stage ≡ stage) b.hold.places place hold_places free_entry f.entries.size q (λ z. d (sym z)) in
      let h = entry_out r stored b.numbered s _ (entry_at b.hold place) (λ z. d (sym q ∙ z)) (f.entries.places place l) in
      let n : (entry_at b.hold place).sending.sender < servers = omega (arith, ltb-true (entry_at b.hold place).sending.sender r.n h.sender) in
      record { within = l; held = h; below = n; whose = own ∙ seat_own (entry_at b.hold place).sending.sender n }

  dropped_fits : Used → Keeps r stored m ts s s x (dropped_at place b)
  dropped_fits u = with_hold_lem f _ (entry_freed_lem f.entries place u.within)

  second_fits : Used → is_some (execution_of b.executions e.sending.id) ≡ true → Fits r stored m ts s s x (raised place 2 0 b)
  unfolding e
  second_fits u found =
      with_hold_lem f _
      (entry_put_lem f.entries place _ u.within
      (second_entry r stored b.numbered s _ u.held.holder e.sending (and_from _ _ u.held.sender u.held.slot)
      (own_found ts x b.executions e.sending all u.whose u.below found)))

  -- propose
  proposed : (server : ℕ) → member r server ≡ true → server < servers → Used → (g : Option ℕ) → g ≡ execution_of b.executions (entry_at b.hold place).sending.id
      → Keeps r stored m ts s s x (propose_found r server place b g)
  unfolding propose_found propose_to e
  proposed server mine l u (Some k) q =
      let P : Ruling → Type 0 = Keeps r stored m ts s s x in
      let y = execution_at b.executions k in
      let second = second_fits u (rw (← q)) in
      musts P (not (has y.called server)) _ _ (dropped_fits u) λ _.
      musts P (has b.request.seals server) _ _ second λ _.
      musts P (same_digest b.request.digest y.digest) _ _ (dropped_fits u) λ _.
      recorded_fits second all (rw u.whose u.below) (rw u.whose u.held.sender) server k
      (found_made b.executions (entry_at b.hold place).sending.id k (sym q)) l mine
  proposed server mine l u None q = f

  pub propose_keeps : (server : ℕ) → s < servers → (member r server ≡ true → s ≡ server) → Keeps r stored m ts s s x (propose_of r server place b)
  unfolding propose_of
  propose_keeps server seated at =
      let P : Ruling → Type 0 = Keeps r stored m ts s s x in
      musts P (member r server) _ _ f λ mine.
      musts P (not (faulty r server)) _ _ f λ _.
      musts P (eqb (entry_at b.hold place).stage 1) _ _ f λ stage.
      proposed server mine (rw (at mine) at seated) (used 1 (λ z. omega arith) (eqb-true (entry_at b.hold place).stage 1 stage)) _ refl

  -- settle
  settled : (server : ℕ) → Used → (g : Option ℕ) → g ≡ execution_of b.executions (entry_at b.hold place).sending.id → Keeps r stored m ts s s x (settle_found r server place b g)
  unfolding settle_found settle_to e
  settled server u (Some k) q =
      let P : Ruling → Type 0 = Keeps r stored m ts s s x in
      let y = execution_at b.executions k in
      let c = found_made b.executions (entry_at b.hold place).sending.id k (sym q) in
      let top = f.table.most in
      let g = place_out r b.numbered x b.executions.count k y c (f.table.places k (omega arith)) in
      let h = entry_at b.hold place in
      let good = and_from _ _ u.held.sender u.held.slot in
      musts P (not (eqb y.number 0)) _ _ f λ some.
      let third : Fits r stored m ts s s x (raised place 3 y.number b) =
      with_hold_lem f _
      (entry_put_lem f.entries place _ u.within
      (third_entry r stored b.numbered s _ u.held.holder h.sending good y.number (eqb-false y.number 0 (not-true _ some))
      (order_low r b.numbered y g.order)
      (own_found ts x b.executions h.sending all u.whose u.below (rw (← q)))))
      in
      musts P (same_digest b.request.digest y.digest) _ _ (dropped_fits u) λ _.
      musts P (not (eqb h.sending.sender server)) _ _ third λ _.
      musts P (leb (needed r y.mask server) (free_places b.outgoing)) _ _ f λ _.
      with_outgoing_lem third _
      (packets_sent u.held.holder h.sending good y.mask server f.packets)
  settled server u None q = f

  pub settle_keeps : (server : ℕ) → Keeps r stored m ts s s x (settle_of r server place b)
  unfolding settle_of
  settle_keeps server =
      let P : Ruling → Type 0 = Keeps r stored m ts s s x in
      musts P (member r server) _ _ f λ _.
      musts P (not (faulty r server)) _ _ f λ _.
      musts P (eqb (entry_at b.hold place).stage 2) _ _ f λ stage.
      settled server (used 2 (λ z. omega arith) (eqb-true (entry_at b.hold place).stage 2 stage)) _ refl
