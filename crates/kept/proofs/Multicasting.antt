-- A multicast step's boxes fit. Assumes nothing.
use mathlib.Core.Path.{◌≡◌, refl}
use mathlib.Core.Logic.{◌≢◌}
use mathlib.Core.Bool.{true, not}
use mathlib.Core.List.{List}
use Prim.Native.Nat.{ℕ, ◌+◌, ◌<◌}
use native.Mathlib.Omega.{arith}
use lib.Dec.{ltb}
use lib.ListN.{length}
use borrow.Author.Tests.{ltb-true}
use Rattle.std.proofs.lemmas.Bool.{and_from}
use Rattle.world.specs.declared.roster.Roster.{Roster}
use Rattle.world.specs.declared.execution.Executions.{Executions}
use Rattle.world.specs.Sizes.{servers, executions_most}
use Rattle.world.specs.Masks.{nobody, has}
use Rattle.world.specs.Roster.{member, faulty, correct}
use Rattle.world.specs.Executions.{execution_at}
use Rattle.world.specs.Hold.{entry_of}
use Rattle.protocol.specs.declared.boxes.Boxes.{Boxes}
use Rattle.protocol.specs.declared.boxes.Ruling.{Ruling}
use Rattle.protocol.specs.Rules.{made, own_sending, multicast_done, roomy, multicast_of}
use Rattle.search.proofs.Booleans.{musts}
use Rattle.kept.proofs.Facts.{Table, place_out}
use Rattle.kept.proofs.Places.{second_entry, entry_kept, packets_sent}
use Rattle.kept.proofs.Ordering.{made_fits, made_found}
use Rattle.kept.proofs.Proposing.{own_found}
use Rattle.kept.proofs.Putting.{Fits, Keeps, with_hold_lem, with_outgoing_lem}

-- the ids of a correct server's executions are 1, 2, 3, ..
new_id_lem : {r : Roster} {m x : ℕ} {t : Executions} → Table r m x t → correct r x ≡ true → (j : ℕ) → j < t.count → (execution_at t j).id ≢ t.count + 1
new_id_lem {r} {m} {x} {t} f good j l e =
    let top = f.most in
    let g = place_out r m x t.count j (execution_at t j) l (f.places j (omega arith)) in
    let i = g.gapless good in
    omega arith

module _ {r : Roster} {stored m : ℕ} {ts : List Executions} (all : length ts ≡ servers) where
  multicast_fits : {s : ℕ} (slot : ℕ) {b : Boxes} → s < servers → Fits r stored m ts s s s b → member r s ≡ true → correct r s ≡ true → ltb slot stored ≡ true
      → b.executions.count < executions_most → Fits r stored m ts s s s (multicast_done r s slot b)
  unfolding multicast_done made
  multicast_fits {s} slot {b} seated f mine good there room =
      let o = own_sending s slot b in
      let g = made_fits f all seated mine o.id b.request.digest room (new_id_lem f.table good) (λ _. refl) in
      let found = made_found f all seated mine o.id b.request.digest room in
      let names = and_from _ _ mine there in
      let h =
      with_hold_lem g _
      (entry_kept g.entries (entry_of 2 o 0)
      (second_entry r stored _ s _ mine o names
      (own_found ts s (made r s o.id b.request.digest b).executions o all refl seated found)))
      in
      with_outgoing_lem h _ (packets_sent mine o names nobody s f.packets)

  pub multicast_keeps : {s : ℕ} {b : Boxes} → s < servers → Fits r stored m ts s s s b → (server slot : ℕ) → (member r server ≡ true → s ≡ server)
      → Keeps r stored m ts s s s (multicast_of r server slot b)
  unfolding multicast_of
  multicast_keeps {s} {b} seated f server slot at =
      let P : Ruling → Type 0 = Keeps r stored m ts s s s in
      musts P (member r server) _ _ f λ mine.
      musts P (not (faulty r server)) _ _ f λ good.
      musts P (ltb slot b.stored) _ _ f λ there.
      musts P (has b.request.seals server) _ _ f λ _.
      musts P (ltb b.executions.count executions_most) _ _ f λ room.
      musts P (roomy r server b) _ _ f λ _.
      let q = at mine in
      rw q
      (multicast_fits slot (rw q at seated) (rw q at f) mine (and_from _ _ mine good) (rw f.same at there) (ltb-true b.executions.count executions_most room))
