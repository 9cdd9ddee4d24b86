-- A forged packet's boxes fit. Assumes nothing.
use Rattle.std.specs.Prelude.{is_some}
use mathlib.Core.Path.{◌≡◌}
use mathlib.Core.Bool.{true, ◌&&◌}
use mathlib.Core.List.{List}
use Prim.Native.Nat.{ℕ}
use lib.Dec.{ltb}
use Rattle.std.proofs.lemmas.Bool.{and_from}
use Rattle.world.specs.declared.roster.Roster.{Roster}
use Rattle.world.specs.declared.execution.Executions.{Executions}
use Rattle.world.specs.declared.sending.Sending.{Sending}
use Rattle.world.specs.Roster.{member, faulty}
use Rattle.world.specs.Outgoing.{free_outgoing, packet_for}
use Rattle.protocol.specs.declared.boxes.Boxes.{Boxes}
use Rattle.protocol.specs.declared.boxes.Ruling.{Ruling}
use Rattle.protocol.specs.Rules.{forge_packet_of}
use Rattle.search.proofs.Booleans.{musts, and3}
use Rattle.kept.proofs.Places.{packet_packet_added, sending_sound}
use Rattle.kept.proofs.Putting.{Fits, Keeps, with_outgoing_lem}

module _ {r : Roster} {stored m : ℕ} {ts : List Executions} {s h x : ℕ} {b : Boxes} (f : Fits r stored m ts s h x b) where
  pub forge_packet_keeps : (from to sender id slot : ℕ) → (member r from ≡ true → s ≡ from) → Keeps r stored m ts s h x (forge_packet_of r from to sender id slot b)
  unfolding forge_packet_of
  forge_packet_keeps from to sender id slot at =
      let P : Ruling → Type 0 = Keeps r stored m ts s h x in
      musts P (member r from && member r to && member r sender) _ _ f λ a.
      musts P (faulty r from) _ _ f λ _.
      musts P (ltb slot b.stored) _ _ f λ there.
      musts P (is_some (free_outgoing b.outgoing)) _ _ f λ _.
      let k = and3 (member r from) (member r to) (member r sender) a in
      let sending : Sending = record { id = id; sender = sender; slot = slot } in
      with_outgoing_lem f _
      (packet_packet_added f.packets (packet_for to sending)
      (sending_sound r stored s sending to (rw (at k.0) k.0) (and_from _ _ k.2 (rw f.same at there)) k.1))
