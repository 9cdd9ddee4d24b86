-- An arrive step's boxes fit. Assumes nothing.
use Rattle.std.specs.Prelude.{is_some}
use mathlib.Core.Path.{◌≡◌, refl}
use mathlib.Core.Bool.{true, false, not, ◌||◌}
use mathlib.Core.List.{List}
use Prim.Native.Nat.{ℕ}
use Rattle.world.specs.declared.roster.Roster.{Roster}
use Rattle.world.specs.declared.execution.Executions.{Executions}
use Rattle.world.specs.declared.outgoing.Packet.{Packet}
use Rattle.world.specs.Sizes.{outgoing_places}
use Rattle.world.specs.Roster.{member, faulty}
use Rattle.world.specs.Outgoing.{free_packet, packet_at}
use Rattle.world.specs.Hold.{entry_of, holding, free_hold}
use Rattle.protocol.specs.declared.boxes.Boxes.{Boxes}
use Rattle.protocol.specs.declared.boxes.Ruling.{Ruling}
use Rattle.protocol.specs.Rules.{arrive_of}
use Rattle.search.proofs.Booleans.{apart, musts}
use Rattle.kept.proofs.Facts.{inside}
use Rattle.kept.proofs.Places.{first_entry, entry_kept, packet_out, packet_packet_freed}
use Rattle.kept.proofs.Putting.{Fits, Keeps, with_hold_lem, with_outgoing_lem}

module _ {r : Roster} {stored m : ℕ} {ts : List Executions} {s h x : ℕ} {b : Boxes} (f : Fits r stored m ts s h x b) where
  pub arrive_keeps : (origin place : ℕ) → (member r (packet_at b.outgoing place).to ≡ true → h ≡ (packet_at b.outgoing place).to)
      → Keeps r stored m ts s h x (arrive_of r origin place b)
  unfolding arrive_of
  arrive_keeps origin place at =
      let P : Ruling → Type 0 = Keeps r stored m ts s h x in
      let p = packet_at b.outgoing place in
      musts P (member r origin) _ _ f λ _.
      musts P p.there _ _ f λ there.
      let l = inside (λ (p : Packet). p.there ≡ true) b.outgoing.places place outgoing_places free_packet f.packets.size there (λ z. apart false z refl) in
      let k = packet_out r stored s p there (f.packets.places place l) in
      let rest = with_outgoing_lem f _ (packet_packet_freed f.packets place l) in
      musts P (not (faulty r p.to || holding b.hold p.sending)) _ _ rest λ _.
      musts P (is_some (free_hold b.hold)) _ _ f λ _.
      with_hold_lem rest _
      (entry_kept f.entries (entry_of 1 p.sending 0)
      (first_entry r stored b.numbered h _ (rw (at k.1) k.1) p.sending k.2))
