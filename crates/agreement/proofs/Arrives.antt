-- An arrive step and a forged packet keep the invariant. Assumes nothing.
use Rattle.std.specs.Prelude.{is_some}
use mathlib.Core.Path.{◌≡◌, refl}
use mathlib.Core.Logic.{inl, inr}
use mathlib.Core.Bool.{true, false, not, ◌&&◌, ◌||◌}
use Prim.Native.Nat.{ℕ, ◌<◌}
use native.Mathlib.Omega.{arith}
use lib.Dec.{eqb, ltb}
use lib.ListN.{length, get_or, set}
use lib.Seq.{set-get_or, get_or-set_same}
use borrow.Author.Tests.{eqb-true, eqb-false}
use Rattle.std.proofs.lemmas.Bool.{and_from, and_parts, not-false, not-true}
use Rattle.world.specs.declared.World.{World}
use Rattle.world.specs.declared.hold.Hold.{Hold}
use Rattle.world.specs.declared.sending.Sending.{Sending}
use Rattle.world.specs.declared.outgoing.Packet.{Packet}
use Rattle.world.specs.Sizes.{servers, outgoing_places, hold_places}
use Rattle.world.specs.Roster.{member, faulty}
use Rattle.world.specs.Outgoing.{free_packet, packet_at, free_outgoing, packet_freed}
use Rattle.world.specs.Hold.{entry_of, entry_at, is_entry, holding, free_hold, entry_added}
use Rattle.world.specs.Boxes.{no_packets, no_entries, no_items, seat}
use Rattle.world.proofs.Seats.{seat_own}
use Rattle.world.proofs.Seats as seats
use Rattle.protocol.specs.declared.boxes.Ruling.{Ruling}
use Rattle.protocol.specs.Rules.{arrive_of, forge_packet_of}
use Rattle.protocol.specs.Steps.{touch, boxes_of, put_back}
use Rattle.search.proofs.Booleans.{apart, either, musts, must_cases, test, and4}
use Rattle.search.proofs.Every.{found_at, found_where}
use Rattle.kept.proofs.Facts.{FactsOf, inside}
use Rattle.kept.proofs.Places.{packet_out}
use Rattle.agreement.proofs.Invariant.{Correct, hold_at, Holds, Goes, Inv, InvOf}
use Rattle.agreement.proofs.Keeping.{packets_keep}
use Rattle.agreement.proofs.Entries.{entry_kept, kept_holds}
use Rattle.agreement.proofs.Packets.{packet_added_ways, packet_freed_ways, under_still}
use Rattle.agreement.proofs.Moves.{Moves}
use Rattle.agreement.proofs.Moving.{at, one, named, good, calm, stays}

-- an entry of an equal sending
held_equal : (h : Hold) (s : Sending) → holding h s ≡ true → Holds h 1 s.sender s.id s.slot
held_equal h s y =
    let z = found_where _ y in
    let e = entry_at h z.0 in
    let o = e.sending in
    let a =
    and4 (not (eqb e.stage 0)) (eqb o.sender s.sender) (eqb o.id s.id) (eqb o.slot s.slot)
    (found_at (λ (k : ℕ). is_entry (entry_at h k) s) hold_places z.0 z.1)
    in
    let d = eqb-false e.stage 0 (not-true _ a.0) in
    record {
      place = z.0;
      is = record {
        up = omega arith;
        sender = eqb-true o.sender s.sender a.1;
        id = eqb-true o.id s.id a.2;
        slot = eqb-true o.slot s.slot a.3;
      };
    }

module _ (w : World) (f : FactsOf w) (v : InvOf w) where
  module _ (o x y place : ℕ) (origin : o < servers) where
    abbrev packet : Packet
    packet = packet_at (get_or w.outgoing o no_packets) place

    -- the packet goes, where its recipient, if it is correct, holds its sending
    gone : {hs : _} → Inv w.roster w.requests w.executions w.outgoing hs w.delivered
        → (Correct w.roster packet.to → Holds (hold_at hs packet.to) 1 packet.sending.sender packet.sending.id packet.sending.slot)
        → Inv w.roster w.requests w.executions (set w.outgoing o (packet_freed (get_or w.outgoing o no_packets) place)) hs w.delivered
    gone {hs} u held =
        packets_keep u (one w f) _
        (λ p s i sl ok.
        under_still w.outgoing o _ (rw f.all_packets origin) p s i sl
        (λ d. either (packet_freed_ways (get_or w.outgoing o no_packets) place p s i sl d)
        (λ n. inl n)
        (λ (g : Goes packet p s i sl).
        inr (rw (g.to, g.sender, g.id, g.slot) at (held (rw g.to ok))))))

    arrived : member w.roster packet.to ≡ true → packet.to < servers
        → (let t = at o packet.to x y in let b = boxes_of w t in Moves w (put_back w t (arrive_of w.roster o place b).boxes))
    unfolding arrive_of
    arrived mine to =
        let p = packet.to in
        let t = at o p x y in
        let b = boxes_of w t in
        let P : Ruling → Type 0 = λ s. Moves w (put_back w t s.boxes) in
        let same = stays w f t v in
        let full : p < length w.holds = rw f.all_entries to in
        let e = entry_of 1 packet.sending 0 in
        let size = (f.entries p to).size in
        musts P (member w.roster o) _ _ same λ _.
        musts P packet.there _ _ same λ _.
        must_cases P (not (faulty w.roster p || holding (hold_at w.holds p) packet.sending)) _ _
        (λ (no : not (faulty w.roster p || holding (hold_at w.holds p) packet.sending) ≡ false).
        calm w f t _ _ _
        (rw (set-get_or w.holds p no_entries, set-get_or w.delivered o no_items)
        (gone v
        (λ ok.
        held_equal (hold_at w.holds p) packet.sending (rw (good w f p ok) at (not-false (faulty w.roster p || holding (hold_at w.holds p) packet.sending) no))))))
        λ _.
        musts P (is_some (free_hold (hold_at w.holds p))) _ _ same λ room.
        calm w f t _ _ _
        (rw (set-get_or w.delivered o no_items)
        (gone (entry_kept v (one w f) p full size e (omega arith) room)
        (λ _.
        rw (get_or-set_same w.holds p (entry_added (hold_at w.holds p) e) no_entries full)
        (kept_holds (hold_at w.holds p) e size room 1 packet.sending.sender packet.sending.id packet.sending.slot (record { up = omega arith; sender = refl; id = refl; slot = refl })))))

  pub arrive_moves : (origin place : ℕ)
      → (let t = touch origin (packet_at (get_or w.outgoing (seat origin) no_packets) place).to origin 0 in
      Moves w (put_back w t (arrive_of w.roster origin place (boxes_of w t)).boxes))
  unfolding arrive_of
  arrive_moves origin place =
      test (member w.roster origin && (packet_at (get_or w.outgoing (seat origin) no_packets) place).there)
      (λ yes.
      let a = and_parts (member w.roster origin) _ yes in
      let l = named w f origin a.0 in
      let there = rw (seat_own origin l) at a.1 in
      let o = get_or w.outgoing origin no_packets in
      let z = inside (λ (p : Packet). p.there ≡ true) o.places place outgoing_places free_packet (f.packets origin l).size there (λ n. apart false n refl) in
      let k = packet_out w.roster _ origin (packet_at o place) there ((f.packets origin l).places place z) in
      let to = named w f (packet_at o place).to k.1 in
      rw (seat_own origin l, seat_own (packet_at o place).to to) (arrived origin origin 0 place l k.1 to))
      (λ no.
      let t = touch origin (packet_at (get_or w.outgoing (seat origin) no_packets) place).to origin 0 in
      let P : Ruling → Type 0 = λ s. Moves w (put_back w t s.boxes) in
      musts P (member w.roster origin) _ _ (stays w f t v) λ mine.
      musts P (packet_at (get_or w.outgoing (seat origin) no_packets) place).there _ _ (stays w f t v) λ there.
      apart _ (and_from _ _ mine there) no)

  pub forge_packet_moves : (from to sender id slot : ℕ)
      → (let t = touch from from from 0 in Moves w (put_back w t (forge_packet_of w.roster from to sender id slot (boxes_of w t)).boxes))
  unfolding forge_packet_of
  forge_packet_moves from to sender id slot =
      let t = touch from from from 0 in
      let P : Ruling → Type 0 = λ s. Moves w (put_back w t s.boxes) in
      let same = stays w f t v in
      let o = get_or w.outgoing (seat from) no_packets in
      let l = seats.seated from (seat from) refl in
      musts P (member w.roster from && member w.roster to && member w.roster sender) _ _ same λ _.
      musts P (faulty w.roster from) _ _ same λ _.
      musts P (ltb slot w.requests.count) _ _ same λ _.
      musts P (is_some (free_outgoing o)) _ _ same λ _.
      calm w f t _ _ _
      (rw (set-get_or w.holds (seat from) no_entries, set-get_or w.delivered (seat from) no_items)
      (packets_keep v (one w f) _
      (λ p s i sl ok.
      under_still w.outgoing (seat from) _ (rw f.all_packets l) p s i sl (λ d. inl (packet_added_ways o _ (f.packets (seat from) l).size p s i sl d)))))
