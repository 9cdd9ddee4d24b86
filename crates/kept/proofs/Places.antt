-- What a change at one place does to sound boxes: an entry, a packet or an item put there. Assumes nothing.
use Rattle.std.specs.Prelude.{None, Option, Some, is_some}
use mathlib.Core.Path.{◌≡◌, refl, ◌∙◌}
use mathlib.Core.Logic.{◌≢◌}
use mathlib.Core.Bool.{true, not}
use mathlib.Core.List.{List}
use Prim.Native.Nat.{ℕ, zero, suc, ◌+◌, ◌<◌, ◌≤◌}
use native.Mathlib.Omega.{arith}
use lib.Dec.{eqb, ltb}
use lib.ListN.{length-set}
use borrow.Author.Tests.{le-leb, lt-ltb}
use Rattle.std.proofs.lemmas.Bool.{and_from, and_parts, cond_both, or_left}
use Rattle.search.proofs.Laws.{found_in}
use Rattle.world.specs.declared.roster.Roster.{Roster}
use Rattle.world.specs.declared.execution.Executions.{Executions}
use Rattle.world.specs.declared.outgoing.Outgoing.{Outgoing}
use Rattle.world.specs.declared.outgoing.Packet.{Packet}
use Rattle.world.specs.declared.sending.Sending.{Sending}
use Rattle.world.specs.declared.hold.Entry.{Entry}
use Rattle.world.specs.declared.hold.Hold.{Hold}
use Rattle.world.specs.declared.delivered.Delivered.{Delivered}
use Rattle.world.specs.Sizes.{servers, outgoing_places, hold_places, delivered_most}
use Rattle.world.specs.Masks.{has}
use Rattle.world.specs.Roster.{member}
use Rattle.world.specs.Outgoing.{free_packet, packet_for, free_outgoing, packet_put, packet_freed, packet_added_at, packet_added, recipient, sent_below, sent}
use Rattle.world.specs.Hold.{entry_of, free_entry, free_hold, entry_put, entry_freed, entry_added_at, entry_added}
use Rattle.world.specs.Sending.{no_sending}
use Rattle.world.specs.Delivered.{next_of, appended}
use Rattle.protocol.specs.Names.{names, table_of, own_execution}
use Rattle.protocol.specs.Sound.{packet_sound, stage_sound, entry_sound, item_sound}
use Rattle.search.proofs.Booleans.{sides_more, and3}
use Rattle.kept.proofs.Facts.{set_cases, Packets, Entries, Items, entry_in}

-- an entry at stage one, and one at stage two, whose execution is in the table
module _ (r : Roster) (stored m x : ℕ) (t : Executions) (mine : member r x ≡ true) (s : Sending) (good : names r stored s ≡ true) where
  named_by : (member r s.sender ≡ true) × (ltb s.slot stored ≡ true)
  named_by = and_parts (member r s.sender) (ltb s.slot stored) good

  pub first_entry : entry_sound r stored m x t (entry_of 1 s 0) ≡ true
  unfolding stage_sound
  first_entry =
      entry_in r stored m x t (entry_of 1 s 0) (λ z. omega arith)
      (record { stage = omega arith; holder = mine; sender = named_by.0; slot = named_by.1; named = λ h. absurd (omega arith); number = refl })

  pub second_entry : is_some (own_execution t s) ≡ true → entry_sound r stored m x t (entry_of 2 s 0) ≡ true
  unfolding stage_sound
  second_entry found =
      entry_in r stored m x t (entry_of 2 s 0) (λ z. omega arith)
      (record { stage = omega arith; holder = mine; sender = named_by.0; slot = named_by.1; named = λ h. found; number = refl })

  pub third_entry : (number : ℕ) → number ≢ 0 → number ≤ m → is_some (own_execution t s) ≡ true
      → entry_sound r stored m x t (entry_of 3 s number) ≡ true
  unfolding stage_sound
  third_entry number some low found =
      entry_in r stored m x t (entry_of 3 s number) (λ z. omega arith)
      (record {
        stage = omega arith;
        holder = mine;
        sender = named_by.0;
        slot = named_by.1;
        named = λ h. found;
        number = and_from _ _ (le-leb 1 number (omega arith)) (le-leb number m low);
      })

-- a hold
module _ {r : Roster} {stored m : ℕ} {ts : List Executions} {x : ℕ} {h : Hold} (f : Entries r stored m ts x h) where
  pub entry_put_lem : (k : ℕ) (e : Entry) → k < hold_places → entry_sound r stored m x (table_of ts e.sending.sender) e ≡ true → Entries r stored m ts x (entry_put h k e)
  entry_put_lem k e p s =
      record {
        size = length-set h.places k e ∙ f.size;
        places = λ j q.
            set_cases (λ y. entry_sound r stored m x (table_of ts y.sending.sender) y ≡ true) h.places k j e free_entry (omega (arith, f.size)) (λ _. s)
            (λ _. f.places j q);
      }

  free_sound : (t : Executions) → entry_sound r stored m x t free_entry ≡ true
  unfolding entry_sound
  free_sound t = refl

  pub entry_freed_lem : (k : ℕ) → k < hold_places → Entries r stored m ts x (entry_freed h k)
  entry_freed_lem k p = entry_put_lem k free_entry p (free_sound _)

  kept_at : (e : Entry) → entry_sound r stored m x (table_of ts e.sending.sender) e ≡ true → (g : Option ℕ) → g ≡ free_hold h → Entries r stored m ts x (entry_added_at h e g)
  unfolding entry_added_at
  kept_at e s (Some k) q = entry_put_lem k e (found_in _ hold_places k (Some k) q refl) s
  kept_at e s None q = f

  pub entry_kept : (e : Entry) → entry_sound r stored m x (table_of ts e.sending.sender) e ≡ true → Entries r stored m ts x (entry_added h e)
  unfolding entry_added
  entry_kept e s = kept_at e s (free_hold h) refl

-- what a packet under way names
pub packet_out : (r : Roster) (stored x : ℕ) (p : Packet) → p.there ≡ true → packet_sound r stored x p ≡ true
    → (member r x ≡ true) × (member r p.to ≡ true) × (names r stored p.sending ≡ true)
unfolding packet_sound
packet_out r stored x p there e = and3 (member r x) (member r p.to) (names r stored p.sending) (rw there at e)

-- a packet that is sent
pub sending_sound : (r : Roster) (stored x : ℕ) (s : Sending) (to : ℕ) → member r x ≡ true → names r stored s ≡ true → member r to ≡ true
    → packet_sound r stored x (packet_for to s) ≡ true
unfolding packet_sound
sending_sound r stored x s to mine good there = and_from _ _ (and_from _ _ mine there) good

-- the outgoing places
module _ {r : Roster} {stored x : ℕ} where
  packet_put_lem : {o : Outgoing} → Packets r stored x o → (k : ℕ) (p : Packet) → k < outgoing_places → packet_sound r stored x p ≡ true
      → Packets r stored x (packet_put o k p)
  packet_put_lem {o} f k p l s =
      record {
        size = length-set o.places k p ∙ f.size;
        places = λ j q. set_cases (λ y. packet_sound r stored x y ≡ true) o.places k j p free_packet (omega (arith, f.size)) (λ _. s) (λ _. f.places j q);
      }

  pub packet_packet_freed : {o : Outgoing} → Packets r stored x o → (k : ℕ) → k < outgoing_places → Packets r stored x (packet_freed o k)
  unfolding packet_sound
  packet_packet_freed f k l = packet_put_lem f k free_packet l refl

  packet_added_at_lem : {o : Outgoing} → Packets r stored x o → (p : Packet) → packet_sound r stored x p ≡ true → (g : Option ℕ) → g ≡ free_outgoing o → Packets r stored x (packet_added_at o p g)
  unfolding packet_added_at
  packet_added_at_lem f p s (Some k) q = packet_put_lem f k p (found_in _ outgoing_places k (Some k) q refl) s
  packet_added_at_lem f p s None q = f

  pub packet_packet_added : {o : Outgoing} → Packets r stored x o → (p : Packet) → packet_sound r stored x p ≡ true → Packets r stored x (packet_added o p)
  unfolding packet_added
  packet_packet_added {o} f p s = packet_added_at_lem f p s (free_outgoing o) refl

  module _ (mine : member r x ≡ true) (s : Sending) (good : names r stored s ≡ true) where
    below : (mask server : ℕ) {o : Outgoing} → Packets r stored x o → (n : ℕ) → Packets r stored x (sent_below r mask server s o n)
    unfolding sent_below
    below mask server f zero = f
    below mask server {o} f (suc n) =
        let g = below mask server f n in
        cond_both (recipient r mask server n) (packet_added (sent_below r mask server s o n) (packet_for n s)) (sent_below r mask server s o n) (λ v. Packets r stored x v)
        (λ e. packet_packet_added g (packet_for n s) (sending_sound r stored x s n mine good (and3 (member r n) (not (has mask n)) (not (eqb n server)) e).0))
        (λ _. g)

    pub packets_sent : (mask server : ℕ) {o : Outgoing} → Packets r stored x o → Packets r stored x (sent r mask server s o)
    packets_sent mask server f = below mask server f servers

-- an item more
pub item_appended : {r : Roster} {stored m x : ℕ} {d : Delivered} (i : Sending) → m ≤ delivered_most → d.count < m → member r x ≡ true
    → names r stored i ≡ true → Items r stored m x d → Items r stored m x (appended d i)
unfolding item_sound
item_appended {r} {stored} {m} {x} {d} i a b mine good f =
    let n : next_of d ≡ d.count + 1 = omega arith in
    record {
      size = length-set d.items d.count i ∙ f.size;
      most = omega arith;
      theirs = or_left (member r x) _ mine;
      places = λ k p.
          set_cases (λ y. item_sound r stored (next_of d) k y ≡ true) d.items d.count k i no_sending (omega (arith, f.size))
          (λ (e : k ≡ d.count). rw (lt-ltb k (next_of d) (omega arith)) good)
          (λ (e : k ≢ d.count). rw (n, ← sides_more k d.count e) (f.places k p));
    }
