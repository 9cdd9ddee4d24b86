-- A start gives a sound world: every place is free. Assumes nothing.
use mathlib.Core.Path.{◌≡◌, refl}
use mathlib.Core.Bool.{true}
use mathlib.Core.List.{List}
use Prim.Native.Nat.{ℕ, ◌<◌}
use native.Mathlib.Omega.{arith}
use lib.ListN.{get_or, replicate, length-replicate, get_or-replicate}
use borrow.Author.Tests.{le-ltb}
use Rattle.std.proofs.lemmas.Bool.{or_right}
use Rattle.search.specs.Search.{first_from}
use Rattle.world.specs.declared.roster.Roster.{Roster}
use Rattle.world.specs.declared.execution.Executions.{Executions}
use Rattle.world.specs.Sizes.{servers, requests_most, executions_most, outgoing_places, hold_places, delivered_most}
use Rattle.world.specs.Roster.{member, good_roster}
use Rattle.world.specs.Requests.{fresh_requests, unused_request, no_request}
use Rattle.world.specs.Executions.{fresh_executions, unused_execution, no_execution}
use Rattle.world.specs.Outgoing.{fresh_outgoing, free_packet}
use Rattle.world.specs.Hold.{fresh_hold, free_entry}
use Rattle.world.specs.Sending.{no_sending}
use Rattle.world.specs.Delivered.{fresh_delivered}
use Rattle.world.specs.Fresh.{fresh_world}
use Rattle.world.specs.Boxes.{no_table, no_packets, no_entries, no_items}
use Rattle.protocol.specs.Zeros.{zero_bytes}
use Rattle.protocol.specs.Sound.{slot_sound, place_sound, numbers_sound, packet_sound, entry_sound, item_sound}
use Rattle.kept.proofs.Facts.{Stored, Table, Packets, Entries, Items, FactsOf, numbers_out}

module _ (r : Roster) where
  fresh_stored : Stored r fresh_requests
  unfolding fresh_requests slot_sound zero_bytes first_from
  fresh_stored =
      record {
        size = length-replicate requests_most unused_request;
        most = omega arith;
        slots = λ k h. rw (get_or-replicate requests_most k unused_request no_request h, le-ltb k 0 (omega arith));
        new = λ k h. absurd (omega arith);
      }

  fresh_table : (s : ℕ) → Table r 0 s fresh_executions
  unfolding fresh_executions place_sound zero_bytes first_from
  fresh_table s =
      record {
        size = length-replicate executions_most unused_execution;
        most = omega arith;
        theirs = or_right (member r s) true refl;
        places = λ k h. rw (get_or-replicate executions_most k unused_execution no_execution h, le-ltb k 0 (omega arith));
        new = λ k h. absurd (omega arith);
      }

  fresh_packets : (s : ℕ) → Packets r 0 s fresh_outgoing
  unfolding fresh_outgoing packet_sound
  fresh_packets s =
      record
      { size = length-replicate outgoing_places free_packet; places = λ k h. rw (get_or-replicate outgoing_places k free_packet free_packet h) }

  fresh_entries : (ts : List Executions) (s : ℕ) → Entries r 0 0 ts s fresh_hold
  unfolding fresh_hold entry_sound
  fresh_entries ts s =
      record { size = length-replicate hold_places free_entry; places = λ k h. rw (get_or-replicate hold_places k free_entry free_entry h) }

  fresh_items : (s : ℕ) → Items r 0 0 s fresh_delivered
  unfolding fresh_delivered item_sound
  fresh_items s =
      record {
        size = length-replicate delivered_most no_sending;
        most = omega arith;
        theirs = or_right (member r s) true refl;
        places = λ k h. rw (get_or-replicate delivered_most k no_sending no_sending h, le-ltb k 0 (omega arith));
      }

  fresh_tables : (s : ℕ) → s < servers → Table r 0 s (get_or (replicate servers fresh_executions) s no_table)
  fresh_tables s h = rw (get_or-replicate servers s fresh_executions no_table h) (fresh_table s)

  none_given : numbers_sound (replicate servers fresh_executions) 0 ≡ true
  unfolding numbers_sound first_from
  none_given = refl

pub start_facts : (n f : ℕ) → good_roster (record { n = n; faulty = f }) ≡ true → FactsOf (fresh_world n f)
unfolding fresh_world fresh_requests
start_facts n f good =
    let r : Roster = record { n = n; faulty = f } in
    record {
      roster = good;
      requests = fresh_stored r;
      numbers = numbers_out r 0 (replicate servers fresh_executions) (none_given r) (fresh_tables r);
      all_tables = length-replicate servers fresh_executions;
      all_packets = length-replicate servers fresh_outgoing;
      all_entries = length-replicate servers fresh_hold;
      all_items = length-replicate servers fresh_delivered;
      tables = fresh_tables r;
      packets = λ s h. rw (get_or-replicate servers s fresh_outgoing no_packets h) (fresh_packets r s);
      entries = λ s h. rw (get_or-replicate servers s fresh_hold no_entries h) (fresh_entries r (replicate servers fresh_executions) s);
      items = λ s h. rw (get_or-replicate servers s fresh_delivered no_items h) (fresh_items r s);
    }
