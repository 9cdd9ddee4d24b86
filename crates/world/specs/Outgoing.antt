-- Document 01, "Sizes": the packets of one origin, each new one at the lowest free place.
use Rattle.std.specs.Prelude.{ℕ, zero, suc, Bool, true, false, cond, not, ◌&&◌, replicate, ◌==◌, slice_index_or, slice_set, None, Option, Some}
use Rattle.search.specs.Search.{first, count}
use Rattle.world.specs.declared.roster.Roster.{Roster}
use Rattle.world.specs.declared.sending.Sending.{Sending}
use Rattle.world.specs.declared.outgoing.Packet.{Packet}
use Rattle.world.specs.declared.outgoing.Outgoing.{Outgoing}
use Rattle.world.specs.Sizes.{servers, outgoing_places}
use Rattle.world.specs.Masks.{has}
use Rattle.world.specs.Roster.{member}
use Rattle.world.specs.Sending.{no_sending}

-- a free place: all zeros
abbrev pub free_packet : Packet
free_packet = record { sending = no_sending; there = false; to = 0 }

abbrev pub packet_for : ℕ → Sending → Packet
packet_for to s = record { sending = s; there = true; to = to }

unfoldable pub fresh_outgoing : Outgoing
fresh_outgoing = record { places = replicate outgoing_places free_packet }

-- the packet at a place; past the places there is none
abbrev pub packet_at : Outgoing → ℕ → Packet
packet_at o place = slice_index_or o.places place free_packet

abbrev pub is_free : Outgoing → ℕ → Bool
is_free o place = not (packet_at o place).there

-- the lowest free place, and how many there are
abbrev pub free_outgoing : Outgoing → Option ℕ
free_outgoing o = first (λ (k : ℕ). is_free o k) outgoing_places

abbrev pub free_places : Outgoing → ℕ
free_places o = count (λ (k : ℕ). is_free o k) outgoing_places

abbrev pub packet_put : Outgoing → ℕ → Packet → Outgoing
packet_put o place p = record { places = slice_set o.places place p }

abbrev pub packet_freed : Outgoing → ℕ → Outgoing
packet_freed o place = packet_put o place free_packet

-- a packet more, at the lowest free place
unfoldable pub packet_added_at : Outgoing → Packet → Option ℕ → Outgoing
packet_added_at o p (Some place) = packet_put o place p
packet_added_at o p None = o

unfoldable pub packet_added : Outgoing → Packet → Outgoing
packet_added o p = packet_added_at o p (free_outgoing o)

-- a server outside the mask, the sending one excepted; with nobody in the mask, each other server
abbrev pub recipient : Roster → ℕ → ℕ → ℕ → Bool
recipient r mask server to = member r to && not (has mask to) && not (to == server)

-- how many such servers there are
abbrev pub needed : Roster → ℕ → ℕ → ℕ
needed r mask server = count (λ (to : ℕ). recipient r mask server to) servers

-- one packet for each of them, ascending: up to the first n servers, and up to all
unfoldable pub sent_below : Roster → ℕ → ℕ → Sending → Outgoing → ℕ → Outgoing
sent_below r mask server s o zero = o
sent_below r mask server s o (suc n) =
    let p = sent_below r mask server s o n in cond (recipient r mask server n) (packet_added p (packet_for n s)) p

abbrev pub sent : Roster → ℕ → ℕ → Sending → Outgoing → Outgoing
sent r mask server s o = sent_below r mask server s o servers
