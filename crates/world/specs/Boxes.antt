-- The boxes of a world, by the server that they belong to. A name that is no server's finds the first box. A step
-- tests the names in its record before it looks at their boxes; that a packet's recipient and an entry's sender are
-- servers, soundness guarantees (`Sound`), and no step makes others (`kept`).
use Rattle.std.specs.Prelude.{ℕ, cond, [], nat_lt, slice_index_or}
use Rattle.world.specs.declared.World.{World}
use Rattle.world.specs.declared.sending.Sending.{Sending}
use Rattle.world.specs.declared.request.Requests.{Requests}
use Rattle.world.specs.declared.execution.Executions.{Executions}
use Rattle.world.specs.declared.outgoing.Outgoing.{Outgoing}
use Rattle.world.specs.declared.hold.Hold.{Hold}
use Rattle.world.specs.declared.delivered.Delivered.{Delivered}
use Rattle.world.specs.Sizes.{servers}
use Rattle.world.specs.Sending.{no_sending}

-- a number below a bound, as it is; any other, as 0
abbrev pub within : ℕ → ℕ → ℕ
within bound i = cond (nat_lt i bound) i 0

abbrev pub seat : ℕ → ℕ
seat server = within servers server

-- a world with other requests
abbrev pub with_requests : World → Requests → World
with_requests w q = record {
  roster = w.roster;
  numbered = w.numbered;
  requests = q;
  executions = w.executions;
  outgoing = w.outgoing;
  holds = w.holds;
  delivered = w.delivered;
}

-- what a read past the boxes gives
abbrev pub no_table : Executions
no_table = record { table = []; count = 0 }

abbrev pub no_packets : Outgoing
no_packets = record { places = [] }

abbrev pub no_entries : Hold
no_entries = record { places = [] }

abbrev pub no_items : Delivered
no_items = record { items = []; count = 0 }

abbrev pub executions_of : World → ℕ → Executions
executions_of w server = slice_index_or w.executions (seat server) no_table

abbrev pub outgoing_of : World → ℕ → Outgoing
outgoing_of w server = slice_index_or w.outgoing (seat server) no_packets

abbrev pub hold_of : World → ℕ → Hold
hold_of w server = slice_index_or w.holds (seat server) no_entries

abbrev pub delivered_of : World → ℕ → Delivered
delivered_of w server = slice_index_or w.delivered (seat server) no_items

abbrev pub item_at : Delivered → ℕ → Sending
item_at d k = slice_index_or d.items k no_sending
