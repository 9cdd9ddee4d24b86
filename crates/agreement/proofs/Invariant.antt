-- The invariant of demand 3, over the boxes that each part speaks of; where a step leaves those alone, the old proof is the new one.
use mathlib.Core.Path.{◌≡◌}
use mathlib.Core.Logic.{◌⊎◌}
use mathlib.Core.Bool.{true}
use mathlib.Core.List.{List}
use Prim.Native.Nat.{ℕ, ◌+◌, ◌<◌, ◌≤◌}
use lib.ListN.{get_or}
use Rattle.world.specs.declared.World.{World}
use Rattle.world.specs.declared.roster.Roster.{Roster}
use Rattle.world.specs.declared.request.Requests.{Requests}
use Rattle.world.specs.declared.execution.Execution.{Execution}
use Rattle.world.specs.declared.execution.Executions.{Executions}
use Rattle.world.specs.declared.sending.Sending.{Sending}
use Rattle.world.specs.declared.outgoing.Outgoing.{Outgoing}
use Rattle.world.specs.declared.outgoing.Packet.{Packet}
use Rattle.world.specs.declared.hold.Entry.{Entry}
use Rattle.world.specs.declared.hold.Hold.{Hold}
use Rattle.world.specs.declared.delivered.Delivered.{Delivered}
use Rattle.world.specs.Sizes.{servers}
use Rattle.world.specs.Masks.{has}
use Rattle.world.specs.Roster.{correct}
use Rattle.world.specs.Requests.{request_at, same_digest}
use Rattle.world.specs.Executions.{execution_at}
use Rattle.world.specs.Outgoing.{packet_at}
use Rattle.world.specs.Hold.{entry_at}
use Rattle.world.specs.Boxes.{no_table, no_packets, no_entries, no_items, item_at}

abbrev pub Correct : Roster → ℕ → Type 0
Correct r p = correct r p ≡ true

-- the boxes of a server
abbrev pub hold_at : List Hold → ℕ → Hold
hold_at hs p = get_or hs p no_entries

abbrev pub done_at : List Delivered → ℕ → Delivered
done_at ds p = get_or ds p no_items

abbrev pub table_at : List Executions → ℕ → Executions
table_at ts s = get_or ts s no_table

-- the execution of a sender at a place of its table
abbrev pub made : List Executions → ℕ → ℕ → Execution
made ts s k = execution_at (table_at ts s) k

pub record Made (ts : List Executions) (s k : ℕ) : Type 0 where
  pub seated : s < servers
  pub used : k < (table_at ts s).count

-- a stored request has an execution's digest
pub record Matches (q : Requests) (slot : ℕ) (x : Execution) : Type 0 where
  pub stored : slot < q.count
  pub same : same_digest (request_at q slot).digest x.digest ≡ true

-- an entry of a sending, at a stage or a later one; and a hold that has one
pub record Of (e : Entry) (stage s i sl : ℕ) : Type 0 where
  pub up : stage ≤ e.stage
  pub sender : e.sending.sender ≡ s
  pub id : e.sending.id ≡ i
  pub slot : e.sending.slot ≡ sl

pub record Holds (h : Hold) (stage s i sl : ℕ) : Type 0 where
  pub place : ℕ
  pub is : Of (entry_at h place) stage s i sl

-- a packet of a sending under way to a server
pub record Goes (k : Packet) (p s i sl : ℕ) : Type 0 where
  pub there : k.there ≡ true
  pub to : k.to ≡ p
  pub sender : k.sending.sender ≡ s
  pub id : k.sending.id ≡ i
  pub slot : k.sending.slot ≡ sl

pub record Under (os : List Outgoing) (p s i sl : ℕ) : Type 0 where
  pub origin : ℕ
  pub place : ℕ
  pub goes : Goes (packet_at (get_or os origin no_packets) place) p s i sl

-- a server has delivered an execution's number
pub record Done (x : Execution) (d : Delivered) : Type 0 where
  pub numbered : 0 < x.number
  pub reached : x.number ≤ d.count

-- a sending belongs to a number
pub record Belongs (q : Requests) (ts : List Executions) (s i sl n : ℕ) : Type 0 where
  pub place : ℕ
  pub there : Made ts s place
  pub id : (made ts s place).id ≡ i
  pub number : (made ts s place).number ≡ n
  pub some : 0 < n
  pub matches : Matches q sl (made ts s place)

abbrev pub BelongsAs : Requests → List Executions → Sending → ℕ → Type 0
BelongsAs q ts s n = Belongs q ts s.sender s.id s.slot n

-- a correct server that has called for an execution has its request with a good seal, and holds it at stage two or three or has delivered it
pub record Called (q : Requests) (x : Execution) (s : ℕ) (h : Hold) (d : Delivered) (p : ℕ) : Type 0 where
  pub slot : ℕ
  pub matches : Matches q slot x
  pub seal : has (request_at q slot).seals p ≡ true
  pub kept : Holds h 2 s x.id slot ⊎ Done x d

-- a server is served with a sending: a packet is under way to it, or it holds it at any stage, or it has delivered it
abbrev pub Served : List Outgoing → Hold → Execution → Delivered → ℕ → ℕ → ℕ → Type 0
Served os h x d s slot p = Under os p s x.id slot ⊎ (Holds h 1 s x.id slot ⊎ Done x d)

abbrev pub Spread : Roster → List Outgoing → List Hold → List Delivered → ℕ → Execution → ℕ → Type 0
Spread r os hs ds s x slot = (p : ℕ) → Correct r p → Served os (hold_at hs p) x (done_at ds p) s slot p

-- why every correct server is served: the sender is correct, or a correct server has settled it or delivered it
pub data Cause (r : Roster) (hs : List Hold) (ds : List Delivered) (s : ℕ) (x : Execution) (slot : ℕ) : Type 0 where
  sender : Correct r s → Cause r hs ds s x slot
  settled : (p : ℕ) → Correct r p → Holds (hold_at hs p) 3 s x.id slot → Cause r hs ds s x slot
  delivered : (p : ℕ) → Correct r p → Done x (done_at ds p) → Cause r hs ds s x slot

abbrev pub Calls : Roster → Requests → List Executions → List Hold → List Delivered → Type 0
Calls r q ts hs ds =
    (s k p : ℕ) → Made ts s k → Correct r p → has (made ts s k).called p ≡ true → Called q (made ts s k) s (hold_at hs p) (done_at ds p) p

abbrev pub Third : Roster → Requests → List Executions → List Hold → Type 0
Third r q ts hs =
    (p z : ℕ) → Correct r p → 3 ≤ (entry_at (hold_at hs p) z).stage
    → BelongsAs q ts (entry_at (hold_at hs p) z).sending (entry_at (hold_at hs p) z).number

abbrev pub Prefix : Roster → Requests → List Executions → List Delivered → Type 0
Prefix r q ts ds =
    (p j : ℕ) → Correct r p → j < (done_at ds p).count → BelongsAs q ts (item_at (done_at ds p) j) (j + 1)

abbrev pub Spreads : Roster → Requests → List Executions → List Outgoing → List Hold → List Delivered → Type 0
Spreads r q ts os hs ds =
    (s k slot : ℕ) → Made ts s k → Matches q slot (made ts s k) → Cause r hs ds s (made ts s k) slot → Spread r os hs ds s (made ts s k) slot

pub record Inv (r : Roster) (q : Requests) (ts : List Executions) (os : List Outgoing) (hs : List Hold) (ds : List Delivered) : Type 0 where
  pub calls : Calls r q ts hs ds
  pub third : Third r q ts hs
  pub prefix : Prefix r q ts ds
  pub spread : Spreads r q ts os hs ds

abbrev pub InvOf : World → Type 0
InvOf w = Inv w.roster w.requests w.executions w.outgoing w.holds w.delivered
