-- Document 01, "Quiet": nothing is under way to a correct server, and no correct server has an entry that it could go
-- on with: one that it could propose (its execution is there), settle (it is numbered) or deliver (it has the next
-- number). Whether there is room for that step is not asked.
use Rattle.std.specs.Prelude.{ℕ, ◌<◌, ◌≡◌, Bool, true, false, not, ◌&&◌, ◌||◌, List, eqb, None, Option, Some, is_some}
use Rattle.search.specs.Search.{every}
use Rattle.world.specs.declared.World.{World}
use Rattle.world.specs.declared.execution.Executions.{Executions}
use Rattle.world.specs.declared.outgoing.Outgoing.{Outgoing}
use Rattle.world.specs.declared.hold.Entry.{Entry}
use Rattle.world.specs.declared.hold.Hold.{Hold}
use Rattle.world.specs.declared.roster.Roster.{Roster}
use Rattle.world.specs.Sizes.{servers, outgoing_places, hold_places}
use Rattle.world.specs.Roster.{correct}
use Rattle.world.specs.Executions.{execution_at}
use Rattle.world.specs.Outgoing.{packet_at}
use Rattle.world.specs.Hold.{entry_at}
use Rattle.world.specs.Delivered.{next_of}
use Rattle.world.specs.Boxes.{outgoing_of, hold_of, delivered_of}
use Rattle.protocol.specs.Names.{table_of, own_execution}

-- no packet for a correct server
unfoldable pub outgoing_quiet : Roster → Outgoing → Bool
outgoing_quiet r o = every (λ (k : ℕ). not ((packet_at o k).there && correct r (packet_at o k).to)) outgoing_places

-- whether an execution that was looked for is numbered
abbrev pub is_numbered : Executions → Option ℕ → Bool
is_numbered t (Some k) = not (eqb (execution_at t k).number 0)
is_numbered t None = false

-- an entry with which its server could go on, whose next number is given
unfoldable pub stirs : Executions → ℕ → Entry → Bool
stirs t next e =
    (eqb e.stage 1 && is_some (own_execution t e.sending))
    || (eqb e.stage 2 && is_numbered t (own_execution t e.sending))
    || (eqb e.stage 3 && eqb e.number next)

-- no entry of a server, whose next number is given, with which it could go on
unfoldable pub hold_quiet : List Executions → ℕ → Hold → Bool
hold_quiet ts next h =
    every (λ (k : ℕ). not (stirs (table_of ts (entry_at h k).sending.sender) next (entry_at h k))) hold_places

-- the boxes of one server
unfoldable pub server_quiet : World → ℕ → Bool
server_quiet w s =
    outgoing_quiet w.roster (outgoing_of w s)
    && (not (correct w.roster s) || hold_quiet w.executions (next_of (delivered_of w s)) (hold_of w s))

unfoldable pub quiet : World → Bool
quiet w = every (λ (s : ℕ). server_quiet w s) servers

-- a promise (proofs/Stillness): no world is quiet while a correct server could go on, even where its step answers 9
abbrev pub StirringStays : Type 0
StirringStays =
    (w : World) (s k : ℕ) (e : Entry) → s < servers → correct w.roster s ≡ true → k < hold_places
    → entry_at (hold_of w s) k ≡ e
    → stirs (table_of w.executions e.sending.sender) (next_of (delivered_of w s)) e ≡ true
    → quiet w ≡ false
