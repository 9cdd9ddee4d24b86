-- What the sendings of packets, entries and items name: servers, slots and executions.
use Rattle.std.specs.Prelude.{ℕ, Bool, cond, ◌&&◌, List, ltb, get_or, None, Option}
use Rattle.world.specs.declared.roster.Roster.{Roster}
use Rattle.world.specs.declared.execution.Executions.{Executions}
use Rattle.world.specs.declared.sending.Sending.{Sending}
use Rattle.world.specs.Sizes.{servers}
use Rattle.world.specs.Roster.{member}
use Rattle.world.specs.Executions.{execution_of}
use Rattle.world.specs.Boxes.{seat, no_table}

-- servers below n and slots of stored requests: of a packet, an entry or an item
abbrev pub names : Roster → ℕ → Sending → Bool
names r stored s = member r s.sender && ltb s.slot stored

-- the executions of a sender, among those of all senders
abbrev pub table_of : List Executions → ℕ → Executions
table_of ts sender = get_or ts (seat sender) no_table

-- the execution of a sending, looked for among its sender's; past the eight there is no sender
abbrev pub own_execution : Executions → Sending → Option ℕ
own_execution t s = cond (ltb s.sender servers) (execution_of t s.id) None
