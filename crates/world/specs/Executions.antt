-- Document 01, "The orderer": the executions of one sender, oldest first.
use Rattle.std.specs.Prelude.{ℕ, ◌+◌, ◌%◌, ◌^◌, cond, ◌&&◌, List, [], replicate, ◌==◌, count_ones, nat_lt, slice_index_or, slice_set, Option}
use Rattle.search.specs.Search.{first}
use Rattle.fips180.specs.Digest.{digest_bytes}
use Rattle.world.specs.declared.roster.Roster.{Roster}
use Rattle.world.specs.declared.execution.Execution.{Execution}
use Rattle.world.specs.declared.execution.Executions.{Executions}
use Rattle.world.specs.declared.execution.Ordered.{Ordered}
use Rattle.world.specs.Sizes.{executions_most}
use Rattle.world.specs.Masks.{nobody, join}
use Rattle.world.specs.Roster.{threshold}

-- a place of the table that is not used: all zeros
abbrev pub unused_execution : Execution
unused_execution = record { number = 0; id = 0; called = nobody; mask = nobody; digest = replicate digest_bytes 0 }

unfoldable pub fresh_executions : Executions
fresh_executions = record { table = replicate executions_most unused_execution; count = 0 }

-- what a read past the table gives
abbrev pub no_execution : Execution
no_execution = record { number = 0; id = 0; called = nobody; mask = nobody; digest = [] }

abbrev pub execution_at : Executions → ℕ → Execution
execution_at t k = slice_index_or t.table k no_execution

-- another execution at a place, and one more at the next place
abbrev pub execution_put : Executions → ℕ → Execution → Executions
execution_put t k x = record { table = slice_set t.table k x; count = t.count }

abbrev pub execution_added : Executions → Execution → Executions
execution_added t x = record { table = slice_set t.table t.count x; count = t.count + 1 }

-- an execution is known by its sender and id: the place of the id among the sender's executions
abbrev pub execution_of : Executions → ℕ → Option ℕ
execution_of t id = first (λ (k : ℕ). nat_lt k t.count && (execution_at t k).id == id) executions_most

-- the number after m (1, 2, 3, ..), at 32 bits
abbrev pub next_number : ℕ → ℕ
next_number m = (m + 1) % 2 ^ 32

-- a new execution has the sender's digest and no number; the sender has called, and is in the mask
abbrev pub opened : ℕ → ℕ → List ℕ → Execution
opened sender id digest = record {
  number = 0;
  id = id;
  called = join nobody sender;
  mask = join nobody sender;
  digest = digest;
}

-- a server's call; it is a proposal too, as long as there is no number
abbrev pub called : Execution → ℕ → Execution
called e server = record {
  number = e.number;
  id = e.id;
  called = join e.called server;
  mask = cond (e.number == 0) (join e.mask server) e.mask;
  digest = e.digest;
}

-- an execution with a number
abbrev pub with_number : Execution → ℕ → Execution
with_number e m = record { number = m; id = e.id; called = e.called; mask = e.mask; digest = e.digest }

-- the next number, for an execution that has none and whose mask has come to T members
unfoldable pub ordered : Roster → Execution → ℕ → Ordered
ordered r e m =
    cond (e.number == 0 && count_ones e.mask == threshold r)
    (record { execution = with_number e (next_number m); numbered = next_number m })
    (record { execution = e; numbered = m })
