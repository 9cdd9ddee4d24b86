-- What one server has delivered, in order.
use Rattle.std.specs.Prelude.{ℕ, replicate, slice_set}
use Rattle.world.specs.declared.sending.Sending.{Sending}
use Rattle.world.specs.declared.delivered.Delivered.{Delivered}
use Rattle.world.specs.Sizes.{delivered_most}
use Rattle.world.specs.Executions.{next_number}
use Rattle.world.specs.Sending.{no_sending}

unfoldable pub fresh_delivered : Delivered
fresh_delivered = record { items = replicate delivered_most no_sending; count = 0 }

-- the number that a server delivers next: one more than it has delivered
abbrev pub next_of : Delivered → ℕ
next_of d = next_number d.count

-- an item more
abbrev pub appended : Delivered → Sending → Delivered
appended d s = record { items = slice_set d.items d.count s; count = next_of d }
