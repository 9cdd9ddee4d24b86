-- What a packet tells, an entry is of and a delivered item is: the sender and id of an execution, and a slot.
use Rattle.world.specs.declared.sending.Sending.{Sending}

-- what a free or unused place holds: all zeros
abbrev pub no_sending : Sending
no_sending = record { id = 0; sender = 0; slot = 0 }
