-- Document 01, "Sizes".
use Rattle.std.specs.Prelude.{ℕ, ◌+◌, ◌*◌}

abbrev pub servers : ℕ
servers = 8

abbrev pub requests_most : ℕ
requests_most = 128

-- of one sender
abbrev pub executions_most : ℕ
executions_most = 16

-- of one origin
abbrev pub outgoing_places : ℕ
outgoing_places = 64

-- of one server
abbrev pub hold_places : ℕ
hold_places = 64

-- a server delivers no more than all executions there can be
abbrev pub delivered_most : ℕ
delivered_most = servers * executions_most

-- the bytes of a request's body: ahead of the command (client, number of four bytes, seals), and the command
abbrev pub head_bytes : ℕ
head_bytes = 1 + 4 + 1

abbrev pub command_bytes : ℕ
command_bytes = 24
