-- The most bytes of each part of a listing. A byte has at most 3 digits, an id 5, a count 10; a schedule has at most
-- 16,384 records after its start, since each has 2 bytes at least, so K and RECORDS have at most 5.
use Rattle.std.specs.Prelude.{ℕ, ◌+◌, ◌*◌, ◌^◌}
use Rattle.world.specs.Sizes.{servers, delivered_most}

abbrev pub record_bytes_least : ℕ
record_bytes_least = 2

-- the line `world`
abbrev pub world_most : ℕ
world_most = 6 + 3 + 1 + 3 + 1 + 10 + 1 + 5 + 1

-- a line `step`
abbrev pub step_most : ℕ
step_most = 5 + 5 + 1 + 3 + 1

-- an item SENDER.ID.SLOT with its blank, and those of a server
abbrev pub item_most : ℕ
item_most = 1 + 3 + 1 + 5 + 1 + 3

abbrev pub items_most : ℕ
items_most = delivered_most * item_most

-- a line `server` with its items, and the lines of all servers
abbrev pub server_most : ℕ
server_most = 7 + 3 + 1 + 10 + items_most + 1

abbrev pub servers_most : ℕ
servers_most = servers * server_most

-- the line `numbered`
abbrev pub numbered_most : ℕ
numbered_most = 9 + 10 + 1

-- 256 KiB hold a whole listing
abbrev pub listing_most : ℕ
listing_most = 2 ^ 18
