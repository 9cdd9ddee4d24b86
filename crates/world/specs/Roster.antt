-- Document 01, "Sizes": servers, f and T.
use Rattle.std.specs.Prelude.{ℕ, ◌+◌, ◌-◌, ◌/◌, Bool, not, ◌&&◌, count_ones, nat_le, nat_lt}
use Rattle.world.specs.declared.roster.Roster.{Roster}
use Rattle.search.specs.Search.{any}
use Rattle.world.specs.Sizes.{servers}
use Rattle.world.specs.Masks.{has}

-- servers are named 0 to n−1
abbrev pub member : Roster → ℕ → Bool
member r server = nat_lt server r.n

abbrev pub faulty : Roster → ℕ → Bool
faulty r server = has r.faulty server

abbrev pub correct : Roster → ℕ → Bool
correct r server = member r server && not (faulty r server)

-- a mask with a bit at n or above
abbrev pub strays : Roster → ℕ → Bool
strays r mask = any (λ (i : ℕ). has mask i && not (member r i)) servers

-- f = (n−1)/2 rounded down, T = f + 1
abbrev pub faults : Roster → ℕ
faults r = (r.n - 1) / 2

abbrev pub threshold : Roster → ℕ
threshold r = faults r + 1

-- who may start a world: 1 to 8 servers, no bit of a server that is not there, and at most f faulty ones
abbrev pub good_roster : Roster → Bool
good_roster r = nat_le 1 r.n && nat_le r.n servers && not (strays r r.faulty) && nat_le (count_ones r.faulty) (faults r)
