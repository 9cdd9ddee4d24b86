-- Where a server's boxes stand, and how many there are. Assumes nothing.
use Rattle.std.proofs.Common.{◌≡◌, ℕ, ◌<◌, ◌≤◌, Bool, true, false, cond, ltb, leb, refl, arith, ltb-true, lt-ltb, leb-true}
use lib.Count.{ones}
use Rattle.search.proofs.Booleans.{and4}
use Rattle.world.specs.declared.roster.Roster.{Roster}
use Rattle.world.specs.Sizes.{servers}
use Rattle.world.specs.Roster.{faults, good_roster}
use Rattle.world.specs.Boxes.{seat}

seat_by : (s : ℕ) (b : Bool) → (b ≡ true → s < servers) → cond b s 0 < servers
seat_by s true h = h refl
seat_by s false h = omega arith

-- a seat is one of the eight
seat_in : (s : ℕ) → seat s < servers
seat_in s = seat_by s (ltb s servers) (ltb-true s servers)

pub seated : (s r : ℕ) → r ≡ seat s → r < servers
seated s r e = rw e (seat_in s)

-- and a server's own
pub seat_own : (s : ℕ) → s < servers → seat s ≡ s
seat_own s h = rw (lt-ltb s servers h)

-- a good roster has no more servers than there are seats
pub few_servers : (r : Roster) → good_roster r ≡ true → r.n ≤ servers
few_servers r e = leb-true r.n servers (and4 (leb 1 r.n) (leb r.n servers) _ (leb (ones r.faulty) (faults r)) e).1
