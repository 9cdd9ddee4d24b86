use Rattle.std.proofs.Common.{ℕ, ◌-◌, get_or}
use Rattle.search.proofs.Laws.{Passed}
use Rattle.world.proofs.place.lowest_free.Given as goal

abbrev pub invariant-loop-place : goal.invariant-loop-place
invariant-loop-place g l = Passed (λ (i : ℕ). g.P.Place.vacant (get_or l.places i g.P.Place.nothing)) g.row.N l.place

abbrev pub decreases-loop-place : goal.decreases-loop-place
decreases-loop-place g l = g.row.N - l.place
