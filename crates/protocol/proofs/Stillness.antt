-- What keeps a world from being quiet: an entry with which a correct server could go on. Assumes nothing.
use mathlib.Core.Path.{◌≡◌}
use mathlib.Core.Bool.{Bool, true, false, not, ◌||◌}
use Prim.Native.Nat.{ℕ, ◌<◌}
use Rattle.std.proofs.lemmas.Bool.{and_parts, not-true}
use Rattle.search.proofs.Booleans.{apart, test, implies_out}
use Rattle.search.proofs.Every.{every_at}
use Rattle.world.specs.declared.World.{World}
use Rattle.world.specs.Sizes.{servers, hold_places}
use Rattle.world.specs.Roster.{correct}
use Rattle.world.specs.Hold.{entry_at}
use Rattle.world.specs.Delivered.{next_of}
use Rattle.world.specs.Boxes.{outgoing_of, hold_of, delivered_of}
use Rattle.protocol.specs.Names.{table_of}
use Rattle.protocol.specs.Quiet.{outgoing_quiet, stirs, hold_quiet, server_quiet, quiet, StirringStays}

-- an entry with which a server of a world could go on
abbrev stirs_at : World → ℕ → ℕ → Bool
stirs_at w s k =
    let e = entry_at (hold_of w s) k in
    stirs (table_of w.executions e.sending.sender) (next_of (delivered_of w s)) e

-- a correct server of a quiet world has none
still : (w : World) (s k : ℕ) → s < servers → correct w.roster s ≡ true → k < hold_places → quiet w ≡ true
    → stirs_at w s k ≡ false
unfolding quiet server_quiet hold_quiet
still w s k h c l q =
    let own = correct w.roster s in
    let held = hold_quiet w.executions (next_of (delivered_of w s)) (hold_of w s) in
    let here = every_at (λ (i : ℕ). server_quiet w i) servers q s h in
    let parts = and_parts (outgoing_quiet w.roster (outgoing_of w s)) (not own || held) here in
    not-true _ (every_at (λ (i : ℕ). not (stirs_at w s i)) hold_places (implies_out own held parts.1 c) k l)

pub stirring_stays : StirringStays
stirring_stays w s k e h c l p y =
    test (quiet w)
    (λ (q : quiet w ≡ true). apart (stirs_at w s k) (rw p y) (still w s k h c l q))
    (λ (q : quiet w ≡ false). q)
