-- A public step of a whole record, whose body is a slice of its own. Assumes nothing.
use Rattle.std.proofs.Common.{◌≡◌, ℕ, ◌-◌, true, List, length, take, drop}
use Rattle.std.proofs.lemmas.List.{take_rest}
use Rattle.search.specs.Tests.{must}
use Rattle.world.specs.declared.World.{World}
use Rattle.format.specs.declared.kinds.Kind.{Kind}
use Rattle.format.specs.declared.reading.Read.TheVariants.{Record}
use Rattle.format.specs.Records.{read_at, asked_from}
use Rattle.format.proofs.Bodies.{body_of}
use Rattle.protocol.specs.Sound.{sound}
use Rattle.protocol.specs.Steps.{step_of}
use Rattle.protocol.specs.Runs.{public_step, public_step_by}

-- what a body asks for as a slice
pub sliced : (s : List ℕ) (b : ℕ) (j : Kind) → asked_from j (take (length s - b) (drop b s)) 0 ≡ asked_from j s b
sliced s b j = rw (take_rest s b) (body_of s b j)

pub one_record : (w : World) (s : List ℕ) (j : Kind) (b next : ℕ) → sound w ≡ true → read_at s 0 ≡ Record j b next
    → public_step w s ≡ step_of w (asked_from j (take (length s - b) (drop b s)) 0)
unfolding public_step must public_step_by
one_record w s j b next e r = rw (e, r, sliced s b j)
