-- Tests in order, and one test that asks for another.
use Rattle.std.specs.Prelude.{Bool, true, false, not, ◌||◌}

-- what must hold, the answer where it does not, and what follows where it does
module _ {A : Type 0} where
  unfoldable pub must : Bool → A → A → A
  must true refusal next = next
  must false refusal next = refusal

-- where the first holds, so does the second
abbrev pub implies : Bool → Bool → Bool
implies a b = not a || b
