-- A text written into a lent buffer.
use Rattle.std.specs.Prelude.{ℕ, ◌+◌, ◌^◌, ◌≡◌, List, length}
use Rattle.std.proofs.lemmas.List.Edits.{sets}
use Rattle.writing.specs.declared.Text.{Text}

-- the text stands in the buffer from `at` on, as far as it fits: `sets` stores its bytes one by one, and a byte past
-- the buffer's end is not stored. All other bytes are as they were. `end` is the place after the text, wherever the
-- buffer ends.
pub record Wrote (buffer : List ℕ) (at : ℕ) (text : List ℕ) (after : List ℕ) (end : ℕ) : Type 0 where
  pub ends : end ≡ at + length text
  pub bytes : after ≡ sets buffer at text

-- a text was written at the place where `before` stood, and `after` holds the same lent buffer
pub record Writes (before : Text) (text : List ℕ) (after : Text) : Type 0 where
  pub same : after.bytes.ghost_name ≡ before.bytes.ghost_name
  pub wrote : Wrote before.bytes.now before.at text after.bytes.now after.at

-- places are far below what a number of the code can hold, with room for a number's digits
abbrev pub far : ℕ
far = 2 ^ 60
