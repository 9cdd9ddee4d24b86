-- Schedules and listings as document 01 writes them: bytes in hex, and lines of text.
use Rattle.std.specs.Prelude.{ℕ, zero, suc, ◌+◌, ◌-◌, ◌*◌, cond, List, [], ◌∷◌, ◌++◌, eqb, ltb}
use Prim.Native.Char.{code}
use Prim.Native.String.{String}
use Prim.Native.String as text
use Rattle.protocol.specs.Listing.{newline, blank}

-- the codes of a text's characters: its bytes, since all are of ASCII
unfoldable pub codes : String → List ℕ
codes text.[] = []
codes (text.◌∷◌ c s) = code c ∷ codes s

-- lines of text, each with its end
unfoldable pub lines : List String → List ℕ
lines [] = []
lines (l ∷ rest) = codes l ++ newline ∷ lines rest

-- what a hex digit stands for: '0' to '9' are 48 to 57, 'A' to 'F' are 65 to 70
abbrev pub nibble : ℕ → ℕ
nibble c = cond (ltb c 65) (c - 48) (c - 55)

-- blanks left out
unfoldable pub unspaced : List ℕ → List ℕ
unspaced [] = []
unspaced (c ∷ l) = let rest = unspaced l in cond (eqb c blank) rest (c ∷ rest)

-- two digits a byte; no row has an odd number of them
unfoldable pub paired : List ℕ → List ℕ
paired [] = []
paired (high ∷ []) = []
paired (high ∷ low ∷ l) = (nibble high * 16 + nibble low) ∷ paired l

-- the bytes of texts in hex, one after the other
unfoldable pub bytes : List String → List ℕ
bytes [] = []
bytes (t ∷ rest) = paired (unspaced (codes t)) ++ bytes rest

-- a text so many times
unfoldable pub repeated : ℕ → String → String
repeated zero s = ""
repeated (suc n) s = text.◌++◌ s (repeated n s)
