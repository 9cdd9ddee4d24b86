-- SHA-256 as FIPS 180-4 has it, on natural numbers and lists of bytes, section by section.
use Rattle.std.specs.Prelude.{ℕ, zero, suc, ◌+◌, ◌-◌, ◌*◌, ◌/◌, ◌%◌, ◌^◌, List, [], ◌∷◌, ◌++◌, length, get_or, take, drop, replicate}
use Rattle.std.specs.Int.Bits.{bit_and, bit_or, bit_xor}
use Rattle.fips180.specs.declared.State.{State}

-- §1, figure 1: the bytes of a block (512 bits)
abbrev pub block_bytes : ℕ
block_bytes = 64

-- §3.1: a word's k bytes, the highest first, and the word whose four bytes begin at i
abbrev pub be : ℕ → ℕ → List ℕ
be zero x = []
be (suc k) x = x / 2 ^ (8 * k) % 256 ∷ be k x

abbrev pub word_at : List ℕ → ℕ → ℕ
word_at bs i = get_or bs i 0 * 2 ^ 24 + get_or bs (i + 1) 0 * 2 ^ 16 + get_or bs (i + 2) 0 * 2 ^ 8 + get_or bs (i + 3) 0

-- §3.2: operations on words of 32 bits: the sum, the complement, the right shift and the rotation to the right
abbrev pub add32 : ℕ → ℕ → ℕ
add32 x y = (x + y) % 2 ^ 32

abbrev pub not32 : ℕ → ℕ
not32 x = (2 ^ 32 - 1) - x

abbrev pub shr : ℕ → ℕ → ℕ
shr n x = x / 2 ^ n

abbrev pub rotr : ℕ → ℕ → ℕ
rotr n x = bit_or (x / 2 ^ n) (x * 2 ^ (32 - n) % 2 ^ 32)

-- §4.1.2: the six functions, (4.2) to (4.7)
abbrev pub ch : ℕ → ℕ → ℕ → ℕ
ch x y z = bit_xor (bit_and x y) (bit_and (not32 x) z)

abbrev pub maj : ℕ → ℕ → ℕ → ℕ
maj x y z = bit_xor (bit_xor (bit_and x y) (bit_and x z)) (bit_and y z)

abbrev pub Σ₀ : ℕ → ℕ
Σ₀ x = bit_xor (bit_xor (rotr 2 x) (rotr 13 x)) (rotr 22 x)

abbrev pub Σ₁ : ℕ → ℕ
Σ₁ x = bit_xor (bit_xor (rotr 6 x) (rotr 11 x)) (rotr 25 x)

abbrev pub σ₀ : ℕ → ℕ
σ₀ x = bit_xor (bit_xor (rotr 7 x) (rotr 18 x)) (shr 3 x)

abbrev pub σ₁ : ℕ → ℕ
σ₁ x = bit_xor (bit_xor (rotr 17 x) (rotr 19 x)) (shr 10 x)

-- §4.2.2: the 64 constants
abbrev pub K : List ℕ
K =
    0x428a2f98 ∷ 0x71374491 ∷ 0xb5c0fbcf ∷ 0xe9b5dba5 ∷ 0x3956c25b ∷ 0x59f111f1 ∷ 0x923f82a4 ∷ 0xab1c5ed5 ∷ 0xd807aa98
    ∷ 0x12835b01 ∷ 0x243185be ∷ 0x550c7dc3 ∷ 0x72be5d74 ∷ 0x80deb1fe ∷ 0x9bdc06a7 ∷ 0xc19bf174 ∷ 0xe49b69c1
    ∷ 0xefbe4786 ∷ 0x0fc19dc6 ∷ 0x240ca1cc ∷ 0x2de92c6f ∷ 0x4a7484aa ∷ 0x5cb0a9dc ∷ 0x76f988da ∷ 0x983e5152
    ∷ 0xa831c66d ∷ 0xb00327c8 ∷ 0xbf597fc7 ∷ 0xc6e00bf3 ∷ 0xd5a79147 ∷ 0x06ca6351 ∷ 0x14292967 ∷ 0x27b70a85
    ∷ 0x2e1b2138 ∷ 0x4d2c6dfc ∷ 0x53380d13 ∷ 0x650a7354 ∷ 0x766a0abb ∷ 0x81c2c92e ∷ 0x92722c85 ∷ 0xa2bfe8a1
    ∷ 0xa81a664b ∷ 0xc24b8b70 ∷ 0xc76c51a3 ∷ 0xd192e819 ∷ 0xd6990624 ∷ 0xf40e3585 ∷ 0x106aa070 ∷ 0x19a4c116
    ∷ 0x1e376c08 ∷ 0x2748774c ∷ 0x34b0bcb5 ∷ 0x391c0cb3 ∷ 0x4ed8aa4a ∷ 0x5b9cca4f ∷ 0x682e6ff3 ∷ 0x748f82ee
    ∷ 0x78a5636f ∷ 0x84c87814 ∷ 0x8cc70208 ∷ 0x90befffa ∷ 0xa4506ceb ∷ 0xbef9a3f7 ∷ 0xc67178f2 ∷ []

-- §5.1.1: the fewest zeros that leave eight bytes to the end of a block after a message of n bytes and its mark
abbrev pub zeros : ℕ → ℕ
zeros n = (119 - n % block_bytes) % block_bytes

-- the message, a bit 1, those zeros, and the length in bits at 64 bits
unfoldable pub padded : List ℕ → List ℕ
padded s = s ++ 0x80 ∷ (replicate (zeros (length s)) 0 ++ be 8 (length s * 8))

-- §5.2.1: how many blocks there are, and the block k
abbrev pub blocks : List ℕ → ℕ
blocks p = length p / block_bytes

abbrev pub block_of : List ℕ → ℕ → List ℕ
block_of p k = take block_bytes (drop (k * block_bytes) p)

-- §5.3.3: the initial hash value
abbrev pub H : List ℕ
H = 0x6a09e667 ∷ 0xbb67ae85 ∷ 0x3c6ef372 ∷ 0xa54ff53a ∷ 0x510e527f ∷ 0x9b05688c ∷ 0x1f83d9ab ∷ 0x5be0cd19 ∷ []

abbrev pub initial : State
initial = record {
  a = get_or H 0 0;
  b = get_or H 1 0;
  c = get_or H 2 0;
  d = get_or H 3 0;
  e = get_or H 4 0;
  f = get_or H 5 0;
  g = get_or H 6 0;
  h = get_or H 7 0;
}

-- §6.2.2, step 1: the message schedule, the block's first n words, and then n more after 16
unfoldable pub block_words : List ℕ → ℕ → List ℕ
block_words bs zero = []
block_words bs (suc n) = block_words bs n ++ word_at bs (n * 4) ∷ []

unfoldable pub next_word : List ℕ → ℕ → ℕ
next_word ws t =
    add32 (add32 (add32 (σ₁ (get_or ws (t + 14) 0)) (get_or ws (t + 9) 0)) (σ₀ (get_or ws (t + 1) 0))) (get_or ws t 0)

unfoldable pub scheduled : List ℕ → ℕ → List ℕ
scheduled m zero = m
scheduled m (suc n) = let ws = scheduled m n in ws ++ next_word ws n ∷ []

-- §6.2.2, step 3: a round with its constant and its word, and the first n rounds
unfoldable pub round_of : ℕ → ℕ → State → State
round_of k w v =
    let t₁ = add32 (add32 (add32 (add32 v.h (Σ₁ v.e)) (ch v.e v.f v.g)) k) w in
    let t₂ = add32 (Σ₀ v.a) (maj v.a v.b v.c) in
    record { a = add32 t₁ t₂; b = v.a; c = v.b; d = v.c; e = add32 v.d t₁; f = v.e; g = v.f; h = v.g }

unfoldable pub rounds_of : List ℕ → State → ℕ → State
rounds_of ws v zero = v
rounds_of ws v (suc n) = round_of (get_or K n 0) (get_or ws n 0) (rounds_of ws v n)

-- §6.2.2, step 4: the hash value v with what the rounds gave, w
unfoldable pub fed : State → State → State
fed v w =
    record {
      a = add32 w.a v.a;
      b = add32 w.b v.b;
      c = add32 w.c v.c;
      d = add32 w.d v.d;
      e = add32 w.e v.e;
      f = add32 w.f v.f;
      g = add32 w.g v.g;
      h = add32 w.h v.h;
    }

-- §6.2.2: one block of 64 bytes, and the first n blocks of a padded message
unfoldable pub compressed : State → List ℕ → State
compressed v bs = fed v (rounds_of (scheduled (block_words bs 16) 48) v 64)

unfoldable pub hashed : List ℕ → ℕ → State
hashed p zero = initial
hashed p (suc n) = compressed (hashed p n) (block_of p n)

-- §6.2.2: the hash value's words as bytes
unfoldable pub state_bytes : State → List ℕ
state_bytes v =
    be 4 v.a
    ++ (be 4 v.b ++ (be 4 v.c ++ (be 4 v.d ++ (be 4 v.e ++ (be 4 v.f ++ (be 4 v.g ++ be 4 v.h))))))

-- the message digest
unfoldable pub digest_of : List ℕ → List ℕ
digest_of s = let p = padded s in state_bytes (hashed p (blocks p))
