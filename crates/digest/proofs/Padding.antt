-- The padded message byte by byte, and its length in whole blocks. Assumes nothing.
use Rattle.std.proofs.Common.{◌≡◌, ℕ, suc, ◌+◌, ◌-◌, ◌*◌, ◌<◌, ◌≤◌, List, ◌∷◌, ◌++◌, length, get_or, replicate, sym, ap, ◌∙◌, arith, length-append}
use lib.ListN.{length-replicate, get_or-replicate, get_or-append}
use lib.Seq.{get_or-append-add, get_or-append_seam}
use Rattle.fips180.specs.Sha256.{block_bytes, be, padded, zeros, blocks}

module _ (s : List ℕ) where
  tail : List ℕ
  tail = replicate (zeros (length s)) 0 ++ be 8 (length s * 8)

  pub length_padded : length (padded s) ≡ length s + 9 + zeros (length s)
  unfolding padded
  length_padded = simp (length-append, length-replicate) (omega arith)

  pub whole_blocks : length (padded s) ≡ blocks (padded s) * block_bytes
  whole_blocks = omega (arith, length_padded)

  pub in_message : (p : ℕ) → p < length s → get_or s p 0 ≡ get_or (padded s) p 0
  unfolding padded tail
  in_message p h = sym (get_or-append s (0x80 ∷ tail) 0 p h)

  pub at_mark : (p : ℕ) → p ≡ length s → 0x80 ≡ get_or (padded s) p 0
  unfolding padded tail
  at_mark p e = rw e (sym (get_or-append_seam s 0x80 tail 0))

  past : (q : ℕ) → get_or (padded s) (length s + suc q) 0 ≡ get_or tail q 0
  unfolding padded tail
  past q = get_or-append-add s (0x80 ∷ tail) (suc q) 0

  -- e is where the last eight bytes begin, the length in bits
  pub in_zeros : (p e : ℕ) → e ≡ length (padded s) - 8 → length s < p → p < e → 0 ≡ get_or (padded s) p 0
  unfolding tail
  in_zeros p e i h k =
      let q : ℕ = p - length s - 1 in
      let j : p ≡ length s + suc q = omega arith in
      let l : q < zeros (length s) = omega (arith, length_padded) in
      sym (ap (λ (n : ℕ). get_or (padded s) n 0) j ∙ past q ∙ get_or-append (replicate (zeros (length s)) 0) (be 8 (length s * 8)) 0 q (rw length-replicate l)
      ∙ get_or-replicate (zeros (length s)) q 0 0 l)

  pub in_length : (p e : ℕ) → e ≡ length (padded s) - 8 → e ≤ p → get_or (be 8 (length s * 8)) (p - e) 0 ≡ get_or (padded s) p 0
  unfolding tail
  in_length p e i h =
      let z : ℕ = zeros (length s) in
      let j : ℕ = p - e in
      let k : p ≡ length s + suc (z + j) = omega (arith, length_padded) in
      sym (ap (λ (n : ℕ). get_or (padded s) n 0) k ∙ past (z + j)
      ∙ rw length-replicate at (get_or-append-add (replicate z 0) (be 8 (length s * 8)) j 0))

-- what the blocks' code needs of these
pub ruleset padding = (length_padded, whole_blocks, in_message, at_mark, in_zeros)
