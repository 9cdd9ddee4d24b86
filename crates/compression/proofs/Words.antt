-- Laws of the loops that fill the message schedule, and of a word's bytes. Assumes nothing.
use Rattle.std.proofs.Common.{◌≡◌, ℕ, zero, suc, ◌+◌, ◌*◌, ◌<◌, ◌≤◌, List, [], ◌∷◌, ◌++◌, length, get_or, take, set, sym, ap, refl, ◌∙◌, w32, add-one, arith, get_or-take}
use Rattle.std.specs.Int.{to_be_bytes}
use borrow.Rule.Slice.PartMut.{put_mid}
use Rattle.std.proofs.lemmas.Slice.{take-put_mid}
use Rattle.fips180.specs.Sha256.{be, scheduled, next_word, block_words, word_at}
use Rattle.fips180.proofs.BigEndian.{be_four}
use Rattle.search.proofs.Filling.{stored}

-- one more word of the block
pub more_words : (ws bs : List ℕ) (t v : ℕ) → t < length ws → take t ws ≡ block_words bs t → v ≡ word_at bs (t * 4)
    → take (t + 1) (set ws t v) ≡ block_words bs (t + 1)
unfolding block_words
more_words ws bs t v h e q = stored ws (block_words bs t) t v h e ∙ rw (add-one t, q)

-- the next word of the schedule reads only what stands before it
next_take : (ws : List ℕ) (t : ℕ) → next_word (take (t + 16) ws) t ≡ next_word ws t
unfolding next_word
next_take ws t =
    rw (get_or-take (t + 16) ws (t + 14) 0 (omega arith), get_or-take (t + 16) ws (t + 9) 0 (omega arith), get_or-take (t + 16) ws (t + 1) 0 (omega arith), get_or-take (t + 16) ws t 0 (omega arith))

-- one more word of the schedule
pub more_schedule : (ws m : List ℕ) (t v : ℕ) → t + 16 < length ws → take (t + 16) ws ≡ scheduled m t → v ≡ next_word ws t
    → take (t + 1 + 16) (set ws (t + 16) v) ≡ scheduled m (t + 1)
unfolding scheduled
more_schedule ws m t v h e q =
    let n : t + 1 + 16 ≡ t + 16 + 1 = omega arith in
    rw n
    (stored ws (scheduled m t) (t + 16) v h e
    ∙ rw (add-one t) (ap (λ (x : ℕ). scheduled m t ++ x ∷ []) (q ∙ sym (next_take ws t) ∙ ap (λ (r : List ℕ). next_word r t) e)))

-- the bytes of the first n words, four for each
unfoldable pub words_bytes : List ℕ → ℕ → List ℕ
words_bytes ws zero = []
words_bytes ws (suc n) = words_bytes ws n ++ be 4 (get_or ws n 0)

-- four more bytes
pub more_bytes : (ws out src : List ℕ) (i k : ℕ) → i * 4 ≤ length out → take (i * 4) out ≡ words_bytes ws i → src ≡ to_be_bytes w32 (get_or ws i 0)
    → take ((i + 1) * 4) (put_mid (i * 4) k out src) ≡ words_bytes ws (i + 1)
unfolding words_bytes
more_bytes ws out src i k h e q =
    let l : length src ≡ 4 = rw q refl in
    rw (take-put_mid (i * 4) k out src ((i + 1) * 4) (omega arith) h, add-one i, e, q, be_four (get_or ws i 0)) refl
