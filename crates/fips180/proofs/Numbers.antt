-- The document's number and bytes of an answer: 28 with zeros for more than 55 bytes, and otherwise 0 with the digest.
-- Assumes nothing.
use Rattle.std.proofs.Common.{◌≡◌, ℕ, Bool, true, false, cond, ltb, List, length, replicate, refl, Ok, Err}
use Rattle.fips180.specs.Sha256.{digest_of}
use Rattle.fips180.specs.Digest.{digest_bytes, message_most, digest_answer, digest_number, digest_written}

of_number : (b : Bool) (d : List ℕ) → digest_number (cond b (Err (record {})) (Ok d)) ≡ cond b 28 0
of_number true d = refl
of_number false d = refl

of_written : (b : Bool) (d : List ℕ) → digest_written (cond b (Err (record {})) (Ok d)) ≡ cond b (replicate digest_bytes 0) d
of_written true d = refl
of_written false d = refl

pub number_is : (s : List ℕ) → digest_number (digest_answer s) ≡ cond (ltb message_most (length s)) 28 0
unfolding digest_answer
number_is s = of_number (ltb message_most (length s)) (digest_of s)

pub written_is : (s : List ℕ) → digest_written (digest_answer s) ≡ cond (ltb message_most (length s)) (replicate digest_bytes 0) (digest_of s)
unfolding digest_answer
written_is s = of_written (ltb message_most (length s)) (digest_of s)
