-- Document 01, "The digest": the public digest is that of one block, so of 55 bytes at most; more is refused as 28,
-- with zeros.
use Rattle.std.specs.Prelude.{ℕ, cond, List, ltb, length, replicate, Result, Ok, Err}
use Rattle.fips180.specs.declared.DigestLong.{DigestLong}
use Rattle.fips180.specs.Sha256.{digest_of}

-- the bytes of a digest, and the most bytes of a message
abbrev pub digest_bytes : ℕ
digest_bytes = 32

abbrev pub message_most : ℕ
message_most = 55

-- what `sha256` answers
unfoldable pub digest_answer : List ℕ → Result (List ℕ) DigestLong
digest_answer s = cond (ltb message_most (length s)) (Err (record {})) (Ok (digest_of s))

-- the document's number of the refusal
abbrev pub long_number : DigestLong → ℕ
long_number why = 28

-- the document's number and bytes of an answer: 0 with the digest, or the refusal's with zeros
abbrev pub digest_number : Result (List ℕ) DigestLong → ℕ
digest_number (Ok d) = 0
digest_number (Err why) = long_number why

abbrev pub digest_written : Result (List ℕ) DigestLong → List ℕ
digest_written (Ok d) = d
digest_written (Err why) = replicate digest_bytes 0
