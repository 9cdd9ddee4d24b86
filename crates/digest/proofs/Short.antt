-- What the answer is where the message is short enough. Assumes nothing.
use Rattle.std.proofs.Common.{◌≡◌, ℕ, ◌≤◌, List, length, Result, Ok}
use Rattle.std.specs.Prelude.{IsOk}
use borrow.Author.Tests.{le-ltb}
use Rattle.fips180.specs.declared.DigestLong.{DigestLong}
use Rattle.fips180.specs.Sha256.{digest_of}
use Rattle.fips180.specs.Digest.{message_most, digest_answer}

pub short_digest : (s : List ℕ) → length s ≤ message_most → digest_answer s ≡ Ok (digest_of s)
unfolding digest_answer
short_digest s h = rw (le-ltb _ _ h)

-- an answer that is this one has a digest
pub short_ok : (s : List ℕ) (r : Result (List ℕ) DigestLong) → r ≡ digest_answer s → length s ≤ message_most → IsOk r
short_ok s r e h = rw (e, short_digest s h)

-- which is the message's
pub short_value : (s d : List ℕ) (r : Result (List ℕ) DigestLong) → r ≡ digest_answer s → r ≡ Ok d → length s ≤ message_most → d ≡ digest_of s
short_value s d r e q h = cc (short_digest s h)
