-- A record's body as a slice of its own. Assumes nothing.
use Rattle.std.proofs.Common.{◌≡◌, ℕ, zero, suc, ◌+◌, List, drop, refl, add_assoc, add-zero}
use Rattle.std.proofs.lemmas.List.{get_or-drop}
use Rattle.format.specs.declared.kinds.Act.TheVariants.{Multicast, Arrive, Propose, Settle, Deliver, ForgePacket, ForgeSend, ForgeReceive}
use Rattle.format.specs.declared.kinds.Kind.{Kind}
use Rattle.format.specs.declared.kinds.Kind.TheVariants.{Request, Act}
use Rattle.format.specs.Fields.{byte_at, two_at, four_at, bytes_at}
use Rattle.format.specs.Records.{asked_from}

module _ (s : List ℕ) (b : ℕ) where
  byte_in : (k : ℕ) → byte_at (drop b s) k ≡ byte_at s (b + k)
  byte_in k = get_or-drop b s k 0

  first_in : byte_at (drop b s) 0 ≡ byte_at s b
  first_in = rw (byte_in 0, add-zero)

  two_in : (k : ℕ) → two_at (drop b s) k ≡ two_at s (b + k)
  two_in k = rw (byte_in k, byte_in (k + 1), ← add_assoc b k 1)

  four_in : (k : ℕ) → four_at (drop b s) k ≡ four_at s (b + k)
  four_in k = rw (two_in k, two_in (k + 2), ← add_assoc b k 2)

  bytes_in : (k n : ℕ) → bytes_at (drop b s) k n ≡ bytes_at s (b + k) n
  unfolding bytes_at
  bytes_in k zero = refl
  bytes_in k (suc n) = rw (bytes_in k n, byte_in (k + n), ← add_assoc b k n)

  -- it asks for what it asks for in its place
  pub body_of : (j : Kind) → asked_from j (drop b s) 0 ≡ asked_from j s b
  body_of Request = rw (first_in, four_in 1, byte_in 5, bytes_in 6 24)
  body_of (Act Multicast) = rw (first_in, byte_in 1)
  body_of (Act Arrive) = rw (first_in, byte_in 1)
  body_of (Act Propose) = rw (first_in, byte_in 1)
  body_of (Act Settle) = rw (first_in, byte_in 1)
  body_of (Act Deliver) = rw first_in
  body_of (Act ForgePacket) = rw (first_in, byte_in 1, byte_in 2, two_in 3, byte_in 5)
  body_of (Act ForgeSend) = rw (first_in, two_in 1, bytes_in 3 32)
  body_of (Act ForgeReceive) = rw (first_in, byte_in 1, two_in 2, bytes_in 4 32)
