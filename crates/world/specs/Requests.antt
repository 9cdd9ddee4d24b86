-- The stored requests, slots given in order from 0, and the bytes that a request's digest is of.
use Rattle.std.specs.Prelude.{ℕ, ◌+◌, Bool, not, ◌&&◌, List, [], ◌∷◌, ◌++◌, replicate, ◌==◌, nat_lt, slice_index, slice_index_or, slice_set}
use Rattle.search.specs.Search.{any}
use Rattle.fips180.specs.Sha256.{be}
use Rattle.fips180.specs.Digest.{digest_bytes}
use Rattle.world.specs.declared.request.Request.{Request}
use Rattle.world.specs.declared.request.Requests.{Requests}
use Rattle.world.specs.Sizes.{requests_most, command_bytes}

-- a slot that is not given: all zeros
abbrev pub unused_request : Request
unused_request = record {
  serial = 0;
  client = 0;
  seals = 0;
  command = replicate command_bytes 0;
  digest = replicate digest_bytes 0;
}

unfoldable pub fresh_requests : Requests
fresh_requests = record { slots = replicate requests_most unused_request; count = 0 }

-- what a read past the last slot gives
abbrev pub no_request : Request
no_request = record { serial = 0; client = 0; seals = 0; command = []; digest = [] }

abbrev pub request_at : Requests → ℕ → Request
request_at q slot = slice_index_or q.slots slot no_request

-- a request more, at the next slot
abbrev pub request_added : Requests → Request → Requests
request_added q new = record { slots = slice_set q.slots q.count new; count = q.count + 1 }

-- a request with another digest
abbrev pub with_digest : Request → List ℕ → Request
with_digest q d = record { serial = q.serial; client = q.client; seals = q.seals; command = q.command; digest = d }

-- the bytes of a request's body, as its record has them
unfoldable pub request_bytes : Request → List ℕ
request_bytes r = r.client ∷ (be 4 r.serial ++ r.seals ∷ r.command)

-- two digests are equal where none of their bytes differs
unfoldable pub same_digest : List ℕ → List ℕ → Bool
same_digest a b = not (any (λ (k : ℕ). not (slice_index a k == slice_index b k)) digest_bytes)

-- whether a stored request has the digest
unfoldable pub known_digest : Requests → List ℕ → Bool
known_digest q d = any (λ (k : ℕ). nat_lt k q.count && same_digest (request_at q k).digest d) requests_most
