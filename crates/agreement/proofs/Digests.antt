-- An execution's digest is that of one stored request only. Assumes nothing.
use mathlib.Core.Path.{◌≡◌, sym, ◌∙◌}
use mathlib.Core.Bool.{true, not}
use mathlib.Core.List.{List}
use Prim.Native.Nat.{ℕ, ◌<◌, ◌≤◌}
use native.Mathlib.Omega.{arith}
use lib.Dec.{eqb}
use lib.ListN.{get_or}
use borrow.Author.Tests.{eq-eqb, eqb-true}
use Rattle.std.proofs.lemmas.Bool.{cases_lt, not-true}
use Rattle.fips180.specs.Digest.{digest_bytes}
use Rattle.world.specs.declared.roster.Roster.{Roster}
use Rattle.world.specs.declared.request.Requests.{Requests}
use Rattle.world.specs.declared.execution.Execution.{Execution}
use Rattle.world.specs.Requests.{request_at, same_digest}
use Rattle.protocol.specs.Sound.{new_digest}
use Rattle.search.proofs.Booleans.{apart, either}
use Rattle.search.proofs.Every.{every_at, every_all}
use Rattle.kept.proofs.Facts.{Stored}
use Rattle.agreement.proofs.Invariant.{Matches}

-- the bytes of equal digests
digest_out : (a b : List ℕ) → same_digest a b ≡ true → (k : ℕ) → k < digest_bytes → get_or a k 0 ≡ get_or b k 0
unfolding same_digest
digest_out a b e k h = eqb-true (get_or a k 0) (get_or b k 0) (every_at (λ (k : ℕ). eqb (get_or a k 0) (get_or b k 0)) digest_bytes e k h)

digest_in : (a b : List ℕ) → ((k : ℕ) → k < digest_bytes → get_or a k 0 ≡ get_or b k 0) → same_digest a b ≡ true
unfolding same_digest
digest_in a b f = every_all (λ (k : ℕ). eqb (get_or a k 0) (get_or b k 0)) digest_bytes (λ k h. eq-eqb (get_or a k 0) (get_or b k 0) (f k h))

-- two digests that are equal to a third
pub digest_both : (a b c : List ℕ) → same_digest a c ≡ true → same_digest b c ≡ true → same_digest a b ≡ true
digest_both a b c p q = digest_in a b (λ k h. digest_out a c p k h ∙ sym (digest_out b c q k h))

module _ {r : Roster} {q : Requests} (f : Stored r q) {x : Execution} where
  -- a later slot has another digest
  later : (a b : ℕ) → a < b → Matches q a x → Matches q b x → ⊥
  unfolding new_digest
  later a b h p m =
      apart (same_digest (request_at q a).digest (request_at q b).digest)
      (digest_both (request_at q a).digest (request_at q b).digest x.digest p.same m.same)
      (not-true _ (every_at (λ (j : ℕ). not (same_digest (request_at q j).digest (request_at q b).digest)) b (f.new b m.stored) a h))

  pub matches_one : (a b : ℕ) → Matches q a x → Matches q b x → a ≡ b
  matches_one a b p m =
      either (cases_lt a b)
      (λ (h : a < b). absurd (later a b h p m))
      (λ (h : b ≤ a).
      either (cases_lt b a)
      (λ (l : b < a). absurd (later b a l m p))
      (λ (l : a ≤ b). omega arith))
