-- A request step keeps the invariant: what it stores has no stored digest. Assumes nothing.
use mathlib.Core.Path.{◌≡◌, refl}
use mathlib.Core.Logic.{inl}
use mathlib.Core.Bool.{false, not}
use mathlib.Core.List.{List}
use Prim.Native.Nat.{ℕ, ◌+◌, ◌<◌, ◌≤◌}
use native.Mathlib.Omega.{arith}
use lib.Dec.{ltb}
use lib.ListN.{set}
use lib.Seq.{get_or-set_same, get_or-set_other}
use borrow.Author.Tests.{ltb-true, lt-ltb}
use Rattle.std.proofs.lemmas.Bool.{cases_lt, not-true}
use Rattle.world.specs.declared.World.{World}
use Rattle.world.specs.declared.request.Request.{Request}
use Rattle.world.specs.declared.request.Requests.{Requests}
use Rattle.world.specs.declared.execution.Execution.{Execution}
use Rattle.world.specs.Sizes.{requests_most}
use Rattle.world.specs.Roster.{strays}
use Rattle.world.specs.Requests.{no_request, request_at, same_digest, known_digest}
use Rattle.protocol.specs.declared.boxes.Requested.{Requested}
use Rattle.protocol.specs.Rules.{request_from, request_of}
use Rattle.world.specs.Boxes.{with_requests}
use Rattle.search.proofs.Booleans.{apart, either, musts}
use Rattle.search.proofs.Every.{any_none}
use Rattle.kept.proofs.Facts.{FactsOf}
use Rattle.agreement.proofs.Invariant.{Matches, InvOf}
use Rattle.agreement.proofs.Digests.{digest_both}
use Rattle.agreement.proofs.Keeping.{requests_keep, belongs_more}
use Rattle.agreement.proofs.Moves.{Moves}
use Rattle.agreement.proofs.Moving.{one, keys}

module _ (w : World) (f : FactsOf w) (v : InvOf w) where
  abbrev q : Requests
  q = w.requests

  module _ (x : Request) (new : known_digest q x.digest ≡ false) (room : q.count < requests_most) where
    abbrev more : Requests
    more = record { slots = set q.slots q.count x; count = q.count + 1 }

    unknown : (j : ℕ) → j < q.count → same_digest (request_at q j).digest x.digest ≡ false
    unfolding known_digest
    unknown j l = rw (lt-ltb j q.count l) at (any_none _ requests_most j new (omega (arith, f.requests.most)))

    stays : (a : ℕ) → a < q.count → (a < more.count) × (request_at more a ≡ request_at q a)
    stays a l = (omega arith, get_or-set_other q.slots q.count a x no_request (λ z. omega arith))

    here : request_at more q.count ≡ x
    here = get_or-set_same q.slots q.count x no_request (omega (arith, f.requests.size))

    -- an execution's stored digest is not the new one's
    older : (a b : ℕ) (y : Execution) → Matches q a y → Matches more b y → b < q.count
    older a b y g h =
        either (cases_lt b q.count)
        (λ l. l)
        (λ (l : q.count ≤ b).
        let s = h.stored in
        let e : b ≡ q.count = omega arith in
        let c = rw (e, here) at h.same in
        apart (same_digest (request_at q a).digest x.digest) (digest_both (request_at q a).digest x.digest y.digest g.same c) (unknown a g.stored))

    stores : Moves w (with_requests w more)
    stores =
        record {
          inv = requests_keep v (one w f) w.numbered (keys w f) more stays older;
          roster = refl;
          more = omega arith;
          belongs = belongs_more v (one w f) w.numbered (keys w f) more stays older;
          still = inl refl;
        }

  same : Moves w (with_requests w q)
  same = record { inv = v; roster = refl; more = omega arith; belongs = λ s i sl n b. b; still = inl refl }

  pub request_moves : (client serial seals : ℕ) (command : List ℕ) → Moves w (with_requests w (request_of w.roster client serial seals command w.requests).requests)
  unfolding request_of
  request_moves client serial seals command =
      let P : Requested → Type 0 = λ s. Moves w (with_requests w s.requests) in
      let x = request_from client serial seals command in
      musts P (not (strays w.roster seals)) _ _ same λ _.
      musts P (not (known_digest q x.digest)) _ _ same λ new.
      musts P (ltb q.count requests_most) _ _ same λ room.
      stores x (not-true (known_digest q x.digest) new) (ltb-true q.count requests_most room)
