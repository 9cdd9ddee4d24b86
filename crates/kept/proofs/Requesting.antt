-- A request step keeps a world sound. Assumes nothing.
use mathlib.Core.Path.{◌≡◌, refl, ◌∙◌}
use mathlib.Core.Logic.{◌≢◌}
use mathlib.Core.Bool.{true, false, not}
use mathlib.Core.List.{List}
use Prim.Native.Nat.{ℕ, ◌+◌, ◌<◌, ◌≤◌}
use native.Mathlib.Omega.{arith}
use lib.Dec.{eqb, ltb}
use lib.ListN.{get_or, set, length-set}
use borrow.Author.Tests.{eq-eqb, ltb-true, lt-ltb}
use Rattle.std.proofs.lemmas.Bool.{and_from, not-true, not_from_false}
use Rattle.fips180.specs.Digest.{digest_bytes}
use Rattle.world.specs.declared.World.{World}
use Rattle.world.specs.declared.roster.Roster.{Roster}
use Rattle.world.specs.declared.request.Request.{Request}
use Rattle.world.specs.declared.request.Requests.{Requests}
use Rattle.world.specs.Sizes.{requests_most}
use Rattle.world.specs.Roster.{strays}
use Rattle.world.specs.Requests.{no_request, request_at, request_bytes, same_digest, known_digest}
use Rattle.protocol.specs.declared.boxes.Requested.{Requested}
use Rattle.protocol.specs.Rules.{request_from, request_of}
use Rattle.protocol.specs.Sound.{stored_sound, slot_sound, new_digest}
use Rattle.world.specs.Boxes.{with_requests}
use Rattle.search.proofs.Booleans.{sides_more, musts}
use Rattle.search.proofs.Every.{any_none, every_at, every_all}
use Rattle.kept.proofs.Facts.{set_cases, Stored, FactsOf}
use Rattle.kept.proofs.More.{packets_more, entries_more, items_more}

pub same_digest_lem : (d : List ℕ) → same_digest d d ≡ true
unfolding same_digest
same_digest_lem d = every_all (λ (k : ℕ). eqb (get_or d k 0) (get_or d k 0)) digest_bytes (λ k _. eq-eqb (get_or d k 0) (get_or d k 0) refl)

-- requests that may stand in the place of q
record Stores (r : Roster) (q v : Requests) : Type 0 where
  stored : Stored r v
  more : q.count ≤ v.count

module _ (r : Roster) (q : Requests) (f : Stored r q) where
  module _ (x : Request) (good : stored_sound r x ≡ true) (new : known_digest q x.digest ≡ false) (room : q.count < requests_most) where
    slot_added : (k : ℕ) → k < requests_most → slot_sound r (q.count + 1) k (get_or (set q.slots q.count x) k no_request) ≡ true
    unfolding slot_sound
    slot_added k p =
        set_cases (λ y. slot_sound r (q.count + 1) k y ≡ true) q.slots q.count k x no_request (omega (arith, f.size))
        (λ (e : k ≡ q.count). rw (lt-ltb k (q.count + 1) (omega arith)) good)
        (λ (e : k ≢ q.count). rw (← sides_more k q.count e) (f.slots k p))

    unknown : (j : ℕ) → j < q.count → same_digest (request_at q j).digest x.digest ≡ false
    unfolding known_digest
    unknown j p = rw (lt-ltb j q.count p) at (any_none _ requests_most j new (omega (arith, f.most)))

    older : (j k : ℕ) → j < k → k < q.count → not (same_digest (request_at q j).digest (request_at q k).digest) ≡ true
    unfolding new_digest
    older j k a b = every_at (λ (i : ℕ). not (same_digest (request_at q i).digest (request_at q k).digest)) k (f.new k b) j a

    added : Requests
    added = record { slots = set q.slots q.count x; count = q.count + 1 }

    digest_added : (k : ℕ) → k < q.count + 1 → new_digest added k ≡ true
    unfolding new_digest added
    digest_added k p =
        every_all (λ (j : ℕ). not (same_digest (request_at added j).digest (request_at added k).digest)) k
        (λ j l.
        set_cases (λ y. not (same_digest y.digest (request_at added k).digest) ≡ true) q.slots q.count j x no_request (omega (arith, f.size))
        (λ (e : j ≡ q.count). absurd (omega arith))
        (λ _.
        set_cases (λ y. not (same_digest (request_at q j).digest y.digest) ≡ true) q.slots q.count k x no_request (omega (arith, f.size))
        (λ (e : k ≡ q.count). not_from_false _ (unknown j (omega arith)))
        (λ (e : k ≢ q.count). older j k l (omega arith))))

    stores_added : Stores r q added
    unfolding added
    stores_added =
        record {
          stored = record { size = length-set q.slots q.count x ∙ f.size; most = omega arith; slots = slot_added; new = digest_added };
          more = omega arith;
        }

  made_sound : (client serial seals : ℕ) (command : List ℕ) → strays r seals ≡ false → stored_sound r (request_from client serial seals command) ≡ true
  unfolding stored_sound request_from request_bytes
  made_sound client serial seals command e = and_from _ _ (not_from_false (strays r seals) e) (same_digest_lem _)

  stores_same : Stores r q q
  stores_same = record { stored = f; more = omega arith }

  seals_of : (client serial seals : ℕ) (command : List ℕ) → (request_from client serial seals command).seals ≡ seals
  unfolding request_from
  seals_of client serial seals command = refl

  request_stores : (client serial seals : ℕ) (command : List ℕ) → Stores r q (request_of r client serial seals command q).requests
  unfolding request_of added
  request_stores client serial seals command =
      let P : Requested → Type 0 = λ v. Stores r q v.requests in
      musts P (not (strays r seals)) _ _ stores_same λ a.
      musts P (not (known_digest q (request_from client serial seals command).digest)) _ _ stores_same λ b.
      musts P (ltb q.count requests_most) _ _ stores_same λ c.
      stores_added (request_from client serial seals command) (made_sound client serial seals command (not-true (strays r seals) a))
      (not-true _ b) (ltb-true q.count requests_most c)

pub request_facts : (w : World) → FactsOf w → (client serial seals : ℕ) (command : List ℕ)
    → FactsOf (with_requests w (request_of w.roster client serial seals command w.requests).requests)
request_facts w f client serial seals command =
    let s = request_stores w.roster w.requests f.requests client serial seals command in
    record {
      roster = f.roster;
      requests = s.stored;
      numbers = f.numbers;
      all_tables = f.all_tables;
      all_packets = f.all_packets;
      all_entries = f.all_entries;
      all_items = f.all_items;
      tables = f.tables;
      packets = λ i h. packets_more s.more (f.packets i h);
      entries = λ i h. entries_more s.more (omega arith) (λ _ _ p. p) (f.entries i h);
      items = λ i h. items_more s.more (omega arith) (f.items i h);
    }
