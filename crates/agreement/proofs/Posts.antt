-- A server posts a sending to everyone outside a mask: the invariant stays, and a packet is under way to each of them. Assumes nothing.
use mathlib.Core.Path.{◌≡◌}
use mathlib.Core.Logic.{inl, ◌≢◌}
use mathlib.Core.Bool.{false, not}
use mathlib.Core.List.{List}
use Prim.Native.Nat.{ℕ, ◌<◌, ◌≤◌}
use lib.Dec.{eqb}
use lib.ListN.{length, get_or, set}
use borrow.Author.Tests.{ne_eqb}
use Rattle.std.proofs.lemmas.Bool.{and_from, and_parts, not_from_false}
use Rattle.world.specs.declared.World.{World}
use Rattle.world.specs.declared.outgoing.Outgoing.{Outgoing}
use Rattle.world.specs.declared.sending.Sending.{Sending}
use Rattle.world.specs.declared.hold.Hold.{Hold}
use Rattle.world.specs.Sizes.{outgoing_places}
use Rattle.world.specs.Masks.{has}
use Rattle.world.specs.Roster.{member, faulty}
use Rattle.world.specs.Outgoing.{free_places, needed, sent}
use Rattle.world.specs.Boxes.{no_packets}
use Rattle.kept.proofs.Facts.{FactsOf}
use Rattle.agreement.proofs.Invariant.{Correct, Under, Inv}
use Rattle.agreement.proofs.Keeping.{packets_keep}
use Rattle.agreement.proofs.Packets.{sent_ways, sent_goes, under_still, under_now}
use Rattle.agreement.proofs.Moving.{one, seated}

module _ (w : World) (f : FactsOf w) (p : ℕ) (ok : Correct w.roster p) (mask : ℕ) (d : Sending) where
  abbrev outbox : Outgoing
  outbox = get_or w.outgoing p no_packets

  abbrev pub posts : List Outgoing
  posts = set w.outgoing p (sent w.roster mask p d outbox)

  all : p < length w.outgoing
  all = rw f.all_packets (seated w f p ok)

  size : length outbox.places ≡ outgoing_places
  size = (f.packets p (seated w f p ok)).size

  pub posts_keep : {hs : List Hold} → Inv w.roster w.requests w.executions w.outgoing hs w.delivered
      → Inv w.roster w.requests w.executions posts hs w.delivered
  posts_keep v =
      packets_keep v (one w f) posts
      (λ o s i sl _. under_still w.outgoing p _ all o s i sl (λ g. inl (sent_ways w.roster mask p d outbox size o s i sl g)))

  pub posts_under : needed w.roster mask p ≤ free_places outbox → (o : ℕ) → Correct w.roster o → o ≢ p → has mask o ≡ false
      → Under posts o d.sender d.id d.slot
  posts_under room o good other n =
      let a = and_parts (member w.roster o) (not (faulty w.roster o)) good in
      under_now w.outgoing p (sent w.roster mask p d outbox) all o d.sender d.id d.slot
      (sent_goes w.roster mask p d outbox size room o (seated w f o good)
      (and_from _ _ (and_from _ _ a.0 (not_from_false (has mask o) n)) (not_from_false (eqb o p) (ne_eqb o p other))))
