-- The boxes of a forged send and of a forged receive fit. Assumes nothing.
use Rattle.std.specs.Prelude.{None, Option, Some, is_some}
use mathlib.Core.Path.{◌≡◌, refl, sym}
use mathlib.Core.Bool.{true, not, ◌&&◌}
use mathlib.Core.List.{List}
use Prim.Native.Nat.{ℕ, ◌<◌}
use lib.Dec.{ltb}
use lib.ListN.{length}
use borrow.Author.Tests.{ltb-true}
use Rattle.std.proofs.lemmas.Bool.{and_parts, not-true}
use Rattle.world.specs.declared.roster.Roster.{Roster}
use Rattle.world.specs.declared.execution.Executions.{Executions}
use Rattle.world.specs.Sizes.{servers, executions_most}
use Rattle.world.specs.Masks.{has}
use Rattle.world.specs.Roster.{member, faulty}
use Rattle.world.specs.Requests.{same_digest}
use Rattle.world.specs.Executions.{execution_at, execution_of}
use Rattle.protocol.specs.declared.boxes.Boxes.{Boxes}
use Rattle.protocol.specs.declared.boxes.Ruling.{Ruling}
use Rattle.protocol.specs.Rules.{forge_send_of, forge_receive_to, forge_receive_found, forge_receive_of}
use Rattle.search.proofs.Booleans.{apart, musts}
use Rattle.kept.proofs.Ordering.{found_made, not_found, made_fits, recorded_fits}
use Rattle.kept.proofs.Putting.{Fits, Keeps}

module _ {r : Roster} {stored m : ℕ} {ts : List Executions} (all : length ts ≡ servers) where
  pub forge_send_keeps : {s h : ℕ} {b : Boxes} → s < servers → Fits r stored m ts s h s b → (server id : ℕ) (digest : List ℕ)
      → (member r server ≡ true → s ≡ server) → Keeps r stored m ts s h s (forge_send_of r server id digest b)
  unfolding forge_send_of
  forge_send_keeps {s} {h} {b} seated f server id digest at =
      let P : Ruling → Type 0 = Keeps r stored m ts s h s in
      musts P (member r server) _ _ f λ mine.
      musts P (faulty r server) _ _ f λ bad.
      musts P (not (is_some (execution_of b.executions id))) _ _ f λ none.
      musts P (ltb b.executions.count executions_most) _ _ f λ room.
      let q = at mine in
      rw q
      (made_fits (rw q at f) all (rw q at seated) mine id digest (ltb-true b.executions.count executions_most room)
      (λ j l. not_found b.executions id j (not-true _ none) f.table.most l)
      (λ good. apart (faulty r server) bad (not-true (faulty r server) (and_parts (member r server) (not (faulty r server)) good).1)))

  module _ {s h x : ℕ} {b : Boxes} (seated : s < servers) (named : x < servers) (f : Fits r stored m ts s h x b) (server : ℕ) (at : member r server ≡ true → s ≡ server) where
    received : (digest : List ℕ) (id : ℕ) → member r server ≡ true → member r x ≡ true → (g : Option ℕ) → g ≡ execution_of b.executions id
        → Keeps r stored m ts s h x (forge_receive_found r server digest b g)
    unfolding forge_receive_found forge_receive_to
    received digest id mine theirs (Some k) e =
        let P : Ruling → Type 0 = Keeps r stored m ts s h x in
        let y = execution_at b.executions k in
        musts P (not (has y.called server)) _ _ f λ _.
        musts P (same_digest y.digest digest) _ _ f λ _.
        recorded_fits f all named theirs server k (found_made b.executions id k (sym e)) (rw (at mine) at seated) mine
    received digest id mine theirs None e = f

    pub forge_receive_keeps : (sender id : ℕ) (digest : List ℕ) → (member r sender ≡ true → x ≡ sender)
        → Keeps r stored m ts s h x (forge_receive_of r server sender id digest b)
    unfolding forge_receive_of
    forge_receive_keeps sender id digest from =
        let P : Ruling → Type 0 = Keeps r stored m ts s h x in
        musts P (member r server && member r sender) _ _ f λ both.
        musts P (faulty r server) _ _ f λ _.
        let a = and_parts (member r server) (member r sender) both in
        received digest id a.0 (rw (from a.1) a.1) _ refl
