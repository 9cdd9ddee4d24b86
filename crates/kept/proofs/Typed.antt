-- Every world that the code holds is shaped: what owning one tells. Assumes nothing.
use mathlib.Core.List.{List, [], ◌∷◌}
use Prim.Native.Nat.{ℕ, zero, suc, ◌<◌}
use native.Mathlib.Omega.{arith}
use lib.ListN.{length, get_or}
use mir.Val.{Val}
use base.Fml.{Fml}
use denote.Shadow.{shadow}
use denote.Array.{each}
use denote.RattleType.{owns, Valss}
use denote.Struct.Declared.{shape}
use Rattle.world.specs.declared.World.{World}
use Rattle.world.specs.Boxes.{no_table, no_packets, no_entries, no_items}
use Rattle.world.specs.contracts.World as world-of
use Rattle.world.specs.contracts.execution.Executions as executions-of
use Rattle.world.specs.contracts.outgoing.Outgoing as outgoing_of
use Rattle.world.specs.contracts.hold.Hold as hold-of
use Rattle.world.specs.contracts.delivered.Delivered as delivered-of
use Rattle.world.proofs.Typed.{outgoing_places_lem, hold_places_lem, delivered_items}
use Rattle.world.proofs.Seats.{seat_own}
use Rattle.kept.specs.Kept.{Shaped}

-- the relation of one element, from that of each
each_at : {X : Type 0} (f : X → List Val → Fml) (xs : List X) (us : List Val) (i : ℕ) (x₀ : X) → i < length xs
    → shadow (each X f xs us) → (u : Val) × shadow (f (get_or xs i x₀) (u ∷ []))
each_at f [] us i x₀ p s = absurd (omega arith)
each_at f (x ∷ xs) [] i x₀ p s = absurd s
each_at f (x ∷ xs) (u ∷ us) zero x₀ p s = (u, s.0)
each_at f (x ∷ xs) (u ∷ us) (suc i) x₀ p s = each_at f xs us i x₀ (omega arith) s.1

pub typed_shaped : (w : World) (vs : Valss (shape world-of.the_type).fields) → shadow (owns (shape world-of.the_type).fields ((world-of.the_type).to w) vs) → Shaped w
typed_shaped w vs g =
    let a = g.1.1.1 in
    let ts = a.0.1.0.1 in
    let os = a.1.0.1.0.1 in
    let hs = a.1.1.0.1.0.1 in
    let ds = a.1.1.1.0.1.0.1 in
    record {
      slots = g.1.1.0.1.1.0.1.0.1;
      executions = ts;
      outgoing = os;
      holds = hs;
      delivered = ds;
      tables = λ s h.
          let e = each_at (executions-of.the_row).own_val w.executions a.0.0 s no_table (omega arith) a.0.1.1 in
          rw (seat_own s h) e.1.1.1.0.1.0.1;
      packets = λ s h.
          let e = each_at (outgoing_of.the_row).own_val w.outgoing a.1.0.0 s no_packets (omega arith) a.1.0.1.1 in
          rw (seat_own s h) (outgoing_places_lem (get_or w.outgoing s no_packets) e.1.0 e.1.1.1);
      entries = λ s h.
          let e = each_at (hold-of.the_row).own_val w.holds a.1.1.0.0 s no_entries (omega arith) a.1.1.0.1.1 in
          rw (seat_own s h) (hold_places_lem (get_or w.holds s no_entries) e.1.0 e.1.1.1);
      items = λ s h.
          let e = each_at (delivered-of.the_row).own_val w.delivered a.1.1.1.0.0 s no_items (omega arith) a.1.1.1.0.1.1 in
          rw (seat_own s h) (delivered_items (get_or w.delivered s no_items) e.1.0 e.1.1.1);
    }
