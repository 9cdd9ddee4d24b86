-- A start gives a world of the invariant: there is nothing in it yet. Assumes nothing.
use mathlib.Core.Path.{◌≡◌}
use mathlib.Core.Bool.{true}
use Prim.Native.Nat.{ℕ, ◌<◌, ◌≤◌}
use native.Mathlib.Omega.{arith}
use lib.ListN.{replicate}
use Rattle.world.specs.declared.execution.Executions.{Executions}
use Rattle.world.specs.declared.hold.Entry.{Entry}
use Rattle.world.specs.declared.hold.Hold.{Hold}
use Rattle.world.specs.declared.delivered.Delivered.{Delivered}
use Rattle.world.specs.Sizes.{servers, hold_places}
use Rattle.world.specs.Roster.{good_roster}
use Rattle.world.specs.Executions.{fresh_executions}
use Rattle.world.specs.Hold.{free_entry, fresh_hold, entry_at}
use Rattle.world.specs.Delivered.{fresh_delivered}
use Rattle.world.specs.Fresh.{fresh_world}
use Rattle.world.specs.Boxes.{no_table, no_entries, no_items}
use Rattle.kept.proofs.Start.{start_facts}
use Rattle.agreement.proofs.Invariant.{Made, hold_at, done_at, InvOf}
use Rattle.agreement.proofs.Lists.{filled}
use Rattle.agreement.proofs.Small.{start_small}
use Rattle.agreement.proofs.Members.{Good}

none_made : {s k : ℕ} → Made (replicate servers fresh_executions) s k → ⊥
unfolding fresh_executions
none_made {s} {k} t =
    filled (λ (v : Executions). k < v.count → ⊥) servers s fresh_executions no_table (λ h. omega arith) (λ h. omega arith) t.used

none_held : (p z : ℕ) → 3 ≤ (entry_at (hold_at (replicate servers fresh_hold) p) z).stage → ⊥
unfolding fresh_hold
none_held p z =
    filled (λ (h : Hold). 3 ≤ (entry_at h z).stage → ⊥) servers p fresh_hold no_entries
    (filled (λ (e : Entry). 3 ≤ e.stage → ⊥) hold_places z free_entry free_entry (λ h. omega arith) (λ h. omega arith)) (λ h. omega arith)

none_done : (p j : ℕ) → j < (done_at (replicate servers fresh_delivered) p).count → ⊥
unfolding fresh_delivered
none_done p j = filled (λ (d : Delivered). j < d.count → ⊥) servers p fresh_delivered no_items (λ h. omega arith) (λ h. omega arith)

start_inv : (n faulty : ℕ) → InvOf (fresh_world n faulty)
unfolding fresh_world
start_inv n faulty =
    record {
      calls = λ s k p t. absurd (none_made t);
      third = λ p z c h. absurd (none_held p z h);
      prefix = λ p j c h. absurd (none_done p j h);
      spread = λ s k slot t. absurd (none_made t);
    }

pub start_good : (n faulty : ℕ) → good_roster (record { n = n; faulty = faulty }) ≡ true → Good (fresh_world n faulty)
start_good n faulty e = record { facts = start_facts n faulty e; inv = start_inv n faulty; small = start_small n faulty }
