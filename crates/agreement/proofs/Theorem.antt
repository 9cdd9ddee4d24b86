-- Demand 3 of every run and of every row of public steps. Assumes nothing.
use mathlib.Core.Path.{◌≡◌, refl, subst}
use mathlib.Core.List.{List, [], ◌∷◌}
use Prim.Native.Nat.{ℕ}
use Rattle.world.specs.declared.World.{World}
use Rattle.world.specs.Fresh.{fresh_world}
use Rattle.format.specs.Fields.{byte_at}
use Rattle.format.specs.Records.{Asked, asked}
use Rattle.protocol.specs.Steps.{step_of, world_after}
use Rattle.protocol.specs.Runs.{start_world}
use Rattle.format.proofs.Judged.{accepted_means}
use Rattle.kept.proofs.Stepping.{step_facts, ran_keeps, public_keeps, started_keeps}
use Rattle.agreement.specs.Agreement.{Agreed, through, Demand, by_record, by_bytes, RunAgrees, RanAgrees, RowAgrees}
use Rattle.agreement.proofs.Stepping.{steps}
use Rattle.agreement.proofs.Small.{step_small}
use Rattle.agreement.proofs.Members.{Good}
use Rattle.agreement.proofs.Starting.{start_good}
use Rattle.agreement.proofs.Rows.{Leads, leads_same, demand}

none_numbered : (n faulty : ℕ) → (fresh_world n faulty).numbered ≡ 0
unfolding fresh_world
none_numbered n faulty = refl

through_after : (w : World) (l : List Asked) → through by_record w l ≡ world_after w l
unfolding through world_after
through_after w [] = refl
through_after w (a ∷ l) = through_after (step_of w a).world l

pub by_record_lem : (w : World) (a : Asked) → Good w → Leads w (by_record w a)
by_record_lem w a g =
    let m = steps w a g.facts g.inv in
    record { good = record { facts = step_facts w a g.facts; inv = m.inv; small = step_small w a g.small }; moves = m }

by_bytes_lem : (w : World) (s : List ℕ) → Good w → Leads w (by_bytes w s)
by_bytes_lem w s g = public_keeps (Leads w) w s (leads_same g) (λ a. by_record_lem w a g)

pub run_agrees : RunAgrees
run_agrees s k e =
    demand by_record by_record_lem (start_world s) (start_good (byte_at s 1) (byte_at s 2) (accepted_means s k e).good) (none_numbered (byte_at s 1) (byte_at s 2)) (asked s)

pub ran_agrees : RanAgrees
ran_agrees s room k =
    ran_keeps Agreed s room k (λ j e. subst (λ (w : World). Agreed w) (through_after (start_world s) (asked s)) (run_agrees s j e).agreed)

pub row_agrees : RowAgrees
row_agrees n faulty l =
    started_keeps (λ (w : World). Demand by_bytes w l) n faulty
    (λ e. demand by_bytes by_bytes_lem (fresh_world n faulty) (start_good n faulty e) (none_numbered n faulty) l)
