-- Every mask of an execution has bits of the eight servers only, at a start and after every step; `sound` looks at no other bits. Assumes nothing.
use Rattle.std.specs.Prelude.{None, Option, Some}
use mathlib.Core.List.{List}
use Prim.Native.Nat.{ℕ, ◌+◌, ◌^◌, ◌<◌}
use native.Mathlib.Omega.{arith}
use lib.Bits.{or_lt}
use lib.Dec.{eqb, ltb}
use lib.ListN.{set}
use lib.Pow.{pow-lt}
use borrow.Author.Tests.{ltb-true}
use Rattle.std.proofs.lemmas.Bool.{cond_both}
use Rattle.world.specs.declared.World.{World}
use Rattle.world.specs.declared.roster.Roster.{Roster}
use Rattle.world.specs.declared.execution.Execution.{Execution}
use Rattle.world.specs.declared.execution.Executions.{Executions}
use Rattle.world.specs.Sizes.{servers, executions_most}
use Rattle.world.specs.Masks.{nobody, join}
use Rattle.world.specs.Executions.{execution_at, no_execution, opened, called, ordered, fresh_executions, unused_execution}
use Rattle.world.specs.Fresh.{fresh_world}
use Rattle.world.specs.Boxes.{no_table}
use Rattle.protocol.specs.declared.boxes.Boxes.{Boxes}
use Rattle.protocol.specs.declared.boxes.Ruling.{Ruling}
use Rattle.protocol.specs.Rules.{made, recorded, raised, multicast_done, multicast_of, arrive_of, propose_to, propose_found, propose_of, settle_to, settle_found, settle_of, deliver_found, deliver_of, forge_packet_of, forge_send_of, forge_receive_to, forge_receive_found, forge_receive_of}
use Rattle.format.specs.Records.{Asked, Request, Multicast, Arrive, Propose, Settle, Deliver, ForgePacket, ForgeSend, ForgeReceive}
use Rattle.protocol.specs.Steps.{step_of}
use Rattle.search.proofs.Booleans.{musts}
use Rattle.kept.proofs.Ordering.{changed}
use Rattle.agreement.proofs.Invariant.{table_at}
use Rattle.agreement.proofs.Lists.{set_both, filled}
use Rattle.agreement.proofs.Orders.{orders}

-- a mask of the eight servers
abbrev Eight : ℕ → Type 0
Eight mask = mask < 2 ^ servers

abbrev Low : Executions → Type 0
Low t = (k : ℕ) → Eight (execution_at t k).mask

abbrev pub Small : List Executions → Type 0
Small ts = (s : ℕ) → Low (table_at ts s)

join_small : (m i : ℕ) → Eight m → Eight (join m i)
unfolding join
join_small m i h = cond_both (ltb i servers) _ _ Eight (λ e. or_lt servers m (2 ^ i) h (pow-lt (ltb-true i servers e))) (λ _. h)

-- an execution in a table
put_low : (r : Roster) (e : Execution) (m : ℕ) (t : Executions) (place count : ℕ) → Eight e.mask → Low t → Low (changed t place count (ordered r e m).execution)
put_low r e m t place count h f k =
    set_both (λ (x : Execution). Eight x.mask) t.table place k (ordered r e m).execution no_execution (rw (orders r e m).mask h) (f k)

module _ (r : Roster) (b : Boxes) (f : Low b.executions) where
  made_small : (sender id : ℕ) (digest : List ℕ) → Low (made r sender id digest b).executions
  unfolding made
  made_small sender id digest =
      let t = b.executions in
      put_low r (opened sender id digest) b.numbered t t.count (t.count + 1) (join_small nobody sender (omega arith)) f

  recorded_small : (server place : ℕ) → Low (recorded r server place b).executions
  unfolding recorded
  recorded_small server place =
      let t = b.executions in
      let x = execution_at t place in
      put_low r (called x server) b.numbered t place t.count
      (cond_both (eqb x.number 0) _ _ Eight (λ _. join_small x.mask server (f place)) (λ _. f place)) f

abbrev Leaves : Ruling → Type 0
Leaves s = Low s.boxes.executions

-- each rule: a refusal leaves the boxes, and so does a rule that tells nothing to the orderer
module _ (r : Roster) (b : Boxes) (f : Low b.executions) where
  multicast_small : (server slot : ℕ) → Leaves (multicast_of r server slot b)
  unfolding multicast_of multicast_done
  multicast_small server slot =
      musts Leaves _ _ _ f λ _. musts Leaves _ _ _ f λ _. musts Leaves _ _ _ f λ _. musts Leaves _ _ _ f λ _. musts Leaves _ _ _ f λ _. musts Leaves _ _ _ f λ _.
      made_small r b f server (b.executions.count + 1) b.request.digest

  arrive_small : (origin place : ℕ) → Leaves (arrive_of r origin place b)
  unfolding arrive_of
  arrive_small origin place = musts Leaves _ _ _ f λ _. musts Leaves _ _ _ f λ _. musts Leaves _ _ _ f λ _. musts Leaves _ _ _ f λ _. f

  proposed_small : (server place : ℕ) (g : Option ℕ) → Leaves (propose_found r server place b g)
  unfolding propose_found propose_to
  proposed_small server place (Some k) =
      musts Leaves _ _ _ f λ _. musts Leaves _ _ _ f λ _. musts Leaves _ _ _ f λ _. recorded_small r (raised place 2 0 b) f server k
  proposed_small server place None = f

  propose_small : (server place : ℕ) → Leaves (propose_of r server place b)
  unfolding propose_of
  propose_small server place =
      musts Leaves _ _ _ f λ _. musts Leaves _ _ _ f λ _. musts Leaves _ _ _ f λ _. proposed_small server place _

  settled_small : (server place : ℕ) (g : Option ℕ) → Leaves (settle_found r server place b g)
  unfolding settle_found settle_to
  settled_small server place (Some k) = musts Leaves _ _ _ f λ _. musts Leaves _ _ _ f λ _. musts Leaves _ _ _ f λ _. musts Leaves _ _ _ f λ _. f
  settled_small server place None = f

  settle_small : (server place : ℕ) → Leaves (settle_of r server place b)
  unfolding settle_of
  settle_small server place =
      musts Leaves _ _ _ f λ _. musts Leaves _ _ _ f λ _. musts Leaves _ _ _ f λ _. settled_small server place _

  delivered_small : (g : Option ℕ) → Leaves (deliver_found b g)
  unfolding deliver_found
  delivered_small (Some k) = f
  delivered_small None = f

  deliver_small : (server : ℕ) → Leaves (deliver_of r server b)
  unfolding deliver_of
  deliver_small server = musts Leaves _ _ _ f λ _. musts Leaves _ _ _ f λ _. delivered_small _

  forge_packet_small : (from to sender id slot : ℕ) → Leaves (forge_packet_of r from to sender id slot b)
  unfolding forge_packet_of
  forge_packet_small from to sender id slot = musts Leaves _ _ _ f λ _. musts Leaves _ _ _ f λ _. musts Leaves _ _ _ f λ _. musts Leaves _ _ _ f λ _. f

  forge_send_small : (server id : ℕ) (digest : List ℕ) → Leaves (forge_send_of r server id digest b)
  unfolding forge_send_of
  forge_send_small server id digest =
      musts Leaves _ _ _ f λ _. musts Leaves _ _ _ f λ _. musts Leaves _ _ _ f λ _. musts Leaves _ _ _ f λ _. made_small r b f server id digest

  received_small : (server : ℕ) (digest : List ℕ) (g : Option ℕ) → Leaves (forge_receive_found r server digest b g)
  unfolding forge_receive_found forge_receive_to
  received_small server digest (Some k) = musts Leaves _ _ _ f λ _. musts Leaves _ _ _ f λ _. recorded_small r b f server k
  received_small server digest None = f

  forge_receive_small : (server sender id : ℕ) (digest : List ℕ) → Leaves (forge_receive_of r server sender id digest b)
  unfolding forge_receive_of
  forge_receive_small server sender id digest = musts Leaves _ _ _ f λ _. musts Leaves _ _ _ f λ _. received_small server digest _

put_small : (ts : List Executions) (x : ℕ) (t : Executions) → Low t → Small ts → Small (set ts x t)
put_small ts x t l f s = set_both Low ts x s t no_table l (f s)

pub step_small : (w : World) (a : Asked) → Small w.executions → Small (step_of w a).world.executions
unfolding step_of
step_small w (Request client serial seals command) f = f
step_small w (Multicast server slot) f = put_small w.executions _ _ (multicast_small w.roster _ (f _) server slot) f
step_small w (Arrive origin place) f = put_small w.executions _ _ (arrive_small w.roster _ (f _) origin place) f
step_small w (Propose server place) f = put_small w.executions _ _ (propose_small w.roster _ (f _) server place) f
step_small w (Settle server place) f = put_small w.executions _ _ (settle_small w.roster _ (f _) server place) f
step_small w (Deliver server) f = put_small w.executions _ _ (deliver_small w.roster _ (f _) server) f
step_small w (ForgePacket from to sender id slot) f = put_small w.executions _ _ (forge_packet_small w.roster _ (f _) from to sender id slot) f
step_small w (ForgeSend server id digest) f = put_small w.executions _ _ (forge_send_small w.roster _ (f _) server id digest) f
step_small w (ForgeReceive server sender id digest) f = put_small w.executions _ _ (forge_receive_small w.roster _ (f _) server sender id digest) f

pub start_small : (n faulty : ℕ) → Small (fresh_world n faulty).executions
unfolding fresh_world fresh_executions
start_small n faulty s k =
    filled (λ (t : Executions). Eight (execution_at t k).mask) servers s fresh_executions no_table
    (filled (λ (x : Execution). Eight x.mask) executions_most k unused_execution no_execution (omega arith) (omega arith)) (omega arith)
