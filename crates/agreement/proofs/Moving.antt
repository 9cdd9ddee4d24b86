-- The world that a step leaves: what does not change, and what must be shown of what does. Assumes nothing.
use mathlib.Core.Path.{◌≡◌, refl}
use mathlib.Core.Logic.{inl, inr}
use mathlib.Core.Bool.{true, false, not}
use Prim.Native.Nat.{ℕ, ◌<◌, ◌≤◌}
use native.Mathlib.Omega.{arith}
use lib.ListN.{length, get_or, set}
use lib.Seq.{set-get_or}
use borrow.Author.Tests.{ltb-true}
use Rattle.std.proofs.lemmas.Bool.{and_parts, not-true}
use Rattle.world.specs.declared.World.{World}
use Rattle.world.specs.declared.execution.Execution.{Execution}
use Rattle.world.specs.declared.outgoing.Outgoing.{Outgoing}
use Rattle.world.specs.declared.hold.Hold.{Hold}
use Rattle.world.specs.declared.delivered.Delivered.{Delivered}
use Rattle.world.specs.Sizes.{servers}
use Rattle.world.specs.Roster.{member, faulty}
use Rattle.world.specs.Boxes.{no_table, no_packets, no_entries, no_items}
use Rattle.protocol.specs.declared.boxes.Boxes.{Boxes}
use Rattle.protocol.specs.Rules.{with_hold, with_outgoing, with_delivered}
use Rattle.protocol.specs.declared.boxes.Touch.{Touch}
use Rattle.protocol.specs.Steps.{boxes_of, put_back}
use Rattle.kept.proofs.Facts.{FactsOf, place_out, order_low}
use Rattle.kept.proofs.Facts as facts
use Rattle.kept.proofs.Masking.{masks_out}
use Rattle.world.proofs.Seats.{few_servers}
use Rattle.agreement.proofs.Invariant.{Correct, done_at, table_at, made, Made, Matches, Inv, InvOf}
use Rattle.agreement.proofs.Digests.{matches_one}
use Rattle.agreement.proofs.Sendings.{made_one, id_one}
use Rattle.agreement.proofs.Keeping.{Keys}
use Rattle.agreement.proofs.Orders.{Grew}
use Rattle.agreement.proofs.Moves.{Moves}

-- the boxes of servers by their names
abbrev pub at : ℕ → ℕ → ℕ → ℕ → Touch
at server holder sender slot = record { server = server; holder = holder; sender = sender; slot = slot }

module _ (w : World) (f : FactsOf w) where
  pub one : (a b : ℕ) (x : Execution) → Matches w.requests a x → Matches w.requests b x → a ≡ b
  one a b x = matches_one f.requests a b

  pub named : (p : ℕ) → member w.roster p ≡ true → p < servers
  named p e = let n = few_servers w.roster f.roster in omega (arith, ltb-true p w.roster.n e)

  pub seated : (p : ℕ) → Correct w.roster p → p < servers
  seated p ok = named p (and_parts (member w.roster p) (not (faulty w.roster p)) ok).0

  pub in_holds : (p : ℕ) → Correct w.roster p → p < length w.holds
  in_holds p ok = rw f.all_entries (seated p ok)

  pub good : (p : ℕ) → Correct w.roster p → faulty w.roster p ≡ false
  good p ok = not-true (faulty w.roster p) (and_parts (member w.roster p) (not (faulty w.roster p)) ok).1

  -- no server has delivered more than the numbers given
  pub few : (p : ℕ) → Correct w.roster p → (done_at w.delivered p).count ≤ w.numbered
  few p ok = (f.items p (seated p ok)).most

  -- an execution in use, and what is known of all
  pub used : {s k : ℕ} → Made w.executions s k → facts.Made w.roster w.numbered s k (made w.executions s k)
  used {s} {k} h =
      let t = f.tables s h.seated in
      let l = h.used in
      let m = t.most in
      place_out w.roster w.numbered s (table_at w.executions s).count k (made w.executions s k) l (t.places k (omega arith))

  pub keys : Keys w.numbered w.executions
  keys =
      record {
        ids = λ s j k a b e. id_one w f a b e;
        numbers = λ s t j k a b e l. made_one w f a b e l;
        low = λ s k h. order_low w.roster w.numbered (made w.executions s k) (used h).order;
        caller = λ s k h. (masks_out w.roster s (made w.executions s k) (used h).masks).caller;
        within = λ s k p l h e. (masks_out w.roster s (made w.executions s k) (used h).masks).within p l e;
      }

  module _ (t : Touch) where
    -- no number is given
    pub calm : (o : Outgoing) (h : Hold) (d : Delivered)
        → Inv w.roster w.requests w.executions (set w.outgoing t.server o) (set w.holds t.holder h) (set w.delivered t.server d)
        → Moves w (put_back w t (with_delivered (with_hold (with_outgoing (boxes_of w t) o) h) d))
    calm o h d v =
        record {
          inv = rw (set-get_or w.executions t.sender no_table) v;
          roster = refl;
          more = omega arith;
          belongs = λ s i sl n b. rw (set-get_or w.executions t.sender no_table) b;
          still = inl refl;
        }

    pub calm_entry : (h : Hold) → Inv w.roster w.requests w.executions w.outgoing (set w.holds t.holder h) w.delivered → Moves w (put_back w t (with_hold (boxes_of w t) h))
    calm_entry h v = calm _ h _ (rw (set-get_or w.outgoing t.server no_packets, set-get_or w.delivered t.server no_items) v)

    pub stays : InvOf w → Moves w (put_back w t (boxes_of w t))
    stays v = calm_entry _ (rw (set-get_or w.holds t.holder no_entries) v)

    -- nothing is delivered
    pub ordered : (b : Boxes) → w.numbered ≤ b.numbered → b.delivered ≡ get_or w.delivered t.server no_items
        → Grew w.roster w.requests w.executions (set w.executions t.sender b.executions) (set w.outgoing t.server b.outgoing)
        (set w.holds t.holder b.hold) w.delivered
        → Moves w (put_back w t b)
    ordered b more none g =
        record {
          inv = rw (none, set-get_or w.delivered t.server no_items) g.inv;
          roster = refl;
          more = more;
          belongs = g.belongs;
          still = inr (rw (none, set-get_or w.delivered t.server no_items));
        }
