-- Boxes that fit a world, and the world with them put back. Assumes nothing.
use mathlib.Core.Path.{◌≡◌, refl, ◌∙◌}
use mathlib.Core.Logic.{◌≢◌}
use mathlib.Core.List.{List}
use Prim.Native.Nat.{ℕ, ◌*◌, ◌<◌, ◌≤◌}
use native.Mathlib.Omega.{arith}
use lib.ListN.{length, get_or, set, length-set}
use lib.Seq.{set-get_or}
use Rattle.world.specs.declared.World.{World}
use Rattle.world.specs.declared.roster.Roster.{Roster}
use Rattle.world.specs.declared.execution.Executions.{Executions}
use Rattle.world.specs.declared.outgoing.Outgoing.{Outgoing}
use Rattle.world.specs.declared.hold.Hold.{Hold}
use Rattle.world.specs.declared.delivered.Delivered.{Delivered}
use Rattle.world.specs.Sizes.{servers, executions_most}
use Rattle.world.specs.Boxes.{seat, no_table, no_packets, no_entries, no_items}
use Rattle.protocol.specs.Names.{table_of}
use Rattle.protocol.specs.Sound.{number_at}
use Rattle.protocol.specs.declared.boxes.Boxes.{Boxes}
use Rattle.protocol.specs.declared.boxes.Ruling.{Ruling}
use Rattle.protocol.specs.Rules.{with_hold, with_outgoing, with_delivered}
use Rattle.protocol.specs.declared.boxes.Touch.{Touch}
use Rattle.protocol.specs.Steps.{boxes_of, put_back}
use Rattle.kept.proofs.Counts.{Numbers}
use Rattle.kept.proofs.Facts.{set_cases, Table, Packets, Entries, Items, FactsOf}
use Rattle.kept.proofs.More.{Grows, table_more, entries_more, items_more}

-- boxes that may stand in the place of those of a server, a holder and a sender, in a world of these tables
pub record Fits (r : Roster) (stored m : ℕ) (ts : List Executions) (server holder sender : ℕ) (b : Boxes) : Type 0 where
  pub same : b.stored ≡ stored
  pub more : m ≤ b.numbered
  pub grows : Grows (get_or ts sender no_table) b.executions
  pub numbers : Numbers (number_at (set ts sender b.executions)) (servers * executions_most) b.numbered
  pub table : Table r b.numbered sender b.executions
  pub packets : Packets r stored server b.outgoing
  pub entries : Entries r stored b.numbered (set ts sender b.executions) holder b.hold
  pub items : Items r stored b.numbered server b.delivered

-- a table in the place of another
pub tables_grow : (ts : List Executions) (x : ℕ) (t u : Executions) → x < length ts → Grows t u → (s : ℕ) → Grows (table_of (set ts x t) s) (table_of (set ts x u) s)
tables_grow ts x t u h g s =
    set_cases (λ v. Grows v (table_of (set ts x u) s)) ts x (seat s) t no_table h
    (λ (e : seat s ≡ x). set_cases (λ v. Grows t v) ts x (seat s) u no_table h (λ _. g) (λ d. absurd (d e)))
    (λ (e : seat s ≢ x). set_cases (λ v. Grows (get_or ts (seat s) no_table) v) ts x (seat s) u no_table h (λ d. absurd (e d)) (λ _ id p. p))

module _ (w : World) (f : FactsOf w) (t : Touch) (server : t.server < servers) (holder : t.holder < servers) (sender : t.sender < servers) where
  pub boxes_fit : Fits w.roster w.requests.count w.numbered w.executions t.server t.holder t.sender (boxes_of w t)
  boxes_fit =
      record {
        same = refl;
        more = omega arith;
        grows = λ id p. p;
        numbers = rw (set-get_or w.executions t.sender no_table) f.numbers;
        table = f.tables t.sender sender;
        packets = f.packets t.server server;
        entries = rw (set-get_or w.executions t.sender no_table) (f.entries t.holder holder);
        items = f.items t.server server;
      }

  module _ (b : Boxes) (g : Fits w.roster w.requests.count w.numbered w.executions t.server t.holder t.sender b) where
    grown : (s : ℕ) → Grows (table_of w.executions s) (table_of (set w.executions t.sender b.executions) s)
    grown = rw (set-get_or w.executions t.sender no_table) at
        (tables_grow w.executions t.sender (get_or w.executions t.sender no_table) b.executions (rw f.all_tables sender) g.grows)

    pub put_facts : FactsOf (put_back w t b)
    put_facts =
        record {
          roster = f.roster;
          requests = f.requests;
          numbers = g.numbers;
          all_tables = length-set w.executions t.sender b.executions ∙ f.all_tables;
          all_packets = length-set w.outgoing t.server b.outgoing ∙ f.all_packets;
          all_entries = length-set w.holds t.holder b.hold ∙ f.all_entries;
          all_items = length-set w.delivered t.server b.delivered ∙ f.all_items;
          tables = λ s h.
              set_cases (λ v. Table w.roster b.numbered s v) w.executions t.sender s b.executions no_table (rw f.all_tables sender)
              (λ (e : s ≡ t.sender). rw e g.table)
              (λ _. table_more g.more (f.tables s h));
          packets = λ s h.
              set_cases (λ v. Packets w.roster w.requests.count s v) w.outgoing t.server s b.outgoing no_packets (rw f.all_packets server)
              (λ (e : s ≡ t.server). rw e g.packets)
              (λ _. f.packets s h);
          entries = λ s h.
              set_cases (λ v. Entries w.roster w.requests.count b.numbered (set w.executions t.sender b.executions) s v)
              w.holds t.holder s b.hold no_entries (rw f.all_entries holder)
              (λ (e : s ≡ t.holder). rw e g.entries)
              (λ _. entries_more (omega arith) g.more grown (f.entries s h));
          items = λ s h.
              set_cases (λ v. Items w.roster w.requests.count b.numbered s v) w.delivered t.server s b.delivered no_items (rw f.all_items server)
              (λ (e : s ≡ t.server). rw e g.items)
              (λ _. items_more (omega arith) g.more (f.items s h));
        }

-- boxes with one of them changed
module _ {r : Roster} {stored m : ℕ} {ts : List Executions} {server holder sender : ℕ} {b : Boxes} (f : Fits r stored m ts server holder sender b) where
  pub with_hold_lem : (h : Hold) → Entries r stored b.numbered (set ts sender b.executions) holder h → Fits r stored m ts server holder sender (with_hold b h)
  with_hold_lem h e =
      record { same = f.same; more = f.more; grows = f.grows; numbers = f.numbers; table = f.table; packets = f.packets; entries = e; items = f.items }

  pub with_outgoing_lem : (o : Outgoing) → Packets r stored server o → Fits r stored m ts server holder sender (with_outgoing b o)
  with_outgoing_lem o e =
      record { same = f.same; more = f.more; grows = f.grows; numbers = f.numbers; table = f.table; packets = e; entries = f.entries; items = f.items }

  pub with_delivered_lem : (d : Delivered) → Items r stored b.numbered server d → Fits r stored m ts server holder sender (with_delivered b d)
  with_delivered_lem d e =
      record { same = f.same; more = f.more; grows = f.grows; numbers = f.numbers; table = f.table; packets = f.packets; entries = f.entries; items = e }

-- a rule's outcome, whose boxes fit
abbrev pub Keeps : Roster → ℕ → ℕ → List Executions → ℕ → ℕ → ℕ → Ruling → Type 0
Keeps r stored m ts server holder sender s = Fits r stored m ts server holder sender s.boxes
