-- Soundness as facts: a record for each kind of box, and one for the whole world. Assumes nothing.
use Rattle.std.specs.Prelude.{is_some}
use mathlib.Core.Path.{◌≡◌}
use mathlib.Core.Logic.{◌≢◌}
use mathlib.Core.Bool.{true, false, ◌||◌}
use mathlib.Core.List.{List}
use Prim.Native.Nat.{ℕ, ◌+◌, ◌*◌, ◌/◌, ◌%◌, ◌<◌, ◌≤◌}
use native.Mathlib.Omega.{arith}
use lib.Count.{ones}
use lib.Dec.{eqb, ltb, leb}
use lib.ListN.{length, get_or, set}
use lib.Seq.{get_or-set_same, get_or-set_other}
use borrow.Author.Tests.{eq-eqb, eqb-true, ne_eqb, leb-true, le-leb, ltb-true, lt-ltb}
use Rattle.std.proofs.lemmas.Bool.{and_from, and_parts, cases_eq, cases_lt}
use Rattle.std.proofs.lemmas.List.{get_or_past}
use Rattle.search.specs.Search.{every, count}
use Rattle.fips180.specs.Digest.{digest_bytes}
use Rattle.world.specs.declared.World.{World}
use Rattle.world.specs.declared.roster.Roster.{Roster}
use Rattle.world.specs.declared.request.Requests.{Requests}
use Rattle.world.specs.declared.execution.Execution.{Execution}
use Rattle.world.specs.declared.execution.Executions.{Executions}
use Rattle.world.specs.declared.outgoing.Outgoing.{Outgoing}
use Rattle.world.specs.declared.hold.Entry.{Entry}
use Rattle.world.specs.declared.hold.Hold.{Hold}
use Rattle.world.specs.declared.delivered.Delivered.{Delivered}
use Rattle.world.specs.Sizes.{servers, requests_most, executions_most, outgoing_places, hold_places, delivered_most}
use Rattle.world.specs.Roster.{member, correct, threshold, good_roster}
use Rattle.world.specs.Requests.{request_at}
use Rattle.world.specs.Executions.{execution_at}
use Rattle.world.specs.Outgoing.{packet_at}
use Rattle.world.specs.Hold.{entry_at}
use Rattle.world.specs.Boxes.{no_table, no_packets, no_entries, no_items, executions_of, outgoing_of, hold_of, delivered_of, item_at}
use Rattle.protocol.specs.Zeros.{zero_bytes}
use Rattle.protocol.specs.Names.{names, table_of, own_execution}
use Rattle.protocol.specs.Sound.{slot_sound, new_digest, requests_sound, masks_sound, order_sound, execution_sound, place_sound, new_id, executions_sound, number_at, numbers_sound, packet_sound, outgoing_sound, stage_sound, entry_sound, hold_sound, item_sound, delivered_sound, server_sound, servers_sound, sound}
use Rattle.search.specs.Tests.{implies}
use Rattle.world.proofs.Seats.{seat_own}
use Rattle.kept.specs.Kept.{Shaped}
use Rattle.search.proofs.Booleans.{either, test, and3, and4, and5, implies_in, implies_out}
use Rattle.search.proofs.Every.{every_at, every_all}
use Rattle.kept.proofs.Counts.{Numbers}

-- a list with one element changed: the new one at its place, the old ones elsewhere
pub set_cases : {A : Type 0} (P : A → Type 0) (l : List A) (i j : ℕ) (a d : A) → i < length l → (j ≡ i → P a) → (j ≢ i → P (get_or l j d)) → P (get_or (set l i a) j d)
set_cases P l i j a d h new old =
    either (cases_eq j i)
    (λ (e : j ≡ i). rw (e, get_or-set_same l i a d h) (new e))
    (λ (e : j ≢ i). rw (get_or-set_other l i j a d e) (old e))

-- a place at which something stands that does not stand past the end lies in the list
pub inside : {A : Type 0} (P : A → Type 0) (l : List A) (k n : ℕ) (d : A) → length l ≡ n → P (get_or l k d) → (P d → ⊥) → k < n
inside P l k n d e p never =
    either (cases_lt k n) (λ (h : k < n). h) (λ (h : n ≤ k). absurd (never (rw (get_or_past l k d (omega arith)) at p)))

-- requests
pub record Stored (r : Roster) (q : Requests) : Type 0 where
  pub size : length q.slots ≡ requests_most
  pub most : q.count ≤ requests_most
  pub slots : (k : ℕ) → k < requests_most → slot_sound r q.count k (request_at q k) ≡ true
  pub new : (k : ℕ) → k < q.count → new_digest q k ≡ true

stored_out : (r : Roster) (q : Requests) → length q.slots ≡ requests_most → requests_sound r q ≡ true → Stored r q
unfolding requests_sound
stored_out r q l e =
    let a = and3 (leb q.count requests_most) (every (λ (k : ℕ). slot_sound r q.count k (request_at q k)) requests_most) (every (λ (k : ℕ). new_digest q k) q.count) e in
    record { size = l; most = leb-true q.count requests_most a.0; slots = every_at _ _ a.1; new = every_at _ _ a.2 }

stored_in : {r : Roster} {q : Requests} → Stored r q → requests_sound r q ≡ true
unfolding requests_sound
stored_in s = and_from _ _ (and_from _ _ (le-leb _ _ s.most) (every_all _ _ s.slots)) (every_all _ _ s.new)

-- the executions of one sender
pub record Table (r : Roster) (m x : ℕ) (t : Executions) : Type 0 where
  pub size : length t.table ≡ executions_most
  pub most : t.count ≤ executions_most
  pub theirs : (member r x || eqb t.count 0) ≡ true
  pub places : (k : ℕ) → k < executions_most → place_sound r m x t.count k (execution_at t k) ≡ true
  pub new : (k : ℕ) → k < t.count → new_id t k ≡ true

table_out : (r : Roster) (m x : ℕ) (t : Executions) → length t.table ≡ executions_most → executions_sound r m x t ≡ true → Table r m x t
unfolding executions_sound
table_out r m x t l e =
    let a =
    and4 (leb t.count executions_most) (member r x || eqb t.count 0)
    (every (λ (k : ℕ). place_sound r m x t.count k (execution_at t k)) executions_most) (every (λ (k : ℕ). new_id t k) t.count) e
    in
    record { size = l; most = leb-true t.count executions_most a.0; theirs = a.1; places = every_at _ _ a.2; new = every_at _ _ a.3 }

table_in : {r : Roster} {m x : ℕ} {t : Executions} → Table r m x t → executions_sound r m x t ≡ true
unfolding executions_sound
table_in s =
    and_from _ _ (and_from _ _ (and_from _ _ (le-leb _ _ s.most) s.theirs) (every_all _ _ s.places)) (every_all _ _ s.new)

-- an execution in use
pub record Made (r : Roster) (m x k : ℕ) (e : Execution) : Type 0 where
  pub masks : masks_sound r x e ≡ true
  pub order : order_sound r m e ≡ true
  pub gapless : correct r x ≡ true → e.id ≡ k + 1

pub place_out : (r : Roster) (m x c k : ℕ) (e : Execution) → k < c → place_sound r m x c k e ≡ true → Made r m x k e
unfolding place_sound execution_sound
place_out r m x c k e h p =
    let a = and3 (masks_sound r x e) (order_sound r m e) (implies (correct r x) (eqb e.id (k + 1))) (rw (lt-ltb k c h) at p) in
    record { masks = a.0; order = a.1; gapless = λ y. eqb-true e.id (k + 1) (implies_out (correct r x) (eqb e.id (k + 1)) a.2 y) }

pub place_in : (r : Roster) (m x c k : ℕ) (e : Execution) → k < c → Made r m x k e → place_sound r m x c k e ≡ true
unfolding place_sound execution_sound
place_in r m x c k e h p =
    rw (lt-ltb k c h) (and_from _ _ (and_from _ _ p.masks p.order) (implies_in (correct r x) (eqb e.id (k + 1)) (λ y. eq-eqb e.id (k + 1) (p.gapless y))))

-- a number is one of 1 to M, or none
pub order_low : (r : Roster) (m : ℕ) (e : Execution) → order_sound r m e ≡ true → e.number ≤ m
unfolding order_sound
order_low r m e p =
    test (eqb e.number 0)
    (λ z. omega (arith, eqb-true e.number 0 z))
    (λ z. leb-true e.number m (and_parts (eqb (ones e.mask) (threshold r)) (leb e.number m) (rw z at p)).1)

-- and a place that is not used has none
pub place_unused : (r : Roster) (m x c k : ℕ) (e : Execution) → ltb k c ≡ false → place_sound r m x c k e ≡ true → e.number ≡ 0
unfolding place_sound
place_unused r m x c k e z p =
    let a = and5 (eqb e.number 0) (eqb e.id 0) (eqb e.called 0) (eqb e.mask 0) (zero_bytes e.digest digest_bytes) (rw z at p) in
    eqb-true e.number 0 a.0

place_low : (r : Roster) (m x c k : ℕ) (e : Execution) → place_sound r m x c k e ≡ true → e.number ≤ m
place_low r m x c k e p =
    test (ltb k c)
    (λ z. order_low r m e (place_out r m x c k e (ltb-true k c z) p).order)
    (λ z. omega (arith, place_unused r m x c k e z p))

-- the numbers of all executions
pub numbers_out : (r : Roster) (m : ℕ) (ts : List Executions) → numbers_sound ts m ≡ true → ((s : ℕ) → s < servers → Table r m s (get_or ts s no_table))
    → Numbers (number_at ts) (servers * executions_most) m
unfolding numbers_sound
numbers_out r m ts e h =
    let a = and_parts (leb m delivered_most) (every (λ (k : ℕ). eqb (count (λ (i : ℕ). eqb (number_at ts i) (k + 1)) (servers * executions_most)) 1) m) e in
    record {
      most = leb-true m delivered_most a.0;
      low = λ i p.
          let q : i / executions_most < servers = omega arith in
          rw (seat_own (i / executions_most) q, number_at) (place_low r m (i / executions_most) _ _ _ ((h (i / executions_most) q).places (i % executions_most) (omega arith)));
      once = λ k p. eqb-true _ 1 (every_at (λ (k : ℕ). eqb (count (λ (i : ℕ). eqb (number_at ts i) (k + 1)) (servers * executions_most)) 1) m a.1 k p);
    }

numbers_in : (m : ℕ) (ts : List Executions) → Numbers (number_at ts) (servers * executions_most) m → numbers_sound ts m ≡ true
unfolding numbers_sound
numbers_in m ts n = and_from _ _ (le-leb _ _ n.most) (every_all _ _ (λ k p. eq-eqb _ _ (n.once k p)))

-- packets
pub record Packets (r : Roster) (stored x : ℕ) (o : Outgoing) : Type 0 where
  pub size : length o.places ≡ outgoing_places
  pub places : (k : ℕ) → k < outgoing_places → packet_sound r stored x (packet_at o k) ≡ true

packets_out : (r : Roster) (stored x : ℕ) (o : Outgoing) → length o.places ≡ outgoing_places → outgoing_sound r stored x o ≡ true → Packets r stored x o
unfolding outgoing_sound
packets_out r stored x o l e = record { size = l; places = every_at _ _ e }

packets_in : {r : Roster} {stored x : ℕ} {o : Outgoing} → Packets r stored x o → outgoing_sound r stored x o ≡ true
unfolding outgoing_sound
packets_in s = every_all _ _ s.places

-- entries
pub record Entries (r : Roster) (stored m : ℕ) (ts : List Executions) (x : ℕ) (h : Hold) : Type 0 where
  pub size : length h.places ≡ hold_places
  pub places : (k : ℕ) → k < hold_places → entry_sound r stored m x (table_of ts (entry_at h k).sending.sender) (entry_at h k) ≡ true

entries_out : (r : Roster) (stored m : ℕ) (ts : List Executions) (x : ℕ) (h : Hold) → length h.places ≡ hold_places → hold_sound r stored m ts x h ≡ true
    → Entries r stored m ts x h
unfolding hold_sound
entries_out r stored m ts x h l e = record { size = l; places = every_at _ _ e }

entries_in : {r : Roster} {stored m : ℕ} {ts : List Executions} {x : ℕ} {h : Hold} → Entries r stored m ts x h → hold_sound r stored m ts x h ≡ true
unfolding hold_sound
entries_in s = every_all _ _ s.places

-- an entry in use
pub record Held (r : Roster) (stored m x : ℕ) (t : Executions) (e : Entry) : Type 0 where
  pub stage : e.stage ≤ 3
  pub holder : member r x ≡ true
  pub sender : member r e.sending.sender ≡ true
  pub slot : ltb e.sending.slot stored ≡ true
  pub named : 1 < e.stage → is_some (own_execution t e.sending) ≡ true
  pub number : stage_sound m e ≡ true

pub entry_out : (r : Roster) (stored m x : ℕ) (t : Executions) (e : Entry) → e.stage ≢ 0 → entry_sound r stored m x t e ≡ true → Held r stored m x t e
unfolding entry_sound
entry_out r stored m x t e d p =
    let a =
    and5 (leb e.stage 3) (member r x) (names r stored e.sending) (implies (ltb 1 e.stage) (is_some (own_execution t e.sending))) (stage_sound m e)
    (rw (ne_eqb e.stage 0 d) at p)
    in
    let b = and_parts (member r e.sending.sender) (ltb e.sending.slot stored) a.2 in
    record {
      stage = leb-true e.stage 3 a.0;
      holder = a.1;
      sender = b.0;
      slot = b.1;
      named = λ h. implies_out (ltb 1 e.stage) (is_some (own_execution t e.sending)) a.3 (lt-ltb 1 e.stage h);
      number = a.4;
    }

pub entry_in : (r : Roster) (stored m x : ℕ) (t : Executions) (e : Entry) → e.stage ≢ 0 → Held r stored m x t e → entry_sound r stored m x t e ≡ true
unfolding entry_sound
entry_in r stored m x t e d p =
    rw (ne_eqb e.stage 0 d)
    (and_from _ _
    (and_from _ _
    (and_from _ _ (and_from _ _ (le-leb e.stage 3 p.stage) p.holder) (and_from _ _ p.sender p.slot))
    (implies_in (ltb 1 e.stage) (is_some (own_execution t e.sending)) (λ h. p.named (ltb-true 1 e.stage h))))
    p.number)

-- delivered items
pub record Items (r : Roster) (stored m x : ℕ) (d : Delivered) : Type 0 where
  pub size : length d.items ≡ delivered_most
  pub most : d.count ≤ m
  pub theirs : (member r x || eqb d.count 0) ≡ true
  pub places : (k : ℕ) → k < delivered_most → item_sound r stored d.count k (item_at d k) ≡ true

items_out : (r : Roster) (stored m x : ℕ) (d : Delivered) → length d.items ≡ delivered_most → delivered_sound r stored m x d ≡ true → Items r stored m x d
unfolding delivered_sound
items_out r stored m x d l e =
    let a =
    and3 (leb d.count m) (member r x || eqb d.count 0)
    (every (λ (k : ℕ). item_sound r stored d.count k (item_at d k)) delivered_most) e
    in
    record { size = l; most = leb-true d.count m a.0; theirs = a.1; places = every_at _ _ a.2 }

items_in : {r : Roster} {stored m x : ℕ} {d : Delivered} → Items r stored m x d → delivered_sound r stored m x d ≡ true
unfolding delivered_sound
items_in s = and_from _ _ (and_from _ _ (le-leb _ _ s.most) s.theirs) (every_all _ _ s.places)

-- the whole world
pub record Facts (r : Roster) (m : ℕ) (q : Requests) (ts : List Executions) (os : List Outgoing) (hs : List Hold) (ds : List Delivered) : Type 0 where
  pub roster : good_roster r ≡ true
  pub requests : Stored r q
  pub numbers : Numbers (number_at ts) (servers * executions_most) m
  pub all_tables : length ts ≡ servers
  pub all_packets : length os ≡ servers
  pub all_entries : length hs ≡ servers
  pub all_items : length ds ≡ servers
  pub tables : (s : ℕ) → s < servers → Table r m s (get_or ts s no_table)
  pub packets : (s : ℕ) → s < servers → Packets r q.count s (get_or os s no_packets)
  pub entries : (s : ℕ) → s < servers → Entries r q.count m ts s (get_or hs s no_entries)
  pub items : (s : ℕ) → s < servers → Items r q.count m s (get_or ds s no_items)

abbrev pub FactsOf : World → Type 0
FactsOf w = Facts w.roster w.numbered w.requests w.executions w.outgoing w.holds w.delivered

module _ (w : World) (g : Shaped w) (e : sound w ≡ true) where
  parts : (good_roster w.roster ≡ true) × (requests_sound w.roster w.requests ≡ true) × (numbers_sound w.executions w.numbered ≡ true) × (servers_sound w ≡ true)
  unfolding sound
  parts = and4 (good_roster w.roster) (requests_sound w.roster w.requests) (numbers_sound w.executions w.numbered) (servers_sound w) e

  boxes : (s : ℕ) → s < servers
      → (executions_sound w.roster w.numbered s (executions_of w s) ≡ true) × (outgoing_sound w.roster w.requests.count s (outgoing_of w s) ≡ true)
      × (hold_sound w.roster w.requests.count w.numbered w.executions s (hold_of w s) ≡ true)
      × (delivered_sound w.roster w.requests.count w.numbered s (delivered_of w s) ≡ true)
  unfolding servers_sound server_sound
  boxes s h =
      and4 (executions_sound w.roster w.numbered s (executions_of w s)) (outgoing_sound w.roster w.requests.count s (outgoing_of w s))
      (hold_sound w.roster w.requests.count w.numbered w.executions s (hold_of w s))
      (delivered_sound w.roster w.requests.count w.numbered s (delivered_of w s))
      (every_at (λ (k : ℕ). server_sound w k) servers parts.3 s h)

  tables_of : (s : ℕ) → s < servers → Table w.roster w.numbered s (get_or w.executions s no_table)
  tables_of s h = rw (seat_own s h) at (table_out w.roster w.numbered s (executions_of w s) (g.tables s h) (boxes s h).0)

  packets_of : (s : ℕ) → s < servers → Packets w.roster w.requests.count s (get_or w.outgoing s no_packets)
  packets_of s h = rw (seat_own s h) at (packets_out w.roster w.requests.count s (outgoing_of w s) (g.packets s h) (boxes s h).1)

  entries_of : (s : ℕ) → s < servers → Entries w.roster w.requests.count w.numbered w.executions s (get_or w.holds s no_entries)
  entries_of s h =
      rw (seat_own s h) at (entries_out w.roster w.requests.count w.numbered w.executions s (hold_of w s) (g.entries s h) (boxes s h).2)

  items_of : (s : ℕ) → s < servers → Items w.roster w.requests.count w.numbered s (get_or w.delivered s no_items)
  items_of s h = rw (seat_own s h) at (items_out w.roster w.requests.count w.numbered s (delivered_of w s) (g.items s h) (boxes s h).3)

  pub world_out : FactsOf w
  world_out =
      record {
        roster = parts.0;
        requests = stored_out w.roster w.requests g.slots parts.1;
        numbers = numbers_out w.roster w.numbered w.executions parts.2 tables_of;
        all_tables = g.executions;
        all_packets = g.outgoing;
        all_entries = g.holds;
        all_items = g.delivered;
        tables = tables_of;
        packets = packets_of;
        entries = entries_of;
        items = items_of;
      }

module _ (w : World) (f : FactsOf w) where
  server_in : (s : ℕ) → s < servers → server_sound w s ≡ true
  unfolding server_sound
  server_in s h =
      rw (seat_own s h)
      (and_from _ _
      (and_from _ _
      (and_from _ _ (table_in (f.tables s h)) (packets_in (f.packets s h)))
      (entries_in (f.entries s h)))
      (items_in (f.items s h)))

  pub world_in : sound w ≡ true
  unfolding sound servers_sound
  world_in =
      and_from _ _
      (and_from _ _ (and_from _ _ f.roster (stored_in f.requests)) (numbers_in w.numbered w.executions f.numbers))
      (every_all _ _ server_in)

  pub world_shaped : Shaped w
  world_shaped =
      record {
        slots = f.requests.size;
        executions = f.all_tables;
        outgoing = f.all_packets;
        holds = f.all_entries;
        delivered = f.all_items;
        tables = λ s h. rw (seat_own s h) (f.tables s h).size;
        packets = λ s h. rw (seat_own s h) (f.packets s h).size;
        entries = λ s h. rw (seat_own s h) (f.entries s h).size;
        items = λ s h. rw (seat_own s h) (f.items s h).size;
      }
