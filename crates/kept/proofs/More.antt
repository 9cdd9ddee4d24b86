-- A box stays sound where more requests are stored, more numbers are given and more executions are made. Assumes nothing.
use Rattle.std.specs.Prelude.{None, Option, is_some}
use mathlib.Core.Path.{◌≡◌, refl, ◌∙◌}
use mathlib.Core.Bool.{Bool, true, false, cond}
use mathlib.Core.List.{List}
use Prim.Native.Nat.{ℕ, ◌≤◌}
use native.Mathlib.Omega.{arith}
use lib.Count.{ones}
use lib.Dec.{eqb, ltb, leb}
use borrow.Author.Tests.{eqb-false, leb-true, le-leb, ltb-true, lt-ltb}
use Rattle.std.proofs.lemmas.Bool.{and_from, and_parts}
use Rattle.world.specs.declared.roster.Roster.{Roster}
use Rattle.world.specs.declared.execution.Execution.{Execution}
use Rattle.world.specs.declared.execution.Executions.{Executions}
use Rattle.world.specs.declared.sending.Sending.{Sending}
use Rattle.world.specs.declared.outgoing.Outgoing.{Outgoing}
use Rattle.world.specs.declared.outgoing.Packet.{Packet}
use Rattle.world.specs.declared.hold.Entry.{Entry}
use Rattle.world.specs.declared.hold.Hold.{Hold}
use Rattle.world.specs.declared.delivered.Delivered.{Delivered}
use Rattle.world.specs.Sizes.{servers}
use Rattle.world.specs.Roster.{member, threshold}
use Rattle.world.specs.Executions.{execution_of}
use Rattle.world.specs.Hold.{entry_at}
use Rattle.protocol.specs.Names.{names, table_of}
use Rattle.protocol.specs.Sound.{order_sound, place_sound, packet_sound, stage_sound, entry_sound, item_sound}
use Rattle.search.proofs.Booleans.{test, and3}
use Rattle.kept.proofs.Facts.{Table, Made, Packets, Entries, Items, place_in, place_out, entry_in, entry_out}

slot_more : (slot stored more : ℕ) → stored ≤ more → ltb slot stored ≡ true → ltb slot more ≡ true
slot_more slot stored more h e = lt-ltb slot more (omega (arith, ltb-true slot stored e))

names_more : (r : Roster) (stored more : ℕ) (s : Sending) → stored ≤ more → names r stored s ≡ true → names r more s ≡ true
names_more r stored more s h e =
    let a = and_parts (member r s.sender) (ltb s.slot stored) e in
    and_from _ _ a.0 (slot_more s.slot stored more h a.1)

pub order_more : (r : Roster) (m n : ℕ) (x : Execution) → m ≤ n → order_sound r m x ≡ true → order_sound r n x ≡ true
unfolding order_sound
order_more r m n x h e =
    test (eqb x.number 0)
    (λ z. rw z (rw z at e))
    (λ z.
    let a = and_parts (eqb (ones x.mask) (threshold r)) (leb x.number m) (rw z at e) in
    let l = leb-true x.number m a.1 in
    rw z (and_from _ _ a.0 (le-leb x.number n (omega arith))))

made_more : {r : Roster} {m n s k : ℕ} {x : Execution} → m ≤ n → Made r m s k x → Made r n s k x
made_more {r} {m} {n} {x = x} h f = record { masks = f.masks; order = order_more r m n x h f.order; gapless = f.gapless }

-- with a greater M, and with another count that the place lies on the same side of
pub place_more : (r : Roster) (m n s c d k : ℕ) (x : Execution) → m ≤ n → ltb k c ≡ ltb k d → place_sound r m s c k x ≡ true → place_sound r n s d k x ≡ true
unfolding place_sound
place_more r m n s c d k x h same e =
    test (ltb k d)
    (λ z. place_in r n s d k x (ltb-true k d z) (made_more h (place_out r m s c k x (ltb-true k c (same ∙ z)) e)))
    (λ z. let y = same ∙ z in rw z (rw y at e))

pub table_more : {r : Roster} {m n s : ℕ} {t : Executions} → m ≤ n → Table r m s t → Table r n s t
table_more {r} {m} {n} {s} {t} h f =
    record {
      size = f.size;
      most = f.most;
      theirs = f.theirs;
      places = λ k p. place_more r m n s t.count t.count k _ h refl (f.places k p);
      new = f.new;
    }

packet_more : (r : Roster) (stored more x : ℕ) (p : Packet) → stored ≤ more → packet_sound r stored x p ≡ true → packet_sound r more x p ≡ true
unfolding packet_sound
packet_more r stored more x p h e =
    test p.there
    (λ z.
    let a = and3 (member r x) (member r p.to) (names r stored p.sending) (rw z at e) in
    rw z (and_from _ _ (and_from _ _ a.0 a.1) (names_more r stored more p.sending h a.2)))
    (λ z. rw z (rw z at e))

pub packets_more : {r : Roster} {stored more x : ℕ} {o : Outgoing} → stored ≤ more → Packets r stored x o → Packets r more x o
packets_more {r} {stored} {more} {x} h f = record { size = f.size; places = λ k p. packet_more r stored more x _ h (f.places k p) }

-- no execution is lost
abbrev pub Grows : Executions → Executions → Type 0
Grows t u = (id : ℕ) → is_some (execution_of t id) ≡ true → is_some (execution_of u id) ≡ true

own_by : (b : Bool) (f g : Option ℕ) → (is_some f ≡ true → is_some g ≡ true) → is_some (cond b f None) ≡ true → is_some (cond b g None) ≡ true
own_by true f g h e = h e
own_by false f g h e = e

stage_more : (m n : ℕ) (e : Entry) → m ≤ n → stage_sound m e ≡ true → stage_sound n e ≡ true
unfolding stage_sound
stage_more m n e h p =
    test (eqb e.stage 3)
    (λ z.
    let a = and_parts (leb 1 e.number) (leb e.number m) (rw z at p) in
    let l = leb-true e.number m a.1 in
    rw z (and_from _ _ a.0 (le-leb e.number n (omega arith))))
    (λ z. rw z (rw z at p))

entry_more : (r : Roster) (stored more m n x : ℕ) (t u : Executions) (e : Entry) → stored ≤ more → m ≤ n → Grows t u
    → entry_sound r stored m x t e ≡ true → entry_sound r more n x u e ≡ true
unfolding entry_sound
entry_more r stored more m n x t u e h k g p =
    test (eqb e.stage 0)
    (λ z. rw z (rw z at p))
    (λ z.
    let d = eqb-false e.stage 0 z in
    let a = entry_out r stored m x t e d p in
    entry_in r more n x u e d
    (record {
      stage = a.stage;
      holder = a.holder;
      sender = a.sender;
      slot = slot_more e.sending.slot stored more h a.slot;
      named = λ l.
          own_by (ltb e.sending.sender servers) (execution_of t e.sending.id) (execution_of u e.sending.id) (g e.sending.id) (a.named l);
      number = stage_more m n e k a.number;
    }))

pub entries_more : {r : Roster} {stored more m n : ℕ} {ts us : List Executions} {x : ℕ} {h : Hold} → stored ≤ more → m ≤ n
    → ((s : ℕ) → Grows (table_of ts s) (table_of us s)) → Entries r stored m ts x h → Entries r more n us x h
entries_more {r} {stored} {more} {m} {n} {x = x} {h = h} p q g f =
    record { size = f.size; places = λ k l. entry_more r stored more m n x _ _ (entry_at h k) p q (g (entry_at h k).sending.sender) (f.places k l) }

item_more : (r : Roster) (stored more c k : ℕ) (s : Sending) → stored ≤ more → item_sound r stored c k s ≡ true → item_sound r more c k s ≡ true
unfolding item_sound
item_more r stored more c k s h e =
    test (ltb k c) (λ z. rw z (names_more r stored more s h (rw z at e))) (λ z. rw z (rw z at e))

pub items_more : {r : Roster} {stored more m n x : ℕ} {d : Delivered} → stored ≤ more → m ≤ n → Items r stored m x d → Items r more n x d
items_more {r} {stored} {more} {d = d} p q f =
    record {
      size = f.size;
      most = omega (arith, f.most);
      theirs = f.theirs;
      places = λ k l. item_more r stored more d.count k _ p (f.places k l);
    }
