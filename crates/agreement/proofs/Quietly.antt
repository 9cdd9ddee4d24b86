-- In a quiet world every correct server has delivered every number. Assumes nothing.
use Rattle.std.specs.Prelude.{None, Option, Some, is_some}
use mathlib.Core.Path.{◌≡◌, refl, sym, ap, subst, ◌∙◌}
use mathlib.Core.Logic.{inl, inr, ◌≢◌}
use mathlib.Core.Bool.{Bool, true, false, cond, not, ◌&&◌, ◌||◌}
use Prim.Native.Nat.{ℕ, ◌+◌, ◌<◌, ◌≤◌}
use native.Mathlib.Omega.{arith}
use lib.Dec.{eqb, ltb}
use lib.ListN.{get_or}
use borrow.Author.Tests.{eq-eqb, ne_eqb, eqb-false, lt-ltb}
use Rattle.std.proofs.lemmas.Bool.{and_from, and_parts, cases_lt, not-true, not_from_false}
use Rattle.world.specs.declared.World.{World}
use Rattle.world.specs.declared.execution.Executions.{Executions}
use Rattle.world.specs.declared.sending.Sending.{Sending}
use Rattle.world.specs.declared.outgoing.Outgoing.{Outgoing}
use Rattle.world.specs.declared.outgoing.Packet.{Packet}
use Rattle.world.specs.declared.hold.Entry.{Entry}
use Rattle.world.specs.Sizes.{servers, outgoing_places, hold_places}
use Rattle.world.specs.Roster.{correct}
use Rattle.world.specs.Executions.{execution_at, execution_of}
use Rattle.world.specs.Outgoing.{packet_at, free_packet}
use Rattle.world.specs.Hold.{entry_at, free_entry}
use Rattle.world.specs.Delivered.{next_of}
use Rattle.world.specs.Boxes.{no_packets}
use Rattle.protocol.specs.Names.{table_of, own_execution}
use Rattle.protocol.specs.Quiet.{outgoing_quiet, is_numbered, stirs, hold_quiet, server_quiet, quiet}
use Rattle.world.proofs.Seats.{seat_own}
use Rattle.search.proofs.Booleans.{apart, either, implies_out}
use Rattle.search.proofs.Every.{every_at}
use Rattle.kept.proofs.Facts.{inside, entry_out}
use Rattle.agreement.proofs.Invariant.{Correct, hold_at, done_at, made, Made, Holds, Under, Belongs, Served, Cause, settled, delivered}
use Rattle.agreement.proofs.Keeping.{holds_less, belongs_at}
use Rattle.agreement.proofs.Moving.{seated, few, keys}
use Rattle.agreement.proofs.Members.{Good, Member, member_of}
use Rattle.agreement.proofs.Sendings.{id_finds}

-- a test of two that fails, where one of them holds
and_no : (a b : Bool) → (a && b) ≡ false → b ≡ true → a ≡ false
and_no true b e h = apart b h e
and_no false b e h = refl

or_no : (a b : Bool) → (a || b) ≡ false → (a ≡ false) × (b ≡ false)
or_no true b e = apart true refl e
or_no false b e = (refl, e)

-- an entry with which its server, whose next number is given, could not go on
record Rests (t : Executions) (next : ℕ) (e : Entry) : Type 0 where
  first : is_some (own_execution t e.sending) ≡ true → e.stage ≢ 1
  second : is_numbered t (own_execution t e.sending) ≡ true → e.stage ≢ 2
  third : e.number ≡ next → e.stage ≢ 3

rests : (t : Executions) (next : ℕ) (e : Entry) → stirs t next e ≡ false → Rests t next e
unfolding stirs
rests t next e h =
    let a = eqb e.stage 1 && is_some (own_execution t e.sending) in
    let b = eqb e.stage 2 && is_numbered t (own_execution t e.sending) in
    let c = eqb e.stage 3 && eqb e.number next in
    let p = or_no (a || b) c h in
    let q = or_no a b p.0 in
    record {
      first = λ y. eqb-false e.stage 1 (and_no (eqb e.stage 1) (is_some (own_execution t e.sending)) q.0 y);
      second = λ y. eqb-false e.stage 2 (and_no (eqb e.stage 2) (is_numbered t (own_execution t e.sending)) q.1 y);
      third = λ y. eqb-false e.stage 3 (and_no (eqb e.stage 3) (eqb e.number next) p.1 (eq-eqb e.number next y));
    }

module _ (w : World) (g : Good w) (q : quiet w ≡ true) where
  server_quiet_lem : (s : ℕ) → s < servers
      → (outgoing_quiet w.roster (get_or w.outgoing s no_packets) ≡ true)
      × (Correct w.roster s → hold_quiet w.executions (next_of (done_at w.delivered s)) (hold_at w.holds s) ≡ true)
  unfolding quiet server_quiet
  server_quiet_lem s h =
      let r = w.roster in
      let a = rw (seat_own s h) at (every_at (λ (s : ℕ). server_quiet w s) servers q s h) in
      let b =
      and_parts (outgoing_quiet r (get_or w.outgoing s no_packets))
      (not (correct r s) || hold_quiet w.executions (next_of (done_at w.delivered s)) (hold_at w.holds s)) a
      in
      (b.0, implies_out (correct r s) (hold_quiet w.executions (next_of (done_at w.delivered s)) (hold_at w.holds s)) b.1)

  -- no packet is under way to a correct server
  no_packet : {p s i sl : ℕ} → Correct w.roster p → Under w.outgoing p s i sl → ⊥
  unfolding outgoing_quiet
  no_packet {p} c u =
      let o = get_or w.outgoing u.origin no_packets in
      let k = packet_at o u.place in
      let y = u.goes.there in
      let a = inside (λ (o : Outgoing). (packet_at o u.place).there ≡ true) w.outgoing u.origin servers no_packets g.facts.all_packets y (λ e. apart false e refl) in
      let b = inside (λ (k : Packet). k.there ≡ true) o.places u.place outgoing_places free_packet (g.facts.packets u.origin a).size y (λ e. apart false e refl) in
      apart (k.there && correct w.roster k.to) (and_from _ _ y (rw u.goes.to c))
      (not-true _ (every_at (λ (k : ℕ). not ((packet_at o k).there && correct w.roster (packet_at o k).to)) outgoing_places (server_quiet_lem u.origin a).0 u.place b))

  -- an entry of a correct server: it is of stage three at most, and its server could not go on with it
  record Idle (p z : ℕ) : Type 0 where
    top : (entry_at (hold_at w.holds p) z).stage ≤ 3
    rest : Rests (table_of w.executions (entry_at (hold_at w.holds p) z).sending.sender) (next_of (done_at w.delivered p)) (entry_at (hold_at w.holds p) z)

  idle : (p z : ℕ) → Correct w.roster p → 1 ≤ (entry_at (hold_at w.holds p) z).stage → Idle p z
  unfolding hold_quiet
  idle p z c up =
      let h = hold_at w.holds p in
      let e = entry_at h z in
      let next = next_of (done_at w.delivered p) in
      let s = seated w g.facts p c in
      let f = g.facts.entries p s in
      let l = inside (λ (e : Entry). 1 ≤ e.stage) h.places z hold_places free_entry f.size up (λ e. omega arith) in
      let y : stirs (table_of w.executions e.sending.sender) next e ≡ false =
      not-true _ (every_at (λ (k : ℕ). not (stirs (table_of w.executions (entry_at h k).sending.sender) next (entry_at h k))) hold_places ((server_quiet_lem p s).1 c) z l)
      in
      record {
        top = (entry_out w.roster w.requests.count w.numbered p _ e (λ z. omega arith) (f.places z l)).stage;
        rest = rests (table_of w.executions e.sending.sender) next e y;
      }

  -- the execution of a sending
  own_at : (e : Sending) {s k : ℕ} → Made w.executions s k → e.sender ≡ s → e.id ≡ (made w.executions s k).id
      → own_execution (table_of w.executions e.sender) e ≡ Some k
  own_at e {s} {k} t a b =
      let own : ℕ → ℕ → Option ℕ = λ (x i : ℕ). cond (ltb x servers) (execution_of (table_of w.executions x) i) None in
      ap (λ (x : ℕ). own x e.id) a ∙ ap (λ (i : ℕ). own s i) b ∙ rw (lt-ltb s servers t.seated) (id_finds w g.facts t)

  own_numbered : (e : Sending) {s k : ℕ} → Made w.executions s k → e.sender ≡ s → e.id ≡ (made w.executions s k).id → (made w.executions s k).number ≢ 0
      → is_numbered (table_of w.executions e.sender) (own_execution (table_of w.executions e.sender) e) ≡ true
  own_numbered e {s} {k} t a b d =
      ap (λ (f : Option ℕ). is_numbered (table_of w.executions e.sender) f) (own_at e t a b)
      ∙ ap (λ (x : ℕ). not (eqb (execution_at (table_of w.executions x) k).number 0)) a
      ∙ rw (seat_own s t.seated) (not_from_false _ (ne_eqb (made w.executions s k).number 0 d))

  module _ (p : ℕ) (c : Correct w.roster p) {s k : ℕ} (t : Made w.executions s k) (some : (made w.executions s k).number ≢ 0) where
    -- so one of a numbered execution is at stage three
    third_stage : {sl : ℕ} → Holds (hold_at w.holds p) 1 s (made w.executions s k).id sl → Holds (hold_at w.holds p) 3 s (made w.executions s k).id sl
    third_stage h =
        let e = entry_at (hold_at w.holds p) h.place in
        let d = idle p h.place c h.is.up in
        let a = d.rest.first (rw (own_at e.sending t h.is.sender h.is.id)) in
        let b = d.rest.second (own_numbered e.sending t h.is.sender h.is.id some) in
        let up = h.is.up in
        record { place = h.place; is = record { up = omega arith; sender = h.is.sender; id = h.is.id; slot = h.is.slot } }

    -- with the execution's number, which is then not the server's next
    not_next : {sl : ℕ} → Holds (hold_at w.holds p) 3 s (made w.executions s k).id sl → (made w.executions s k).number ≢ next_of (done_at w.delivered p)
    not_next h y =
        let e = entry_at (hold_at w.holds p) h.place in
        let up = h.is.up in
        let d = idle p h.place c (omega arith) in
        let top = d.top in
        let b = subst (λ (x : ℕ). Belongs w.requests w.executions x e.sending.id e.sending.slot e.number) h.is.sender (g.inv.third p h.place c up) in
        d.rest.third (sym (belongs_at (keys w g.facts) k b t h.is.id).0 ∙ y) (omega arith)

  -- a numbered sending is spread
  cause : {n : ℕ} → 0 < n → (m : Member w n) → Cause w.roster w.holds w.delivered m.sender (made w.executions m.sender m.place) m.called.slot
  cause some m =
      let e = m.number in
      either m.called.kept
      (λ (h : Holds (hold_at w.holds m.server) 2 m.sender (made w.executions m.sender m.place).id m.called.slot).
      settled m.server m.good (third_stage m.server m.good m.there (λ z. omega arith) (holds_less (omega arith) h)))
      (λ h. delivered m.server m.good h)

  -- but no correct server is served with its next number
  never : (p : ℕ) → Correct w.roster p → (m : Member w ((done_at w.delivered p).count + 1)) → next_of (done_at w.delivered p) ≡ (done_at w.delivered p).count + 1
      → Served w.outgoing (hold_at w.holds p) (made w.executions m.sender m.place) (done_at w.delivered p) m.sender m.called.slot p → ⊥
  never p c m e (inl u) = no_packet c u
  never p c m e (inr (inl h)) =
      let n = m.number in
      let t = m.there in
      let some : (made w.executions m.sender m.place).number ≢ 0 = λ z. omega arith in
      not_next p c t some (third_stage p c t some h) (n ∙ sym e)
  never p c m e (inr (inr d)) = let n = m.number in let r = d.reached in omega arith

  pub all_delivered : (p : ℕ) → Correct w.roster p → (done_at w.delivered p).count ≡ w.numbered
  all_delivered p c =
      let d = done_at w.delivered p in
      let most = few w g.facts p c in
      let top = g.facts.numbers.most in
      either (cases_lt d.count w.numbered)
      (λ (l : d.count < w.numbered).
      let m = member_of w g (d.count + 1) (omega arith) (omega arith) in
      let e : next_of d ≡ d.count + 1 = omega arith in
      absurd (never p c m e (g.inv.spread m.sender m.place m.called.slot m.there m.called.matches (cause (omega arith) m) p c)))
      (λ (l : w.numbered ≤ d.count). omega arith)
