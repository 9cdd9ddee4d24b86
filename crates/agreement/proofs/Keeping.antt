-- The invariant stays where one kind of box changes: packets, entries, items, executions or requests. Assumes nothing.
use mathlib.Core.Path.{◌≡◌, refl, sym, ◌∙◌}
use mathlib.Core.Logic.{◌⊎◌, inl, inr}
use mathlib.Core.Bool.{true}
use mathlib.Core.List.{List}
use Prim.Native.Nat.{ℕ, ◌-◌, ◌<◌, ◌≤◌}
use native.Mathlib.Omega.{arith}
use Rattle.world.specs.declared.roster.Roster.{Roster}
use Rattle.world.specs.declared.request.Requests.{Requests}
use Rattle.world.specs.declared.execution.Execution.{Execution}
use Rattle.world.specs.declared.execution.Executions.{Executions}
use Rattle.world.specs.declared.outgoing.Outgoing.{Outgoing}
use Rattle.world.specs.declared.hold.Hold.{Hold}
use Rattle.world.specs.declared.delivered.Delivered.{Delivered}
use Rattle.world.specs.Sizes.{servers}
use Rattle.world.specs.Masks.{has}
use Rattle.world.specs.Requests.{request_at}
use Rattle.search.proofs.Booleans.{either}
use Rattle.agreement.proofs.Invariant.{Correct, hold_at, done_at, made, Made, Matches, Holds, Under, Done, Belongs, Called, Spread, Cause, sender, settled, delivered, Third, Prefix, Inv}

-- what is the same of an execution that the orderer changes
pub record Grown (x y : Execution) : Type 0 where
  pub id : y.id ≡ x.id
  pub digest : y.digest ≡ x.digest
  pub number : 0 < x.number → y.number ≡ x.number
  pub called : (p : ℕ) → has x.called p ≡ true → has y.called p ≡ true

-- what is known of the executions of a sound world
pub record Keys (m : ℕ) (ts : List Executions) : Type 0 where
  pub ids : (s j k : ℕ) → Made ts s j → Made ts s k → (made ts s j).id ≡ (made ts s k).id → j ≡ k
  pub numbers : (s t j k : ℕ) → Made ts s j → Made ts t k → (made ts s j).number ≡ (made ts t k).number → 0 < (made ts s j).number → (s ≡ t) × (j ≡ k)
  pub low : (s k : ℕ) → Made ts s k → (made ts s k).number ≤ m
  pub caller : (s k : ℕ) → Made ts s k → has (made ts s k).called s ≡ true
  pub within : (s k p : ℕ) → p < servers → Made ts s k → has (made ts s k).mask p ≡ true → has (made ts s k).called p ≡ true

-- an entry or a packet at a lower stage
pub holds_less : {h : Hold} {a b s i sl : ℕ} → b ≤ a → Holds h a s i sl → Holds h b s i sl
holds_less l g = let u = g.is.up in record { place = g.place; is = record { up = omega arith; sender = g.is.sender; id = g.is.id; slot = g.is.slot } }

-- a request matches an execution that has grown
pub matches_on : {q : Requests} {sl : ℕ} {x y : Execution} → y.digest ≡ x.digest → Matches q sl x → Matches q sl y
matches_on e m = record { stored = m.stored; same = rw e m.same }

-- the execution of a sending that belongs to a number
pub belongs_at : {q : Requests} {m : ℕ} {ts : List Executions} {s i sl n : ℕ} → Keys m ts → (k : ℕ) → Belongs q ts s i sl n → Made ts s k → i ≡ (made ts s k).id
    → ((made ts s k).number ≡ n) × Matches q sl (made ts s k)
belongs_at {s = s} keys k b h e = let z = keys.ids s b.place k b.there h (b.id ∙ e) in (rw z at b.number, rw z at b.matches)

done_on : {x y : Execution} {c d : Delivered} → (0 < x.number → y.number ≡ x.number) → c.count ≤ d.count → Done x c → Done y d
done_on e l f = let a = f.numbered in let b = f.reached in let n = e a in record { numbered = omega arith; reached = omega arith }

module _ {r : Roster} {q : Requests} {ts : List Executions} {os : List Outgoing} {hs : List Hold} {ds : List Delivered} (v : Inv r q ts os hs ds)
    (one : (a b : ℕ) (x : Execution) → Matches q a x → Matches q b x → a ≡ b) where
  -- packets: one that goes is held
  pub packets_keep : (ns : List Outgoing) → ((p s i sl : ℕ) → Correct r p → Under os p s i sl → Under ns p s i sl ⊎ Holds (hold_at hs p) 1 s i sl) → Inv r q ts ns hs ds
  packets_keep ns goes =
      record {
        calls = v.calls;
        third = v.third;
        prefix = v.prefix;
        spread = λ s k sl m g c p ok.
            either (v.spread s k sl m g c p ok)
            (λ u. either (goes p s _ sl ok u) (λ n. inl n) (λ h. inr (inl h)))
            (λ n. inr n);
      }

  -- entries: one that goes was delivered, or its server has called before
  module _ (ns : List Hold)
      (second : (p s k sl : ℕ) → Correct r p → Made ts s k → Matches q sl (made ts s k) → Holds (hold_at hs p) 2 s (made ts s k).id sl
      → Holds (hold_at ns p) 2 s (made ts s k).id sl ⊎ Done (made ts s k) (done_at ds p))
      (first : (p s k sl : ℕ) → Correct r p → Made ts s k → Matches q sl (made ts s k) → Holds (hold_at hs p) 1 s (made ts s k).id sl
      → Holds (hold_at ns p) 1 s (made ts s k).id sl ⊎ (Done (made ts s k) (done_at ds p) ⊎ (has (made ts s k).called p ≡ true)))
      (third : Third r q ts ns)
      (cause : (p s k sl : ℕ) → Correct r p → Made ts s k → Matches q sl (made ts s k) → Holds (hold_at ns p) 3 s (made ts s k).id sl
      → Holds (hold_at hs p) 3 s (made ts s k).id sl ⊎ Spread r os ns ds s (made ts s k) sl) where
    entry_calls : (s k p : ℕ) → Made ts s k → Correct r p → has (made ts s k).called p ≡ true → Called q (made ts s k) s (hold_at ns p) (done_at ds p) p
    entry_calls s k p m ok c =
        let a = v.calls s k p m ok c in
        record {
          slot = a.slot;
          matches = a.matches;
          seal = a.seal;
          kept = either a.kept (λ h. second p s k a.slot ok m a.matches h) (λ d. inr d);
        }

    entry_called : (s k p sl : ℕ) → Made ts s k → Correct r p → Matches q sl (made ts s k) → has (made ts s k).called p ≡ true
        → Holds (hold_at ns p) 1 s (made ts s k).id sl ⊎ Done (made ts s k) (done_at ds p)
    entry_called s k p sl m ok g c =
        let a = entry_calls s k p m ok c in
        let e = one a.slot sl _ a.matches g in
        either a.kept (λ h. inl (rw e at (holds_less {b = 1} (omega arith) h))) (λ d. inr d)

    entry_spread : (s k sl : ℕ) → Made ts s k → Matches q sl (made ts s k) → Spread r os hs ds s (made ts s k) sl → Spread r os ns ds s (made ts s k) sl
    entry_spread s k sl m g all p ok =
        either (all p ok)
        (λ u. inl u)
        (λ n. inr (either n
        (λ h. either (first p s k sl ok m g h) (λ y. inl y) (λ y. either y (λ d. inr d) (λ c. entry_called s k p sl m ok g c)))
        (λ d. inr d)))

    entry_cause : (s k sl : ℕ) → Made ts s k → Matches q sl (made ts s k) → Cause r ns ds s (made ts s k) sl → Spread r os ns ds s (made ts s k) sl
    entry_cause s k sl m g (sender ok) = entry_spread s k sl m g (v.spread s k sl m g (sender ok))
    entry_cause s k sl m g (settled p ok h) =
        either (cause p s k sl ok m g h) (λ y. entry_spread s k sl m g (v.spread s k sl m g (settled p ok y))) (λ y. y)
    entry_cause s k sl m g (delivered p ok d) = entry_spread s k sl m g (v.spread s k sl m g (delivered p ok d))

    pub entries_keep : Inv r q ts os ns ds
    entries_keep = record { calls = entry_calls; third = third; prefix = v.prefix; spread = entry_cause }

  -- items: more are delivered, and a new one was settled
  pub items_keep : (ns : List Delivered) → ((p : ℕ) → (done_at ds p).count ≤ (done_at ns p).count) → Prefix r q ts ns
      → ((p s k sl : ℕ) → Correct r p → Made ts s k → Matches q sl (made ts s k) → Done (made ts s k) (done_at ns p) → Cause r hs ds s (made ts s k) sl)
      → Inv r q ts os hs ns
  items_keep ns more prefix back =
      record {
        calls = λ s k p m ok c.
            let a = v.calls s k p m ok c in
            record { slot = a.slot; matches = a.matches; seal = a.seal; kept = either a.kept (λ h. inl h) (λ d. inr (done_on (λ _. refl) (more p) d)) };
        third = v.third;
        prefix = prefix;
        spread = λ s k sl m g c p ok.
            either (v.spread s k sl m g (old s k sl m g c) p ok)
            (λ u. inl u)
            (λ n. inr (either n (λ h. inl h) (λ d. inr (done_on (λ _. refl) (more p) d))));
      }
    where
      old : (s k sl : ℕ) → Made ts s k → Matches q sl (made ts s k) → Cause r hs ns s (made ts s k) sl → Cause r hs ds s (made ts s k) sl
      old s k sl m g (sender ok) = sender ok
      old s k sl m g (settled p ok h) = settled p ok h
      old s k sl m g (delivered p ok d) = back p s k sl ok m g d

  -- executions: they grow; a new call is answered for, and so is a new reason to spread
  module _ (ns : List Executions) (there : (s k : ℕ) → Made ts s k → Made ns s k) (grown : (s k : ℕ) → Made ts s k → Grown (made ts s k) (made ns s k)) where
    pub belongs_on : (s i sl n : ℕ) → Belongs q ts s i sl n → Belongs q ns s i sl n
    belongs_on s i sl n b =
        let g = grown s b.place b.there in
        record {
          place = b.place;
          there = there s b.place b.there;
          id = g.id ∙ b.id;
          number = g.number (rw b.number b.some) ∙ b.number;
          some = b.some;
          matches = matches_on g.digest b.matches;
        }

    module _ (calls : (s k p : ℕ) → Made ns s k → Correct r p → has (made ns s k).called p ≡ true
        → (Made ts s k × (has (made ts s k).called p ≡ true)) ⊎ Called q (made ns s k) s (hold_at hs p) (done_at ds p) p)
        (causes : (s k sl : ℕ) → Made ns s k → Matches q sl (made ns s k) → Cause r hs ds s (made ns s k) sl
        → (Made ts s k × Cause r hs ds s (made ts s k) sl) ⊎ Spread r os hs ds s (made ns s k) sl) where
      called_on : (s k p : ℕ) → Made ts s k → Called q (made ts s k) s (hold_at hs p) (done_at ds p) p → Called q (made ns s k) s (hold_at hs p) (done_at ds p) p
      called_on s k p m a =
          let g = grown s k m in
          record {
            slot = a.slot;
            matches = matches_on g.digest a.matches;
            seal = a.seal;
            kept = either a.kept (λ h. inl (rw g.id h)) (λ d. inr (done_on g.number (omega arith) d));
          }

      spread_on : (s k sl : ℕ) → Made ts s k → Spread r os hs ds s (made ts s k) sl → Spread r os hs ds s (made ns s k) sl
      spread_on s k sl m all p ok =
          let g = grown s k m in
          either (all p ok)
          (λ u. inl (rw g.id u))
          (λ n. inr (either n (λ h. inl (rw g.id h)) (λ d. inr (done_on g.number (omega arith) d))))

      pub tables_keep : Inv r q ns os hs ds
      tables_keep =
          record {
            calls = λ s k p m ok c.
                either (calls s k p m ok c) (λ (a : Made ts s k × (has (made ts s k).called p ≡ true)). called_on s k p a.0 (v.calls s k p a.0 ok a.1)) (λ a. a);
            third = λ p z ok l. belongs_on _ _ _ _ (v.third p z ok l);
            prefix = λ p j ok l. belongs_on _ _ _ _ (v.prefix p j ok l);
            spread = λ s k sl m g c.
                either (causes s k sl m g c)
                (λ (a : Made ts s k × Cause r hs ds s (made ts s k) sl).
                spread_on s k sl a.0 (v.spread s k sl a.0 (matches_on (sym (grown s k a.0).digest) g) a.1))
                (λ a. a);
          }

  -- requests: more are stored, and a new one has no digest of a stored one
  module _ (m : ℕ) (keys : Keys m ts) (ns : Requests)
      (stays : (a : ℕ) → a < q.count → (a < ns.count) × (request_at ns a ≡ request_at q a))
      (new : (a b : ℕ) (x : Execution) → Matches q a x → Matches ns b x → b < q.count) where
    pub matches_more : (sl : ℕ) (x : Execution) → Matches q sl x → Matches ns sl x
    matches_more sl x g = let a = stays sl g.stored in record { stored = a.0; same = rw a.1 g.same }

    matches_less : (a sl : ℕ) (x : Execution) → Matches q a x → Matches ns sl x → Matches q sl x
    matches_less a sl x f g = let l = new a sl x f g in record { stored = l; same = rw (stays sl l).1 at g.same }

    pub belongs_more : (s i sl n : ℕ) → Belongs q ts s i sl n → Belongs ns ts s i sl n
    belongs_more s i sl n b =
        record { place = b.place; there = b.there; id = b.id; number = b.number; some = b.some; matches = matches_more sl _ b.matches }

    -- what spreads has a stored request
    caused : (s k sl : ℕ) → Made ts s k → Cause r hs ds s (made ts s k) sl → (a : ℕ) × Matches q a (made ts s k)
    caused s k sl h (sender ok) = let c = v.calls s k s h ok (keys.caller s k h) in (c.slot, c.matches)
    caused s k sl h (settled p ok g) =
        let b = rw g.is.sender at (v.third p g.place ok g.is.up) in
        (_, (belongs_at keys k b h g.is.id).1)
    caused s k sl h (delivered p ok d) =
        let a = d.numbered in
        let c = d.reached in
        let j = (made ts s k).number - 1 in
        let b = v.prefix p j ok (omega arith) in
        let e : (made ts _ b.place).number ≡ (made ts s k).number = b.number ∙ omega arith in
        let z = keys.numbers _ s b.place k b.there h e (rw b.number b.some) in
        (_, rw (z.0, z.1) at b.matches)

    pub requests_keep : Inv r ns ts os hs ds
    requests_keep =
        record {
          calls = λ s k p h ok c.
              let a = v.calls s k p h ok c in
              record { slot = a.slot; matches = matches_more a.slot _ a.matches; seal = rw (stays a.slot a.matches.stored).1 a.seal; kept = a.kept };
          third = λ p z ok l. belongs_more _ _ _ _ (v.third p z ok l);
          prefix = λ p j ok l. belongs_more _ _ _ _ (v.prefix p j ok l);
          spread = λ s k sl h g c. let a = caused s k sl h c in v.spread s k sl h (matches_less a.0 sl _ a.1 g) c;
        }
