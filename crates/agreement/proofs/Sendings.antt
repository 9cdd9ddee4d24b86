-- Each number is that of one execution, and the sending of a number is the one that belongs to it. Assumes nothing.
use Rattle.std.specs.Prelude.{Some}
use mathlib.Core.Path.{◌≡◌, refl, sym, ap, subst, ◌∙◌}
use mathlib.Core.Logic.{◌≢◌}
use mathlib.Core.Bool.{◌&&◌}
use mathlib.Core.List.{List, [], ◌∷◌, ◌++◌}
use Prim.Native.Nat.{ℕ, zero, suc, ◌+◌, ◌*◌, ◌/◌, ◌%◌, ◌<◌, ◌≤◌}
use native.Mathlib.Omega.{arith}
use lib.Dec.{eqb, ltb}
use lib.ListN.{length, get_or, take, drop, length-append, take-append-drop, get_or-append}
use lib.Seq.{length-take-le, ext_get_or, get_or-take, get_or_at}
use borrow.Author.Tests.{eq-eqb, eqb-true, ltb-true, lt-ltb, le-ltb}
use Rattle.std.proofs.lemmas.Bool.{and_from, and_parts, cases_eq, cases_lt}
use Rattle.world.specs.declared.World.{World}
use Rattle.world.specs.declared.request.Requests.{Requests}
use Rattle.world.specs.declared.execution.Execution.{Execution}
use Rattle.world.specs.declared.execution.Executions.{Executions}
use Rattle.world.specs.declared.sending.Sending.{Sending}
use Rattle.world.specs.Sizes.{servers, requests_most, executions_most}
use Rattle.world.specs.Requests.{request_at, same_digest}
use Rattle.world.specs.Executions.{execution_at, execution_of}
use Rattle.world.specs.Sending.{no_sending}
use Rattle.protocol.specs.Names.{table_of}
use Rattle.protocol.specs.Sound.{number_at}
use Rattle.world.proofs.Seats.{seat_own}
use Rattle.search.proofs.Booleans.{either}
use Rattle.kept.proofs.Facts.{FactsOf, place_unused}
use Rattle.kept.proofs.Ordering.{ids_differ}
use Rattle.agreement.specs.Agreement.{place_of, numbered_at, slot_of, sending_of, sendings_to, Begins}
use Rattle.agreement.proofs.Invariant.{table_at, made, Made, Matches, Belongs}
use Rattle.agreement.proofs.Digests.{matches_one}
use Rattle.agreement.proofs.Numbering.{first_one, number_one, number_some}

-- the place that a count of executions, one sender after the other, comes to
record Index (i s k : ℕ) : Type 0 where
  sender : i / executions_most ≡ s
  place : i % executions_most ≡ k

placed : (ts : List Executions) {i s k : ℕ} → s < servers → Index i s k → execution_at (table_of ts (i / executions_most)) (i % executions_most) ≡ made ts s k
placed ts {i} {s} {k} h z =
    ap (λ (x : ℕ). execution_at (table_of ts x) (i % executions_most)) z.sender
    ∙ ap (λ (x : ℕ). execution_at (table_of ts s) x) z.place
    ∙ ap (λ (x : ℕ). made ts x k) (seat_own s h)

-- a sender's execution, as a server would deliver it
abbrev sending_by : Requests → Execution → ℕ → Sending
sending_by q x s = record { id = x.id; sender = s; slot = slot_of q x.digest }

sendings_by : (q : Requests) (ts : List Executions) {i s k : ℕ} → s < servers → Index i s k
    → sending_by q (execution_at (table_of ts (i / executions_most)) (i % executions_most)) (i / executions_most) ≡ sending_by q (made ts s k) s
sendings_by q ts {i} {s} {k} h z =
    ap (λ (x : Execution). sending_by q x (i / executions_most)) (placed ts h z) ∙ ap (λ (y : ℕ). sending_by q (made ts s k) y) z.sender

abbrev index : ℕ → ℕ → ℕ
index s k = s * executions_most + k

index_of : (s k : ℕ) → k < executions_most → Index (index s k) s k
index_of s k h = record { sender = omega arith; place = omega arith }

-- an execution that has a number
pub record Given (ts : List Executions) (n : ℕ) : Type 0 where
  pub sender : ℕ
  pub place : ℕ
  pub there : Made ts sender place
  pub number : (made ts sender place).number ≡ n

module _ (w : World) (f : FactsOf w) where
  within : {s k : ℕ} → Made w.executions s k → k < executions_most
  within {s} {k} t = let top = (f.tables s t.seated).most in let u = t.used in omega arith

  number_of : {s k : ℕ} → Made w.executions s k → number_at w.executions (index s k) ≡ (made w.executions s k).number
  number_of {s} {k} t = ap (λ (x : Execution). x.number) (placed w.executions t.seated (index_of s k (within t)))

  -- the count of an execution among those of all senders
  counted : {s k i : ℕ} → Made w.executions s k → i < servers * executions_most → number_at w.executions i ≡ (made w.executions s k).number
      → 0 < (made w.executions s k).number → i ≡ index s k
  counted {s} {k} {i} t h e some =
      let a = t.seated in
      let b = within t in
      number_one f.numbers i (index s k) h (omega arith) (e ∙ sym (number_of t)) (λ z. omega arith)

  -- two executions that have one number are the same
  pub made_one : {s k x y : ℕ} → Made w.executions s k → Made w.executions x y → (made w.executions s k).number ≡ (made w.executions x y).number
      → 0 < (made w.executions s k).number → (s ≡ x) × (k ≡ y)
  made_one {s} {k} {x} {y} a b e some =
      let i = within a in
      let j = within b in
      let c = b.seated in
      let z : index x y ≡ index s k = counted a (omega arith) (number_of b ∙ sym e) some in
      omega arith

  -- each number is given to an execution
  pub given : (n : ℕ) → 0 < n → n ≤ w.numbered → Given w.executions n
  given n a b =
      let g = number_some f.numbers n a b in
      let i = g.0 in
      let h = g.1 in
      let s = i / executions_most in
      let k = i % executions_most in
      let l : s < servers = omega arith in
      let z : Index i s k = record { sender = refl; place = refl } in
      let e : (made w.executions s k).number ≡ n = ap (λ (x : Execution). x.number) (sym (placed w.executions l z)) ∙ g.2 in
      either (cases_lt k (table_at w.executions s).count)
      (λ (u : k < (table_at w.executions s).count). record { sender = s; place = k; there = record { seated = l; used = u }; number = e })
      (λ (u : (table_at w.executions s).count ≤ k).
      let o = place_unused w.roster w.numbered s _ k _ (le-ltb k _ u) ((f.tables s l).places k (omega arith)) in
      absurd (omega arith))

  -- two executions of a sender that have one id are the same
  pub id_one : {s k y : ℕ} → Made w.executions s k → Made w.executions s y → (made w.executions s k).id ≡ (made w.executions s y).id → k ≡ y
  id_one {s} {k} {y} a b e =
      either (cases_eq k y) (λ (z : k ≡ y). z) (λ (z : k ≢ y). absurd (ids_differ (f.tables s a.seated) k y a.used b.used z e))

  -- an execution's id finds it
  pub id_finds : {s k : ℕ} → Made w.executions s k → execution_of (table_at w.executions s) (made w.executions s k).id ≡ Some k
  id_finds {s} {k} t =
      let v = table_at w.executions s in
      let id = (execution_at v k).id in
      first_one (λ (j : ℕ). ltb j v.count && eqb (execution_at v j).id id) executions_most k (within t)
      (and_from _ _ (lt-ltb k v.count t.used) (eq-eqb id id refl))
      (λ i h e.
      let a = and_parts (ltb i v.count) (eqb (execution_at v i).id id) e in
      id_one (record { seated = t.seated; used = ltb-true i v.count a.0 }) t (eqb-true (execution_at v i).id id a.1))

  -- a number finds its execution
  numbered_at_lem : {s k n : ℕ} → Made w.executions s k → (made w.executions s k).number ≡ n → 0 < n → numbered_at w.executions n ≡ index s k
  numbered_at_lem {s} {k} {n} t e some =
      let a = t.seated in
      let b = within t in
      ap place_of
      (first_one (λ (i : ℕ). eqb (number_at w.executions i) n) (servers * executions_most) (index s k) (omega arith)
      (eq-eqb (number_at w.executions (index s k)) n (number_of t ∙ e))
      (λ i h y. counted t h (eqb-true (number_at w.executions i) n y ∙ sym e) (omega arith)))

  -- and an execution's digest the slot of its request
  slot_of_lem : {slot : ℕ} {x : Execution} → Matches w.requests slot x → slot_of w.requests x.digest ≡ slot
  slot_of_lem {slot} {x} m =
      let q = w.requests in
      let l = m.stored in
      let top = f.requests.most in
      ap place_of
      (first_one (λ (k : ℕ). ltb k q.count && same_digest (request_at q k).digest x.digest) requests_most slot (omega arith)
      (and_from _ _ (lt-ltb slot q.count l) m.same)
      (λ i _ e.
      let a = and_parts (ltb i q.count) (same_digest (request_at q i).digest x.digest) e in
      matches_one f.requests i slot (record { stored = ltb-true i q.count a.0; same = a.1 }) m))

  -- the sending that belongs to a number is that number's
  pub sending_of_lem : {s i sl n : ℕ} → Belongs w.requests w.executions s i sl n → sending_of w n ≡ record { id = i; sender = s; slot = sl }
  unfolding sending_of
  sending_of_lem {s} {i} {sl} {n} b =
      let x = made w.executions s b.place in
      let t = b.there in
      let z : Index (numbered_at w.executions n) s b.place =
      subst (λ (j : ℕ). Index j s b.place) (sym (numbered_at_lem t b.number b.some)) (index_of s b.place (within t))
      in
      sendings_by w.requests w.executions t.seated z
      ∙ ap (λ (j : ℕ). record { id = j; sender = s; slot = slot_of w.requests x.digest }) b.id
      ∙ ap (λ (j : ℕ). record { id = i; sender = s; slot = j }) (slot_of_lem b.matches)

pub sendings_length : (w : World) (m : ℕ) → length (sendings_to w m) ≡ m
unfolding sendings_to
sendings_length w zero = refl
sendings_length w (suc m) = length-append (sendings_to w m) (sending_of w (m + 1) ∷ []) ∙ (let a = sendings_length w m in omega arith)

pub sendings_at : (w : World) (m k : ℕ) → k < m → get_or (sendings_to w m) k no_sending ≡ sending_of w (k + 1)
unfolding sendings_to
sendings_at w zero k h = absurd (omega arith)
sendings_at w (suc m) k h =
    let l = sendings_length w m in
    either (cases_eq k m)
    (λ (e : k ≡ m). rw e (get_or_at (sendings_to w m) (sending_of w (m + 1)) [] no_sending m l))
    (λ (e : k ≢ m). get_or-append (sendings_to w m) (sending_of w (m + 1) ∷ []) no_sending k (omega arith) ∙ sendings_at w m k (omega arith))

-- a list that agrees with a longer one at each of its places is a beginning of it
pub begins_by : (l all : List Sending) → length l ≤ length all → ((k : ℕ) → k < length l → get_or l k no_sending ≡ get_or all k no_sending) → Begins l all
begins_by l all h e =
    let t : length (take (length l) all) ≡ length l = length-take-le (length l) all h in
    let same : l ≡ take (length l) all =
    ext_get_or no_sending l (take (length l) all) (sym t) (λ k p. e k p ∙ sym (get_or-take (length l) all k no_sending p))
    in
    record { rest = drop (length l) all; whole = ap (λ (x : List Sending). x ++ drop (length l) all) same ∙ take-append-drop (length l) all }
