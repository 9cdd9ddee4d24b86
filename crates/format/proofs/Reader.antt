-- What the record reader tells, and the law of the loop that scans a schedule. Assumes nothing.
use Rattle.std.specs.Prelude.{Ok}
use mathlib.Core.Path.{◌≡◌, refl, sym, ◌∙◌}
use mathlib.Core.Bool.{Bool, true, false, cond}
use mathlib.Core.List.{List}
use Prim.Native.Nat.{ℕ, zero, suc, ◌+◌, ◌-◌, ◌<◌, ◌≤◌}
use native.Mathlib.Omega.{arith}
use borrow.Author.Tests.{leb-true, leb-false}
use lib.Dec.{leb}
use lib.ListN.{length}
use Rattle.format.specs.declared.kinds.Kind.{Kind}
use Rattle.format.specs.declared.kinds.Form.{Form}
use Rattle.format.specs.declared.kinds.Form.TheVariants.{Start, Step, Bad}
use Rattle.format.specs.declared.refusal.Refusal.{Refusal}
use Rattle.format.specs.declared.refusal.Refusal.TheVariants.{Cut, NoStart}
use Rattle.format.specs.declared.reading.Read.{Read}
use Rattle.format.specs.declared.reading.Read.TheVariants.{Record, Refused, End}
use Rattle.format.specs.Fields.{byte_at}
use Rattle.format.specs.Records.{form_of, read_by, read_at}
use Rattle.format.proofs.Forms.{step_body}
use Rattle.format.specs.Judging.{refused, scan_by, scan_from, scanned, records_judged}

-- where a whole record lies: it has two bytes at least, its kind and a body of one or more
pub record Known (s : List ℕ) (at b next : ℕ) : Type 0 where
  pub start : b ≡ at + 1
  pub ahead : at + 2 ≤ next
  pub inside : next ≤ length s

-- from two constructors that are never equal anything follows
impossible : (s : List ℕ) (at b next : ℕ) → ◌≡◌ {A = ℕ} 0 1 → Known s at b next
impossible s at b next z = record { start = omega arith; ahead = omega arith; inside = omega arith }

known_fit : (s : List ℕ) (at n b next : ℕ) (k j : Kind) (t : Bool) → 1 ≤ n → t ≡ leb n (length s - (at + 1)) → at < length s
    → cond t (Record k (at + 1) (at + 1 + n)) (Refused Cut) ≡ Record j b next → Known s at b next
known_fit s at n b next k j true m h p r =
    let b' : b ≡ at + 1 = cc in
    let e' : next ≡ at + 1 + n = cc in
    let l : n ≤ length s - (at + 1) = leb-true _ _ (sym h) in
    record { start = b'; ahead = omega arith; inside = omega arith }
known_fit s at n b next k j false m h p r = impossible s at b next (cc)

known_form : (s : List ℕ) (at b next : ℕ) (j : Kind) (f : Form) → form_of (byte_at s at) ≡ f → at < length s → read_by s at f ≡ Record j b next → Known s at b next
unfolding read_by
known_form s at b next j (Step k n) q p r = known_fit s at n b next k j (leb n (length s - (at + 1))) (step_body (byte_at s at) n k q) refl p r
known_form s at b next j (Start n) q p r = impossible s at b next (cc)
known_form s at b next j Bad q p r = impossible s at b next (cc)

known_end : (s : List ℕ) (at b next : ℕ) (j : Kind) (t : Bool) → t ≡ leb (length s) at → cond t End (read_by s at (form_of (byte_at s at))) ≡ Record j b next → Known s at b next
known_end s at b next j true h r = impossible s at b next (cc)
known_end s at b next j false h r = known_form s at b next j (form_of (byte_at s at)) refl (leb-false _ _ (sym h)) r

-- what is known where the reader found a record
pub known : (s : List ℕ) (at b next : ℕ) (j : Kind) → read_at s at ≡ Record j b next → Known s at b next
unfolding read_at
known s at b next j r = known_end s at b next j (leb (length s) at) refl r

-- a scan that has passed k records
pub record Scanning (s : List ℕ) (from at k : ℕ) : Type 0 where
  pub near : k ≤ at
  pub same : scanned s from ≡ scan_from s (length s - k) at k

pub scan_start : (s : List ℕ) (from : ℕ) → Scanning s from from 0
unfolding scanned
scan_start s from = let f : length s - 0 ≡ length s = omega arith in record { near = omega arith; same = rw f }

scan_more : (s : List ℕ) (fuel at k b next : ℕ) (j : Kind) → read_at s at ≡ Record j b next → scan_from s (suc fuel) at k ≡ scan_from s fuel next (k + 1)
unfolding scan_from scan_by
scan_more s fuel at k b next j q = rw q

pub scan_on : (s : List ℕ) (from at k b next : ℕ) (j : Kind) → read_at s at ≡ Record j b next → Scanning s from at k → Scanning s from next (k + 1)
scan_on s from at k b next j q i =
    let o : Known s at b next = known s at b next j q in
    let n : k ≤ at = i.near in
    let f : length s - k ≡ suc (length s - (k + 1)) = omega arith in
    record { near = omega arith; same = i.same ∙ rw f (scan_more s (length s - (k + 1)) at k b next j q) }

-- a scan ends where nothing stands, and where what stands is refused
ends_none : (s : List ℕ) (fuel at k : ℕ) → read_at s at ≡ End → scan_from s fuel at k ≡ Ok k
unfolding scan_from scan_by
ends_none s zero at k q = refl
ends_none s (suc fuel) at k q = rw q

pub scan_accepts : (s : List ℕ) (from at k : ℕ) → Scanning s from at k → read_at s at ≡ End → Ok k ≡ scanned s from
scan_accepts s from at k i q = sym (i.same ∙ ends_none s (length s - k) at k q)

in_by : (s : List ℕ) (at : ℕ) (why : Refusal) (t : Bool) → t ≡ leb (length s) at → cond t End (read_by s at (form_of (byte_at s at))) ≡ Refused why → at < length s
in_by s at why true h r = let z : ◌≡◌ {A = ℕ} 0 1 = cc in omega arith
in_by s at why false h r = leb-false _ _ (sym h)

refused_in : (s : List ℕ) (at : ℕ) (why : Refusal) → read_at s at ≡ Refused why → at < length s
unfolding read_at
refused_in s at why r = in_by s at why (leb (length s) at) refl r

scan_stops : (s : List ℕ) (fuel at k : ℕ) (why : Refusal) → read_at s at ≡ Refused why → scan_from s (suc fuel) at k ≡ refused why at
unfolding scan_from scan_by
scan_stops s fuel at k why q = rw q

pub scan_refuses : (s : List ℕ) (from at k : ℕ) (why : Refusal) → Scanning s from at k → read_at s at ≡ Refused why → refused why at ≡ scanned s from
scan_refuses s from at k why i q =
    let n : k ≤ at = i.near in
    let f : length s - k ≡ suc (length s - (k + 1)) = omega (arith, refused_in s at why q) in
    sym (i.same ∙ rw f (scan_stops s (length s - (k + 1)) at k why q))

-- a record, or none
abbrev pub is_record : Read → ℕ
is_record (Record j b next) = 1
is_record (Refused why) = 0
is_record End = 0

-- what is not a record
pub no_record : (x : Read) → ((k : Kind) (b next : ℕ) → x ≡ Record k b next → ⊥) → is_record x ≡ 0
no_record (Record k b next) h = absurd (h k b next refl)
no_record (Refused why) h = refl
no_record End h = refl

-- nor a refusal's
pub only_end : (x : Read) → ((k : Kind) (b next : ℕ) → x ≡ Record k b next → ⊥) → ((why : Refusal) → x ≡ Refused why → ⊥) → x ≡ End
only_end (Record k b next) g h = absurd (g k b next refl)
only_end (Refused why) g h = absurd (h why refl)
only_end End g h = refl

-- nor a start's
pub no_start : (s : List ℕ) (f : Form) → ((body : ℕ) → f ≡ Start body → ⊥) → refused NoStart 0 ≡ records_judged s f
unfolding records_judged
no_start s (Start body) h = absurd (h body refl)
no_start s (Step k body) h = refl
no_start s Bad h = refl
