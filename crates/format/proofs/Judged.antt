-- What it means that a schedule is accepted, and where a refused one is refused. Assumes nothing.
use Rattle.std.specs.Prelude.{Ok, Err}
use mathlib.Core.Path.{◌≡◌, refl, ap, ◌∙◌}
use mathlib.Core.Bool.{Bool, true, false}
use mathlib.Core.List.{List}
use Prim.Native.Nat.{ℕ, zero, suc, ◌+◌, ◌-◌, ◌*◌, ◌≤◌}
use native.Mathlib.Omega.{arith}
use borrow.Author.Tests.{leb-true, le-leb}
use lib.Dec.{leb}
use lib.ListN.{length}
use Rattle.search.specs.Tests.{must}
use Rattle.world.specs.Roster.{good_roster}
use Rattle.format.specs.declared.kinds.Form.{Form}
use Rattle.format.specs.declared.kinds.Form.TheVariants.{Start, Step, Bad}
use Rattle.format.specs.declared.refusal.Refusal.{Refusal}
use Rattle.format.specs.declared.refusal.Refusal.TheVariants.{TooLong, Cut, BadStart}
use Rattle.format.specs.declared.refusal.Refused.{Refused}
use Rattle.format.specs.declared.reading.Read.{Read}
use Rattle.format.specs.declared.reading.Read.TheVariants as read
use Rattle.format.specs.Fields.{byte_at}
use Rattle.format.specs.Records.{start_body, start_bytes, form_of, read_at, Asked, asked_by, asked_after, asked}
use Rattle.format.specs.Judging.{schedule_most, Verdict, refused, scan_by, scan_from, scanned, start_roster, start_judged, records_judged, judged, AcceptedMeans, RefusedThere, RecordsFirst}
use Rattle.format.proofs.Forms.{start_body_lem}
use Rattle.format.proofs.Reader.{known}

-- a refusal is no acceptance
pub never : {A : Type 0} {why : Refusal} {at k : ℕ} → refused why at ≡ Ok k → A
never e = let z : ◌≡◌ {A = ℕ} 0 1 = cc in absurd (omega arith)

never_back : {A : Type 0} {why : Refusal} {at k : ℕ} → Ok k ≡ refused why at → A
never_back e = let z : ◌≡◌ {A = ℕ} 0 1 = cc in absurd (omega arith)

-- a test before an acceptance was passed
pub must_accepts : (t : Bool) (why : Refusal) (at n : ℕ) (v : Verdict) → must t (refused why at) v ≡ Ok n → (t ≡ true) × (v ≡ Ok n)
unfolding must
must_accepts true why at n v e = (refl, e)
must_accepts false why at n v e = never e

-- a scan that accepts has counted the records
count_by : (s : List ℕ) (x : Read) (at k n : ℕ) (more : ℕ → Verdict) (rest : ℕ → List Asked) → ((next : ℕ) → more next ≡ Ok n → n ≡ k + 1 + length (rest next))
    → scan_by more x at k ≡ Ok n → n ≡ k + length (asked_by rest s x)
unfolding scan_by asked_by
count_by s (read.Record j b next) at k n more rest h e = h next e ∙ omega arith
count_by s (read.Refused why) at k n more rest h e = never e
count_by s read.End at k n more rest h e = let z : k ≡ n = cc in omega arith

count_from : (s : List ℕ) (fuel at k n : ℕ) → scan_from s fuel at k ≡ Ok n → n ≡ k + length (asked_after s fuel at)
unfolding scan_from asked_after
count_from s zero at k n e = let z : k ≡ n = cc in omega arith
count_from s (suc fuel) at k n e = count_by s (read_at s at) at k n _ _ (λ next d. count_from s fuel next (k + 1) n d) e

scan_count : (s : List ℕ) (n : ℕ) → scanned s start_bytes ≡ Ok n → n ≡ length (asked s)
unfolding scanned
scan_count s n e = count_from s (length s) start_bytes 0 n e ∙ omega arith

-- the start's tests, the first record's, and the length's
started : (s : List ℕ) (n : ℕ) (v : Verdict) → start_judged s v ≡ Ok n → (good_roster (start_roster s) ≡ true) × (v ≡ Ok n)
started s n (Ok k) e = must_accepts (good_roster (start_roster s)) BadStart 0 n (Ok k) e
started s n (Err x) e = never e

formed : (s : List ℕ) (n : ℕ) (f : Form) → form_of (byte_at s 0) ≡ f → records_judged s f ≡ Ok n
    → (good_roster (start_roster s) ≡ true) × (scanned s start_bytes ≡ Ok n)
unfolding records_judged
formed s n (Start b) q e =
    let z : b ≡ start_body = start_body_lem (byte_at s 0) b q in
    started s n (scanned s start_bytes) (must_accepts (leb start_body (length s - 1)) Cut 0 n _ (rw z at e)).1
formed s n (Step k b) q e = never e
formed s n Bad q e = never e

pub accepted_means : AcceptedMeans
unfolding judged
accepted_means s n e =
    let m = must_accepts (leb (length s) schedule_most) TooLong 0 n (records_judged s (form_of (byte_at s 0))) e in
    let f = formed s n (form_of (byte_at s 0)) refl m.1 in
    record { short = leb-true _ _ m.0; good = f.0; count = scan_count s n f.1 }

-- a refused record
there_by : (s : List ℕ) (x : Read) (at k to : ℕ) (why : Refusal) (more : ℕ → Verdict) → read_at s at ≡ x
    → ((next : ℕ) → more next ≡ refused why to → read_at s to ≡ read.Refused why) → scan_by more x at k ≡ refused why to → read_at s to ≡ read.Refused why
unfolding scan_by
there_by s (read.Record j b next) at k to why more q h e = h next e
there_by s (read.Refused y) at k to why more q h e =
    let r : ◌≡◌ {A = Refused} (record { why = y; offset = at }) (record { why = why; offset = to }) = cc in
    rw (← ap (λ (x : Refused). x.offset) r) (q ∙ ap (λ (x : Refused). read.Refused x.why) r)
there_by s read.End at k to why more q h e = never_back e

there_from : (s : List ℕ) (fuel at k to : ℕ) (why : Refusal) → scan_from s fuel at k ≡ refused why to → read_at s to ≡ read.Refused why
unfolding scan_from
there_from s zero at k to why e = never_back e
there_from s (suc fuel) at k to why e = there_by s (read_at s at) at k to why _ refl (λ next d. there_from s fuel next (k + 1) to why d) e

pub refused_there : RefusedThere
unfolding scanned
refused_there s from at why e = there_from s (length s) from 0 at why e

pub records_first : RecordsFirst
unfolding judged records_judged form_of must
records_first s at why h m q e = rw (le-leb _ _ h, q, le-leb start_body (length s - 1) (omega arith), e)

-- there are no more records than half the bytes
few_by : (s : List ℕ) (at : ℕ) (x : Read) (more : ℕ → List Asked) → read_at s at ≡ x → ((next : ℕ) → length (more next) * 2 ≤ length s - next)
    → length (asked_by more s x) * 2 ≤ length s - at
unfolding asked_by
few_by s at (read.Record k b next) more e h =
    let o = known s at b next k e in
    omega (arith, h next, o.ahead, o.inside)
few_by s at (read.Refused why) more e h = omega arith
few_by s at read.End more e h = omega arith

few_from : (s : List ℕ) (fuel at : ℕ) → length (asked_after s fuel at) * 2 ≤ length s - at
unfolding asked_after
few_from s zero at = omega arith
few_from s (suc fuel) at = few_by s at (read_at s at) _ refl (few_from s fuel)

pub few_records : (s : List ℕ) → length (asked s) * 2 ≤ length s
few_records s = omega (arith, few_from s (length s) start_bytes)
