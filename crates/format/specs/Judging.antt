-- Document 01, "Refusing a whole schedule": tests 20 to 25, in its order.
use Rattle.std.specs.Prelude.{ℕ, zero, suc, ◌+◌, ◌-◌, ◌≤◌, ◌≡◌, true, List, leb, length, Result, Ok, Err}
use Rattle.world.specs.declared.roster.Roster.{Roster}
use Rattle.world.specs.Roster.{good_roster}
use Rattle.search.specs.Tests.{must}
use Rattle.format.specs.declared.kinds.Form.{Form}
use Rattle.format.specs.declared.kinds.Form.TheVariants.{Start, Step, Bad}
use Rattle.format.specs.declared.refusal.Refusal.{Refusal}
use Rattle.format.specs.declared.refusal.Refusal.TheVariants.{TooLong, NoStart, BadKind, SecondStart, Cut}
use Rattle.format.specs.declared.refusal.Refusal.TheVariants.{BadStart, OutSmall, BadWorld}
use Rattle.format.specs.declared.reading.Read.{Read}
use Rattle.format.specs.declared.reading.Read.TheVariants as read
use Rattle.format.specs.declared.refusal.Refused.{Refused}
use Rattle.format.specs.Fields.{byte_at}
use Rattle.format.specs.Records.{start_bytes, form_of, read_at, asked}

abbrev pub refusal_code : Refusal → ℕ
refusal_code TooLong = 20
refusal_code NoStart = 21
refusal_code BadKind = 22
refusal_code SecondStart = 23
refusal_code Cut = 24
refusal_code BadStart = 25
refusal_code OutSmall = 26
refusal_code BadWorld = 27

abbrev pub schedule_most : ℕ
schedule_most = 32768

-- A schedule's fate: how many records it has after the start, or why it is refused, and the offset
abbrev pub Verdict : Type 0
Verdict = Result ℕ Refused

abbrev pub refused : Refusal → ℕ → Verdict
refused why at = Err (record { why = why; offset = at })

-- 22 to 24: the first record that is refused decides, with its offset. After k records, by what stands at an offset;
-- `fuel` is at least the number of bytes that are left
unfoldable pub scan_by : (ℕ → Verdict) → Read → ℕ → ℕ → Verdict
scan_by more (read.Record kind b next) at k = more next
scan_by more (read.Refused why) at k = refused why at
scan_by more read.End at k = Ok k

unfoldable pub scan_from : List ℕ → ℕ → ℕ → ℕ → Verdict
scan_from s zero at k = Ok k
scan_from s (suc fuel) at k = scan_by (λ (next : ℕ). scan_from s fuel next (k + 1)) (read_at s at) at k

unfoldable pub scanned : List ℕ → ℕ → Verdict
scanned s from = scan_from s (length s) from 0

-- who takes part, by the start's body
abbrev pub start_roster : List ℕ → Roster
start_roster s = record { n = byte_at s 1; faulty = byte_at s 2 }

-- 25 comes after 22 to 24 anywhere in the schedule
abbrev pub start_judged : List ℕ → Verdict → Verdict
start_judged s (Ok k) = must (good_roster (start_roster s)) (refused BadStart 0) (Ok k)
start_judged s (Err e) = Err e

-- 21 and a cut start
unfoldable pub records_judged : List ℕ → Form → Verdict
records_judged s (Start body) = must (leb body (length s - 1)) (refused Cut 0) (start_judged s (scanned s (1 + body)))
records_judged s (Step kind body) = refused NoStart 0
records_judged s Bad = refused NoStart 0

unfoldable pub judged : List ℕ → Verdict
judged s = must (leb (length s) schedule_most) (refused TooLong 0) (records_judged s (form_of (byte_at s 0)))

-- What the tests say, as promises (proofs/Judged): an accepted schedule is short, its start is good, and its count is
-- that of the records that are asked for
pub record Accepts (s : List ℕ) (n : ℕ) : Type 0 where
  pub short : length s ≤ schedule_most
  pub good : good_roster (start_roster s) ≡ true
  pub count : n ≡ length (asked s)

abbrev pub AcceptedMeans : Type 0
AcceptedMeans = (s : List ℕ) (n : ℕ) → judged s ≡ Ok n → Accepts s n

-- a record that is refused stands at the offset that is told
abbrev pub RefusedThere : Type 0
RefusedThere =
    (s : List ℕ) (from at : ℕ) (why : Refusal) → scanned s from ≡ refused why at → read_at s at ≡ read.Refused why

-- and it decides before the start's own fields are looked at
abbrev pub RecordsFirst : Type 0
RecordsFirst =
    (s : List ℕ) (at : ℕ) (why : Refusal) → length s ≤ schedule_most → start_bytes ≤ length s → byte_at s 0 ≡ 1
    → scanned s start_bytes ≡ refused why at → judged s ≡ refused why at
