-- Starts, single steps and runs. Document 01, "Refusing a whole schedule".
use Rattle.std.specs.Prelude.{ℕ, List, ◌++◌, leb, length, drop, Result, Ok, Err}
use Rattle.search.specs.Tests.{must}
use Rattle.world.specs.declared.World.{World}
use Rattle.world.specs.Roster.{good_roster}
use Rattle.world.specs.Fresh.{fresh_world}
use Rattle.protocol.specs.Sound.{sound}
use Rattle.format.specs.declared.refusal.Refusal.{Refusal}
use Rattle.format.specs.declared.refusal.Refused.{Refused}
use Rattle.format.specs.declared.refusal.Refusal.TheVariants.{Cut, BadStart, OutSmall, BadWorld}
use Rattle.format.specs.declared.reading.Read.{Read}
use Rattle.format.specs.declared.reading.Read.TheVariants as read
use Rattle.format.specs.Fields.{byte_at}
use Rattle.format.specs.Records.{read_at, asked_from, asked}
use Rattle.format.specs.Judging.{refusal_code, Verdict, refused, judged}
use Rattle.protocol.specs.declared.ending.Outcome.{Outcome}
use Rattle.protocol.specs.declared.ending.Ran.{Ran}
use Rattle.protocol.specs.declared.ending.Stepped.{Stepped}
use Rattle.protocol.specs.Answers.{answer_code}
use Rattle.protocol.specs.Steps.{ends, step_of, world_after, answers_of}

-- a world of zeros
abbrev pub no_world : World
no_world = fresh_world 0 0

-- a public start: a fresh world, or 25 and a world of zeros
unfoldable pub start_of : ℕ → ℕ → Outcome
start_of n faulty =
    must (good_roster (record { n = n; faulty = faulty })) (ends (refusal_code BadStart) no_world)
    (ends 0 (fresh_world n faulty))

-- a public step, by a world and the bytes that begin with its record: 27 where the world is not sound, 24 where there
-- is no byte, then the reader's 22, 23 and 24; each leaves the world as it was. What follows the record is not looked
-- at.
unfoldable pub public_step_by : World → List ℕ → Read → Outcome
public_step_by w s (read.Record kind b next) = step_of w (asked_from kind s b)
public_step_by w s (read.Refused why) = ends (refusal_code why) w
public_step_by w s read.End = ends (refusal_code Cut) w

unfoldable pub public_step : World → List ℕ → Outcome
public_step w s = must (sound w) (ends (refusal_code BadWorld) w) (public_step_by w s (read_at s 0))

-- 26 comes last: the lent buffer has less than a byte for each record
abbrev pub with_room : ℕ → Verdict → Verdict
with_room room (Ok k) = must (leb k room) (refused OutSmall 0) (Ok k)
with_room room (Err e) = Err e

-- a run: a refused schedule gives a world of zeros and leaves the lent bytes alone; an accepted one writes the code of
-- each record's answer to the front of them, and leaves the others alone
abbrev pub start_world : List ℕ → World
start_world s = fresh_world (byte_at s 1) (byte_at s 2)

pub record Fate : Type 0 where
  pub verdict : Verdict
  pub world : World

abbrev pub ran_by : List ℕ → Verdict → Fate
ran_by s (Ok k) = record { verdict = Ok k; world = world_after (start_world s) (asked s) }
ran_by s (Err e) = record { verdict = Err e; world = no_world }

abbrev pub written_by : List ℕ → List ℕ → Verdict → List ℕ
written_by s out (Ok k) = answers_of (start_world s) (asked s) ++ drop k out
written_by s out (Err e) = out

unfoldable pub ran_of : List ℕ → ℕ → Fate
ran_of s room = ran_by s (with_room room (judged s))

unfoldable pub written_of : List ℕ → List ℕ → List ℕ
written_of s out = written_by s out (with_room (length out) (judged s))

-- What the code hands back is a Result; told so, it is the start, step or run above. A refused step leaves the world
-- as it was, a refused start or run a world of zeros.
abbrev pub start_told : Result World Refusal → Outcome
start_told (Ok w) = ends 0 w
start_told (Err why) = ends (refusal_code why) no_world

abbrev pub step_told : World → Result Stepped Refusal → Outcome
step_told w (Ok s) = ends (answer_code s.answer) s.world
step_told w (Err why) = ends (refusal_code why) w

abbrev pub run_told : Result Ran Refused → Fate
run_told (Ok r) = record { verdict = Ok r.records; world = r.world }
run_told (Err e) = record { verdict = Err e; world = no_world }
