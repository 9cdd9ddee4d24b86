-- What a run tells a caller from outside: a code in place of the verdict.
use Rattle.std.specs.Prelude.{ℕ, List, Ok, Err}
use Rattle.world.specs.declared.World.{World}
use Rattle.format.specs.Judging.{refusal_code, Verdict}
use Rattle.protocol.specs.Runs.{ran_of}
use Rattle.bridge.specs.declared.Run.{Run}

-- 0 and the count of records, or a refusal's code and offset
abbrev pub told : Verdict → World → Run
told (Ok k) w = record { code = 0; offset = 0; records = k; world = w }
told (Err e) w = record { code = refusal_code e.why; offset = e.offset; records = 0; world = w }

-- the run of a schedule, with room for so many answers
unfoldable pub run_of : List ℕ → ℕ → Run
run_of s room = told (ran_of s room).verdict (ran_of s room).world
