-- What a rule's tests come to: the answer of the first that fails, or what was found.
use Rattle.std.specs.Prelude.{ℕ, Result, Ok, Err, ok_or, not, eqb}
use Rattle.world.specs.declared.roster.Roster.{Roster}
use Rattle.world.specs.declared.request.Request.{Request}
use Rattle.world.specs.declared.request.Requests.{Requests}
use Rattle.world.specs.Roster.{member, faulty}
use Rattle.world.specs.Requests.{request_added}
use Rattle.world.specs.Executions.{execution_of}
use Rattle.world.specs.Hold.{entry_at}
use Rattle.protocol.specs.declared.answer.Answer.{Answer}
use Rattle.protocol.specs.declared.answer.Answer.TheVariants.{Done, BadServer, WrongSide, NoSuch, Wait}
use Rattle.protocol.specs.declared.boxes.Boxes.{Boxes}
use Rattle.protocol.specs.declared.boxes.Requested.{Requested}
use Rattle.protocol.specs.Rules.{stored_with}
use Rattle.search.specs.Tests.{must}

-- the answer, of a step that was taken or of the test that refused it
abbrev pub told : Result Answer Answer → Answer
told (Ok answer) = answer
told (Err refusal) = refusal

-- the stored requests with a new one, or as they were with the refusal
abbrev pub requested : Requests → Result Request Answer → Requested
requested q (Ok new) = stored_with Done (request_added q new)
requested q (Err refusal) = stored_with refusal q

-- a member, and correct
abbrev pub correct_of : Roster → ℕ → Result (Unit {0}) Answer
correct_of r server = must (member r server) (Err BadServer) (must (not (faulty r server)) (Err WrongSide) (Ok tt))

-- a correct server's entry at this stage: the place of its execution
abbrev pub found_of : Roster → ℕ → ℕ → ℕ → Boxes → Result ℕ Answer
found_of r server place stage b =
    let e = entry_at b.hold place in
    must (member r server) (Err BadServer)
    (must (not (faulty r server)) (Err WrongSide)
    (must (eqb e.stage stage) (Err NoSuch)
    (ok_or (execution_of b.executions e.sending.id) Wait)))
