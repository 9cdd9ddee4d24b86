-- What is told of a start, a step or a run says which Result it is told of: no two are told alike. Assumes nothing.
use Rattle.std.proofs.Common.{◌≡◌, ℕ, ◌-◌, cond, [], ◌∷◌, get_or, refl, sym, ap, ◌∙◌}
use Rattle.std.specs.Prelude.{eqb, ltb, Result, Ok, Err}
use Rattle.world.specs.declared.World.{World}
use Rattle.format.specs.declared.refusal.Refusal.{Refusal}
use Rattle.format.specs.declared.refusal.Refused.{Refused}
use Rattle.format.specs.declared.refusal.Refusal.TheVariants.{TooLong, NoStart, BadKind, SecondStart, Cut, BadStart, OutSmall, BadWorld}
use Rattle.format.specs.Judging.{refusal_code, Verdict}
use Rattle.protocol.specs.declared.answer.Answer.{Answer}
use Rattle.protocol.specs.declared.answer.Answer.TheVariants.{Done, Dropped, Wait, Dismissed, BadServer, WrongSide, NoSuch, BadField, SameDigest, NoRoom, Quota, Unknown, WrongDigest, Recall}
use Rattle.protocol.specs.declared.ending.Outcome.{Outcome}
use Rattle.protocol.specs.declared.ending.Ran.{Ran}
use Rattle.protocol.specs.declared.ending.Stepped.{Stepped}
use Rattle.protocol.specs.Answers.{answer_code}
use Rattle.protocol.specs.Steps.{ends}
use Rattle.protocol.specs.Runs.{Fate, start_told, step_told, run_told}

-- an answer and a refusal by their codes
abbrev answer_at : ℕ → Answer
answer_at code =
    get_or (Done ∷ Dropped ∷ Wait ∷ Dismissed ∷ BadServer ∷ WrongSide ∷ NoSuch ∷ BadField ∷ SameDigest ∷ NoRoom ∷ Quota ∷ Unknown ∷ WrongDigest ∷ Recall ∷ []) code Done

abbrev refusal_at : ℕ → Refusal
refusal_at code = get_or (TooLong ∷ NoStart ∷ BadKind ∷ SecondStart ∷ Cut ∷ BadStart ∷ OutSmall ∷ BadWorld ∷ []) (code - 20) TooLong

-- the Result of which an outcome is told
abbrev step_back : Outcome → Result Stepped Refusal
step_back o = cond (ltb o.code 20) (Ok (record { answer = answer_at o.code; world = o.world })) (Err (refusal_at o.code))

abbrev start_back : Outcome → Result World Refusal
start_back o = cond (eqb o.code 0) (Ok o.world) (Err (refusal_at o.code))

answer_back : (a : Answer) (w : World) → step_back (ends (answer_code a) w) ≡ Ok (record { answer = a; world = w })
answer_back Done w = refl
answer_back Dropped w = refl
answer_back Wait w = refl
answer_back Dismissed w = refl
answer_back BadServer w = refl
answer_back WrongSide w = refl
answer_back NoSuch w = refl
answer_back BadField w = refl
answer_back SameDigest w = refl
answer_back NoRoom w = refl
answer_back Quota w = refl
answer_back Unknown w = refl
answer_back WrongDigest w = refl
answer_back Recall w = refl

refusal_back : (why : Refusal) (w : World) → (step_back (ends (refusal_code why) w) ≡ Err why) × (start_back (ends (refusal_code why) w) ≡ Err why)
refusal_back TooLong w = (refl, refl)
refusal_back NoStart w = (refl, refl)
refusal_back BadKind w = (refl, refl)
refusal_back SecondStart w = (refl, refl)
refusal_back Cut w = (refl, refl)
refusal_back BadStart w = (refl, refl)
refusal_back OutSmall w = (refl, refl)
refusal_back BadWorld w = (refl, refl)

step_known : (w : World) (r : Result Stepped Refusal) → step_back (step_told w r) ≡ r
step_known w (Ok s) = answer_back s.answer s.world
step_known w (Err why) = (refusal_back why w).0

start_known : (r : Result World Refusal) → start_back (start_told r) ≡ r
start_known (Ok w) = refl
start_known (Err why) = (refusal_back why _).1

abbrev run_back : Verdict → World → Result Ran Refused
run_back (Ok k) w = Ok (record { records = k; world = w })
run_back (Err e) w = Err e

run_known : (r : Result Ran Refused) → run_back (run_told r).verdict (run_told r).world ≡ r
run_known (Ok r) = refl
run_known (Err e) = refl

pub step_told_once : (w : World) (x y : Result Stepped Refusal) → step_told w x ≡ step_told w y → x ≡ y
step_told_once w x y e = sym (step_known w x) ∙ ap step_back e ∙ step_known w y

pub start_told_once : (x y : Result World Refusal) → start_told x ≡ start_told y → x ≡ y
start_told_once x y e = sym (start_known x) ∙ ap start_back e ∙ start_known y

pub run_told_once : (x y : Result Ran Refused) → run_told x ≡ run_told y → x ≡ y
run_told_once x y e = sym (run_known x) ∙ ap (λ (f : Fate). run_back f.verdict f.world) e ∙ run_known y
