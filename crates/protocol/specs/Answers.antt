-- Document 01, "Answers to a step".
use Rattle.std.specs.Prelude.{ℕ}
use Rattle.protocol.specs.declared.answer.Answer.{Answer}
use Rattle.protocol.specs.declared.answer.Answer.TheVariants.{Done, Dropped, Wait, Dismissed, BadServer}
use Rattle.protocol.specs.declared.answer.Answer.TheVariants.{WrongSide, NoSuch, BadField, SameDigest, NoRoom}
use Rattle.protocol.specs.declared.answer.Answer.TheVariants.{Quota, Unknown, WrongDigest, Recall}

abbrev pub answer_code : Answer → ℕ
answer_code Done = 0
answer_code Dropped = 1
answer_code Wait = 2
answer_code Dismissed = 3
answer_code BadServer = 4
answer_code WrongSide = 5
answer_code NoSuch = 6
answer_code BadField = 7
answer_code SameDigest = 8
answer_code NoRoom = 9
answer_code Quota = 10
answer_code Unknown = 11
answer_code WrongDigest = 12
answer_code Recall = 13
