-- Each public contract of this crate settles its answer. Assumes nothing.
use Rattle.std.proofs.Common.{ℕ, Fits, w64}
use mathlib.Core.Path.{sym, ◌∙◌}
use Rattle.unique.specs.Unique.{Unique}
use Rattle.schedule.proofs.fields.byte_at.Kinds as byte-at-kinds
use Rattle.schedule.proofs.fields.byte_at.Reads as byte-at-reads
use Rattle.schedule.proofs.fields.bytes_at.Kinds as bytes-at-kinds
use Rattle.schedule.proofs.fields.bytes_at.Reads as bytes-at-reads
use Rattle.schedule.proofs.kinds.form_of.Kinds as form-of-kinds
use Rattle.schedule.proofs.kinds.form_of.Reads as form-of-reads
use Rattle.schedule.proofs.fields.four_at.Kinds as four-at-kinds
use Rattle.schedule.proofs.fields.four_at.Reads as four-at-reads
use Rattle.schedule.proofs.scanning.judge.Kinds as judge-kinds
use Rattle.schedule.proofs.scanning.judge.Reads as judge-reads
use Rattle.schedule.proofs.reading.read_at.Kinds as read-at-kinds
use Rattle.schedule.proofs.reading.read_at.Reads as read-at-reads
use Rattle.schedule.proofs.fields.two_at.Kinds as two-at-kinds
use Rattle.schedule.proofs.fields.two_at.Reads as two-at-reads

pub byte_at_unique : Unique 1 byte-at-kinds.ps byte-at-kinds.r byte-at-reads.Post
byte_at_unique κs a x y e f p q = p ∙ sym q

pub bytes_at_unique : (n : ℕ) (fits : Fits w64 n) → Unique 2 (bytes-at-kinds.ps n fits) (bytes-at-kinds.r n fits) (bytes-at-reads.Post n fits)
bytes_at_unique n fits κs a x y e f p q = p ∙ sym q

pub form_of_unique : Unique 0 form-of-kinds.ps form-of-kinds.r form-of-reads.Post
form_of_unique κs a x y e f p q = p ∙ sym q

pub four_at_unique : Unique 1 four-at-kinds.ps four-at-kinds.r four-at-reads.Post
four_at_unique κs a x y e f p q = p ∙ sym q

pub judge_unique : Unique 1 judge-kinds.ps judge-kinds.r judge-reads.Post
judge_unique κs a x y e f p q = p ∙ sym q

pub read_at_unique : Unique 1 read-at-kinds.ps read-at-kinds.r read-at-reads.Post
read_at_unique κs a x y e f p q = p ∙ sym q

pub two_at_unique : Unique 1 two-at-kinds.ps two-at-kinds.r two-at-reads.Post
two_at_unique κs a x y e f p q = p ∙ sym q
