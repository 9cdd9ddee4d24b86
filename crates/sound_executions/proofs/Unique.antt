-- Each public contract of this crate has one answer only. Assumes nothing.
use mathlib.Core.Path.{sym, ◌∙◌}
use Rattle.unique.specs.Unique.{Unique}
use Rattle.sound_executions.proofs.executions_sound.Kinds as executions-sound-kinds
use Rattle.sound_executions.proofs.executions_sound.Reads as executions-sound-reads

pub executions_sound_unique : Unique 1 executions-sound-kinds.ps executions-sound-kinds.r executions-sound-reads.Post
executions_sound_unique κs a x y e f p q = p ∙ sym q
