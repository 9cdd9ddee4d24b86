-- Each public contract of this crate has one answer only. Assumes nothing.
use mathlib.Core.Path.{sym, ◌∙◌}
use Rattle.unique.specs.Unique.{Unique}
use Rattle.soundness.proofs.sound.Kinds as sound-kinds
use Rattle.soundness.proofs.sound.Reads as sound-reads

pub sound_unique : Unique 0 sound-kinds.ps sound-kinds.r sound-reads.Post
sound_unique κs a x y e f p q = p ∙ sym q
