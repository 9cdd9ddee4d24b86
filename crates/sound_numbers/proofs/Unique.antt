-- Each public contract of this crate has one answer only. Assumes nothing.
use mathlib.Core.Path.{sym, ◌∙◌}
use Rattle.unique.specs.Unique.{Unique}
use Rattle.sound_numbers.proofs.numbers_sound.Kinds as numbers-sound-kinds
use Rattle.sound_numbers.proofs.numbers_sound.Reads as numbers-sound-reads

pub numbers_sound_unique : Unique 1 numbers-sound-kinds.ps numbers-sound-kinds.r numbers-sound-reads.Post
numbers_sound_unique κs a x y e f p q = p ∙ sym q
