-- Each public contract of this crate has one answer only. Assumes nothing.
use mathlib.Core.Path.{sym, ◌∙◌}
use Rattle.unique.specs.Unique.{Unique}
use Rattle.sound_requests.proofs.requests_sound.Kinds as requests-sound-kinds
use Rattle.sound_requests.proofs.requests_sound.Reads as requests-sound-reads

pub requests_sound_unique : Unique 1 requests-sound-kinds.ps requests-sound-kinds.r requests-sound-reads.Post
requests_sound_unique κs a x y e f p q = p ∙ sym q
