-- Each public contract of this crate has one answer only. Assumes nothing.
use mathlib.Core.Path.{sym, ◌∙◌}
use Rattle.unique.specs.Unique.{Unique}
use Rattle.sound_boxes.proofs.entries.hold_sound.Kinds as hold-sound-kinds
use Rattle.sound_boxes.proofs.entries.hold_sound.Reads as hold-sound-reads
use Rattle.sound_boxes.proofs.items.delivered_sound.Kinds as delivered-sound-kinds
use Rattle.sound_boxes.proofs.items.delivered_sound.Reads as delivered-sound-reads
use Rattle.sound_boxes.proofs.packets.outgoing_sound.Kinds as outgoing-sound-kinds
use Rattle.sound_boxes.proofs.packets.outgoing_sound.Reads as outgoing-sound-reads

pub hold_sound_unique : Unique 2 hold-sound-kinds.ps hold-sound-kinds.r hold-sound-reads.Post
hold_sound_unique κs a x y e f p q = p ∙ sym q

pub delivered_sound_unique : Unique 1 delivered-sound-kinds.ps delivered-sound-kinds.r delivered-sound-reads.Post
delivered_sound_unique κs a x y e f p q = p ∙ sym q

pub outgoing_sound_unique : Unique 1 outgoing-sound-kinds.ps outgoing-sound-kinds.r outgoing-sound-reads.Post
outgoing_sound_unique κs a x y e f p q = p ∙ sym q
