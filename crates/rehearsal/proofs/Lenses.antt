-- An act on the boxes that it touches is its step on the world. Assumes nothing.
use mathlib.Core.Path.{◌≡◌, refl}
use mathlib.Core.List.{List}
use Prim.Native.Nat.{ℕ}
use Rattle.world.specs.declared.World.{World}
use Rattle.protocol.specs.declared.boxes.Boxes.{Boxes}
use Rattle.format.specs.declared.kinds.Act.{Act}
use Rattle.format.specs.declared.kinds.Act.TheVariants.{Multicast, Arrive, Propose, Settle, Deliver, ForgePacket, ForgeSend, ForgeReceive}
use Rattle.format.specs.declared.kinds.Kind.TheVariants as kind
use Rattle.format.specs.Records.{asked_from}
use Rattle.protocol.specs.Steps.{on, step_of}
use Rattle.rehearsal.specs.Acts.{touch_of, act_of}

pub lens : (w : World) (a : Act) (s : List ℕ) (b : ℕ) → on w (touch_of w a s b) (λ (boxes : Boxes). act_of w.roster a s b boxes) ≡ step_of w (asked_from (kind.Act a) s b)
unfolding step_of
lens w Multicast s b = refl
lens w Arrive s b = refl
lens w Propose s b = refl
lens w Settle s b = refl
lens w Deliver s b = refl
lens w ForgePacket s b = refl
lens w ForgeSend s b = refl
lens w ForgeReceive s b = refl
