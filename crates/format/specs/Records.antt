-- Document 01, "Schedule records": the kinds, their bodies, and the record at an offset.
use Rattle.std.specs.Prelude.{ℕ, zero, suc, ◌+◌, ◌-◌, cond, List, [], ◌∷◌, leb, length, get_or}
use Rattle.fips180.specs.Digest.{digest_bytes}
use Rattle.world.specs.Sizes.{head_bytes, command_bytes}
use Rattle.format.specs.declared.kinds.Act.TheVariants as act
use Rattle.format.specs.declared.kinds.Kind.{Kind}
use Rattle.format.specs.declared.kinds.Kind.TheVariants as kind
use Rattle.format.specs.declared.kinds.Form.{Form}
use Rattle.format.specs.declared.kinds.Form.TheVariants.{Start, Step, Bad}
use Rattle.format.specs.declared.refusal.Refusal.TheVariants.{BadKind, SecondStart, Cut}
use Rattle.format.specs.declared.reading.Read.{Read}
use Rattle.format.specs.declared.reading.Read.TheVariants.{Record, Refused, End}
use Rattle.format.specs.Fields.{byte_at, two_at, four_at, bytes_at}

-- the bytes of a server's name, a slot or a place, and of an id
abbrev pub name_bytes : ℕ
name_bytes = 1

abbrev pub id_bytes : ℕ
id_bytes = 2

-- the bytes of a start's body (n and the faulty mask), and of a whole start
abbrev pub start_body : ℕ
start_body = 2

abbrev pub start_bytes : ℕ
start_bytes = 1 + start_body

-- the table of kinds, from kind 0 on: name, and bytes of the body
abbrev pub kinds : List Form
kinds =
    Bad
    ∷ Start start_body
    ∷ Step kind.Request (head_bytes + command_bytes)
    ∷ Step (kind.Act act.Multicast) (name_bytes + name_bytes)
    ∷ Step (kind.Act act.Arrive) (name_bytes + name_bytes)
    ∷ Step (kind.Act act.Propose) (name_bytes + name_bytes)
    ∷ Step (kind.Act act.Settle) (name_bytes + name_bytes)
    ∷ Step (kind.Act act.Deliver) name_bytes
    ∷ Step (kind.Act act.ForgePacket) (name_bytes + name_bytes + name_bytes + id_bytes + name_bytes)
    ∷ Step (kind.Act act.ForgeSend) (name_bytes + id_bytes + digest_bytes)
    ∷ Step (kind.Act act.ForgeReceive) (name_bytes + name_bytes + id_bytes + digest_bytes)
    ∷ []

-- what a kind number means; past the table there is no kind
unfoldable pub form_of : ℕ → Form
form_of k = get_or kinds k Bad

-- the record at an offset after the start: whole, or the first of 22, 23 and 24 that holds there
unfoldable pub read_by : List ℕ → ℕ → Form → Read
read_by s at Bad = Refused BadKind
read_by s at (Start body) = Refused SecondStart
read_by s at (Step k body) = cond (leb body (length s - (at + 1))) (Record k (at + 1) (at + 1 + body)) (Refused Cut)

unfoldable pub read_at : List ℕ → ℕ → Read
read_at s at = cond (leb (length s) at) End (read_by s at (form_of (byte_at s at)))

-- what a record asks for, with its fields in the order of its body
pub data Asked : Type 0 where
  Request : ℕ → ℕ → ℕ → List ℕ → Asked
  Multicast : ℕ → ℕ → Asked
  Arrive : ℕ → ℕ → Asked
  Propose : ℕ → ℕ → Asked
  Settle : ℕ → ℕ → Asked
  Deliver : ℕ → Asked
  ForgePacket : ℕ → ℕ → ℕ → ℕ → ℕ → Asked
  ForgeSend : ℕ → ℕ → List ℕ → Asked
  ForgeReceive : ℕ → ℕ → ℕ → List ℕ → Asked

-- of a record whose body starts at b
abbrev pub asked_from : Kind → List ℕ → ℕ → Asked
asked_from kind.Request s b =
    Request (byte_at s b) (four_at s (b + 1)) (byte_at s (b + 5)) (bytes_at s (b + head_bytes) command_bytes)
asked_from (kind.Act act.Multicast) s b = Multicast (byte_at s b) (byte_at s (b + 1))
asked_from (kind.Act act.Arrive) s b = Arrive (byte_at s b) (byte_at s (b + 1))
asked_from (kind.Act act.Propose) s b = Propose (byte_at s b) (byte_at s (b + 1))
asked_from (kind.Act act.Settle) s b = Settle (byte_at s b) (byte_at s (b + 1))
asked_from (kind.Act act.Deliver) s b = Deliver (byte_at s b)
asked_from (kind.Act act.ForgePacket) s b =
    ForgePacket (byte_at s b) (byte_at s (b + 1)) (byte_at s (b + 2)) (two_at s (b + 3)) (byte_at s (b + 5))
asked_from (kind.Act act.ForgeSend) s b = ForgeSend (byte_at s b) (two_at s (b + 1)) (bytes_at s (b + 3) digest_bytes)
asked_from (kind.Act act.ForgeReceive) s b =
    ForgeReceive (byte_at s b) (byte_at s (b + 1)) (two_at s (b + 2)) (bytes_at s (b + 4) digest_bytes)

-- what the records from an offset on ask for; `fuel` is at least the number of records
unfoldable pub asked_by : (ℕ → List Asked) → List ℕ → Read → List Asked
asked_by more s (Record k b next) = asked_from k s b ∷ more next
asked_by more s (Refused r) = []
asked_by more s End = []

unfoldable pub asked_after : List ℕ → ℕ → ℕ → List Asked
asked_after s zero at = []
asked_after s (suc fuel) at = asked_by (λ (next : ℕ). asked_after s fuel next) s (read_at s at)

-- of a whole schedule
abbrev pub asked : List ℕ → List Asked
asked s = asked_after s (length s) start_bytes
