-- What a free or unused place holds: zeros in every field.
use Rattle.std.specs.Prelude.{ℕ, Bool, not, ◌&&◌, List, eqb, get_or}
use Rattle.search.specs.Search.{every}
use Rattle.fips180.specs.Digest.{digest_bytes}
use Rattle.world.specs.declared.request.Request.{Request}
use Rattle.world.specs.declared.execution.Execution.{Execution}
use Rattle.world.specs.declared.sending.Sending.{Sending}
use Rattle.world.specs.declared.outgoing.Packet.{Packet}
use Rattle.world.specs.declared.hold.Entry.{Entry}
use Rattle.world.specs.Sizes.{command_bytes}

unfoldable pub zero_bytes : List ℕ → ℕ → Bool
zero_bytes l n = every (λ (k : ℕ). eqb (get_or l k 0) 0) n

abbrev pub zero_request : Request → Bool
zero_request q =
    eqb q.serial 0 && eqb q.client 0 && eqb q.seals 0 && zero_bytes q.command command_bytes
    && zero_bytes q.digest digest_bytes

abbrev pub zero_execution : Execution → Bool
zero_execution x =
    eqb x.number 0 && eqb x.id 0 && eqb x.called 0 && eqb x.mask 0 && zero_bytes x.digest digest_bytes

abbrev pub zero_sending : Sending → Bool
zero_sending s = eqb s.id 0 && eqb s.sender 0 && eqb s.slot 0

abbrev pub zero_packet : Packet → Bool
zero_packet p = not p.there && eqb p.to 0 && zero_sending p.sending

abbrev pub zero_entry : Entry → Bool
zero_entry e = eqb e.stage 0 && eqb e.number 0 && zero_sending e.sending
