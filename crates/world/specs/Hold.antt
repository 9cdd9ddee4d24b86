-- Document 01, "Sizes": the entries that one server holds, each new one at the lowest free place.
use Rattle.std.specs.Prelude.{ℕ, Bool, not, ◌&&◌, replicate, ◌==◌, nat_eq, slice_index_or, slice_set, None, Option, Some}
use Rattle.search.specs.Search.{first, any}
use Rattle.world.specs.declared.sending.Sending.{Sending}
use Rattle.world.specs.declared.hold.Entry.{Entry}
use Rattle.world.specs.declared.hold.Hold.{Hold}
use Rattle.world.specs.Sizes.{hold_places}
use Rattle.world.specs.Sending.{no_sending}

-- an entry of a sending at a stage, with its number (0 before stage three); a free place is all zeros
abbrev pub entry_of : ℕ → Sending → ℕ → Entry
entry_of stage s number = record { number = number; sending = s; stage = stage }

abbrev pub free_entry : Entry
free_entry = entry_of 0 no_sending 0

unfoldable pub fresh_hold : Hold
fresh_hold = record { places = replicate hold_places free_entry }

-- the entry at a place; past the places there is none
abbrev pub entry_at : Hold → ℕ → Entry
entry_at h place = slice_index_or h.places place free_entry

-- an entry of this sending, at any stage
abbrev pub is_entry : Entry → Sending → Bool
is_entry e s =
    not (e.stage == 0) && e.sending.sender == s.sender && e.sending.id == s.id
    && e.sending.slot == s.slot

abbrev pub holding : Hold → Sending → Bool
holding h s = any (λ (k : ℕ). is_entry (entry_at h k) s) hold_places

-- an entry at stage three that has the number, and the lowest place of one
abbrev pub is_ready : Entry → ℕ → Bool
is_ready e number = e.stage == 3 && e.number == number

abbrev pub ready_place : Hold → ℕ → Option ℕ
ready_place h number = first (λ (k : ℕ). is_ready (entry_at h k) number) hold_places

-- the lowest free place
abbrev pub free_hold : Hold → Option ℕ
free_hold h = first (λ (k : ℕ). nat_eq (entry_at h k).stage 0) hold_places

abbrev pub entry_put : Hold → ℕ → Entry → Hold
entry_put h place e = record { places = slice_set h.places place e }

abbrev pub entry_freed : Hold → ℕ → Hold
entry_freed h place = entry_put h place free_entry

-- an entry more, at the lowest free place
unfoldable pub entry_added_at : Hold → Entry → Option ℕ → Hold
entry_added_at h e (Some place) = entry_put h place e
entry_added_at h e None = h

unfoldable pub entry_added : Hold → Entry → Hold
entry_added h e = entry_added_at h e (free_hold h)
