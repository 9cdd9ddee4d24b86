-- Document 01, "Schedule records": bit i of a mask (value 2^i) is server i.
use Rattle.std.specs.Prelude.{ℕ, ◌/◌, ◌%◌, ◌^◌, Bool, cond, ◌==◌, bit_or, nat_lt}
use Rattle.world.specs.Sizes.{servers}

abbrev pub nobody : ℕ
nobody = 0

-- whether server i is in the mask
unfoldable pub has : ℕ → ℕ → Bool
has mask i = mask / 2 ^ i % 2 == 1

-- the mask with server i in it, where there can be such a server
unfoldable pub join : ℕ → ℕ → ℕ
join mask i = cond (nat_lt i servers) (bit_or mask (2 ^ i)) mask
