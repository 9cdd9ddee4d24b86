-- The digits of a number are those that std writes of it. Assumes nothing.
use Rattle.std.proofs.Common.{◌≡◌, rules, ℕ, ◌^◌, ◌<◌}
use Rattle.std.specs.Fmt.{decimal as std_decimal}
use Rattle.std.proofs.lemmas.Fmt.{AppendsLastDigit, decimal_from_appends, length-decimal-le}
use Rattle.protocol.specs.Listing.{decimal_in, digits_most, decimal}
use Rattle.writing.specs.declared.Text.{Text}
use Rattle.writing.specs.Writing.{Writes}

in_appends : AppendsLastDigit decimal_in
unfolding decimal_in
in_appends = search rules

pub decimal_is : (n : ℕ) → n < 2 ^ 64 → decimal n ≡ std_decimal n
decimal_is n h = decimal_from_appends decimal_in in_appends digits_most n h (search (rules, length-decimal-le))

-- such digits are written where std's are
pub in_decimal : {t u : Text} (n : ℕ) → n < 2 ^ 64 → Writes t (std_decimal n) u → Writes t (decimal n) u
in_decimal {t} {u} n h p = rw (decimal_is n h) p
