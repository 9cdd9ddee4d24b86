-- A number's bytes, the highest first, in std's words. Assumes nothing.
use Rattle.std.proofs.Common.{◌≡◌, ℕ, ◌/◌, ◌%◌, ◌^◌, arith, w32, w64}
use Rattle.std.specs.Int.{to_be_bytes}
use Rattle.fips180.specs.Sha256.{be}

pub be_four : (x : ℕ) → to_be_bytes w32 x ≡ be 4 x
be_four x = let e : x ≡ x / 2 ^ 0 = omega arith in cc

-- the eight bytes of the number as 64 bits hold it
pub be_eight : (x : ℕ) → to_be_bytes w64 (x % 2 ^ 64) ≡ be 8 x
be_eight x =
    let y = x % 2 ^ 64 in
    let e7 : y / 2 ^ 56 % 256 ≡ x / 2 ^ 56 % 256 = omega arith in
    let e6 : y / 2 ^ 48 % 256 ≡ x / 2 ^ 48 % 256 = omega arith in
    let e5 : y / 2 ^ 40 % 256 ≡ x / 2 ^ 40 % 256 = omega arith in
    let e4 : y / 2 ^ 32 % 256 ≡ x / 2 ^ 32 % 256 = omega arith in
    let e3 : y / 2 ^ 24 % 256 ≡ x / 2 ^ 24 % 256 = omega arith in
    let e2 : y / 2 ^ 16 % 256 ≡ x / 2 ^ 16 % 256 = omega arith in
    let e1 : y / 2 ^ 8 % 256 ≡ x / 2 ^ 8 % 256 = omega arith in
    let e0 : y % 256 ≡ x / 2 ^ 0 % 256 = omega arith in
    cc
