use Rattle.std.proofs.Common.{arith}
use Rattle.fips180.proofs.BigEndian.{be_eight}
use Rattle.digest.proofs.Padding.{in_length, whole_blocks}
use Rattle.digest.proofs.block.padded_byte.Goals as goal

pub returns : goal.returns
returns c = let a = c.args in
    rw (c.to_be_bytes.ensures, be_eight) (in_length a.s.now a.p _ (omega (arith, whole_blocks a.s.now)) (omega arith))
