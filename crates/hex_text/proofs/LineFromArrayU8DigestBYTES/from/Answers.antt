use Rattle.std.proofs.Common.{rules}
use Rattle.hex_text.proofs.Digits.{encode_is}
use Rattle.hex_text.proofs.LineFromArrayU8DigestBYTES.from.Goals as goal

pub returns : goal.returns
returns c =
    let written = rw c.unwrap.ensures at c.encode_to_slice.ensures.written in
    let digits = encode_is c.args.bytes 32 (λ i. search rules) (search rules) in
    cc
