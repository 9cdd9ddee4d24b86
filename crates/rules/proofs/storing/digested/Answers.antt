use Rattle.std.proofs.Common.{arith}
use Rattle.digest.proofs.Short.{short_value}
use Rattle.protocol.specs.Rules.{request_from}
use Rattle.rules.proofs.storing.digested.Goals as goal

pub returns : goal.returns
unfolding request_from
returns c = let d = short_value c.bytes-bytes.result _ _ c.sha256.ensures c.unwrap-digest.ensures (omega arith) in cc
