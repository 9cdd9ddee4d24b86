use Rattle.std.proofs.Common.{arith}
use Rattle.digest.proofs.Short.{short_value}
use Rattle.sound_requests.proofs.own_digest.Goals as goal

pub returns : goal.returns
returns c = let d = short_value c.bytes-bytes.result _ _ c.sha256.ensures c.unwrap-digest.ensures (omega arith) in cc
