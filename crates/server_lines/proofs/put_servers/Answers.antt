use Rattle.std.proofs.Common.{arith, add-one}
use Rattle.protocol.specs.Listing.{server_lines}
use Rattle.writing.proofs.Placing.{then}
use Rattle.server_lines.proofs.put_servers.Goals as goal

pub loop-s-preserved : goal.loop-s-preserved
unfolding server_lines
loop-s-preserved c = record {
  wrote = rw (add-one c.loop-s.s) (then c.loop-s.invariant.wrote (rw c.from.ensures at c.put_server.ensures.wrote));
  upper_bound = omega arith;
}
