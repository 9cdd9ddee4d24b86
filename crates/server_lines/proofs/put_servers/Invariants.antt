use Rattle.std.proofs.Common.{◌+◌, ◌*◌, ◌≤◌}
use Rattle.writing.specs.Writing.{Writes}
use Rattle.protocol.specs.Longest.{server_most}
use Rattle.protocol.specs.Listing.{server_lines}
use Rattle.server_lines.proofs.put_servers.Given as goal

abbrev pub invariant-loop-s : goal.invariant-loop-s
invariant-loop-s l = record {
  wrote : Writes l.initial.text (server_lines l.w l.s) l.text;
  upper_bound : l.text.at ≤ l.initial.text.at + l.s * server_most;
}
