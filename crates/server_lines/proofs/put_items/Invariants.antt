use Rattle.std.proofs.Common.{◌+◌, ◌*◌, ◌≤◌, take}
use Rattle.writing.specs.Writing.{Writes}
use Rattle.protocol.specs.Longest.{item_most}
use Rattle.protocol.specs.Listing.{item_texts}
use Rattle.server_lines.proofs.put_items.Given as goal

abbrev pub invariant-loop-item : goal.invariant-loop-item
invariant-loop-item l = record {
  wrote : Writes l.initial.text (item_texts (take l.item-index l.items)) l.text;
  upper_bound : l.text.at ≤ l.initial.text.at + l.item-index * item_most;
}
