use Rattle.std.proofs.Common.{arith}
use Rattle.world.specs.Sending.{no_sending}
use Rattle.protocol.specs.Listing.{item_text, item_texts}
use Rattle.writing.proofs.Placing.{more}
use Rattle.server_lines.proofs.Rows.{items_push}
use Rattle.server_lines.proofs.put_items.Goals as goal

pub loop-item-preserved : goal.loop-item-preserved
loop-item-preserved c = record {
  wrote = more item_texts (λ _ s. item_text s) items_push _ _ no_sending c.loop-item-test.true c.loop-item.invariant.wrote c.put_item.ensures.wrote;
  upper_bound = omega arith;
}
