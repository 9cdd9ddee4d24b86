-- Items, one more after the others. Assumes nothing.
use Rattle.std.proofs.Common.{◌≡◌, ℕ, List, [], ◌∷◌, ◌++◌, length, take, append_assoc, append-nil, min}
use Rattle.std.proofs.lemmas.List.{take_min}
use Rattle.world.specs.declared.sending.Sending.{Sending}
use Rattle.protocol.specs.Listing.{item_text, item_texts}

pub items_push : (l : List Sending) (s : Sending) → item_texts (l ++ s ∷ []) ≡ item_texts l ++ item_text s
unfolding item_texts
items_push [] s = append-nil (item_text s)
items_push (x ∷ l) s = rw (items_push l s, ← append_assoc (item_text x))

-- all items that there are, where more are counted
pub items_all : (n k m : ℕ) (l : List Sending) → m ≡ min n k → length l ≡ k → take m l ≡ take n l
items_all n k m l e h = rw (e, ← h) (take_min n l)
