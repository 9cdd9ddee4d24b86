use Rattle.std.proofs.Common.{◌≡◌, ℕ, ◌<◌, Bool, List, length, get_or, sym, ap, ◌∙◌, arith, rules}
use Rattle.std.proofs.lemmas.List.{get_or_default}
use Rattle.search.proofs.Laws.{passed_more, passed_here, passed_all}
use Rattle.world.proofs.place.lowest_free.Goals as goal

-- what a test said of an element that was read
said : {A : Type 0} (t : A → Bool) (xs : List A) (i : ℕ) (d x : A) {b r : Bool} → i < length xs → r ≡ t (get_or xs i x) → r ≡ b → t (get_or xs i d) ≡ b
said t xs i d x l e q = ap t (get_or_default xs i d x l) ∙ sym e ∙ q

pub loop-place-preserved : goal.loop-place-preserved
loop-place-preserved g c =
    let l : c.loop-place.place < length c.args.places.now = search (rules, arith) in
    passed_more _ _ _ (search (rules, arith)) (said g.P.Place.vacant _ _ g.P.Place.nothing c.index-places-place.result l c.is_free.ensures c.if-is_free.false) c.loop-place.invariant

pub returns-then-place : goal.returns-then-place
returns-then-place g c = passed_all _ _ _ c.if-place.true c.loop-place.invariant

pub returns-then-is_free : goal.returns-then-is_free
returns-then-is_free g c =
    let l : c.loop-place.place < length c.args.places.now = search (rules, arith) in
    passed_here _ _ _ (search (rules, arith)) (said g.P.Place.vacant _ _ g.P.Place.nothing c.index-places-place.result l c.is_free.ensures c.if-is_free.true) c.loop-place.invariant
