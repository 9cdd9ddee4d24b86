use Rattle.std.proofs.Common.{refl, ◌∷◌, []}
use Rattle.writing.proofs.Placing.{more}
use Rattle.writing.proofs.Text.word.Goals as goal

pub loop-b-preserved : goal.loop-b-preserved
loop-b-preserved c = more (λ l. l) (λ i b. b ∷ []) (λ l b. refl) _ _ 0 c.loop-b-test.true c.loop-b.invariant c.byte.ensures
