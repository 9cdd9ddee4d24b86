use Rattle.std.proofs.Common.{◌≡◌, [], ◌∷◌, refl, sym, ◌∙◌, arith, take_all, rules}
use Rattle.std.proofs.lemmas.Slice.{overwrites}
use Rattle.fips180.specs.Sha256.{state_bytes}
use Rattle.compression.proofs.Words.{words_bytes, more_bytes}
use Rattle.compression.proofs.state.bytes.Goals as goal

pub loop-i-init : goal.loop-i-init
unfolding words_bytes
loop-i-init c = (refl, refl)

pub loop-i-preserved : goal.loop-i-preserved
loop-i-preserved c = let a = c.loop-i in
    let words = c.args.v.a ∷ c.args.v.b ∷ c.args.v.c ∷ c.args.v.d ∷ c.args.v.e ∷ c.args.v.f ∷ c.args.v.g ∷ c.args.v.h ∷ [] in
    (search (rules, overwrites), more_bytes words a.out c.copy_from_slice.new.self a.i _ (omega arith) a.invariant.1 (c.copy_from_slice.ensures.after ∙ c.to_be_bytes.ensures))

pub returns : goal.returns
unfolding words_bytes state_bytes
returns c = let a = c.loop-i in
    let e : a.i ≡ 8 = omega arith in
    sym (take_all 32 a.out (omega arith)) ∙ rw e at a.invariant.1
