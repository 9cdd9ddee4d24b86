use Rattle.std.proofs.Common.{◌∙◌}
use Rattle.std.proofs.Math.Bool.{and_assoc}
use Rattle.sound_names.proofs.Typed.{execution_digest}
use Rattle.sound_names.proofs.ZeroLists.{zeros_same}
use Rattle.sound_names.proofs.zeros.zero_execution.Goals as goal

pub returns : goal.returns
returns c =
    let z = zeros_same c.args.x.digest _ (execution_digest c.args.x c.well_formed.0.0 c.well_formed.0.1.1) in
    c.eq.ensures ∙ rw (c.unused.ensures, z) (simp and_assoc)
