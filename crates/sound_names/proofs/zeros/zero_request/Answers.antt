use Rattle.std.proofs.Common.{◌∙◌}
use Rattle.std.proofs.Math.Bool.{and_assoc}
use Rattle.world.proofs.Typed.{request_command}
use Rattle.sound_names.proofs.Typed.{request_digest}
use Rattle.sound_names.proofs.ZeroLists.{zeros_same}
use Rattle.sound_names.proofs.zeros.zero_request.Goals as goal

pub returns : goal.returns
returns c =
    let command = zeros_same c.args.q.command _ (request_command c.args.q c.well_formed.0.0 c.well_formed.0.1.1) in
    let digest = zeros_same c.args.q.digest _ (request_digest c.args.q c.well_formed.0.0 c.well_formed.0.1.1) in
    c.eq.ensures ∙ rw (c.unused.ensures, command, digest) (simp and_assoc)
