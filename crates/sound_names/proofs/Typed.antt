-- What the types say of requests and executions: how long their digests are. Assumes nothing.
use mathlib.Core.Path.{◌≡◌}
use lib.ListN.{length}
use denote.Shadow.{shadow}
use denote.RattleType.{owns, Valss}
use denote.Struct.Declared.{shape}
use Rattle.fips180.specs.Digest.{digest_bytes}
use Rattle.world.specs.declared.request.Request.{Request}
use Rattle.world.specs.declared.execution.Execution.{Execution}
use Rattle.world.specs.contracts.request.Request as request-of
use Rattle.world.specs.contracts.execution.Execution as execution-of

pub request_digest : (q : Request) (vs : Valss (shape request-of.the_type).fields) → shadow (owns (shape request-of.the_type).fields ((request-of.the_type).to q) vs) → length q.digest ≡ digest_bytes
request_digest q vs g = g.1.1.1.1.0.1.0.1

pub execution_digest : (x : Execution) (vs : Valss (shape execution-of.the_type).fields) → shadow (owns (shape execution-of.the_type).fields ((execution-of.the_type).to x) vs) → length x.digest ≡ digest_bytes
execution_digest x vs g = g.1.1.1.1.0.1.0.1
