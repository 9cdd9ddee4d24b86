-- Every step keeps the invariant. Assumes nothing.
use Rattle.format.specs.Records.{Request, Multicast, Arrive, Propose, Settle, Deliver, ForgePacket, ForgeSend, ForgeReceive}
use Rattle.protocol.specs.Steps.{step_of}
use Rattle.agreement.proofs.Moves.{StepMoves}
use Rattle.agreement.proofs.Requests.{request_moves}
use Rattle.agreement.proofs.Multicasts.{multicast_moves}
use Rattle.agreement.proofs.Arrives.{arrive_moves, forge_packet_moves}
use Rattle.agreement.proofs.Proposes.{propose_moves}
use Rattle.agreement.proofs.Settles.{settle_moves}
use Rattle.agreement.proofs.Delivers.{deliver_moves}
use Rattle.agreement.proofs.Forges.{forge_send_moves, forge_receive_moves}

pub steps : StepMoves
unfolding step_of
steps w (Request client serial seals command) f v = request_moves w f v client serial seals command
steps w (Multicast server slot) f v = multicast_moves w f v server slot
steps w (Arrive origin place) f v = arrive_moves w f v origin place
steps w (Propose server place) f v = propose_moves w f v server place
steps w (Settle server place) f v = settle_moves w f v server place
steps w (Deliver server) f v = deliver_moves w f v server
steps w (ForgePacket from to sender id slot) f v = forge_packet_moves w f v from to sender id slot
steps w (ForgeSend server id digest) f v = forge_send_moves w f v server id digest
steps w (ForgeReceive server sender id digest) f v = forge_receive_moves w f v server sender id digest
