-- Each public contract of this crate settles its answer. Assumes nothing.
use Rattle.std.proofs.Common.{sym, ◌∙◌}
use Rattle.unique.specs.Unique.{Unique}
use Rattle.world.proofs.delivered.Delivered.append.Kinds as delivered-append-kinds
use Rattle.world.proofs.delivered.Delivered.append.Reads as delivered-append-reads
use Rattle.world.proofs.delivered.Delivered.fresh.Kinds as delivered-fresh-kinds
use Rattle.world.proofs.delivered.Delivered.fresh.Reads as delivered-fresh-reads
use Rattle.world.proofs.delivered.Delivered.next.Kinds as delivered-next-kinds
use Rattle.world.proofs.delivered.Delivered.next.Reads as delivered-next-reads
use Rattle.world.proofs.hold.Entry.free.Kinds as entry-free-kinds
use Rattle.world.proofs.hold.Entry.free.Reads as entry-free-reads
use Rattle.world.proofs.hold.Entry.is_of.Kinds as entry-is-of-kinds
use Rattle.world.proofs.hold.Entry.is_of.Reads as entry-is-of-reads
use Rattle.world.proofs.hold.Entry.is_ready.Kinds as entry-is-ready-kinds
use Rattle.world.proofs.hold.Entry.is_ready.Reads as entry-is-ready-reads
use Rattle.world.proofs.hold.Entry.new.Kinds as entry-new-kinds
use Rattle.world.proofs.hold.Entry.new.Reads as entry-new-reads
use Rattle.world.proofs.execution.Execution.call.Kinds as execution-call-kinds
use Rattle.world.proofs.execution.Execution.call.Reads as execution-call-reads
use Rattle.world.proofs.execution.Execution.open.Kinds as execution-open-kinds
use Rattle.world.proofs.execution.Execution.open.Reads as execution-open-reads
use Rattle.world.proofs.execution.Execution.order.Kinds as execution-order-kinds
use Rattle.world.proofs.execution.Execution.order.Reads as execution-order-reads
use Rattle.world.proofs.execution.Execution.unused.Kinds as execution-unused-kinds
use Rattle.world.proofs.execution.Execution.unused.Reads as execution-unused-reads
use Rattle.world.proofs.execution.Executions.find.Kinds as executions-find-kinds
use Rattle.world.proofs.execution.Executions.find.Reads as executions-find-reads
use Rattle.world.proofs.execution.Executions.fresh.Kinds as executions-fresh-kinds
use Rattle.world.proofs.execution.Executions.fresh.Reads as executions-fresh-reads
use Rattle.world.proofs.mask.has.Kinds as has-kinds
use Rattle.world.proofs.mask.has.Reads as has-reads
use Rattle.world.proofs.hold.Hold.at.Kinds as hold-at-kinds
use Rattle.world.proofs.hold.Hold.at.Reads as hold-at-reads
use Rattle.world.proofs.hold.Hold.free.Kinds as hold-free-kinds
use Rattle.world.proofs.hold.Hold.free.Reads as hold-free-reads
use Rattle.world.proofs.hold.Hold.fresh.Kinds as hold-fresh-kinds
use Rattle.world.proofs.hold.Hold.fresh.Reads as hold-fresh-reads
use Rattle.world.proofs.hold.Hold.has_room.Kinds as hold-has-room-kinds
use Rattle.world.proofs.hold.Hold.has_room.Reads as hold-has-room-reads
use Rattle.world.proofs.hold.Hold.holds.Kinds as hold-holds-kinds
use Rattle.world.proofs.hold.Hold.holds.Reads as hold-holds-reads
use Rattle.world.proofs.hold.Hold.keep.Kinds as hold-keep-kinds
use Rattle.world.proofs.hold.Hold.keep.Reads as hold-keep-reads
use Rattle.world.proofs.hold.Hold.put.Kinds as hold-put-kinds
use Rattle.world.proofs.hold.Hold.put.Reads as hold-put-reads
use Rattle.world.proofs.hold.Hold.ready.Kinds as hold-ready-kinds
use Rattle.world.proofs.hold.Hold.ready.Reads as hold-ready-reads
use Rattle.world.proofs.mask.join.Kinds as join-kinds
use Rattle.world.proofs.mask.join.Reads as join-reads
use Rattle.world.proofs.outgoing.Outgoing.at.Kinds as outgoing-at-kinds
use Rattle.world.proofs.outgoing.Outgoing.at.Reads as outgoing-at-reads
use Rattle.world.proofs.outgoing.Outgoing.clear.Kinds as outgoing-clear-kinds
use Rattle.world.proofs.outgoing.Outgoing.clear.Reads as outgoing-clear-reads
use Rattle.world.proofs.outgoing.Outgoing.free.Kinds as outgoing-free-kinds
use Rattle.world.proofs.outgoing.Outgoing.free.Reads as outgoing-free-reads
use Rattle.world.proofs.outgoing.Outgoing.fresh.Kinds as outgoing-fresh-kinds
use Rattle.world.proofs.outgoing.Outgoing.fresh.Reads as outgoing-fresh-reads
use Rattle.world.proofs.outgoing.Outgoing.post.Kinds as outgoing-post-kinds
use Rattle.world.proofs.outgoing.Outgoing.post.Reads as outgoing-post-reads
use Rattle.world.proofs.outgoing.Outgoing.room.Kinds as outgoing-room-kinds
use Rattle.world.proofs.outgoing.Outgoing.room.Reads as outgoing-room-reads
use Rattle.world.proofs.outgoing.Outgoing.send.Kinds as outgoing-send-kinds
use Rattle.world.proofs.outgoing.Outgoing.send.Reads as outgoing-send-reads
use Rattle.world.proofs.outgoing.Packet.free.Kinds as packet-free-kinds
use Rattle.world.proofs.outgoing.Packet.free.Reads as packet-free-reads
use Rattle.world.proofs.outgoing.Packet.new.Kinds as packet-new-kinds
use Rattle.world.proofs.outgoing.Packet.new.Reads as packet-new-reads
use Rattle.world.proofs.outgoing.recipients.Kinds as recipients-kinds
use Rattle.world.proofs.outgoing.recipients.Reads as recipients-reads
use Rattle.world.proofs.request.Request.bytes.Kinds as request-bytes-kinds
use Rattle.world.proofs.request.Request.bytes.Reads as request-bytes-reads
use Rattle.world.proofs.request.Request.has_digest.Kinds as request-has-digest-kinds
use Rattle.world.proofs.request.Request.has_digest.Reads as request-has-digest-reads
use Rattle.world.proofs.request.Request.unused.Kinds as request-unused-kinds
use Rattle.world.proofs.request.Request.unused.Reads as request-unused-reads
use Rattle.world.proofs.request.Requests.fresh.Kinds as requests-fresh-kinds
use Rattle.world.proofs.request.Requests.fresh.Reads as requests-fresh-reads
use Rattle.world.proofs.request.Requests.knows.Kinds as requests-knows-kinds
use Rattle.world.proofs.request.Requests.knows.Reads as requests-knows-reads
use Rattle.world.proofs.roster.Roster.faults.Kinds as roster-faults-kinds
use Rattle.world.proofs.roster.Roster.faults.Reads as roster-faults-reads
use Rattle.world.proofs.roster.Roster.is_faulty.Kinds as roster-is-faulty-kinds
use Rattle.world.proofs.roster.Roster.is_faulty.Reads as roster-is-faulty-reads
use Rattle.world.proofs.roster.Roster.is_good.Kinds as roster-is-good-kinds
use Rattle.world.proofs.roster.Roster.is_good.Reads as roster-is-good-reads
use Rattle.world.proofs.roster.Roster.member.Kinds as roster-member-kinds
use Rattle.world.proofs.roster.Roster.member.Reads as roster-member-reads
use Rattle.world.proofs.roster.Roster.strays.Kinds as roster-strays-kinds
use Rattle.world.proofs.roster.Roster.strays.Reads as roster-strays-reads
use Rattle.world.proofs.roster.Roster.threshold.Kinds as roster-threshold-kinds
use Rattle.world.proofs.roster.Roster.threshold.Reads as roster-threshold-reads
use Rattle.world.proofs.request.same_digest.Kinds as same-digest-kinds
use Rattle.world.proofs.request.same_digest.Reads as same-digest-reads
use Rattle.world.proofs.sending.Sending.none.Kinds as sending-none-kinds
use Rattle.world.proofs.sending.Sending.none.Reads as sending-none-reads
use Rattle.world.proofs.World.fresh.Kinds as world-fresh-kinds
use Rattle.world.proofs.World.fresh.Reads as world-fresh-reads
use Rattle.world.proofs.seating.seat.Kinds as seat-kinds
use Rattle.world.proofs.seating.seat.Reads as seat-reads
use Rattle.world.proofs.seating.within.Kinds as within-kinds
use Rattle.world.proofs.seating.within.Reads as within-reads

pub delivered_append_unique : Unique 0 delivered-append-kinds.ps delivered-append-kinds.r delivered-append-reads.Post
delivered_append_unique κs a x y e f p q = p ∙ sym q

pub delivered_fresh_unique : Unique 0 delivered-fresh-kinds.ps delivered-fresh-kinds.r delivered-fresh-reads.Post
delivered_fresh_unique κs a x y e f p q = p ∙ sym q

pub delivered_next_unique : Unique 0 delivered-next-kinds.ps delivered-next-kinds.r delivered-next-reads.Post
delivered_next_unique κs a x y e f p q = p ∙ sym q

pub entry_free_unique : Unique 0 entry-free-kinds.ps entry-free-kinds.r entry-free-reads.Post
entry_free_unique κs a x y e f p q = p ∙ sym q

pub entry_is_of_unique : Unique 0 entry-is-of-kinds.ps entry-is-of-kinds.r entry-is-of-reads.Post
entry_is_of_unique κs a x y e f p q = p ∙ sym q

pub entry_is_ready_unique : Unique 0 entry-is-ready-kinds.ps entry-is-ready-kinds.r entry-is-ready-reads.Post
entry_is_ready_unique κs a x y e f p q = p ∙ sym q

pub entry_new_unique : Unique 0 entry-new-kinds.ps entry-new-kinds.r entry-new-reads.Post
entry_new_unique κs a x y e f p q = p ∙ sym q

pub execution_call_unique : Unique 0 execution-call-kinds.ps execution-call-kinds.r execution-call-reads.Post
execution_call_unique κs a x y e f p q = p ∙ sym q

pub execution_open_unique : Unique 0 execution-open-kinds.ps execution-open-kinds.r execution-open-reads.Post
execution_open_unique κs a x y e f p q = p ∙ sym q

pub execution_order_unique : Unique 0 execution-order-kinds.ps execution-order-kinds.r execution-order-reads.Post
execution_order_unique κs a x y e f p q = p ∙ sym q

pub execution_unused_unique : Unique 0 execution-unused-kinds.ps execution-unused-kinds.r execution-unused-reads.Post
execution_unused_unique κs a x y e f p q = p ∙ sym q

pub executions_find_unique : Unique 0 executions-find-kinds.ps executions-find-kinds.r executions-find-reads.Post
executions_find_unique κs a x y e f p q = p ∙ sym q

pub executions_fresh_unique : Unique 0 executions-fresh-kinds.ps executions-fresh-kinds.r executions-fresh-reads.Post
executions_fresh_unique κs a x y e f p q = p ∙ sym q

pub has_unique : Unique 0 has-kinds.ps has-kinds.r has-reads.Post
has_unique κs a x y e f p q = p ∙ sym q

pub hold_at_unique : Unique 0 hold-at-kinds.ps hold-at-kinds.r hold-at-reads.Post
hold_at_unique κs a x y e f p q = p ∙ sym q

pub hold_free_unique : Unique 0 hold-free-kinds.ps hold-free-kinds.r hold-free-reads.Post
hold_free_unique κs a x y e f p q = p ∙ sym q

pub hold_fresh_unique : Unique 0 hold-fresh-kinds.ps hold-fresh-kinds.r hold-fresh-reads.Post
hold_fresh_unique κs a x y e f p q = p ∙ sym q

pub hold_has_room_unique : Unique 0 hold-has-room-kinds.ps hold-has-room-kinds.r hold-has-room-reads.Post
hold_has_room_unique κs a x y e f p q = p ∙ sym q

pub hold_holds_unique : Unique 0 hold-holds-kinds.ps hold-holds-kinds.r hold-holds-reads.Post
hold_holds_unique κs a x y e f p q = p ∙ sym q

pub hold_keep_unique : Unique 0 hold-keep-kinds.ps hold-keep-kinds.r hold-keep-reads.Post
hold_keep_unique κs a x y e f p q = p ∙ sym q

pub hold_put_unique : Unique 0 hold-put-kinds.ps hold-put-kinds.r hold-put-reads.Post
hold_put_unique κs a x y e f p q = p ∙ sym q

pub hold_ready_unique : Unique 0 hold-ready-kinds.ps hold-ready-kinds.r hold-ready-reads.Post
hold_ready_unique κs a x y e f p q = p ∙ sym q

pub join_unique : Unique 0 join-kinds.ps join-kinds.r join-reads.Post
join_unique κs a x y e f p q = p ∙ sym q

pub outgoing_at_unique : Unique 0 outgoing-at-kinds.ps outgoing-at-kinds.r outgoing-at-reads.Post
outgoing_at_unique κs a x y e f p q = p ∙ sym q

pub outgoing_clear_unique : Unique 0 outgoing-clear-kinds.ps outgoing-clear-kinds.r outgoing-clear-reads.Post
outgoing_clear_unique κs a x y e f p q = p ∙ sym q

pub outgoing_free_unique : Unique 0 outgoing-free-kinds.ps outgoing-free-kinds.r outgoing-free-reads.Post
outgoing_free_unique κs a x y e f p q = p ∙ sym q

pub outgoing_fresh_unique : Unique 0 outgoing-fresh-kinds.ps outgoing-fresh-kinds.r outgoing-fresh-reads.Post
outgoing_fresh_unique κs a x y e f p q = p ∙ sym q

pub outgoing_post_unique : Unique 0 outgoing-post-kinds.ps outgoing-post-kinds.r outgoing-post-reads.Post
outgoing_post_unique κs a x y e f p q = p ∙ sym q

pub outgoing_room_unique : Unique 0 outgoing-room-kinds.ps outgoing-room-kinds.r outgoing-room-reads.Post
outgoing_room_unique κs a x y e f p q = p ∙ sym q

pub outgoing_send_unique : Unique 0 outgoing-send-kinds.ps outgoing-send-kinds.r outgoing-send-reads.Post
outgoing_send_unique κs a x y e f p q = p ∙ sym q

pub packet_free_unique : Unique 0 packet-free-kinds.ps packet-free-kinds.r packet-free-reads.Post
packet_free_unique κs a x y e f p q = p ∙ sym q

pub packet_new_unique : Unique 0 packet-new-kinds.ps packet-new-kinds.r packet-new-reads.Post
packet_new_unique κs a x y e f p q = p ∙ sym q

pub recipients_unique : Unique 0 recipients-kinds.ps recipients-kinds.r recipients-reads.Post
recipients_unique κs a x y e f p q = p ∙ sym q

pub request_bytes_unique : Unique 0 request-bytes-kinds.ps request-bytes-kinds.r request-bytes-reads.Post
request_bytes_unique κs a x y e f p q = p ∙ sym q

pub request_has_digest_unique : Unique 0 request-has-digest-kinds.ps request-has-digest-kinds.r request-has-digest-reads.Post
request_has_digest_unique κs a x y e f p q = p ∙ sym q

pub request_unused_unique : Unique 0 request-unused-kinds.ps request-unused-kinds.r request-unused-reads.Post
request_unused_unique κs a x y e f p q = p ∙ sym q

pub requests_fresh_unique : Unique 0 requests-fresh-kinds.ps requests-fresh-kinds.r requests-fresh-reads.Post
requests_fresh_unique κs a x y e f p q = p ∙ sym q

pub requests_knows_unique : Unique 0 requests-knows-kinds.ps requests-knows-kinds.r requests-knows-reads.Post
requests_knows_unique κs a x y e f p q = p ∙ sym q

pub roster_faults_unique : Unique 0 roster-faults-kinds.ps roster-faults-kinds.r roster-faults-reads.Post
roster_faults_unique κs a x y e f p q = p ∙ sym q

pub roster_is_faulty_unique : Unique 0 roster-is-faulty-kinds.ps roster-is-faulty-kinds.r roster-is-faulty-reads.Post
roster_is_faulty_unique κs a x y e f p q = p ∙ sym q

pub roster_is_good_unique : Unique 0 roster-is-good-kinds.ps roster-is-good-kinds.r roster-is-good-reads.Post
roster_is_good_unique κs a x y e f p q = p ∙ sym q

pub roster_member_unique : Unique 0 roster-member-kinds.ps roster-member-kinds.r roster-member-reads.Post
roster_member_unique κs a x y e f p q = p ∙ sym q

pub roster_strays_unique : Unique 0 roster-strays-kinds.ps roster-strays-kinds.r roster-strays-reads.Post
roster_strays_unique κs a x y e f p q = p ∙ sym q

pub roster_threshold_unique : Unique 0 roster-threshold-kinds.ps roster-threshold-kinds.r roster-threshold-reads.Post
roster_threshold_unique κs a x y e f p q = p ∙ sym q

pub same_digest_unique : Unique 0 same-digest-kinds.ps same-digest-kinds.r same-digest-reads.Post
same_digest_unique κs a x y e f p q = p ∙ sym q

pub sending_none_unique : Unique 0 sending-none-kinds.ps sending-none-kinds.r sending-none-reads.Post
sending_none_unique κs a x y e f p q = p ∙ sym q

pub world_fresh_unique : Unique 0 world-fresh-kinds.ps world-fresh-kinds.r world-fresh-reads.Post
world_fresh_unique κs a x y e f p q = p ∙ sym q

pub seat_unique : Unique 0 seat-kinds.ps seat-kinds.r seat-reads.Post
seat_unique κs a x y e f p q = p.0 ∙ sym q.0

pub within_unique : Unique 0 within-kinds.ps within-kinds.r within-reads.Post
within_unique κs a x y e f p q = p.0 ∙ sym q.0
