-- The table of cases, by computation: every definition between a schedule's bytes and its listing is opened, SHA-256 among them, and the two
-- sides of each row come out as the same bytes. Assumes nothing.
use mathlib.Core.Path.{refl}
use lib.Count.{ones_in, ones}
use Rattle.search.specs.Search.{first_from, count}
use Rattle.search.specs.Tests.{must}
use Rattle.fips180.specs.Sha256.{padded, next_word, scheduled, round_of, rounds_of, fed, block_words, compressed, hashed, state_bytes, digest_of}
use Rattle.world.specs.Masks.{has, join}
use Rattle.world.specs.Requests.{fresh_requests, request_bytes, same_digest, known_digest}
use Rattle.world.specs.Executions.{fresh_executions, ordered}
use Rattle.world.specs.Outgoing.{fresh_outgoing, packet_added_at, packet_added, sent_below}
use Rattle.world.specs.Hold.{fresh_hold, entry_added_at, entry_added}
use Rattle.world.specs.Delivered.{fresh_delivered}
use Rattle.world.specs.Fresh.{fresh_world}
use Rattle.protocol.specs.Rules.{made, recorded, request_from, request_of, multicast_done, multicast_of, arrive_of, propose_to, propose_found, propose_of, settle_to, settle_found, settle_of, deliver_found, deliver_of, forge_send_of}
use Rattle.format.specs.Fields.{bytes_at}
use Rattle.format.specs.Records.{form_of, read_by, read_at, asked_by, asked_after}
use Rattle.format.specs.Judging.{scan_by, scan_from, scanned, records_judged, judged}
use Rattle.protocol.specs.Steps.{step_of, world_after, answers_of}
use Rattle.protocol.specs.Listing.{decimal_in, step_lines, item_texts, server_lines, listing_of}
use Rattle.cases.specs.Texts.{codes, lines, unspaced, paired, bytes, repeated}
use Rattle.cases.specs.Cases.{TableHolds}

pub table_holds : TableHolds
unfolding ones_in ones first_from count must padded next_word scheduled round_of rounds_of fed block_words compressed hashed state_bytes digest_of has join fresh_requests request_bytes same_digest known_digest fresh_executions ordered fresh_outgoing packet_added_at packet_added sent_below fresh_hold entry_added_at entry_added fresh_delivered fresh_world made recorded request_from request_of multicast_done multicast_of arrive_of propose_to propose_found propose_of settle_to settle_found settle_of deliver_found deliver_of forge_send_of bytes_at form_of read_by read_at asked_by asked_after scan_by scan_from scanned records_judged judged step_of world_after answers_of decimal_in step_lines item_texts server_lines listing_of codes lines unspaced paired bytes repeated
table_holds = (refl, (refl, (refl, (refl, (refl, (refl, (refl, (refl, tt))))))))
