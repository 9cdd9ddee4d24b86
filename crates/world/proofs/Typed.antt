-- What the types say of the boxes: how long their arrays are. Assumes nothing.
use Rattle.std.proofs.Common.{◌≡◌, ℕ, List, map, length, sym, ◌∙◌}
use lib.ListN.{length-map}
use denote.Shadow.{shadow}
use denote.RattleType.{owns, Valss}
use denote.Struct.Declared.{shape}
use Rattle.world.specs.declared.hold.Hold.{Hold}
use Rattle.world.specs.declared.outgoing.Outgoing.{Outgoing}
use Rattle.world.specs.declared.delivered.Delivered.{Delivered}
use Rattle.world.specs.declared.request.Request.{Request}
use Rattle.world.specs.Sizes.{hold_places, outgoing_places, delivered_most, command_bytes}
use Rattle.world.specs.contracts.hold.Hold as hold-of
use Rattle.world.specs.contracts.outgoing.Outgoing as outgoing_of
use Rattle.world.specs.contracts.delivered.Delivered as delivered-of
use Rattle.world.specs.contracts.request.Request as request-of

-- a list is as long as its image
pub mapped : {X d : Type 0} (to : X → d) (xs : List X) (n : ℕ) → length (map to xs) ≡ n → length xs ≡ n
mapped to xs n e = sym (length-map xs to) ∙ e

pub hold_places_lem : (h : Hold) (vs : Valss (shape hold-of.the_type).fields) → shadow (owns (shape hold-of.the_type).fields ((hold-of.the_type).to h) vs) → length h.places ≡ hold_places
hold_places_lem h vs g = g.0.1.0.1

pub outgoing_places_lem : (o : Outgoing) (vs : Valss (shape outgoing_of.the_type).fields) → shadow (owns (shape outgoing_of.the_type).fields ((outgoing_of.the_type).to o) vs) → length o.places ≡ outgoing_places
outgoing_places_lem o vs g = g.0.1.0.1

pub delivered_items : (d : Delivered) (vs : Valss (shape delivered-of.the_type).fields) → shadow (owns (shape delivered-of.the_type).fields ((delivered-of.the_type).to d) vs) → length d.items ≡ delivered_most
delivered_items d vs g = g.0.1.0.1

pub request_command : (r : Request) (vs : Valss (shape request-of.the_type).fields) → shadow (owns (shape request-of.the_type).fields ((request-of.the_type).to r) vs) → length r.command ≡ command_bytes
request_command r vs g = g.1.1.1.0.1.0.1
