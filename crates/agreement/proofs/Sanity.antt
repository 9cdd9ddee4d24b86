-- `Agreed` shuts out what it must. Assumes nothing.
use mathlib.Core.Path.{◌≡◌, sym, ap, ◌∙◌}
use mathlib.Core.Bool.{true}
use mathlib.Core.List.{List}
use Prim.Native.Nat.{ℕ, ◌<◌, ◌≤◌}
use native.Mathlib.Omega.{arith}
use lib.ListN.{length, get_or, length-append, get_or-append}
use Rattle.world.specs.declared.World.{World}
use Rattle.world.specs.declared.sending.Sending.{Sending}
use Rattle.world.specs.Roster.{correct}
use Rattle.world.specs.Sending.{no_sending}
use Rattle.agreement.specs.Agreement.{sending_at, delivered_by, Begins, Agreed}
use Rattle.agreement.specs.Sanity.{delivered_at, OrdersDiffer, DeliveredTwice, LeftBehind, ShutOut, Sane}

-- a beginning has the items of the whole, and is not longer
begins_at : {l all : List Sending} → Begins l all → (k : ℕ) → k < length l → get_or l k no_sending ≡ get_or all k no_sending
begins_at {l} b k h = sym (get_or-append l b.rest no_sending k h) ∙ ap (λ (x : List Sending). get_or x k no_sending) b.whole

begins_short : {l all : List Sending} → Begins l all → length l ≤ length all
begins_short {l} b = let e = ap length b.whole in let f = length-append l b.rest in omega arith

module _ (w : World) (a : Agreed w) where
  listed : (server : ℕ) → correct w.roster server ≡ true → (k : ℕ) → k < length (delivered_by w server) → delivered_at w server k ≡ sending_at w k
  listed server c k h = begins_at (a.beginning server c) k h

  below : (server : ℕ) → correct w.roster server ≡ true → (k : ℕ) → k < length (delivered_by w server) → k < w.numbered
  below server c k h = let s = begins_short (a.beginning server c) in let e = a.each in omega arith

pub orders_differ : ShutOut OrdersDiffer
orders_differ w d a =
    d.differ (listed w a d.one d.good_one d.place d.in_one ∙ sym (listed w a d.other d.good_other d.place d.in_other))

pub delivered_twice : ShutOut DeliveredTwice
delivered_twice w d a =
    let one = listed w a d.server d.good d.place d.in_list in
    let again = listed w a d.server d.good d.again d.again_in_list in
    d.two
    (a.once d.place d.again (below w a d.server d.good d.place d.in_list) (below w a d.server d.good d.again d.again_in_list)
    (sym (ap (λ (i : Sending). i.sender) one) ∙ d.sender ∙ ap (λ (i : Sending). i.sender) again)
    (sym (ap (λ (i : Sending). i.id) one) ∙ d.id ∙ ap (λ (i : Sending). i.id) again))

pub left_behind : ShutOut LeftBehind
left_behind w d a =
    let e = ap length (a.whole d.still d.server d.good) in
    let n = a.each in
    let l = d.less in
    omega arith

pub sane : Sane
sane = (orders_differ, (delivered_twice, left_behind))
