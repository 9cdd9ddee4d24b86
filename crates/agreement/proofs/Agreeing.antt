-- A world of the invariant agrees. Assumes nothing.
use Rattle.std.specs.Prelude.{Some}
use mathlib.Core.Path.{◌≡◌, sym, ap, subst, ◌∙◌}
use mathlib.Core.Bool.{true}
use mathlib.Core.List.{List}
use Prim.Native.Nat.{ℕ, ◌+◌, ◌<◌, ◌≤◌}
use native.Mathlib.Omega.{arith}
use lib.ListN.{length, get_or, take}
use lib.Seq.{length-take-le, get_or-take, take_all, take-append_seam}
use Rattle.world.specs.declared.World.{World}
use Rattle.world.specs.declared.sending.Sending.{Sending}
use Rattle.world.specs.Executions.{execution_at, execution_of}
use Rattle.world.specs.Sending.{no_sending}
use Rattle.world.specs.Boxes.{executions_of}
use Rattle.protocol.specs.Quiet.{quiet}
use Rattle.world.proofs.Seats.{seat_own}
use Rattle.agreement.specs.Agreement.{sendings, sending_at, sending_of, Numbered, delivered_by, Begins, Agreed}
use Rattle.agreement.proofs.Invariant.{Correct, done_at, table_at, Belongs}
use Rattle.agreement.proofs.Sendings.{id_finds, sending_of_lem, sendings_length, sendings_at, begins_by}
use Rattle.agreement.proofs.Moving.{seated, few}
use Rattle.agreement.proofs.Members.{Good, member_of, member_belongs}
use Rattle.agreement.proofs.Quietly.{all_delivered}

-- a sending has one number
numbered_one : {w : World} {a b : Sending} {n m : ℕ} → Numbered w a n → Numbered w b m → a.sender ≡ b.sender → a.id ≡ b.id → n ≡ m
numbered_one {w} {a} {b} p q s i =
    let same : execution_of (executions_of w a.sender) a.id ≡ execution_of (executions_of w b.sender) b.id =
    ap (λ (x : ℕ). execution_of (executions_of w x) a.id) s ∙ ap (λ (y : ℕ). execution_of (executions_of w b.sender) y) i
    in
    let y : Some p.place ≡ Some q.place = sym p.found ∙ same ∙ q.found in
    let z : p.place ≡ q.place = cc in
    sym p.number
    ∙ ap (λ (x : ℕ). (execution_at (executions_of w x) p.place).number) s
    ∙ ap (λ (k : ℕ). (execution_at (executions_of w b.sender) k).number) z
    ∙ q.number

-- a beginning that is as long as the whole
begins_whole : {l all : List Sending} → Begins l all → length all ≤ length l → l ≡ all
begins_whole {l} {all} b h =
    sym (take-append_seam l b.rest) ∙ ap (λ (x : List Sending). take (length l) x) b.whole ∙ take_all (length l) all h

module _ (w : World) (g : Good w) where
  belongs_numbered : {s i sl n : ℕ} → Belongs w.requests w.executions s i sl n → Numbered w (record { id = i; sender = s; slot = sl }) n
  belongs_numbered {s} {i} b =
      let t = b.there in
      record {
        place = b.place;
        found = rw (seat_own s t.seated) (subst (λ (j : ℕ). execution_of (table_at w.executions s) j ≡ Some b.place) b.id (id_finds w g.facts t));
        number = rw (seat_own s t.seated) b.number;
        stored = b.matches.stored;
        digest = rw (seat_own s t.seated) b.matches.same;
      }

  agree_numbers : (k : ℕ) → k < w.numbered → Numbered w (sending_at w k) (k + 1)
  agree_numbers k h =
      let m = member_of w g (k + 1) (omega arith) (omega arith) in
      let b = member_belongs w (omega arith) m in
      subst (λ (i : Sending). Numbered w i (k + 1)) (sym (sendings_at w w.numbered k h ∙ sending_of_lem w g.facts b)) (belongs_numbered b)

  module _ (p : ℕ) (c : Correct w.roster p) where
    -- what the server delivered, in number and one by one
    done_length : length (delivered_by w p) ≡ (done_at w.delivered p).count
    done_length =
        let d = done_at w.delivered p in
        let l = seated w g.facts p c in
        let size = (g.facts.items p l).size in
        let most = few w g.facts p c in
        let top = g.facts.numbers.most in
        rw (seat_own p l) (length-take-le d.count d.items (omega arith))

    done_item : (k : ℕ) → k < (done_at w.delivered p).count → get_or (delivered_by w p) k no_sending ≡ sending_of w (k + 1)
    done_item k h =
        let d = done_at w.delivered p in
        rw (seat_own p (seated w g.facts p c))
        (get_or-take d.count d.items k no_sending h ∙ sym (sending_of_lem w g.facts (g.inv.prefix p k c h)))

    agree_beginning : Begins (delivered_by w p) (sendings w)
    agree_beginning =
        let l = done_length in
        let most = few w g.facts p c in
        let all = sendings_length w w.numbered in
        begins_by (delivered_by w p) (sendings w) (omega arith)
        (λ k h. done_item k (omega arith) ∙ sym (sendings_at w w.numbered k (omega arith)))

    agree_whole : quiet w ≡ true → delivered_by w p ≡ sendings w
    agree_whole q =
        let l = done_length in
        let d = all_delivered w g q p c in
        let all = sendings_length w w.numbered in
        begins_whole agree_beginning (omega arith)

  pub agreed : Agreed w
  agreed =
      record {
        each = sendings_length w w.numbered;
        numbers = agree_numbers;
        once = λ j k a b s i. let e = numbered_one (agree_numbers j a) (agree_numbers k b) s i in omega arith;
        beginning = agree_beginning;
        whole = λ q p c. agree_whole p c q;
      }
