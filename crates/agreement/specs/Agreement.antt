-- Demand 3, over the rows of steps that start from a fresh world with at most f faulty servers. There is a list of
-- sendings, the one of number k + 1 at place k; each correct server has delivered a beginning of it, and no sending is
-- in it twice; of each, some correct server with a good seal held it by the step that gave the number; and in a quiet
-- world nobody correct lacks any of it. Besides, the list only grows.
use Rattle.std.specs.Prelude.{ℕ, zero, suc, ◌+◌, ◌*◌, ◌/◌, ◌%◌, ◌<◌, ◌≤◌, ◌≡◌, true, ◌&&◌, List, [], ◌∷◌, ◌++◌, eqb, ltb, length, get_or, take, None, Option, Some, Ok}
use Rattle.search.specs.Search.{first}
use Rattle.world.specs.declared.World.{World}
use Rattle.world.specs.declared.request.Requests.{Requests}
use Rattle.world.specs.declared.execution.Executions.{Executions}
use Rattle.world.specs.declared.sending.Sending.{Sending}
use Rattle.world.specs.Sizes.{servers, requests_most, executions_most}
use Rattle.world.specs.Masks.{has}
use Rattle.world.specs.Roster.{correct}
use Rattle.world.specs.Requests.{request_at, same_digest}
use Rattle.world.specs.Executions.{execution_at, execution_of}
use Rattle.world.specs.Hold.{holding}
use Rattle.world.specs.Sending.{no_sending}
use Rattle.world.specs.Boxes.{executions_of, hold_of, delivered_of}
use Rattle.protocol.specs.Sound.{number_at}
use Rattle.protocol.specs.Quiet.{quiet}
use Rattle.format.specs.Records.{Asked, asked}
use Rattle.format.specs.Judging.{judged}
use Rattle.protocol.specs.Steps.{step_of}
use Rattle.protocol.specs.Runs.{start_of, public_step, start_world, ran_of}

-- the place that a search found
abbrev pub place_of : Option ℕ → ℕ
place_of (Some k) = k
place_of None = 0

-- the execution that has a number; the executions are counted one sender after the other
abbrev pub numbered_at : List Executions → ℕ → ℕ
numbered_at ts number = place_of (first (λ (i : ℕ). eqb (number_at ts i) number) (servers * executions_most))

-- the slot of the request that has a digest
abbrev pub slot_of : Requests → List ℕ → ℕ
slot_of q digest =
    place_of (first (λ (k : ℕ). ltb k q.count && same_digest (request_at q k).digest digest) requests_most)

-- the sending that has a number, as a server would deliver it (`Agreed.numbers` below says that it is the one)
unfoldable pub sending_of : World → ℕ → Sending
sending_of w number =
    let i = numbered_at w.executions number in
    let x = execution_at (executions_of w (i / executions_most)) (i % executions_most) in
    record { id = x.id; sender = i / executions_most; slot = slot_of w.requests x.digest }

-- the list: the sendings of numbers 1, 2, 3 to the last one given
unfoldable pub sendings_to : World → ℕ → List Sending
sendings_to w zero = []
sendings_to w (suc m) = sendings_to w m ++ sending_of w (m + 1) ∷ []

abbrev pub sendings : World → List Sending
sendings w = sendings_to w w.numbered

abbrev pub sending_at : World → ℕ → Sending
sending_at w k = get_or (sendings w) k no_sending

-- the execution of a sending's sender and id has the number, and the digest of the request in its slot
pub record Numbered (w : World) (s : Sending) (n : ℕ) : Type 0 where
  pub place : ℕ
  pub found : execution_of (executions_of w s.sender) s.id ≡ Some place
  pub number : (execution_at (executions_of w s.sender) place).number ≡ n
  pub stored : s.slot < w.requests.count
  pub digest :
      same_digest (request_at w.requests s.slot).digest (execution_at (executions_of w s.sender) place).digest
      ≡ true

-- what a server has delivered
abbrev pub delivered_by : World → ℕ → List Sending
delivered_by w server = take (delivered_of w server).count (delivered_of w server).items

-- one list is a beginning of another
pub record Begins (l all : List Sending) : Type 0 where
  pub rest : List Sending
  pub whole : l ++ rest ≡ all

-- what holds of a world
pub record Agreed (w : World) : Type 0 where
  -- as many as there are numbers, and at place k the sending of number k + 1
  pub each : length (sendings w) ≡ w.numbered
  pub numbers : (k : ℕ) → k < w.numbered → Numbered w (sending_at w k) (k + 1)
  -- no two places have one sending; it is known by its sender and id, not by its request
  pub once : (j k : ℕ) → j < w.numbered → k < w.numbered → (sending_at w j).sender ≡ (sending_at w k).sender
      → (sending_at w j).id ≡ (sending_at w k).id → j ≡ k
  -- a correct server's deliveries are a beginning of the list
  pub beginning : (server : ℕ) → correct w.roster server ≡ true → Begins (delivered_by w server) (sendings w)
  -- and the whole of it where the world is quiet
  pub whole : quiet w ≡ true → (server : ℕ) → correct w.roster server ≡ true → delivered_by w server ≡ sendings w

-- the world after a row of steps
unfoldable pub through : {A : Type 0} → (World → A → World) → World → List A → World
through go w [] = w
through go w (a ∷ l) = through go (go w a) l

-- some correct server holds the sending, and its seal on the request is good
pub record Vouched (w : World) (s : Sending) : Type 0 where
  pub server : ℕ
  pub good : correct w.roster server ≡ true
  pub seal : has (request_at w.requests s.slot).seals server ≡ true
  pub held : holding (hold_of w server) s ≡ true

-- in time: one step of the row gives the number, and the sending is vouched for in the world that this step leaves
pub record InTime {A : Type 0} (go : World → A → World) (w : World) (l : List A) (number : ℕ) : Type 0 where
  pub earlier : List A
  pub now : A
  pub later : List A
  pub row : l ≡ earlier ++ now ∷ later
  pub not_yet : (through go w earlier).numbered < number
  pub given : number ≤ (go (through go w earlier) now).numbered
  pub vouched : Vouched (go (through go w earlier) now) (sending_of (through go w l) number)

-- demand 3 of a row of steps from a world
pub record Demand {A : Type 0} (go : World → A → World) (w : World) (l : List A) : Type 0 where
  pub agreed : Agreed (through go w l)
  pub in_time : (number : ℕ) → 1 ≤ number → number ≤ (through go w l).numbered → InTime go w l number
  -- the list only grows: what a number means never changes afterwards
  pub grows : (a b : List A) → l ≡ a ++ b → Begins (sendings (through go w a)) (sendings (through go w l))

-- a record's step, and a public step by its bytes
abbrev pub by_record : World → Asked → World
by_record w a = (step_of w a).world

abbrev pub by_bytes : World → List ℕ → World
by_bytes w s = (public_step w s).world

-- of every schedule that is not refused
abbrev pub RunAgrees : Type 0
RunAgrees = (s : List ℕ) (k : ℕ) → judged s ≡ Ok k → Demand by_record (start_world s) (asked s)

-- of what `run` hands back
abbrev pub RanAgrees : Type 0
RanAgrees = (s : List ℕ) (room k : ℕ) → (ran_of s room).verdict ≡ Ok k → Agreed (ran_of s room).world

-- of a public start that answers 0 and any row of public steps, refused ones among them
abbrev pub RowAgrees : Type 0
RowAgrees = (n faulty : ℕ) (l : List (List ℕ)) → (start_of n faulty).code ≡ 0 → Demand by_bytes (start_of n faulty).world l
