-- Document 01, last paragraph: its case A and edges D, E and H to L, proved of the definitions as one table under one
-- theorem. A row has the bytes of a schedule and the whole listing of it: each answer, each item delivered and the
-- count of numbers given, or the refusal and its offset. A is the document's to the byte ("The listing"). Of the
-- others ("Edges") the document says what happens, and its rules give the rest.
use Prim.Native.String.{String, ◌++◌}
use Rattle.std.specs.Prelude.{◌≡◌, List, [], ◌∷◌}
use Rattle.format.specs.Judging.{schedule_most}
use Rattle.protocol.specs.Listing.{listing_of}
use Rattle.cases.specs.Texts.{lines, bytes, repeated}

-- its name, the schedule in hex, and the lines of the listing
pub record Case : Type 0 where
  pub name : String
  pub schedule : List String
  pub listing : List String

-- case A: three correct servers, one request, delivered by all
abbrev pub case_a : Case
case_a = record {
  name = "A";
  schedule =
      "01 03 00" ∷ "02 05 00000001 07" ∷ repeated 24 "41" ∷ "03 00 00" ∷ "04 00 00" ∷ "05 01 00" ∷ "06 01 00"
      ∷ "07 01" ∷ "07 00"
      ∷ "06 00 00" ∷ "07 00" ∷ "04 01 00" ∷ "05 02 00" ∷ "06 02 00" ∷ "07 02" ∷ "04 00 01" ∷ "05 02 00" ∷ [];
  listing = "world 3 1 2 15"
      ∷ "step 1 0" ∷ "step 2 0" ∷ "step 3 0" ∷ "step 4 0" ∷ "step 5 0" ∷ "step 6 0"
      ∷ "step 7 2"
      ∷ "step 8 0" ∷ "step 9 0" ∷ "step 10 0" ∷ "step 11 0" ∷ "step 12 0" ∷ "step 13 0" ∷ "step 14 0"
      ∷ "step 15 1"
      ∷ "server 0 1 0.1.0" ∷ "server 1 1 0.1.0" ∷ "server 2 1 0.1.0"
      ∷ "numbered 1" ∷ [];
}

-- edge D: a server alone gives itself number 1
abbrev pub edge_d : Case
edge_d = record {
  name = "D";
  schedule = "01 01 00" ∷ "02 05 00000001 01" ∷ repeated 24 "41" ∷ "03 00 00" ∷ "06 00 00" ∷ "07 00" ∷ [];
  listing = "world 1 0 1 4"
      ∷ "step 1 0" ∷ "step 2 0" ∷ "step 3 0" ∷ "step 4 0"
      ∷ "server 0 1 0.1.0" ∷ "numbered 1" ∷ [];
}

-- edge E: a seventeenth forged send is over the quota. They are of server 2, the faulty one of three, with ids from 1
-- on.
abbrev pub forged_send : String → String
forged_send id = "09 02 00" ++ (id ++ repeated 32 id)

abbrev pub edge_e : Case
edge_e = record {
  name = "E";
  schedule = "01 03 04"
      ∷ forged_send "01" ∷ forged_send "02" ∷ forged_send "03" ∷ forged_send "04" ∷ forged_send "05" ∷ forged_send "06"
      ∷ forged_send "07" ∷ forged_send "08"
      ∷ forged_send "09" ∷ forged_send "0A" ∷ forged_send "0B" ∷ forged_send "0C" ∷ forged_send "0D" ∷ forged_send "0E"
      ∷ forged_send "0F" ∷ forged_send "10"
      ∷ forged_send "11" ∷ [];
  listing = "world 3 1 2 17"
      ∷ "step 1 0" ∷ "step 2 0" ∷ "step 3 0" ∷ "step 4 0" ∷ "step 5 0" ∷ "step 6 0" ∷ "step 7 0" ∷ "step 8 0"
      ∷ "step 9 0" ∷ "step 10 0" ∷ "step 11 0" ∷ "step 12 0" ∷ "step 13 0" ∷ "step 14 0" ∷ "step 15 0" ∷ "step 16 0"
      ∷ "step 17 10"
      ∷ "server 0 0" ∷ "server 1 0" ∷ "server 2 faulty"
      ∷ "numbered 0" ∷ [];
}

-- edge H: a request that is stored already
abbrev pub edge_h : Case
edge_h = record {
  name = "H";
  schedule = "01 03 00" ∷ "02 05 00000001 07" ∷ repeated 24 "41" ∷ "02 05 00000001 07" ∷ repeated 24 "41" ∷ [];
  listing = "world 3 1 2 2"
      ∷ "step 1 0"
      ∷ "step 2 8"
      ∷ "server 0 0" ∷ "server 1 0" ∷ "server 2 0"
      ∷ "numbered 0" ∷ [];
}

-- edge I: no bytes at all
abbrev pub edge_i : Case
edge_i = record { name = "I"; schedule = []; listing = "refused 21 0" ∷ [] }

-- edge J: a cut start
abbrev pub edge_j : Case
edge_j = record { name = "J"; schedule = "01 03" ∷ []; listing = "refused 24 0" ∷ [] }

-- edge K: the first byte that is no kind
abbrev pub edge_k : Case
edge_k = record { name = "K"; schedule = "01 03 00 0B" ∷ []; listing = "refused 22 3" ∷ [] }

-- edge L: a dismissed multicast uses no id. Server 0 has a good seal on the second request alone.
abbrev pub edge_l : Case
edge_l = record {
  name = "L";
  schedule =
      "01 03 00" ∷ "02 05 00000001 06" ∷ repeated 24 "41" ∷ "02 05 00000002 07" ∷ repeated 24 "42" ∷ "03 00 00"
      ∷ "03 00 01"
      ∷ "04 00 00" ∷ "05 01 00" ∷ "06 00 00" ∷ "07 00" ∷ [];
  listing = "world 3 1 2 8"
      ∷ "step 1 0" ∷ "step 2 0"
      ∷ "step 3 3"
      ∷ "step 4 0" ∷ "step 5 0" ∷ "step 6 0" ∷ "step 7 0" ∷ "step 8 0"
      ∷ "server 0 1 0.1.1"
      ∷ "server 1 0" ∷ "server 2 0"
      ∷ "numbered 1" ∷ [];
}

abbrev pub table : List Case
table = case_a ∷ edge_d ∷ edge_e ∷ edge_h ∷ edge_i ∷ edge_j ∷ edge_k ∷ edge_l ∷ []

-- the definition's listing of the bytes, with the room for answers that `rehearse` lends, is the row's
abbrev pub Prints : Case → Type 0
Prints c = listing_of (bytes c.schedule) schedule_most ≡ lines c.listing

-- at each row of a table
abbrev pub Each : (Case → Type 0) → List Case → Type 0
Each P [] = Unit {0}
Each P (c ∷ rest) = P c × Each P rest

-- the one theorem
abbrev pub TableHolds : Type 0
TableHolds = Each Prints table
