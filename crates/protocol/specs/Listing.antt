-- Document 01, "The listing". A text is the list of its bytes in ASCII.
use Rattle.std.specs.Prelude.{ℕ, zero, suc, ◌+◌, ◌/◌, ◌%◌, cond, List, [], ◌∷◌, ◌++◌, ltb, get_or, take, Ok, Err}
use Rattle.world.specs.declared.World.{World}
use Rattle.world.specs.declared.roster.Roster.{Roster}
use Rattle.world.specs.declared.sending.Sending.{Sending}
use Rattle.world.specs.declared.delivered.Delivered.{Delivered}
use Rattle.world.specs.Roster.{faulty, faults, threshold}
use Rattle.world.specs.Boxes.{no_items}
use Rattle.format.specs.Records.{asked}
use Rattle.format.specs.Judging.{refusal_code, Verdict, judged}
use Rattle.protocol.specs.Steps.{world_after, answers_of}
use Rattle.protocol.specs.Runs.{with_room, start_world}

abbrev pub newline : ℕ
newline = 10

abbrev pub blank : ℕ
blank = 32

abbrev pub dot : ℕ
dot = 46

-- '0' to '9' are 48 to 57
abbrev pub digit : ℕ → ℕ
digit n = 48 + n

-- a number in decimal, the highest digit first, no zeros ahead of it: at most so many digits
unfoldable pub decimal_in : ℕ → ℕ → List ℕ
decimal_in zero n = []
decimal_in (suc most) n =
    let high = decimal_in most (n / 10) in cond (ltb n 10) (digit n ∷ []) (high ++ digit (n % 10) ∷ [])

-- 20 digits hold every number of 64 bits
abbrev pub digits_most : ℕ
digits_most = 20

abbrev pub decimal : ℕ → List ℕ
decimal n = decimal_in digits_most n

-- the words that a line starts with, a blank after each
abbrev pub refused_word : List ℕ
refused_word = 114 ∷ 101 ∷ 102 ∷ 117 ∷ 115 ∷ 101 ∷ 100 ∷ blank ∷ []

abbrev pub world_word : List ℕ
world_word = 119 ∷ 111 ∷ 114 ∷ 108 ∷ 100 ∷ blank ∷ []

abbrev pub step_word : List ℕ
step_word = 115 ∷ 116 ∷ 101 ∷ 112 ∷ blank ∷ []

abbrev pub server_word : List ℕ
server_word = 115 ∷ 101 ∷ 114 ∷ 118 ∷ 101 ∷ 114 ∷ blank ∷ []

abbrev pub numbered_word : List ℕ
numbered_word = 110 ∷ 117 ∷ 109 ∷ 98 ∷ 101 ∷ 114 ∷ 101 ∷ 100 ∷ blank ∷ []

-- the word `faulty` after the name of a server, and the line's end
abbrev pub faulty_end : List ℕ
faulty_end = blank ∷ 102 ∷ 97 ∷ 117 ∷ 108 ∷ 116 ∷ 121 ∷ newline ∷ []

-- the only line of a refused schedule: the refusal's code and its offset
abbrev pub refused_line : ℕ → ℕ → List ℕ
refused_line number offset = refused_word ++ (decimal number ++ blank ∷ (decimal offset ++ newline ∷ []))

-- the first line: n, f, T and the count of records after the start
abbrev pub world_line : Roster → ℕ → List ℕ
world_line r records =
    world_word
    ++ (decimal r.n ++ blank ∷ (decimal (faults r) ++ blank ∷ (decimal (threshold r)
    ++ blank ∷ (decimal records ++ newline ∷ []))))

-- a line for each step, counted from 1: the lines of answers whose first is that of step k
abbrev pub step_line : ℕ → ℕ → List ℕ
step_line k answer = step_word ++ (decimal k ++ blank ∷ (decimal answer ++ newline ∷ []))

unfoldable pub step_lines : ℕ → List ℕ → List ℕ
step_lines k [] = []
step_lines k (a ∷ l) = step_line k a ++ step_lines (k + 1) l

-- a delivered item: its sender, id and slot, dots between, a blank ahead
abbrev pub item_text : Sending → List ℕ
item_text s = blank ∷ (decimal s.sender ++ dot ∷ (decimal s.id ++ dot ∷ decimal s.slot))

unfoldable pub item_texts : List Sending → List ℕ
item_texts [] = []
item_texts (s ∷ l) = item_text s ++ item_texts l

-- a server's line: its name; then a word for a faulty one, or the count of its items and the items
abbrev pub delivered_text : Delivered → List ℕ
delivered_text d = blank ∷ (decimal d.count ++ (item_texts (take d.count d.items) ++ newline ∷ []))

abbrev pub server_line : Roster → ℕ → Delivered → List ℕ
server_line r server d = server_word ++ (decimal server ++ cond (faulty r server) faulty_end (delivered_text d))

-- the lines of the first n servers
unfoldable pub server_lines : World → ℕ → List ℕ
server_lines w zero = []
server_lines w (suc n) = server_lines w n ++ server_line w.roster n (get_or w.delivered n no_items)

-- the last line: how many numbers were given
abbrev pub numbered_line : ℕ → List ℕ
numbered_line m = numbered_word ++ (decimal m ++ newline ∷ [])

-- a run of so many records, with its answers and the world at its end
abbrev pub run_lines : ℕ → List ℕ → World → List ℕ
run_lines records answers w =
    world_line w.roster records
    ++ (step_lines 1 answers ++ (server_lines w w.roster.n ++ numbered_line w.numbered))

-- the whole listing of a schedule's fate
abbrev pub listing_by : List ℕ → Verdict → List ℕ
listing_by s (Ok records) =
    run_lines records (answers_of (start_world s) (asked s)) (world_after (start_world s) (asked s))
listing_by s (Err e) = refused_line (refusal_code e.why) e.offset

-- of a schedule with room for so many answers; 26 is listed as 20 to 25 are
unfoldable pub listing_of : List ℕ → ℕ → List ℕ
listing_of s room = listing_by s (with_room room (judged s))
