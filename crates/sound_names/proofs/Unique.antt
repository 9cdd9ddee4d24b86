-- Each public contract of this crate has one answer only. Assumes nothing.
use mathlib.Core.Path.{◌≡◌, sym, ◌∙◌}
use Prim.Native.Nat.{ℕ}
use mathlib.Core.Bool.{Bool}
use denote.RattleType.{RattleType}
use denote.Param.Laws.{Laws}
use mir.Syntax.{Dict}
use contract.Lifetimes.{Lfts}
use denote.Triple.Clauses.{AtExit}
use borrow.Fn.Kinds.{Dens, res_t, ended_of}
use Rattle.unique.specs.Unique.{Unique}
use Rattle.sound_names.specs.Keys.{Compares}
use Rattle.sound_names.specs.contracts.keys.keys_differ.F-Fn as keys-differ-fn
use Rattle.sound_names.proofs.keys.keys_differ.Kinds as keys-differ-kinds
use Rattle.sound_names.proofs.keys.keys_differ.Reads as keys-differ-reads
use Rattle.sound_names.specs.Tables.{TestsAt, Tests}
use Rattle.sound_names.specs.contracts.tables.used_below.F-Fn as used-below-f
use Rattle.sound_names.specs.contracts.tables.used_below.G-Fn as used-below-g
use Rattle.sound_names.proofs.tables.used_below.Kinds as used-below-kinds
use Rattle.sound_names.proofs.tables.used_below.Reads as used-below-reads
use Rattle.sound_names.proofs.naming.has_execution.Kinds as has-execution-kinds
use Rattle.sound_names.proofs.naming.has_execution.Reads as has-execution-reads
use Rattle.sound_names.proofs.naming.is_correct.Kinds as is-correct-kinds
use Rattle.sound_names.proofs.naming.is_correct.Reads as is-correct-reads
use Rattle.sound_names.proofs.naming.Known.names.Kinds as names-kinds
use Rattle.sound_names.proofs.naming.Known.names.Reads as names-reads
use Rattle.sound_names.proofs.naming.own_execution.Kinds as own-execution-kinds
use Rattle.sound_names.proofs.naming.own_execution.Reads as own-execution-reads
use Rattle.sound_names.proofs.naming.table_of.Kinds as table-of-kinds
use Rattle.sound_names.proofs.naming.table_of.Reads as table-of-reads
use Rattle.sound_names.proofs.zeros.zero_entry.Kinds as zero-entry-kinds
use Rattle.sound_names.proofs.zeros.zero_entry.Reads as zero-entry-reads
use Rattle.sound_names.proofs.zeros.zero_execution.Kinds as zero-execution-kinds
use Rattle.sound_names.proofs.zeros.zero_execution.Reads as zero-execution-reads
use Rattle.sound_names.proofs.zeros.zero_sending.Kinds as zero-sending-kinds
use Rattle.sound_names.proofs.zeros.zero_sending.Reads as zero-sending-reads
use Rattle.sound_names.proofs.zeros.zero_packet.Kinds as zero-packet-kinds
use Rattle.sound_names.proofs.zeros.zero_packet.Reads as zero-packet-reads
use Rattle.sound_names.proofs.zeros.zero_request.Kinds as zero-request-kinds
use Rattle.sound_names.proofs.zeros.zero_request.Reads as zero-request-reads

pub has_execution_unique : Unique 1 has-execution-kinds.ps has-execution-kinds.r has-execution-reads.Post
has_execution_unique κs a x y e f p q = p ∙ sym q

pub is_correct_unique : Unique 0 is-correct-kinds.ps is-correct-kinds.r is-correct-reads.Post
is_correct_unique κs a x y e f p q = p ∙ sym q

pub names_unique : Unique 0 names-kinds.ps names-kinds.r names-reads.Post
names_unique κs a x y e f p q = p ∙ sym q

pub own_execution_unique : Unique 1 own-execution-kinds.ps own-execution-kinds.r own-execution-reads.Post
own_execution_unique κs a x y e f p q = p ∙ sym q

-- what is lent has one value
pub table_of_unique : (κs : Lfts 1) (a : Dens κs table-of-kinds.ps) (x y : (res_t table-of-kinds.r κs).Denot) (e f : AtExit (ended_of 1 table-of-kinds.ps table-of-kinds.r) κs) → table-of-reads.Post κs a x e → table-of-reads.Post κs a y f → x.now ≡ y.now
table_of_unique κs a x y e f p q = p ∙ sym q

pub zero_entry_unique : Unique 0 zero-entry-kinds.ps zero-entry-kinds.r zero-entry-reads.Post
zero_entry_unique κs a x y e f p q = p ∙ sym q

pub zero_execution_unique : Unique 0 zero-execution-kinds.ps zero-execution-kinds.r zero-execution-reads.Post
zero_execution_unique κs a x y e f p q = p ∙ sym q

pub zero_sending_unique : Unique 0 zero-sending-kinds.ps zero-sending-kinds.r zero-sending-reads.Post
zero_sending_unique κs a x y e f p q = p ∙ sym q

pub zero_packet_unique : Unique 0 zero-packet-kinds.ps zero-packet-kinds.r zero-packet-reads.Post
zero_packet_unique κs a x y e f p q = p ∙ sym q

pub zero_request_unique : Unique 0 zero-request-kinds.ps zero-request-kinds.r zero-request-reads.Post
zero_request_unique κs a x y e f p q = p ∙ sym q

-- of a caller's test that answers by a function of the two elements
pub keys_differ_unique : (T F : RattleType) (lt : Laws T) (lf : Laws F) (fn : keys-differ-fn.Ghosts T F) (d0 d1 d2 d3 : Dict) (κs : Lfts 3) (a : Dens κs (keys-differ-kinds.ps T F lt lf))
    (x y : (res_t (keys-differ-kinds.r T F lt lf) κs).Denot) (e f : AtExit (ended_of 3 (keys-differ-kinds.ps T F lt lf) (keys-differ-kinds.r T F lt lf)) κs)
    → keys-differ-reads.Post T F lt lf fn d0 d1 d2 d3 κs a x e → keys-differ-reads.Post T F lt lf fn d0 d1 d2 d3 κs a y f
    → (t : T.Denot → T.Denot → Bool) (d : T.Denot) → Compares ((keys-differ-fn.words T F fn).post a.1.0) t → x ≡ y
keys_differ_unique T F lt lf fn d0 d1 d2 d3 κs a x y e f p q t d h = p t d h ∙ sym (q t d h)

-- of callers' tests that answer by functions of the place and the element
pub used_below_unique : (T F G : RattleType) (lt : Laws T) (lf : Laws F) (lg : Laws G) (f' : used-below-f.Ghosts T F G) (d0 d1 d2 : Dict) (g' : used-below-g.Ghosts T F G) (d3 d4 d5 d6 d7 : Dict)
    (κs : Lfts 4) (a : Dens κs (used-below-kinds.ps T F G lt lf lg)) (x y : (res_t (used-below-kinds.r T F G lt lf lg) κs).Denot)
    (e f : AtExit (ended_of 4 (used-below-kinds.ps T F G lt lf lg) (used-below-kinds.r T F G lt lf lg)) κs)
    → used-below-reads.Post T F G lt lf lg f' d0 d1 d2 g' d3 d4 d5 d6 d7 κs a x e → used-below-reads.Post T F G lt lf lg f' d0 d1 d2 g' d3 d4 d5 d6 d7 κs a y f
    → (t : ℕ → T.Denot → Bool) (z : T.Denot → Bool) (d : T.Denot) → TestsAt ((used-below-f.words T F G f').post a.1.1.0) t → Tests ((used-below-g.words T F G g').post a.1.1.1.0) z → x ≡ y
used_below_unique T F G lt lf lg f' d0 d1 d2 g' d3 d4 d5 d6 d7 κs a x y e f p q t z d h i = p t z d h i ∙ sym (q t z d h i)
