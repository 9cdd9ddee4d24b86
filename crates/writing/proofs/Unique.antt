-- Each public contract of this crate has one answer only, and settles the text that it writes. Assumes nothing.
use Rattle.std.proofs.Common.{sym, ◌∙◌}
use denote.RattleType.{RattleType}
use denote.Param.Laws.{Laws, IsCopy}
use mir.Syntax.{Dict}
use Rattle.itoa.specs.declared.integer.Integer as Integer
use Rattle.std.specs.declared.clone.Clone as Clone
use Rattle.writing.specs.Unique.{UniqueText}
use Rattle.writing.proofs.Text.byte.Kinds as byte-kinds
use Rattle.writing.proofs.Text.byte.Reads as byte-reads
use Rattle.writing.proofs.Text.number.Kinds as number-kinds
use Rattle.writing.proofs.Text.number.Reads as number-reads
use Rattle.writing.proofs.Text.word.Kinds as word-kinds
use Rattle.writing.proofs.Text.word.Reads as word-reads

pub byte_unique : UniqueText 2 byte-kinds.ps byte-kinds.r (λ κs x e. e.0.now) byte-reads.Post
byte_unique κs a x y e f p q = (p.wrote.ends ∙ sym q.wrote.ends, p.wrote.bytes ∙ sym q.wrote.bytes)

pub word_unique : UniqueText 3 word-kinds.ps word-kinds.r (λ κs x e. e.0.now) word-reads.Post
word_unique κs a x y e f p q = (p.wrote.ends ∙ sym q.wrote.ends, p.wrote.bytes ∙ sym q.wrote.bytes)

-- of every type of numbers
pub number_unique : (T : RattleType) (l : Laws T) (c : IsCopy T) (i : Integer.Ghosts T.Denot) (d : Dict) (g : Clone.Ghosts T.Denot) (h : Dict)
    → UniqueText 3 (number-kinds.ps T l c) (number-kinds.r T l c) (λ κs x e. e.0.now) (number-reads.Post T l c i d g h)
number_unique T l c i d g h κs a x y e f p q = (p.0.wrote.ends ∙ sym q.0.wrote.ends, p.0.wrote.bytes ∙ sym q.0.wrote.bytes)
