-- Texts written one after the other. Assumes nothing.
use Rattle.std.proofs.Common.{◌≡◌, sym, ◌∙◌, arith, ℕ, suc, ◌+◌, ◌<◌, List, [], ◌∷◌, ◌++◌, length, get_or, take, length-append}
use Rattle.std.proofs.lemmas.List.Edits.{sets}
use lib.Seq.{length-sets}
use Rattle.std.proofs.lemmas.List.{take_more, length-take-le}
use Rattle.writing.specs.declared.Text.{Text}
use Rattle.writing.specs.Writing.{Wrote, Writes}

sets_append : (l : List ℕ) (i : ℕ) (a b : List ℕ) → sets (sets l i a) (i + length a) b ≡ sets l i (a ++ b)
sets_append l i [] b = let e : i + 0 ≡ i = omega arith in rw e
sets_append l i (x ∷ a) b = let e : i + suc (length a) ≡ suc i + length a = omega arith in rw e (sets_append _ (suc i) a b)

-- one text after another
pub then : {t u v : Text} {a b : List ℕ} → Writes t a u → Writes u b v → Writes t (a ++ b) v
then {t} {u} {v} {a} {b} p q =
    record {
      same = q.same ∙ p.same;
      wrote = record {
        ends = simp length-append (omega (arith, p.wrote.ends, q.wrote.ends));
        bytes = q.wrote.bytes ∙ rw (p.wrote.bytes, p.wrote.ends) (sets_append t.bytes.now t.at a b);
      };
    }

-- one part more of a text that is made of parts, one for each item of a list: `part` is that of the item at a place
pub more : {A : Type 0} (texts : List A → List ℕ) (part : ℕ → A → List ℕ) → ((l : List A) (x : A) → texts (l ++ x ∷ []) ≡ texts l ++ part (length l) x)
    → {t u v : Text} (l : List A) (i : ℕ) (d : A) → i < length l → Writes t (texts (take i l)) u → Writes u (part i (get_or l i d)) v → Writes t (texts (take (i + 1) l)) v
more texts part push {t} {u} {v} l i d h p q =
    let k : length (take i l) ≡ i = length-take-le i l (omega arith) in
    rw (take_more l i d h, push (take i l) (get_or l i d), k) (then p q)

-- the buffer's length stays
pub wrote_length : {l m a : List ℕ} {at e : ℕ} → Wrote l at a m e → length m ≡ length l
wrote_length {l} {m} {a} {at} {e} p = rw p.bytes (length-sets l at a)

-- a whole text at the front
pub listed : {l m a : List ℕ} {e : ℕ} (b : List ℕ) → Wrote l 0 a m e → a ≡ b → (e ≡ length b) × (m ≡ sets l 0 b)
listed {l} {m} {a} {e} b p q = let n : e ≡ length a = omega (arith, p.ends) in (rw (← q) n, rw (← q) p.bytes)

-- what a lent buffer holds after a text was written into it
pub left : {t u : Text} {a x : List ℕ} → Writes t a u → (t.bytes.ghost_name ≡ u.bytes.ghost_name → x ≡ u.bytes.now) → Wrote t.bytes.now t.at a x u.at
left {t} {u} {a} {x} p h = rw (h (sym p.same)) p.wrote
