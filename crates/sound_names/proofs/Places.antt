-- What a chain over a list's elements, over its places or over numbers says of every place, and that keys differ.
-- Assumes nothing.
use Rattle.std.proofs.Common.{◌≡◌, ℕ, zero, suc, ◌+◌, ◌<◌, ◌≤◌, Bool, true, false, cond, not, ◌&&◌, List, [], ◌∷◌, length, get_or, take, length-take-le, refl, sym, ap, ◌∙◌, arith, add-zero, zero-add, Option, Some, is_some, Iter}
use Rattle.std.specs.declared.ops.Range.{Range}
use Rattle.std.specs.declared.iter.Enumerate.{Enumerate}
use mathlib.Core.Logic.{◌≢◌}
use Rattle.std.proofs.iter.Yields.{fronts, nat_range_steps}
use Rattle.std.proofs.lemmas.List.{get_or-take}
use Rattle.std.proofs.lemmas.Iterator.{YieldsList-from_slice, YieldsList-from_range}
use Rattle.std.proofs.lemmas.Iterator.Consumers.{YieldsList-from_enumerate}
use Rattle.std.proofs.lemmas.Iterator.Search.{all_from_yields_List}
use Rattle.std.specs.Array.{IsFromFnResultFrom, IsFromFnResult}
use Rattle.std.specs.Fn.{Called}
use Rattle.std.specs.Iterator.{YieldsThen}
use Rattle.std.specs.Iterator.Adapters.{enumerate_source, enumerate_count, enumerate_steps}
use Rattle.std.specs.List.{list_all, enumerate_from, FoldsTo}
use Rattle.std.specs.Option.{MatchOption}
use Rattle.std.specs.Slice.Iter.{iter_rest}
use denote.Param.Members.{Mut}
use denote.Ref.{Bor}
use Rattle.std.proofs.lemmas.Bool.{cases_eq}
use Rattle.search.specs.Search.{first_from, every}
use Rattle.search.proofs.Booleans.{either, test}
use Rattle.search.proofs.Chains.{every_places, every_numbered}
use Rattle.sound_names.specs.Keys.{new_key, keys_differ}

-- the test of each element with its place, and the same test at the places from `at` on
pub record Placed {A : Type 0} (p : ℕ → A → Bool) (d : A) (xs : List A) (t : ℕ → Bool) (at : ℕ) : Type 0 where
  pub same : (k : ℕ) → k < length xs → t (at + k) ≡ p (at + k) (get_or xs k d)

placed_head : {A : Type 0} {p : ℕ → A → Bool} {d y : A} {ys : List A} {t : ℕ → Bool} {at : ℕ} → Placed p d (y ∷ ys) t at → t at ≡ p at y
placed_head {p = p} {y = y} {t = t} {at = at} s = ap t (sym (add-zero at)) ∙ s.same 0 (omega arith) ∙ ap (λ k. p k y) (add-zero at)

placed_tail : {A : Type 0} {p : ℕ → A → Bool} {d y : A} {ys : List A} {t : ℕ → Bool} {at : ℕ} → Placed p d (y ∷ ys) t at → Placed p d ys t (at + 1)
placed_tail {p = p} {d = d} {ys = ys} {t = t} {at = at} s = record { same = λ k l. let e : at + 1 + k ≡ at + suc k = omega arith in rw e (s.same (suc k) (omega arith)) }

placed_none : (b : Bool) (o : Option ℕ) (at : ℕ) (r : Bool) → r ≡ not (is_some o) → (b && r) ≡ not (is_some (cond (not b) (Some at) o))
placed_none true o at r e = e
placed_none false o at r e = refl

every_from_places : {A : Type 0} (p : ℕ → A → Bool) (d : A) (xs : List A) (t : ℕ → Bool) (at : ℕ) → Placed p d xs t at → list_all (λ q. p q.0 q.1) (enumerate_from at xs) ≡ not (is_some (first_from (λ (k : ℕ). not (t k)) at (length xs)))
unfolding first_from
every_from_places p d [] t at s = refl
every_from_places p d (y ∷ ys) t at s = rw (← placed_head s) (placed_none (t at) _ at _ (every_from_places p d ys t (at + 1) (placed_tail s)))

-- whether the test holds at each element, asked with its place
pub every_place : {A : Type 0} (p : ℕ → A → Bool) (d : A) (xs : List A) (n : ℕ) → length xs ≡ n → list_all (λ q. p q.0 q.1) (enumerate_from 0 xs) ≡ every (λ (k : ℕ). p k (get_or xs k d)) n
every_place p d xs n l =
    every_from_places p d xs (λ (k : ℕ). p k (get_or xs k d)) 0 (record { same = λ k q. let z : 0 + k ≡ k = zero-add k in rw z })
    ∙ ap (λ m. every (λ (k : ℕ). p k (get_or xs k d)) m) l

-- what `all` answers: over a list's elements, over them with their places, over the numbers below n
pub every_of_slice : {A F : Type 0} {g : Mut F (Bor A × Unit {0}) Bool} {s : Iter A} (test : A → Bool) (d : A) (xs : List A) (n : ℕ) (u : Iter A) (f : F) (r : Bool) → (zs : List (Bor A)) × (o : Option (Bor A)) × (j : F) × YieldsThen fronts s zs o u × FoldsTo (λ p x q. Called g p (x, tt) true q) f zs j × MatchOption o (r ≡ true) (λ x. (r ≡ false) × ((h : F) × Called g j (x, tt) false h)) → iter_rest s ≡ xs → length xs ≡ n → ((x : Bor A) (b : Bool) (q : F) → Called g f (x, tt) b q → (q ≡ f) × (b ≡ test x.now)) → r ≡ every (λ (k : ℕ). test (get_or xs k d)) n
every_of_slice test d xs n u f r ran e l calls = every_places u test d xs n r ran (YieldsList-from_slice xs e) calls l

pub every_of_places : {A F : Type 0} {g : Mut F ((ℕ × Bor A) × Unit {0}) Bool} {s : Enumerate (Iter A)} (test : ℕ → A → Bool) (d : A) (xs : List A) (n : ℕ) (u : Enumerate (Iter A)) (f : F) (r : Bool) → (zs : List (ℕ × Bor A)) × (o : Option (ℕ × Bor A)) × (j : F) × YieldsThen (enumerate_steps fronts) s zs o u × FoldsTo (λ p x q. Called g p (x, tt) true q) f zs j × MatchOption o (r ≡ true) (λ x. (r ≡ false) × ((h : F) × Called g j (x, tt) false h)) → iter_rest (enumerate_source s) ≡ xs → enumerate_count s ≡ 0 → length xs ≡ n → ((x : ℕ × Bor A) (b : Bool) (q : F) → Called g f (x, tt) b q → (q ≡ f) × (b ≡ test x.0 x.1.now)) → r ≡ every (λ (k : ℕ). test k (get_or xs k d)) n
every_of_places test d xs n u f r ran e z l calls = all_from_yields_List (λ q. test q.0 q.1) u f r ran (YieldsList-from_enumerate (YieldsList-from_slice xs e) z) calls ∙ every_place test d xs n l

pub every_of_range : {F : Type 0} {g : Mut F (ℕ × Unit {0}) Bool} {s : Range ℕ} (test : ℕ → Bool) (n : ℕ) (u : Range ℕ) (f : F) (r : Bool) → (zs : List ℕ) × (o : Option ℕ) × (j : F) × YieldsThen nat_range_steps s zs o u × FoldsTo (λ p x q. Called g p (x, tt) true q) f zs j × MatchOption o (r ≡ true) (λ x. (r ≡ false) × ((h : F) × Called g j (x, tt) false h)) → s ≡ record { start = 0; end = n } → ((x : ℕ) (b : Bool) (q : F) → Called g f (x, tt) b q → (q ≡ f) × (b ≡ test x)) → r ≡ every test n
every_of_range test n u f r ran e calls = every_numbered u test n r ran (YieldsList-from_range 0 n n e (omega arith)) calls

first_same : (t u : ℕ → Bool) (at n : ℕ) → ((k : ℕ) → k < at + n → t k ≡ u k) → first_from t at n ≡ first_from u at n
unfolding first_from
first_same t u at zero h = refl
first_same t u at (suc n) h = rw (h at (omega arith), first_same t u (at + 1) n (λ k l. h k (omega arith)))

-- two tests that agree at the n places agree on every one
pub every_same : (t u : ℕ → Bool) (n : ℕ) → ((k : ℕ) → k < n → t k ≡ u k) → every t n ≡ every u n
every_same t u n h = ap (λ o. not (is_some o)) (first_same (λ (k : ℕ). not (t k)) (λ (k : ℕ). not (u k)) 0 n (λ k l. ap not (h k (omega arith))))

-- a list's first n places have the keys of those places of the list
key_taken : {A : Type 0} (t : A → A → Bool) (d : A) (xs : List A) (n k : ℕ) → k < n → new_key t d (take n xs) k ≡ new_key t d xs k
key_taken t d xs n k l =
    every_same (λ (j : ℕ). not (t (get_or (take n xs) j d) (get_or (take n xs) k d))) (λ (j : ℕ). not (t (get_or xs j d) (get_or xs k d))) k
    (λ j m. let i : j < n = omega arith in rw (get_or-take n xs k d l, get_or-take n xs j d i))

pub keys_taken : {A : Type 0} (t : A → A → Bool) (d : A) (xs ys : List A) (n : ℕ) → ys ≡ take n xs → n ≤ length xs → keys_differ t d ys (length ys) ≡ keys_differ t d xs n
keys_taken t d xs ys n e h =
    rw (e, length-take-le n xs h) (every_same (λ (k : ℕ). new_key t d (take n xs) k) (λ (k : ℕ). new_key t d xs k) n (λ k l. key_taken t d xs n k l))

-- what a list made by a function of the place has at each place
made_from : {F B : Type 0} {g : Mut F (ℕ × Unit {0}) B} (h : ℕ → B) (d : B) (f : F) (ys : List B) (i n m : ℕ) → IsFromFnResultFrom g f ys i n → i + n ≡ m → ((k : ℕ) (y : B) (q : F) → k < m → Called g f (k, tt) y q → (q ≡ f) × (y ≡ h k)) → (k : ℕ) → i ≤ k → k < m → get_or ys k d ≡ h k
made_from h d f ys i zero m e s c k a b = absurd (omega arith)
made_from h d f ys i (suc n) m e s c k a b =
    let called = c i e.1 e.0 (omega arith) e.3 in
    either (cases_eq i k)
    (λ (z : i ≡ k). rw (← z) (e.2.1 d ∙ called.1))
    (λ (z : i ≢ k). made_from h d f ys (i + 1) n m (rw called.0 at e.4) (omega arith) c k (omega arith) b)

pub made_each : {F B : Type 0} {g : Mut F (ℕ × Unit {0}) B} (h : ℕ → B) (d : B) (f : F) (ys : List B) (n : ℕ) → IsFromFnResult g f ys n → ((k : ℕ) (y : B) (q : F) → k < n → Called g f (k, tt) y q → (q ≡ f) × (y ≡ h k)) → (k : ℕ) → k < n → get_or ys k d ≡ h k
made_each h d f ys n e c k l = made_from h d f ys 0 n n e.each (omega arith) c k (omega arith) l
