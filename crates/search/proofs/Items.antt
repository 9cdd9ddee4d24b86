-- What searches over places say of a list's elements, in std's words. Assumes nothing.
use Rattle.std.proofs.Common.{◌≡◌, ℕ, zero, suc, ◌+◌, ◌<◌, ◌≤◌, Bool, true, false, cond, not, ◌&&◌, ◌||◌, List, [], ◌∷◌, length, get_or, take, take_all, refl, sym, ap, ◌∙◌, arith, add-zero, zero-add, add-one, ltb, lt-ltb, le-ltb, ltb-true, ltb-false, Some, None, is_some}
use Rattle.std.specs.Cmp.Lexicographic.{pointwise}
use Rattle.std.specs.List.{list_any, list_all, position_from, position, count_by, range_with_len}
use Rattle.std.proofs.lemmas.Iterator.Adapters.{position_from-zero}
use Rattle.std.proofs.lemmas.List.Sums.{count_by_more_yes, count_by_more_no}
use Rattle.std.proofs.lemmas.List.FromFn.{length-range_with_len, get_or-range_with_len}
use Rattle.search.specs.Search.{first_from, first, any, every, count}
use Rattle.search.proofs.Booleans.{test}
use Rattle.search.proofs.Laws.{count_none, counted_yes, counted_no, count_same}

-- a test of the n places from `at` on says what another says of those from 0 on
pub record Same (u t : ℕ → Bool) (at n : ℕ) : Type 0 where
  pub same : (k : ℕ) → k < n → t (at + k) ≡ u k

same_head : {u t : ℕ → Bool} {at n : ℕ} → Same u t at (suc n) → t at ≡ u 0
same_head {t = t} {at = at} s = ap t (sym (add-zero at)) ∙ s.same 0 (omega arith)

same_tail : {u t : ℕ → Bool} {at n : ℕ} → Same u t at (suc n) → Same (λ (k : ℕ). u (suc k)) t (at + 1) n
same_tail {t = t} {at = at} s = record { same = λ k l. let e : at + 1 + k ≡ at + suc k = omega arith in ap t e ∙ s.same (suc k) (omega arith) }

same_here : (t : ℕ → Bool) (n : ℕ) → Same t t 0 n
same_here t n = record { same = λ k l. ap t (zero-add k) }

-- a test that holds nowhere, and the search from another place
first_none : (t : ℕ → Bool) (at n : ℕ) → Same (λ _. false) t at n → None ≡ first_from t at n
unfolding first_from
first_none t at zero s = refl
first_none t at (suc n) s = rw (same_head s) (first_none t (at + 1) n (same_tail s))

less_suc : (k c : ℕ) → ltb (suc k) (suc c) ≡ ltb k c
less_suc k c = test (ltb k c)
    (λ y. lt-ltb (suc k) (suc c) (omega (arith, ltb-true k c y)) ∙ sym y)
    (λ y. le-ltb (suc k) (suc c) (omega (arith, ltb-false k c y)) ∙ sym y)

module _ {A : Type 0} (p : A → Bool) (d : A) where
  first_from_items : (xs : List A) (t : ℕ → Bool) (at : ℕ) → Same (λ (k : ℕ). p (get_or xs k d)) t at (length xs) → position_from p at xs ≡ first_from t at (length xs)
  unfolding first_from
  first_from_items [] t at s = refl
  first_from_items (y ∷ ys) t at s = rw (same_head s, first_from_items ys t (at + 1) (same_tail s))

  -- the test of a list's first c elements
  first_from_taken : (xs : List A) (t : ℕ → Bool) (at c : ℕ) → Same (λ (k : ℕ). ltb k c && p (get_or xs k d)) t at (length xs) → position_from p at (take c xs) ≡ first_from t at (length xs)
  unfolding first_from
  first_from_taken xs t at zero s = first_none t at (length xs) (record { same = λ k l. s.same k l ∙ ap (λ b. b && p (get_or xs k d)) (le-ltb k 0 (omega arith)) })
  first_from_taken [] t at (suc c) s = refl
  first_from_taken (y ∷ ys) t at (suc c) s =
      rw (same_head s ∙ ap (λ b. b && p y) (lt-ltb 0 (suc c) (omega arith)), first_from_taken ys t (at + 1) c (record { same = λ k l. (same_tail s).same k l ∙ ap (λ b. b && p (get_or ys k d)) (less_suc k c) }))

any_from_items : {A : Type 0} (p : A → Bool) (at : ℕ) (xs : List A) → list_any p xs ≡ is_some (position_from p at xs)
any_from_items p at [] = refl
any_from_items p at (y ∷ ys) = elim (p y) as (λ b. (b || list_any p ys) ≡ is_some (cond b (Some at) (position_from p (at + 1) ys))) [ true ↦ refl | false ↦ any_from_items p (at + 1) ys ]

all_from_items : {A : Type 0} (p : A → Bool) (xs : List A) → list_all p xs ≡ not (list_any (λ x. not (p x)) xs)
all_from_items p [] = refl
all_from_items p (y ∷ ys) = elim (p y) as (λ b. (b && list_all p ys) ≡ not (not b || list_any (λ x. not (p x)) ys)) [ true ↦ all_from_items p ys | false ↦ refl ]

-- the lowest place of a list at which the test holds
pub first_items : {A : Type 0} (p : A → Bool) (d : A) (xs : List A) (n : ℕ) → length xs ≡ n → position p xs ≡ first (λ (k : ℕ). p (get_or xs k d)) n
first_items p d xs n l =
    position_from-zero p xs
    ∙ first_from_items p d xs (λ (k : ℕ). p (get_or xs k d)) 0 (same_here _ _)
    ∙ ap (λ m. first (λ (k : ℕ). p (get_or xs k d)) m) l

-- whether there is one
pub any_items : {A : Type 0} (p : A → Bool) (d : A) (xs : List A) (n : ℕ) → length xs ≡ n → list_any p xs ≡ any (λ (k : ℕ). p (get_or xs k d)) n
any_items p d xs n l = any_from_items p 0 xs ∙ ap is_some (sym (position_from-zero p xs) ∙ first_items p d xs n l)

-- whether the test holds at each
pub every_items : {A : Type 0} (p : A → Bool) (d : A) (xs : List A) (n : ℕ) → length xs ≡ n → list_all p xs ≡ every (λ (k : ℕ). p (get_or xs k d)) n
every_items p d xs n l = all_from_items p xs ∙ ap not (any_items (λ x. not (p x)) d xs n l)

-- at how many places it holds
count_front : {A : Type 0} (p : A → Bool) (d : A) (xs : List A) (n : ℕ) → n ≤ length xs → count_by p (take n xs) ≡ count (λ (k : ℕ). p (get_or xs k d)) n
count_front p d xs zero l = sym (count_none _)
count_front p d xs (suc n) l =
    let e : suc n ≡ n + 1 = sym (add-one n) in
    let h = count_front p d xs n (omega arith) in
    rw e (test (p (get_or xs n d))
    (λ y. counted_yes (λ (k : ℕ). p (get_or xs k d)) n _ _ h y (count_by_more_yes p xs n d (omega arith) y))
    (λ y. counted_no (λ (k : ℕ). p (get_or xs k d)) n _ _ h y (count_by_more_no p xs n d (omega arith) y)))

pub count_items : {A : Type 0} (p : A → Bool) (d : A) (xs : List A) (n : ℕ) → length xs ≡ n → count_by p xs ≡ count (λ (k : ℕ). p (get_or xs k d)) n
count_items p d xs n l = ap (λ ys. count_by p ys) (sym (take_all n xs (omega arith))) ∙ count_front p d xs n (omega arith)

-- the lowest of a list's first c places at which the test holds, and whether there is one
pub first_taken : {A : Type 0} (p : A → Bool) (d : A) (xs : List A) (c n : ℕ) → length xs ≡ n → position p (take c xs) ≡ first (λ (k : ℕ). ltb k c && p (get_or xs k d)) n
first_taken p d xs c n l =
    position_from-zero p (take c xs)
    ∙ first_from_taken p d xs (λ (k : ℕ). ltb k c && p (get_or xs k d)) 0 c (same_here _ _)
    ∙ ap (λ m. first (λ (k : ℕ). ltb k c && p (get_or xs k d)) m) l

pub any_taken : {A : Type 0} (p : A → Bool) (d : A) (xs : List A) (c n : ℕ) → length xs ≡ n → list_any p (take c xs) ≡ any (λ (k : ℕ). ltb k c && p (get_or xs k d)) n
any_taken p d xs c n l = any_from_items p 0 (take c xs) ∙ ap is_some (sym (position_from-zero p (take c xs)) ∙ first_taken p d xs c n l)

-- the same of the numbers below n
any_range : (t : ℕ → Bool) (at n : ℕ) → list_any t (range_with_len at n) ≡ is_some (first_from t at n)
unfolding first_from
any_range t at zero = refl
any_range t at (suc n) = elim (t at) as (λ b. (b || list_any t (range_with_len (at + 1) n)) ≡ is_some (cond b (Some at) (first_from t (at + 1) n))) [ true ↦ refl | false ↦ any_range t (at + 1) n ]

pub any_numbers : (t : ℕ → Bool) (n : ℕ) → list_any t (range_with_len 0 n) ≡ any t n
any_numbers t n = any_range t 0 n

pub every_numbers : (t : ℕ → Bool) (n : ℕ) → list_all t (range_with_len 0 n) ≡ every t n
every_numbers t n = all_from_items t (range_with_len 0 n) ∙ ap not (any_range (λ k. not (t k)) 0 n)

pub count_numbers : (t : ℕ → Bool) (n : ℕ) → count_by t (range_with_len 0 n) ≡ count t n
count_numbers t n =
    count_items t 0 (range_with_len 0 n) n (length-range_with_len 0 n)
    ∙ count_same (λ (k : ℕ). t (get_or (range_with_len 0 n) k 0)) t n (λ i l. ap t (get_or-range_with_len 0 n i 0 l ∙ zero-add i))

pairs_from : {A : Type 0} (t : A → A → Bool) (d : A) (xs ys : List A) (u : ℕ → Bool) (at : ℕ) → length xs ≡ length ys → Same (λ (k : ℕ). t (get_or xs k d) (get_or ys k d)) u at (length xs)
    → pointwise t xs ys ≡ not (is_some (first_from (λ (k : ℕ). not (u k)) at (length xs)))
unfolding first_from
pairs_from t d [] [] u at l s = refl
pairs_from t d [] (y ∷ ys) u at l s = absurd (omega arith)
pairs_from t d (x ∷ xs) [] u at l s = absurd (omega arith)
pairs_from t d (x ∷ xs) (y ∷ ys) u at l s =
    let rest = first_from (λ (k : ℕ). not (u k)) (at + 1) (length xs) in
    rw (same_head s) (elim (t x y) as (λ b. (b && pointwise t xs ys) ≡ not (is_some (cond (not b) (Some at) rest))) [ true ↦ pairs_from t d xs ys u (at + 1) (omega arith) (same_tail s) | false ↦ refl ])

-- whether the test holds of each pair of two lists of n
pub every_pair : {A : Type 0} (t : A → A → Bool) (d : A) (xs ys : List A) (n : ℕ) → length xs ≡ n → length ys ≡ n → pointwise t xs ys ≡ every (λ (k : ℕ). t (get_or xs k d) (get_or ys k d)) n
every_pair t d xs ys n l m =
    pairs_from t d xs ys (λ (k : ℕ). t (get_or xs k d) (get_or ys k d)) 0 (l ∙ sym m) (same_here _ _)
    ∙ ap (λ j. every (λ (k : ℕ). t (get_or xs k d) (get_or ys k d)) j) l
