use Rattle.std.proofs.Common.{◌≡◌, ◌∙◌, ℕ, ◌+◌, ◌<◌, ◌≤◌, List, ap, get_or, length, eqb, count_by, rules, tests, le-leb}
use Rattle.search.specs.Search.{every}
use Rattle.search.proofs.Laws.{count_same}
use Rattle.world.specs.declared.execution.Executions.{Executions}
use Rattle.protocol.specs.Sound.{number_at, numbers_sound}
use Rattle.search.proofs.Items.{count_items}
use Rattle.sound_names.proofs.Places.{every_of_range, every_same}
use Rattle.sound_numbers.proofs.numbers_sound.Goals as goal

-- the numbers that were taken out are those of the executions
once : (ts : List Executions) (numbered : ℕ) (numbers : List ℕ) → numbered ≤ 128 → length numbers ≡ 128 → ((i : ℕ) → i < 128 → get_or numbers i 0 ≡ number_at ts i)
    → every (λ (k : ℕ). eqb (count_by (λ (n : ℕ). eqb n (k + 1)) numbers) 1) numbered ≡ numbers_sound ts numbered
unfolding numbers_sound
once ts numbered numbers h l e = rw (le-leb _ _ h) (every_same _ _ _ (λ k m. ap (λ (n : ℕ). eqb n 1) (
    count_items (λ (n : ℕ). eqb n (k + 1)) 0 numbers 128 l ∙ count_same _ _ _ (λ i p. ap (λ (n : ℕ). eqb n (k + 1)) (e i p)))))

pub returns : goal.returns
returns c =
    every_of_range (λ k. eqb (count_by (λ n. eqb n (k + 1)) c.numbers_of-numbers.result) 1) _ _ _ _ c.all.ensures.ran (cc) (λ k b q r. search (rules, tests))
    ∙ once c.args.tables.now c.args.numbered _ c.if-numbered-gt-MOST.false (search rules) c.numbers_of-numbers.ensures
