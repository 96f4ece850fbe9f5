-- The marks of results, and of their records.
use Rattle.std.proofs.Common.{◌≡◌, ◌+◌, ℕ, suc, Bool, true, false, List, [], ◌∷◌, ◌++◌, drop, length, refl, sym, ap, ◌∙◌, arith}
use Rattle.sarif_copies.specs.Copies.{copies_from, copies_of, findings_after, findings_of}
use Rattle.sarif_model.specs.declared.record.Record.{Record}
use Rattle.sarif_read.specs.Unmarked.{unmarked}
use Rattle.sarif_runs.specs.declared.item.Item.{Item}
use Rattle.sarif_runs.specs.declared.item.Item.TheVariants.{Sound, Bad, Skipped}
use Rattle.sarif_runs.specs.Judging.{items_of, records_in, records_of}
use Rattle.sarif_runs.specs.Placed.{Placed}
use Rattle.std.specs.List.{flat_map}
use Rattle.sarif_once.proofs.Items.{all_items_left}
use Rattle.sarif_once.specs.Once.{copy_marks, marks_in, without_copies}

-- ---- as many marks as records

pub findings_long : (before rs : List Record) → length (findings_after before rs) ≡ length rs
findings_long before [] = refl
findings_long before (r ∷ rs) = ap suc (findings_long (before ++ r ∷ []) rs)

copies_long : (n : ℕ) (firsts : List ℕ) → length (copies_from n firsts) ≡ length firsts
copies_long n [] = refl
copies_long n (first ∷ firsts) = ap suc (copies_long (n + 1) firsts)

pub marked_each : (rs : List Record) → length (copies_of rs) ≡ length rs
marked_each rs = copies_long 0 (findings_of rs) ∙ findings_long [] rs

pub marks_long : (items : List Item) (marks : List Bool) → length (marks_in items marks) ≡ length items
marks_long [] marks = refl
marks_long (item ∷ items) marks = ap suc (marks_long items (drop (length (records_in (item ∷ []))) marks))

-- ---- the records that are left

pub records_left : (items : List Item) (marks : List Bool) → length marks ≡ length (records_in items)
    → records_in (unmarked (marks_in items marks) items) ≡ unmarked marks (records_in items)
records_left [] [] same = refl
records_left [] (mark ∷ marks) same = refl
records_left (Sound r ∷ items) [] same = absurd (omega (arith, same))
records_left (Sound r ∷ items) (true ∷ marks) same = records_left items marks (omega (arith, same))
records_left (Sound r ∷ items) (false ∷ marks) same = ap (λ rs. r ∷ rs) (records_left items marks (omega (arith, same)))
records_left (Bad fault ∷ items) marks same = records_left items marks same
records_left (Skipped ∷ items) marks same = records_left items marks same

records_seam : (xs ys : List Item) → records_in (xs ++ ys) ≡ records_in xs ++ records_in ys
records_seam [] ys = refl
records_seam (Sound r ∷ xs) ys = ap (λ rs. r ∷ rs) (records_seam xs ys)
records_seam (Bad fault ∷ xs) ys = records_seam xs ys
records_seam (Skipped ∷ xs) ys = records_seam xs ys

pub records_are : (ps : List Placed) → records_in (flat_map items_of ps) ≡ records_of ps
records_are [] = refl
records_are (p ∷ ps) = records_seam (items_of p) (flat_map items_of ps) ∙ ap (λ rs. records_in (items_of p) ++ rs) (records_are ps)

-- the records of the findings
pub findings_left : (ps : List Placed) → records_of (without_copies ps) ≡ unmarked (copies_of (records_of ps)) (records_of ps)
findings_left ps =
    let items = flat_map items_of ps in
    let copies = copies_of (records_of ps) in
    sym (records_are (without_copies ps))
    ∙ ap records_in (all_items_left (copy_marks ps) ps)
    ∙ records_left items copies (marked_each (records_of ps) ∙ sym (ap length (records_are ps)))
    ∙ ap (unmarked copies) (records_are ps)
