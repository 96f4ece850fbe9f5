-- The length of the rows of conditions such as a policy file may have.
use Rattle.std.proofs.Common.{◌≡◌, ◌<◌, ◌≤◌, ◌+◌, ◌*◌, ◌^◌, ◌++◌, ℕ, Bool, true, false, List, [], ◌∷◌, Option, Some, None, IfSome, chars, codes, decimal, length, length-append, ap, arith}
use Rattle.std.specs.List.{AllByRecursion}
use Rattle.std.proofs.lemmas.Fmt.{length-decimal-le}
use Rattle.sarif_conditions.specs.Facts.{verdict_if}
use Rattle.sarif_conditions.specs.declared.facts.ConditionFacts.{ConditionFacts}
use Rattle.sarif_conditions.specs.declared.facts.PolicyFacts.{PolicyFacts}
use Rattle.sarif_counts.specs.Hits.{verdict_name}
use Rattle.sarif_shown.specs.ConditionRow.{cell, condition_cells, outside_number}
use Rattle.sarif_shown.specs.Facts.{Facts}
use Rattle.sarif_shown.specs.declared.escaping.Escaping.TheVariants.{Markdown}
use Rattle.sarif_shown.specs.Escaped.{escaped}
use Rattle.sarif_reports.specs.MarkdownLaws.{AreFewConditions, AreSmall, IsSmallCondition, most_with}
use Rattle.sarif_reports.specs.MarkdownReport.{code_of, condition_row, condition_rows, markdown_of}
use Rattle.sarif_reports.proofs.MarkdownShort.{report_few}
use Rattle.sarif_reports.proofs.TableRows.{chars_few}

ten : (n : ℕ) → n < 2 ^ 32 → length (decimal n) ≤ 10
ten n h = length-decimal-le 10 n (omega arith) (omega (arith, h)) (omega (arith, h))

name_few : (name : List ℕ) → length (chars name) ≤ 50 → length (code_of name) ≤ 313
unfolding escaped
name_few [] h = omega arith
name_few (b ∷ bs) h =
    let less = chars_few (chars (b ∷ bs)) in
    let whole = length-append (escaped Markdown (b ∷ bs)) (codes "</code>") in
    omega (arith, less, whole, h)

word_few : (b : Bool) → length (verdict_name (verdict_if b)) ≤ 4
word_few true = omega arith
word_few false = omega arith

outside_few : (o : Option ℕ) → IfSome o (λ n. n < 2 ^ 32) → length (outside_number o) ≤ 10
outside_few None h = omega arith
outside_few (Some n) h = ten n h

cell_few : (k : ℕ) (text : List ℕ) → length text ≤ k → length (cell (codes " | ") [] text) ≤ k + 3
cell_few k text h = let whole = length-append text [] in omega (arith, whole, h)

cells_few : (c : ConditionFacts) → IsSmallCondition c → length (condition_cells (codes " | ") [] c) ≤ 56
cells_few c small =
    let one = cell_few 4 (verdict_name (verdict_if c.fails)) (word_few c.fails) in
    let two = cell_few 10 (decimal c.hits) (ten c.hits small.hits) in
    let limit = small.limit in
    let three = cell_few 20 (decimal c.limit) (length-decimal-le 20 c.limit (omega arith) (omega (arith, limit)) limit) in
    let four = cell_few 10 (outside_number c.outside) (outside_few c.outside small.outside) in
    let before = codes " | " in
    let last : List ℕ = cell before [] (outside_number c.outside) in
    let a = length-append (cell before [] (verdict_name (verdict_if c.fails))) (cell before [] (decimal c.hits) ++ (cell before [] (decimal c.limit) ++ last)) in
    let b = length-append (cell before [] (decimal c.hits)) (cell before [] (decimal c.limit) ++ last) in
    let d = length-append (cell before [] (decimal c.limit)) last in
    omega (arith, one, two, three, four, a, b, d)

row_few : (c : ConditionFacts) → IsSmallCondition c → length (condition_row c) ≤ 600
row_few c small =
    let name = name_few c.name small.name in
    let cells = cells_few c small in
    let a = length-append (code_of c.name) (condition_cells (codes " | ") [] c ++ codes " |\n") in
    let b = length-append (condition_cells (codes " | ") [] c) (codes " |\n") in
    omega (arith, name, cells, a, b)

rows_few : (cs : List ConditionFacts) → AllByRecursion IsSmallCondition cs → length (condition_rows cs) ≤ 600 * length cs
rows_few [] small = omega arith
rows_few (c ∷ cs) small =
    let one = row_few c small.0 in
    let rest = rows_few cs small.1 in
    let whole = length-append (condition_row c) (condition_rows cs) in
    omega (arith, one, rest, whole)

pub policy_few : (facts : Facts) (ruling : PolicyFacts) → AreSmall facts → facts.ruling ≡ Some ruling → AreFewConditions ruling
    → length (markdown_of facts) ≤ 62000
policy_few facts ruling small is few =
    let whole = report_few facts small in
    let same = ap (λ o. most_with o facts.change) is in
    let rows = rows_few ruling.conditions few.each in
    let number = few.few in
    omega (arith, whole, same, rows, number)
