use Rattle.std.proofs.Common.{◌≡◌, ◌++◌, ◌∙◌, List, ℕ, ap, string_bytes}
use Rattle.std.proofs.lemmas.Result.{IfOk-weaker}
use Rattle.sarif_shown.specs.Sentences.{entries_text, filters_text, outside_text, runs_text, unchecked_text}
use Rattle.sarif_reports.specs.MarkdownReport.{line_if, notes}
use Rattle.sarif_reports.proofs.markdown_table.notes_of.Goals as goal

joined : (a b c d e v w x y z : List ℕ) → a ≡ v → b ≡ w → c ≡ x → d ≡ y → e ≡ z → a ++ (b ++ (c ++ (d ++ e))) ≡ v ++ (w ++ (x ++ (y ++ z)))
joined a b c d e v w x y z p q r s t = cc

pub returns : goal.returns
returns c =
    let n = c.args.numbers.now in
    let runs : string_bytes c.in_ok-runs-2.runs ≡ line_if n.without (runs_text n.without) =
    c.in_ok-runs-2.ensures ∙ ap (line_if n.without) (c.as_str.ensures.value ∙ c.in_ok-runs.ensures) in
    let entries : string_bytes c.in_ok-entries-2.entries ≡ line_if n.unused (entries_text n.unused) =
    c.in_ok-entries-2.ensures ∙ ap (line_if n.unused) (c.as_str-2.ensures.value ∙ c.in_ok-entries.ensures) in
    let filters : string_bytes c.in_ok-filters-2.filters ≡ line_if n.filters (filters_text n.filters) =
    c.in_ok-filters-2.ensures ∙ ap (line_if n.filters) (c.as_str-3.ensures.value ∙ c.in_ok-filters.ensures) in
    let outside : string_bytes c.in_ok-outside-2.outside ≡ line_if n.outside (outside_text n.outside) =
    c.in_ok-outside-2.ensures ∙ ap (line_if n.outside) (c.as_str-4.ensures.value ∙ c.in_ok-outside.ensures) in
    let unchecked : string_bytes c.in_ok-unchecked-2.unchecked ≡ line_if n.unchecked (unchecked_text n.unchecked) =
    c.in_ok-unchecked-2.ensures ∙ ap (line_if n.unchecked) (c.as_str-5.ensures.value ∙ c.in_ok-unchecked.ensures) in
    IfOk-weaker c.format.result _ (λ s. string_bytes s ≡ notes n)
    (λ s text. text ∙ joined _ _ _ _ _ _ _ _ _ _ runs entries filters outside unchecked) c.format.ensures.ok
