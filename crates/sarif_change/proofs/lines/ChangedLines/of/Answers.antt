use Rattle.std.proofs.Common.{rules, ◌≡◌, ◌∙◌, ap}
use Rattle.std.proofs.lemmas.List.Sorted.{IsNonDecreasingBy-from_sort_by_key}
use Rattle.std.specs.List.Sorted.{IsNonDecreasingBy}
use Rattle.sarif_diff.specs.declared.section.Span.{Span}
use Rattle.sarif_change.specs.Internal.Files.{changed_at}
use Rattle.sarif_change.specs.Internal.Raised.{raised}
use Rattle.sarif_change.proofs.RaisedMore.{raised_same, raised_first, raised_last}
use Rattle.sarif_change.proofs.lines.ChangedLines.of.Goals as goal

pub invariant_of-result : goal.invariant_of-result
invariant_of-result c =
    let rising : IsNonDecreasingBy (λ (s : Span). s.first) c.sort_by_key.new.self.items =
    IsNonDecreasingBy-from_sort_by_key (λ (s : Span). s.first) c.sort_by_key.new.self.items c.in_ok-sort_by_key.ensures.sorted (λ a r f called. search rules) in
    let is : c.in_ok-spans.spans.items ≡ raised 0 c.sort_by_key.new.self.items = c.in_ok-spans.ensures ∙ ap (λ spans. raised 0 spans) c.deref.ensures.value in
    rw is (raised_first c.sort_by_key.new.self.items rising, raised_last c.sort_by_key.new.self.items)

pub returns : goal.returns
returns c = λ lines.
    let rising : IsNonDecreasingBy (λ (s : Span). s.first) c.sort_by_key.new.self.items =
    IsNonDecreasingBy-from_sort_by_key (λ (s : Span). s.first) c.sort_by_key.new.self.items c.in_ok-sort_by_key.ensures.sorted (λ a r f called. search rules) in
    let is : c.in_ok-spans.spans.items ≡ raised 0 c.sort_by_key.new.self.items = c.in_ok-spans.ensures ∙ ap (λ spans. raised 0 spans) c.deref.ensures.value in
    ap (λ spans. changed_at lines (c.args.whole, spans)) is
    ∙ raised_same c.args.whole c.args.spans.items c.sort_by_key.new.self.items lines c.in_ok-sort_by_key.ensures.permutation rising
