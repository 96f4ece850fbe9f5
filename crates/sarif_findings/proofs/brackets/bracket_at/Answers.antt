use Rattle.std.proofs.Common.{rules, ◌≡◌, ◌<◌, ◌≤◌, ◌∙◌, get_or, length}
use Rattle.std.proofs.lemmas.Str.{IsCharBoundary-start}
use Rattle.sarif_findings.proofs.BracketsMore.{bracket_ends, none_closes}
use Rattle.sarif_findings.proofs.brackets.bracket_at.Goals as goal

pub ordinary_end-at-requires : goal.ordinary_end-at-requires
ordinary_end-at-requires c = IsCharBoundary-start c.args.text.now c.utf8.text

pub returns-then-bytes-at-ne92-clause-closes : goal.returns-then-bytes-at-ne92-clause-closes
returns-then-bytes-at-ne92-clause-closes c =
    let within : c.loop-at.at < length c.args.text.now = search rules in
    let other : (get_or c.args.text.now c.loop-at.at 0 ≡ 92 → ⊥) = search rules in
    λ args. c.loop-at.invariant.goes args ∙ bracket_ends args c.args.text.now c.loop-at.at within (c.loop-at.invariant.stops within) other

pub returns-clause-closes : goal.returns-clause-closes
returns-clause-closes c =
    let past : length c.args.text.now ≤ c.loop-at.at = search rules in
    λ args. c.loop-at.invariant.goes args ∙ none_closes args c.args.text.now c.loop-at.at past
