use Rattle.std.proofs.Common.{rules, ◌≡◌, ◌∙◌, ◌≤◌, ◌<◌, None, List, length, get_or, subst}
use Rattle.sarif_change.specs.declared.known.KnownPath.{KnownPath}
use Rattle.sarif_change.proofs.KnownMore.{none_past, one_within}
use Rattle.sarif_change.proofs.artifacts.KnownArtifacts.meeting_at.Goals as goal

pub returns-in_err-get : goal.returns-in_err-get
returns-in_err-get c =
    let self = c.args.self.now in
    let none : c.from_residual.result ≡ None = search rules in
    let past : length self.paths.items ≤ c.args.number =
    subst (λ (ps : List KnownPath). length ps ≤ c.args.number) c.deref.ensures.value c.in_err-get.ensures.lookup.3 in
    none ∙ none_past self.changed.now self.roots.now self.artifacts self.paths.items self.are_known c.args.number c.args.lines past

pub returns : goal.returns
returns c =
    let self = c.args.self.now in
    let path = c.in_ok-get.field-0.now in
    let within : c.args.number < length self.paths.items =
    subst (λ (ps : List KnownPath). c.args.number < length ps) c.deref.ensures.value c.in_ok-get.ensures.lookup.3.0 in
    let is : path ≡ get_or self.paths.items c.args.number path =
    subst (λ (ps : List KnownPath). path ≡ get_or ps c.args.number path) c.deref.ensures.value c.in_ok-get.ensures.lookup.1 in
    c.meeting.ensures
    ∙ one_within self.changed.now self.roots.now self.artifacts self.paths.items self.are_known c.args.number c.args.lines path within is
