use Rattle.std.proofs.Common.{◌≡◌, ◌∙◌, ◌||◌, Bool, ℕ, List, ap, sym}
use Rattle.sarif_change.specs.Internal.Files.{any_changed}
use Rattle.sarif_change.specs.Internal.Index.{is_found}
use Rattle.sarif_change.specs.Internal.Sought.{seen, keyed, plain_path}
use Rattle.sarif_change.proofs.AnyChanged.{Found}
use Rattle.sarif_change.proofs.FoundMore.{all_found}
use Rattle.sarif_change.proofs.PlainUri.{plain_clean, plain_found}
use Rattle.sarif_change.proofs.changed.Changed.look_up_plain.Goals as goal

pub returns : goal.returns
returns c = λ lines.
    let sections = c.args.self.now in
    let roots = c.args.roots.now in
    let uri = c.args.uri.now in
    let path = plain_path roots uri in
    let is : seen c.in_ok-path.path ≡ keyed path = c.in_ok-path.ensures in
    c.in_ok-find_path.ensures lines path.1 (plain_clean roots uri) (ap (λ (p : Bool × List ℕ). p.1) is)
    ∙ (ap (λ (f : Found). any_changed lines f || is_found sections lines (c.in_ok-path.path.absolute, path.1)) c.new-found.ensures.items
    ∙ (ap (λ (b : Bool). is_found sections lines (b, path.1)) (ap (λ (p : Bool × List ℕ). p.0) is)
    ∙ (sym (plain_found (is_found sections lines) roots uri c.requires) ∙ all_found sections roots uri lines)))
