use Rattle.std.proofs.Common.{◌≡◌, ◌∙◌, ◌||◌, ap, map}
use Rattle.std.specs.List.{list_any}
use Rattle.sarif_change.specs.Uri.{paths_of}
use Rattle.sarif_change.specs.Internal.Files.{any_changed}
use Rattle.sarif_change.specs.Internal.Index.{is_found}
use Rattle.sarif_change.specs.Internal.Sought.{seen, keyed}
use Rattle.sarif_change.proofs.AnyChanged.{Found}
use Rattle.sarif_change.proofs.FoundMore.{all_found}
use Rattle.sarif_change.proofs.PathsMore.{paths_clean}
use Rattle.sarif_change.proofs.changed.Changed.look_up.Goals as goal

pub returns : goal.returns
returns c = λ lines.
    let sections = c.args.self.now in
    let roots = c.args.roots.now in
    let uri = c.args.uri.now in
    let sought = paths_of roots uri in
    let same : map seen c.as_slice.result.now ≡ map keyed sought =
    ap (λ paths. map seen paths) c.as_slice.ensures.value
    ∙ (c.in_ok-paths.ensures ∙ ap (λ u. map keyed (paths_of roots u)) c.as_bytes-uri.ensures.value) in
    c.in_ok-find_paths.ensures lines sought (paths_clean roots uri) same
    ∙ (ap (λ (f : Found). any_changed lines f || list_any (is_found sections lines) sought) c.new-found.ensures.items
    ∙ all_found sections roots uri lines)
