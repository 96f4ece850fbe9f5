use Rattle.std.proofs.Common.{◌∙◌, ◌||◌, ap}
use Rattle.std.specs.List.{list_any}
use Rattle.sarif_change.specs.Parts.{pieces_of}
use Rattle.sarif_change.specs.Internal.Files.{any_changed, found_at}
use Rattle.sarif_change.specs.Internal.Index.{is_found, is_linked, tree_files}
use Rattle.sarif_change.proofs.AnyChanged.{or_three}
use Rattle.sarif_change.proofs.LinksMore.{path_found}
use Rattle.sarif_change.proofs.changed.Changed.find_path.Goals as goal

pub returns : goal.returns
returns c = λ lines parts clean is.
    let inside = c.self.inside in
    let path = c.args.path.now in
    let sought = c.sought_key.result.now in
    let key = path.key.items in
    let old = any_changed lines c.args.found.now.items in
    c.in_ok-find_links.ensures lines
    ∙ (ap (λ k. any_changed lines c.find_in.new.found.items || list_any (is_linked inside.links lines) (pieces_of k)) c.as_slice.ensures.value
    ∙ (ap (λ b. b || list_any (is_linked inside.links lines) (pieces_of key)) (c.in_ok-find_in.ensures lines)
    ∙ (or_three old (list_any (found_at sought lines) (tree_files inside.files)) (list_any (is_linked inside.links lines) (pieces_of key))
    ∙ ap (λ b. old || b)
    (path_found inside.files inside.links inside.sections lines path.absolute parts key sought c.self.invariant clean is
    (c.sought_key.ensures parts clean is)
    ∙ ap (λ sections. is_found sections lines (path.absolute, parts)) c.self.view_is))))
