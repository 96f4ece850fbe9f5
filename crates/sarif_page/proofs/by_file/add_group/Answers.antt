use Rattle.std.proofs.Common.{rules, ◌≡◌, ◌∷◌, [], ap, bytes_eq, ◌∙◌}
use Rattle.std.specs.HashMap.{get_by}
use Rattle.std.proofs.lemmas.Map.Text.{hash_map_updates_str}
use Rattle.sarif_page.specs.Internal.ByFile.{group_in}
use Rattle.sarif_page.proofs.FilesMore.{first_at}
use Rattle.sarif_page.proofs.by_file.add_group.Goals as goal

pub returns : goal.returns
returns c = λ q.
    let file = c.args.file.now in
    let old = c.args.groups.now in
    let one : c.in_ok-group.group.items ≡ c.args.finding ∷ [] = search rules in
    ap group_in (hash_map_updates_str file old c.insert.new.self _ c.in_ok-insert.ensures.updates q)
    ∙ first_at (bytes_eq file q) c.in_ok-group.group (get_by (λ k. bytes_eq q k.now) old) c.args.finding one
