use Rattle.std.proofs.Common.{rules, ◌≡◌, ◌∷◌, ◌++◌, [], ap, Some, bytes_eq, ◌∙◌, sym, IsSome}
use Rattle.std.specs.HashMap.{get_by}
use Rattle.std.proofs.lemmas.Map.Text.{hash_map_updates_str}
use Rattle.sarif_page.specs.Internal.ByFile.{group_in}
use Rattle.sarif_page.proofs.FilesMore.{grown_at, text_same}
use Rattle.sarif_page.proofs.by_file.add_to_group.Goals as goal

pub returns-clause-groups : goal.returns-clause-groups
returns-clause-groups c = λ q.
    let file = c.args.file.now in
    let old = c.args.groups.now in
    let new = c.get_mut.follows.lender c.push.new.self in
    let found : get_by (λ k. bytes_eq file k.now) old ≡ Some c.in-Some.group.now = search rules in
    let there : IsSome (get_by (λ k. bytes_eq file k.now) old) = search rules in
    let pushed : c.push.new.self.items ≡ c.in-Some.group.now.items ++ c.args.finding ∷ [] = search rules in
    ap group_in (hash_map_updates_str file old new _ ((c.get_mut.follows.holds c.push.new.self).3 there) q)
    ∙ grown_at (bytes_eq file q) c.push.new.self c.in-Some.group.now (get_by (λ k. bytes_eq q k.now) old) c.args.finding pushed
    (λ e. ap (λ t. get_by (λ k. bytes_eq t k.now) old) (sym (text_same file q e)) ∙ found)
