use Rattle.std.proofs.Common.{rules, ◌≡◌, ◌∙◌, ◌++◌, List, ap, subst, sym, true}
use Rattle.std.specs.List.{list_all}
use Rattle.sarif_change.specs.Internal.NextBytes.{is_next}
use Rattle.sarif_change.specs.Internal.Trees.{files_in}
use Rattle.sarif_change.specs.declared.file.ChangedFile.{ChangedFile}
use Rattle.sarif_change.proofs.NextMore.{all_next}
use Rattle.sarif_change.proofs.tree.Tree.+next_bytes.Goals as goal

pub returns-in-Two : goal.returns-in-Two
returns-in-Two t c =
    let left = c.in-Two.left.value in
    let right = c.in-Two.right.value in
    let now : left ++ right ≡ c.args.self.now = ap files_in (sym c.in-Two.is) ∙ c.self.view_is in
    let first : list_all (λ file. is_next c.next_bytes.result c.args.at file.key.items) left ≡ true = search rules in
    let second : list_all (λ file. is_next c.next_bytes-in-Two.result c.args.at file.key.items) right ≡ true = search rules in
    subst
    (λ (fs : List ChangedFile). list_all (λ file. is_next c.both.result c.args.at file.key.items) fs ≡ true) now
    (all_next left right c.next_bytes.result c.next_bytes-in-Two.result c.both.result c.args.at first second c.both.ensures.first
    c.both.ensures.second)
