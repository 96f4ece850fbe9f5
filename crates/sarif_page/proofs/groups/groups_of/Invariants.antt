use Rattle.std.proofs.Common.{◌≡◌, ◌++◌, drop, flat_map, map}
use Rattle.sarif_page.specs.HtmlRows.{file_groups}
use Rattle.sarif_page.specs.Internal.ByFile.{rows_at}
use Rattle.sarif_page.specs.Internal.Groups.{groups_in}
use Rattle.sarif_page.proofs.groups.groups_of.Given as goal

abbrev pub invariant-loop-file : goal.invariant-loop-file
invariant-loop-file l =
    groups_in l.groups.items
    ++ flat_map (λ file. file_groups (rows_at l.grouped.groups file)) (map (λ t. t.now) (drop l.file-index l.file-items))
    ≡ flat_map (λ file. file_groups (rows_at l.grouped.groups file)) (map (λ t. t.now) l.file-items)
