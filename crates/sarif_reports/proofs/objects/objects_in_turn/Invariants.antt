use Rattle.std.proofs.Common.{◌≡◌, ◌++◌, false, map, drop, string_bytes}
use Rattle.sarif_reports.specs.Internal.GitlabObjects.{object_of, joined_objects}
use Rattle.sarif_reports.proofs.objects.objects_in_turn.Given as goal

abbrev pub invariant-loop-one : goal.invariant-loop-one
invariant-loop-one l =
    string_bytes l.text ++ joined_objects l.later (map object_of (drop l.one-index l.ranked)) ≡ l.begin ++ joined_objects false (map object_of l.ranked)
