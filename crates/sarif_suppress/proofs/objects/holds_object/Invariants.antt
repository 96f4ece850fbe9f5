use Rattle.std.proofs.Common.{◌≡◌, map, drop}
use Rattle.std.specs.List.{list_any}
use Rattle.serde_json.specs.View.{view}
use Rattle.sarif_entries.specs.Object.{is_object_of}
use Rattle.sarif_suppress.proofs.objects.holds_object.Given as goal

-- none of the values gone through is the object
abbrev pub invariant-loop-value : goal.invariant-loop-value
invariant-loop-value l =
    list_any (is_object_of l.entry) (map view (drop l.value-index l.values)) ≡ list_any (is_object_of l.entry) (map view l.values)
