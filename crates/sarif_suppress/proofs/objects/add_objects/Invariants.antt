use Rattle.std.proofs.Common.{◌≡◌, map, drop}
use Rattle.serde_json.specs.View.{view}
use Rattle.sarif_suppress.specs.Written.{with_objects_at}
use Rattle.sarif_suppress.proofs.objects.add_objects.Given as goal

-- the list so far, with the objects of the entries that are left
abbrev pub invariant-loop-number : goal.invariant-loop-number
invariant-loop-number l =
    with_objects_at (map view l.list.items) l.entries (drop l.number-index l.numbers) ≡ with_objects_at (map view l.fn.list.items) l.entries l.numbers
