use Rattle.std.proofs.Common.{◌≡◌, ◌++◌, map, drop}
use Rattle.serde_json.specs.View.{view}
use Rattle.sarif_log.specs.Copies.{place_data}
use Rattle.sarif_log.proofs.copies.places_value.Given as goal

abbrev pub invariant-loop-place : goal.invariant-loop-place
invariant-loop-place l = map view l.values.items ++ map place_data (drop l.place-index l.places) ≡ map place_data l.places
