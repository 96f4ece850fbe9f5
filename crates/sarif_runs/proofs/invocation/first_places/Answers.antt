use Rattle.std.proofs.Common.{None, sym, ap, ◌∙◌, arith}
use Rattle.sarif_runs.specs.Reading.{first_or}
use Rattle.sarif_runs.specs.Overrides.{is_same_descriptor}
use Rattle.sarif_runs.proofs.FirstPlaces.{first_for-some, first_for-none}
use Rattle.sarif_runs.proofs.invocation.first_places.Goals as goal
use Rattle.sarif_runs.proofs.invocation.first_places.Goals.{in-Some+in_ok-add_first, in_default}

pub loop-place-preserved : goal.loop-place-preserved
loop-place-preserved c = λ q.
    let os = c.args.overrides.now in
    let i = c.loop-place.place in
    elim c.match-entry.branch [
      | in-Some+in_ok-add_first w ↦
          let d = w.in-Some.descriptor in
          rw w.table-is (w.in_ok-add_first.ensures q
          ∙ ap (λ o. first_or o (is_same_descriptor q d) i) (c.loop-place.invariant q)
          ∙ sym (first_for-some q d os i (record { descriptor = None; level = None }) (omega arith) w.in-Some.is))
      | in_default w ↦
          rw w.table-is (c.loop-place.invariant q
          ∙ sym (first_for-none q os i (record { descriptor = None; level = None }) (omega arith) w.in_default.not-Some))
    ]
