use Rattle.std.proofs.Common.{rules, ◌≡◌, ◌++◌, ◌∷◌, [], None, Some, refl, arith, bytes_eq, if◌then◌else◌}
use Rattle.std.proofs.lemmas.List.{append-nil}
use Rattle.std.specs.Cmp.Lexicographic.{pointwise}
use Rattle.sarif_entries.specs.Internal.Filing.{filed, asks_for_message, message_key}
use Rattle.sarif_filing.specs.Numbers.{numbers_at}
use Rattle.sarif_filing.proofs.Numbered.{one_more}
use Rattle.sarif_filing.proofs.table.numbers_by_message.Goals as goal
use Rattle.sarif_filing.proofs.table.numbers_by_message.Goals.{in-Some+in_ok-add_number, in_default}

pub loop-number-preserved : goal.loop-number-preserved
loop-number-preserved g c = λ q.
    let added : numbers_at (pointwise bytes_eq) c.match-branch-2.table q ≡ numbers_at (pointwise bytes_eq) c.loop-number.table q
    ++ (if asks_for_message q c.index-entries-number.result then c.loop-number.number ∷ [] else []) =
    elim c.match-branch-2.branch [
      | in-Some+in_ok-add_number w ↦
          let key : filed c.index-entries-number.result (message_key c.index-entries-number.result.conditions) ≡ Some w.in-Some.key = search rules in
          rw (w.table-is, key) (w.in_ok-add_number.ensures q)
      | in_default w ↦
          let key : filed c.index-entries-number.result (message_key c.index-entries-number.result.conditions) ≡ None = search rules in
          rw (w.table-is, key, append-nil) refl
    ]
    in
    one_more (asks_for_message q) c.loop-number.number c.args.entries.now c.index-entries-number.result _ _ _
    (omega arith) c.index-entries-number.is added (c.loop-number.invariant q)
