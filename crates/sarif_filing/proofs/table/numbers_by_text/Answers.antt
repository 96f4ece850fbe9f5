use Rattle.std.proofs.Common.{rules, ◌≡◌, ◌++◌, ◌∷◌, [], None, Some, refl, arith, bytes_eq, if◌then◌else◌}
use Rattle.std.proofs.lemmas.List.{append-nil}
use Rattle.sarif_entries.specs.Internal.Filing.{filed, asks_for_text, text_key}
use Rattle.sarif_filing.specs.Numbers.{numbers_at}
use Rattle.sarif_filing.proofs.Numbered.{one_more}
use Rattle.sarif_filing.proofs.table.numbers_by_text.Goals as goal
use Rattle.sarif_filing.proofs.table.numbers_by_text.Goals.{in-Some+in_ok-clone+in_ok-add_number, in_default}

pub loop-number-preserved : goal.loop-number-preserved
loop-number-preserved g c = λ q.
    let added : numbers_at bytes_eq c.match-text_key.table q ≡ numbers_at bytes_eq c.loop-number.table q
    ++ (if asks_for_text c.args.which q c.index-entries-number.result then c.loop-number.number ∷ [] else []) =
    elim c.match-text_key.branch [
      | in-Some+in_ok-clone+in_ok-add_number w ↦
          let key : filed c.index-entries-number.result (text_key c.args.which c.index-entries-number.result.conditions) ≡ Some w.in_ok-clone.field-0 = search rules in
          rw (w.table-is, key) (w.in_ok-add_number.ensures q)
      | in_default w ↦
          let key : filed c.index-entries-number.result (text_key c.args.which c.index-entries-number.result.conditions) ≡ None = search rules in
          rw (w.table-is, key, append-nil) refl
    ]
    in
    one_more (asks_for_text c.args.which q) c.loop-number.number c.args.entries.now c.index-entries-number.result _ _ _
    (omega arith) c.index-entries-number.is added (c.loop-number.invariant q)
