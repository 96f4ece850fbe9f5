use Rattle.std.proofs.Common.{rules, ◌≡◌, ◌++◌, ◌∷◌, [], None, Some, refl, arith, if◌then◌else◌}
use Rattle.std.proofs.lemmas.List.{append-nil}
use Rattle.sarif_entries.specs.Internal.Filing.{filed, asks_for_snippet, key_beside, snippet_key}
use Rattle.sarif_filing.specs.Internal.Snippets.{numbers_within}
use Rattle.sarif_filing.proofs.Numbered.{one_more}
use Rattle.sarif_filing.proofs.snippets.numbers_by_snippet.Goals as goal
use Rattle.sarif_filing.proofs.snippets.numbers_by_snippet.Goals.{in-Some+in_ok-key+in_ok-add_within, in_default}

pub loop-number-preserved : goal.loop-number-preserved
loop-number-preserved g c = λ text q.
    let added : numbers_within c.match-branch-2.table text q ≡ numbers_within c.loop-number.table text q
    ++ (if asks_for_snippet text q c.index-entries-number.result then c.loop-number.number ∷ [] else []) =
    elim c.match-branch-2.branch [
      | in-Some+in_ok-key+in_ok-add_within w ↦
          let snippet : filed c.index-entries-number.result (snippet_key c.index-entries-number.result.conditions) ≡ Some w.in-Some.snippet = search rules in
          let key : key_beside c.index-entries-number.result.conditions ≡ w.in_ok-key.key = search rules in
          rw (w.table-is, snippet, key) (w.in_ok-add_within.ensures text q)
      | in_default w ↦
          let snippet : filed c.index-entries-number.result (snippet_key c.index-entries-number.result.conditions) ≡ None = search rules in
          rw (w.table-is, snippet, append-nil) refl
    ]
    in
    one_more (asks_for_snippet text q) c.loop-number.number c.args.entries.now c.index-entries-number.result _ _ _
    (omega arith) c.index-entries-number.is added (c.loop-number.invariant text q)
