use Rattle.std.proofs.Common.{rules, ◌≡◌, ◌||◌, ◌+◌, Bool, true, false, take, None, Some, refl, sym, ap, ◌∙◌}
use Rattle.std.proofs.lemmas.List.Folds.{list_any_more}
use Rattle.sarif_entries.specs.Internal.Filing.{filed, prefix_key}
use Rattle.sarif_filing.specs.Internal.Prefixes.{is_listed, is_length, has_length}
use Rattle.sarif_filing.proofs.prefixes.lengths_of.Goals as goal
use Rattle.sarif_filing.proofs.prefixes.lengths_of.Goals.{in-Some+in_ok-mark_length, in_default}

turned : (a b : Bool) → (a || b) ≡ (b || a)
turned true true = refl
turned true false = refl
turned false true = refl
turned false false = refl

pub loop-entry-preserved : goal.loop-entry-preserved
loop-entry-preserved c = λ n.
    let item = c.entry-item.result in
    let entries = c.args.entries.now in
    let i = c.loop-entry.entry-index in
    let added : is_listed c.match-prefix_key.lengths.items n ≡ (has_length n c.entry-item.result || is_listed c.loop-entry.lengths.items n) =
    elim c.match-prefix_key.branch [
      | in-Some+in_ok-mark_length w ↦
          let key : filed c.entry-item.result (prefix_key c.entry-item.result.conditions) ≡ Some w.as_str.result.now = search rules in
          rw (w.lengths-is, key) (w.in_ok-mark_length.ensures n)
      | in_default w ↦
          let key : filed c.entry-item.result (prefix_key c.entry-item.result.conditions) ≡ None = search rules in
          rw (w.lengths-is, key) refl
    ]
    in
    let more : is_length n (take (c.loop-entry.entry-index + 1) c.args.entries.now)
    ≡ (is_length n (take c.loop-entry.entry-index c.args.entries.now) || has_length n c.entry-item.result) =
    list_any_more (has_length n) entries i item c.loop-entry-test.true ∙ ap (λ e. is_length n (take i entries) || has_length n e) (sym c.entry-item.is)
    in
    added ∙ turned (has_length n item) (is_listed c.loop-entry.lengths.items n) ∙ rw (c.loop-entry.invariant n) (sym more)
