-- The summary as a table and its last line.
use Rattle.std.proofs.Common.{◌≡◌, ℕ, List, ◌++◌, append_assoc, sym, ap, ◌∙◌}
use Rattle.sarif_model.specs.declared.kinds.State.TheVariants.{New, Unchanged, Updated, Absent}
use Rattle.sarif_counts.specs.Hits.{Count, hits_of, verdict_of}
use Rattle.sarif_counts.specs.Summary.{gate_line, heading, name_column, row_of, summary_of}
use Rattle.sarif_options.specs.declared.policy.Policy.{Policy}
use Rattle.sarif_scope.specs.Summary.{table_of}

four_rows : (h a b c d g : List ℕ) → h ++ (a ++ (b ++ (c ++ (d ++ g)))) ≡ (h ++ (a ++ (b ++ (c ++ d)))) ++ g
four_rows h a b c d g =
    sym (append_assoc h (a ++ (b ++ (c ++ d))) g
    ∙ ap (λ t. h ++ t) (append_assoc a (b ++ (c ++ d)) g
    ∙ ap (λ t. a ++ t) (append_assoc b (c ++ d) g ∙ ap (λ t. b ++ t) (append_assoc c d g))))

pub table_first : (count : Count) (policy : Policy)
    → summary_of count policy ≡ table_of count ++ gate_line (verdict_of count policy) (hits_of count policy) policy.max
table_first count policy =
    four_rows heading (row_of (name_column New) (count New)) (row_of (name_column Unchanged) (count Unchanged))
    (row_of (name_column Updated) (count Updated)) (row_of (name_column Absent) (count Absent))
    (gate_line (verdict_of count policy) (hits_of count policy) policy.max)
