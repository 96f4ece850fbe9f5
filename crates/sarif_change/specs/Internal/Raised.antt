-- Spans by their first lines, each until the last line of it and of those before it.
use Rattle.std.specs.Prelude.{ℕ, max, List, [], ◌∷◌}
use Rattle.sarif_diff.specs.declared.section.Span.{Span}

abbrev pub raised : ℕ → List Span → List Span
raised most [] = []
raised most (s ∷ spans) = record { first = s.first; last = max most s.last } ∷ raised (max most s.last) spans
