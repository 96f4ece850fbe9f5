-- A result went away by a test exactly if it went away by the file and the input runs.
use Rattle.std.proofs.Common.{◌≡◌, ◌==◌, ◌&&◌, ◌||◌, ℕ, List, [], ◌∷◌, None, Some, length, not, map, refl, ap, ◌∙◌}
use Rattle.std.proofs.Math.Dec.{eqb-suc-zero}
use Rattle.std.specs.List.{list_any}
use Rattle.sarif_accept.specs.Heard.{heard_of}
use Rattle.sarif_accept.specs.declared.heard.ToolRun.{ToolRun}
use Rattle.sarif_accept.proofs.Staying.{found_met}
use Rattle.sarif_entries.specs.File.{File}
use Rattle.sarif_entries.specs.Matching.{hold, is_empty, matches}
use Rattle.sarif_entries.specs.declared.entry.Entry.{Entry}
use Rattle.sarif_heard.specs.Heard.{tool_run}
use Rattle.sarif_model.specs.declared.record.Record.{Record}
use Rattle.sarif_runs.specs.Judging.{run_values}
use Rattle.sarif_runs.specs.Placed.{Placed}
use Rattle.sarif_suppress.specs.Suppressing.{matching_numbers}
use Rattle.sarif_deciding.specs.Internal.Gone.{filters_of, gone_by, IsTestOf}
use Rattle.sarif_deciding.specs.Results.{is_gone_by}
use Rattle.sarif_deciding.specs.declared.gone.GoneTest.{GoneTest}

empty_long : (ns : List ℕ) → (length ns == 0) ≡ not (not (is_empty ns))
empty_long [] = refl
empty_long (n ∷ ns) = eqb-suc-zero (length ns)

-- no entry matches the result if there is no number of one that does
pub none_met : (file : File) (r : Record) → (length (matching_numbers file r) == 0) ≡ not (list_any (λ e. matches file.today e r) file.entries)
none_met file r = empty_long (matching_numbers file r) ∙ ap not (found_met file r)

filters_held : (r : Record) (es : List Entry) → list_any (λ e. matches None e r) (filters_of es) ≡ list_any (λ e. hold e.conditions r) es
filters_held r [] = refl
filters_held r (e ∷ es) = ap (λ b. hold e.conditions r || b) (filters_held r es)

module _ (file : File) (runs : List Placed) (test : GoneTest) (is : IsTestOf file runs test) where
  gone_same : (r : Record) → gone_by test r ≡ is_gone_by file runs r
  gone_same r =
      ap (λ (h : List ToolRun). heard_of h (Some r.tool) && not (list_any (λ e. matches test.filters.today e r) test.filters.entries)) is.heard
      ∙ ap (λ (f : File). heard_of (map tool_run (run_values runs)) (Some r.tool) && not (list_any (λ e. matches f.today e r) f.entries)) is.filters
      ∙ ap (λ b. heard_of (map tool_run (run_values runs)) (Some r.tool) && not b) (filters_held r file.entries)

  pub all_gone : (rs : List Record) → map (gone_by test) rs ≡ map (is_gone_by file runs) rs
  all_gone [] = refl
  all_gone (r ∷ rs) = ap (λ g. g ∷ map (gone_by test) rs) (gone_same r) ∙ ap (λ gs. is_gone_by file runs r ∷ gs) (all_gone rs)
