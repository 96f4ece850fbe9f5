-- Grouping runs by their tools adds none.
use Rattle.std.proofs.Common.{◌≡◌, ◌+◌, ◌≤◌, ℕ, Bool, true, false, ◌&&◌, ◌||◌, not, List, [], ◌∷◌, ◌++◌, bytes_eq, length, refl, sym, ap, ◌∙◌, arith, if◌then◌else◌, true≢false}
use Rattle.std.specs.List.{flat_map, list_any}
use Rattle.std.proofs.lemmas.List.Folds.{list_any-append}
use Rattle.std.proofs.lemmas.Slice.Eq.{bytes_eq-Decides}
use Rattle.std.proofs.lemmas.Bool.{or_parts, or_left}
use Rattle.sarif_entries.specs.Matching.{is_empty}
use Rattle.sarif_known.specs.Chosen.{Chosen, results_among}
use Rattle.sarif_known.specs.Internal.Groups.{AreApart}
use Rattle.sarif_evidence.specs.declared.version.MatchingVersion.{MatchingVersion}
use Rattle.sarif_evidence.specs.declared.version.MatchingVersion.TheVariants.{Two, Three}
use Rattle.sarif_known.specs.Order.{in_turn, known_runs, runs_of_tool, tools_of}
use Rattle.sarif_known.proofs.Grouped.{tools_apart}

-- a tool that comes before isn't among those that follow
not_later : (tool : List ℕ) (before tools : List (List ℕ)) → list_any (bytes_eq tool) before ≡ true → AreApart before tools
    → list_any (bytes_eq tool) tools ≡ false
not_later tool before [] there apart = refl
not_later tool before (x ∷ xs) there apart =
    by_test (bytes_eq tool x) refl
    (not_later tool (before ++ x ∷ []) xs
    (list_any-append (bytes_eq tool) before (x ∷ []) ∙ or_left (list_any (bytes_eq tool) before) (list_any (bytes_eq tool) (x ∷ [])) there)
    apart.1)
  where
    by_test : (b : Bool) → bytes_eq tool x ≡ b → list_any (bytes_eq tool) xs ≡ false → (b || list_any (bytes_eq tool) xs) ≡ false
    by_test true is rest =
        let same : tool ≡ x = (bytes_eq-Decides tool x).0 is in
        absurd (true≢false (sym there ∙ ap (λ t. list_any (bytes_eq t) before) same ∙ apart.0))
    by_test false is rest = rest

module _ (weight : Chosen → ℕ) where
  abbrev pub total : List Chosen → ℕ
  total [] = 0
  total (run ∷ runs) = weight run + total runs

  pub total-append : (xs ys : List Chosen) → total (xs ++ ys) ≡ total xs + total ys
  total-append [] ys = omega arith
  total-append (x ∷ xs) ys = omega (arith, total-append xs ys)

  module _ (run : Chosen) (all : List Chosen) where
    -- of another tool
    other_tool : (tool : List ℕ) → bytes_eq run.tool tool ≡ false → runs_of_tool (run ∷ all) tool ≡ runs_of_tool all tool
    other_tool tool other = ap (λ b. if b && not (is_empty run.records) then run ∷ runs_of_tool all tool else runs_of_tool all tool) other

    none_more : (tools : List (List ℕ)) → list_any (bytes_eq run.tool) tools ≡ false
        → flat_map (runs_of_tool (run ∷ all)) tools ≡ flat_map (runs_of_tool all) tools
    none_more [] none = refl
    none_more (t ∷ ts) none =
        let parts = or_parts (bytes_eq run.tool t) (list_any (bytes_eq run.tool) ts) none in
        ap (λ l. l ++ flat_map (runs_of_tool (run ∷ all)) ts) (other_tool t parts.0) ∙ ap (λ l. runs_of_tool all t ++ l) (none_more ts parts.1)

    one_of : (b : Bool) (tool : List ℕ) → total (if b then run ∷ runs_of_tool all tool else runs_of_tool all tool) ≤ weight run + total (runs_of_tool all tool)
    one_of true tool = omega arith
    one_of false tool = omega arith

    one_more : (before tools : List (List ℕ)) → AreApart before tools
        → total (flat_map (runs_of_tool (run ∷ all)) tools) ≤ weight run + total (flat_map (runs_of_tool all) tools)
    one_more before [] apart = omega arith
    one_more before (t ∷ ts) apart = by_test (bytes_eq run.tool t) refl (one_more (before ++ t ∷ []) ts apart.1)
      where
        itself : list_any (bytes_eq t) (before ++ t ∷ []) ≡ true
        itself = list_any-append (bytes_eq t) before (t ∷ []) ∙ last (list_any (bytes_eq t) before) (bytes_eq t t) ((bytes_eq-Decides t t).1 refl)
          where
            last : (a b : Bool) → b ≡ true → (a || (b || false)) ≡ true
            last true b is = refl
            last false true is = refl
            last false false is = absurd (true≢false (sym is))

        by_test : (b : Bool) → bytes_eq run.tool t ≡ b → total (flat_map (runs_of_tool (run ∷ all)) ts) ≤ weight run + total (flat_map (runs_of_tool all) ts)
            → total (flat_map (runs_of_tool (run ∷ all)) (t ∷ ts)) ≤ weight run + total (flat_map (runs_of_tool all) (t ∷ ts))
        by_test true is rest =
            let same : t ≡ run.tool = sym ((bytes_eq-Decides run.tool t).0 is) in
            let none : list_any (bytes_eq run.tool) ts ≡ false =
            ap (λ x. list_any (bytes_eq x) ts) (sym same) ∙ not_later t (before ++ t ∷ []) ts itself apart.1 in
            let later = ap total (none_more ts none) in
            omega (
              arith,
              total-append (runs_of_tool (run ∷ all) t) (flat_map (runs_of_tool (run ∷ all)) ts),
              total-append (runs_of_tool all t)
                  (flat_map (runs_of_tool all) ts),
              one_of (bytes_eq run.tool t && not (is_empty run.records)) t,
              later,
            )
        by_test false is rest =
            let here = ap total (other_tool t is) in
            omega (
              arith,
              total-append (runs_of_tool (run ∷ all) t) (flat_map (runs_of_tool (run ∷ all)) ts),
              total-append (runs_of_tool all t)
                  (flat_map (runs_of_tool all) ts),
              here,
              rest,
            )

  none_at_all : (tools : List (List ℕ)) → flat_map (runs_of_tool []) tools ≡ []
  none_at_all [] = refl
  none_at_all (t ∷ ts) = none_at_all ts

  grouped : (all : List Chosen) (before tools : List (List ℕ)) → AreApart before tools → total (flat_map (runs_of_tool all) tools) ≤ total all
  grouped [] before tools apart = let nothing = ap total (none_at_all tools) in omega (arith, nothing)
  grouped (run ∷ all) before tools apart = omega (arith, one_more run all before tools apart, grouped all before tools apart)

  turn_total : (version : MatchingVersion) (current baseline : List Chosen) → total (in_turn version current baseline) ≡ total current + total baseline
  turn_total Two current baseline = total-append current baseline
  turn_total Three current baseline = let both = total-append baseline current in omega (arith, both)

  pub known_total : (version : MatchingVersion) (current baseline : List Chosen) → total (known_runs version current baseline) ≤ total current + total baseline
  known_total version current baseline =
      omega (
        arith,
        grouped (in_turn version current baseline) [] (tools_of (baseline ++ current))
            (tools_apart (baseline ++ current) (tools_of (baseline ++ current)) refl),
        turn_total version current baseline,
      )

-- how many runs and results there are
pub total_runs : (runs : List Chosen) → total (λ _. 1) runs ≡ length runs
total_runs [] = refl
total_runs (run ∷ runs) = omega (arith, total_runs runs)

pub total_results : (runs : List Chosen) → total (λ run. length run.records) runs ≡ results_among runs
total_results [] = refl
total_results (run ∷ runs) = ap (λ n. length run.records + n) (total_results runs)
