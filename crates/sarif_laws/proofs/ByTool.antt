-- The known log has, for each tool, the results that become or stay known, in their order.
use Rattle.std.proofs.Common.{◌≡◌, ℕ, Bool, true, false, cond, not, ◌&&◌, ◌||◌, bytes_eq, List, [], ◌∷◌, ◌++◌, map, refl, sym, ap, ap₂, ◌∙◌, append-nil, true≢false}
use Rattle.std.specs.List.{AllByRecursion, flat_map, list_any}
use Rattle.std.proofs.lemmas.Bool.{false_from_ne_true, or_from, or_left, or_parts}
use Rattle.std.proofs.lemmas.List.{map-append}
use Rattle.std.proofs.lemmas.List.Concat.{flat_map-append}
use Rattle.std.proofs.lemmas.List.Elements.{filter-append}
use Rattle.std.proofs.lemmas.List.Folds.{list_any-append}
use Rattle.std.proofs.lemmas.Slice.Eq.{bytes_eq-Decides}
use Rattle.sarif_model.specs.declared.record.Record.{Record}
use Rattle.sarif_entries.specs.Matching.{is_empty}
use Rattle.sarif_known.specs.Chosen.{Chosen}
use Rattle.sarif_evidence.specs.declared.version.MatchingVersion.{MatchingVersion}
use Rattle.sarif_evidence.specs.declared.version.MatchingVersion.TheVariants.{Two, Three}
use Rattle.sarif_known.specs.Order.{in_turn, known_runs, once_each, runs_of_tool}
use Rattle.sarif_laws.proofs.Arranged.{of_tool}
use Rattle.sarif_laws.proofs.Keyed.{tool_of}
use Rattle.sarif_laws.proofs.Lists.{all_append}

-- the records of these runs
abbrev pub records_among : List Chosen → List Record
records_among runs = flat_map (λ run. run.records) runs

-- each is of its run's tool
abbrev pub IsOfOne : Chosen → Type 0
IsOfOne run = AllByRecursion (λ r. r.tool ≡ run.tool) run.records

module _ (t : List ℕ) where
  none_of_other : (tool : List ℕ) (rs : List Record) → AllByRecursion (λ r. r.tool ≡ tool) rs → bytes_eq tool t ≡ false → of_tool tool_of t rs ≡ []
  none_of_other tool [] all other = refl
  none_of_other tool (r ∷ rs) all other =
      ap (λ b. cond b (r ∷ of_tool tool_of t rs) (of_tool tool_of t rs)) (ap (λ s. bytes_eq s t) all.0 ∙ other) ∙ none_of_other tool rs all.1 other

  append_of : (xs ys : List Record) → of_tool tool_of t (xs ++ ys) ≡ of_tool tool_of t xs ++ of_tool tool_of t ys
  append_of xs ys = filter-append (λ r. bytes_eq r.tool t) xs ys

  -- the runs of the tool have all its results
  of_same : (all : List Chosen) → AllByRecursion IsOfOne all → of_tool tool_of t (records_among (runs_of_tool all t)) ≡ of_tool tool_of t (records_among all)
  of_same [] sound = refl
  of_same (run ∷ all) sound = by_tests (bytes_eq run.tool t) run.records refl refl (of_same all sound.1)
    where
      kept : of_tool tool_of t (records_among (runs_of_tool all t)) ≡ of_tool tool_of t (records_among all)
          → of_tool tool_of t (run.records ++ records_among (runs_of_tool all t)) ≡ of_tool tool_of t (run.records ++ records_among all)
      kept rest =
          append_of run.records (records_among (runs_of_tool all t)) ∙ ap (λ l. of_tool tool_of t run.records ++ l) rest
          ∙ sym (append_of run.records (records_among all))

      by_tests : (b : Bool) (rs : List Record) → bytes_eq run.tool t ≡ b → run.records ≡ rs
          → of_tool tool_of t (records_among (runs_of_tool all t)) ≡ of_tool tool_of t (records_among all)
          → of_tool tool_of t (records_among (runs_of_tool (run ∷ all) t)) ≡ of_tool tool_of t (records_among (run ∷ all))
      by_tests true (r ∷ rs) test are rest =
          ap (λ b. of_tool tool_of t (records_among (cond (b && not (is_empty run.records)) (run ∷ runs_of_tool all t) (runs_of_tool all t)))) test
          ∙ ap (λ l. of_tool tool_of t (records_among (cond (not (is_empty l)) (run ∷ runs_of_tool all t) (runs_of_tool all t)))) are
          ∙ kept rest
      by_tests true [] test are rest =
          ap (λ b. of_tool tool_of t (records_among (cond (b && not (is_empty run.records)) (run ∷ runs_of_tool all t) (runs_of_tool all t)))) test
          ∙ ap (λ l. of_tool tool_of t (records_among (cond (not (is_empty l)) (run ∷ runs_of_tool all t) (runs_of_tool all t)))) are
          ∙ rest ∙ sym (ap (λ l. of_tool tool_of t (l ++ records_among all)) are)
      by_tests false rs test are rest =
          ap (λ b. of_tool tool_of t (records_among (cond (b && not (is_empty run.records)) (run ∷ runs_of_tool all t) (runs_of_tool all t)))) test
          ∙ rest ∙ sym
          (append_of run.records (records_among all)
          ∙ ap (λ l. l ++ of_tool tool_of t (records_among all)) (none_of_other run.tool run.records sound.0 test))

  -- the runs of another tool have none of its results
  of_other : (u : List ℕ) (all : List Chosen) → AllByRecursion IsOfOne all → bytes_eq u t ≡ false → of_tool tool_of t (records_among (runs_of_tool all u)) ≡ []
  of_other u [] sound other = refl
  of_other u (run ∷ all) sound other = by_test (bytes_eq run.tool u) (is_empty run.records) refl (of_other u all sound.1 other)
    where
      by_test : (b e : Bool) → bytes_eq run.tool u ≡ b → of_tool tool_of t (records_among (runs_of_tool all u)) ≡ []
          → of_tool tool_of t (records_among (cond (b && not e) (run ∷ runs_of_tool all u) (runs_of_tool all u))) ≡ []
      by_test true false test rest =
          let same : run.tool ≡ u = (bytes_eq-Decides run.tool u).0 test in
          append_of run.records (records_among (runs_of_tool all u))
          ∙ ap (λ l. l ++ of_tool tool_of t (records_among (runs_of_tool all u)))
          (none_of_other run.tool run.records sound.0 (ap (λ s. bytes_eq s t) same ∙ other)) ∙ rest
      by_test true true test rest = rest
      by_test false e test rest = rest

  none_named : (runs : List Chosen) → AllByRecursion IsOfOne runs → list_any (bytes_eq t) (map (λ run. run.tool) runs) ≡ false
      → of_tool tool_of t (records_among runs) ≡ []
  none_named [] sound none = refl
  none_named (run ∷ runs) sound none =
      let parts = or_parts (bytes_eq t run.tool) (list_any (bytes_eq t) (map (λ run. run.tool) runs)) none in
      append_of run.records (records_among runs)
      ∙ ap₂ (λ xs ys. xs ++ ys) (none_of_other run.tool run.records sound.0 (apart t run.tool parts.0)) (none_named runs sound.1 parts.1)
    where
      apart : (s u : List ℕ) → bytes_eq s u ≡ false → bytes_eq u s ≡ false
      apart s u is = false_from_ne_true (bytes_eq u s) (λ same. true≢false (sym ((bytes_eq-Decides s u).1 (sym ((bytes_eq-Decides u s).0 same))) ∙ is))

  module _ (all : List Chosen) (sound : AllByRecursion IsOfOne all) where
    abbrev found : List (List ℕ) → List Record
    found tools = of_tool tool_of t (records_among (flat_map (runs_of_tool all) tools))

    next_tool : (u : List ℕ) (tools : List (List ℕ)) → found (u ∷ tools) ≡ of_tool tool_of t (records_among (runs_of_tool all u)) ++ found tools
    next_tool u tools =
        ap (of_tool tool_of t) (flat_map-append (λ run. run.records) (runs_of_tool all u) (flat_map (runs_of_tool all) tools))
        ∙ append_of (records_among (runs_of_tool all u)) (records_among (flat_map (runs_of_tool all) tools))

    -- a tool that came before doesn't come again
    found_before : (before tools : List (List ℕ)) → list_any (bytes_eq t) before ≡ true → found (once_each before tools) ≡ []
    found_before before [] there = refl
    found_before before (u ∷ tools) there =
        by_test (list_any (bytes_eq u) before) refl (found_before before tools there)
        (found_before (before ++ u ∷ []) tools
        (list_any-append (bytes_eq t) before (u ∷ []) ∙ or_left (list_any (bytes_eq t) before) (list_any (bytes_eq t) (u ∷ [])) there))
      where
        by_test : (b : Bool) → list_any (bytes_eq u) before ≡ b → found (once_each before tools) ≡ [] → found (once_each (before ++ u ∷ []) tools) ≡ []
            → found (cond b (once_each before tools) (u ∷ once_each (before ++ u ∷ []) tools)) ≡ []
        by_test true test skipped rest = skipped
        by_test false test skipped rest =
            let other : bytes_eq u t ≡ false =
            false_from_ne_true (bytes_eq u t)
            (λ same. true≢false (sym there ∙ ap (λ s. list_any (bytes_eq s) before) (sym ((bytes_eq-Decides u t).0 same)) ∙ test)) in
            next_tool u (once_each (before ++ u ∷ []) tools) ∙ ap₂ (λ xs ys. xs ++ ys) (of_other u all sound other) rest

    found_once : (before tools : List (List ℕ)) → list_any (bytes_eq t) before ≡ false
        → (list_any (bytes_eq t) tools ≡ false → of_tool tool_of t (records_among all) ≡ [])
        → found (once_each before tools) ≡ of_tool tool_of t (records_among all)
    found_once before [] none unnamed = sym (unnamed refl)
    found_once before (u ∷ tools) none unnamed =
        by_test (list_any (bytes_eq u) before) refl (bytes_eq u t) refl (found_once before tools none) (found_once (before ++ u ∷ []) tools)
        (found_before (before ++ u ∷ []) tools)
      where
        apart : bytes_eq u t ≡ false → bytes_eq t u ≡ false
        apart is = false_from_ne_true (bytes_eq t u) (λ same. true≢false (sym ((bytes_eq-Decides u t).1 (sym ((bytes_eq-Decides t u).0 same))) ∙ is))

        later : bytes_eq u t ≡ false → list_any (bytes_eq t) tools ≡ false → of_tool tool_of t (records_among all) ≡ []
        later other is = unnamed (or_from (bytes_eq t u) (list_any (bytes_eq t) tools) (apart other) is)

        by_test : (b : Bool) → list_any (bytes_eq u) before ≡ b → (c : Bool) → bytes_eq u t ≡ c
            → ((list_any (bytes_eq t) tools ≡ false → of_tool tool_of t (records_among all) ≡ [])
            → found (once_each before tools) ≡ of_tool tool_of t (records_among all))
            → (list_any (bytes_eq t) (before ++ u ∷ []) ≡ false → (list_any (bytes_eq t) tools ≡ false → of_tool tool_of t (records_among all) ≡ [])
            → found (once_each (before ++ u ∷ []) tools) ≡ of_tool tool_of t (records_among all))
            → (list_any (bytes_eq t) (before ++ u ∷ []) ≡ true → found (once_each (before ++ u ∷ []) tools) ≡ [])
            → found (cond b (once_each before tools) (u ∷ once_each (before ++ u ∷ []) tools)) ≡ of_tool tool_of t (records_among all)
        by_test true seen true same skipped rest gone =
            absurd (true≢false (sym seen ∙ ap (λ s. list_any (bytes_eq s) before) ((bytes_eq-Decides u t).0 same) ∙ none))
        by_test true seen false other skipped rest gone = skipped (later other)
        by_test false seen true same skipped rest gone =
            let is : u ≡ t = (bytes_eq-Decides u t).0 same in
            next_tool u (once_each (before ++ u ∷ []) tools)
            ∙ ap₂ (λ xs ys. xs ++ ys) (ap (λ s. of_tool tool_of t (records_among (runs_of_tool all s))) is ∙ of_same all sound)
            (gone (list_any-append (bytes_eq t) before (u ∷ []) ∙ ap₂ (λ x y. x || (y || false)) none ((bytes_eq-Decides t u).1 (sym is))))
            ∙ append-nil (of_tool tool_of t (records_among all))
        by_test false seen false other skipped rest gone =
            next_tool u (once_each (before ++ u ∷ []) tools)
            ∙ ap₂ (λ xs ys. xs ++ ys) (of_other u all sound other)
            (rest (list_any-append (bytes_eq t) before (u ∷ []) ∙ ap₂ (λ x y. x || (y || false)) none (apart other)) (later other))

  names_apart : (xs ys : List Chosen) → list_any (bytes_eq t) (map (λ run. run.tool) (ys ++ xs)) ≡ false
      → list_any (bytes_eq t) (map (λ run. run.tool) (xs ++ ys)) ≡ false
  names_apart xs ys none =
      let names = λ (runs : List Chosen). map (λ (run : Chosen). run.tool) runs in
      let split =
      sym (ap (list_any (bytes_eq t)) (map-append (λ (run : Chosen). run.tool) ys xs) ∙ list_any-append (bytes_eq t) (names ys) (names xs))
      ∙ none in
      let parts = or_parts (list_any (bytes_eq t) (names ys)) (list_any (bytes_eq t) (names xs)) split in
      ap (list_any (bytes_eq t)) (map-append (λ (run : Chosen). run.tool) xs ys) ∙ list_any-append (bytes_eq t) (names xs) (names ys)
      ∙ or_from (list_any (bytes_eq t) (names xs)) (list_any (bytes_eq t) (names ys)) parts.1 parts.0

  -- the records of the known log, of this tool: those of its runs in turn
  pub known_of_tool : (version : MatchingVersion) (current baseline : List Chosen) → AllByRecursion IsOfOne current → AllByRecursion IsOfOne baseline
      → of_tool tool_of t (records_among (known_runs version current baseline)) ≡ of_tool tool_of t (records_among (in_turn version current baseline))
  known_of_tool Two current baseline now before =
      let sound = all_append IsOfOne current baseline now before in
      found_once (current ++ baseline) sound [] (map (λ run. run.tool) (baseline ++ current)) refl
      (λ none. none_named (current ++ baseline) sound (names_apart current baseline none))
  known_of_tool Three current baseline now before =
      let sound = all_append IsOfOne baseline current before now in
      found_once (baseline ++ current) sound [] (map (λ run. run.tool) (baseline ++ current)) refl
      (λ none. none_named (baseline ++ current) sound none)
