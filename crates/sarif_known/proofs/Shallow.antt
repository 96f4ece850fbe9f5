-- The known log nests at most ten deep.
use Rattle.std.proofs.Common.{ℕ, suc, ◌≤◌, ◌||◌, Bool, true, false, is_some, if◌then◌else◌, option_and_then, List, [], ◌∷◌, map, Option, Some, None, option_map, codes, arith}
use Rattle.std.specs.Prelude.{⊤, IfSome}
use Rattle.serde_json.specs.Data.{Data, number, unsigned, string, array, object, Members, no_members, member, depth, items_depth, members_depth}
use Rattle.serde_json.specs.Read.{max_depth}
use Rattle.serde_json.specs.View.{items_of}
use Rattle.sarif_model.specs.declared.kinds.Kind.{Kind}
use Rattle.sarif_model.specs.declared.kinds.Kind.TheVariants.{Pass, Undecided, Informational, NotApplicable, Review, Fail}
use Rattle.sarif_model.specs.declared.kinds.Level.{Level}
use Rattle.sarif_model.specs.declared.message.Message.{Message}
use Rattle.sarif_model.specs.declared.record.Record.{Record}
use Rattle.sarif_model.specs.declared.region.Region.{Region}
use Rattle.sarif_known.specs.Chosen.{Chosen}
use Rattle.sarif_known.specs.KnownLog.{known_log}
use Rattle.sarif_model.specs.Written.{Row, list_if_any, text_members}
use Rattle.sarif_model.specs.Guid.{guid_text}
use Rattle.sarif_known.specs.KnownResult.{kind_unless_fail, known_result, level_if_fail, locations_for, members_from, message_rows, number_if, object_from, one_location, physical_rows, region_for, region_rows, result_rows, snippet_for, suppression_for, texts_if_any, unless_empty, uri_rows}
use Rattle.sarif_known.specs.KnownRun.{artifact_at, base_alone, bases_alone, known_run, next_number, results_from, run_rows, tool_named}

abbrev IsWithin : ℕ → Option Data → Type 0
IsWithin n o = IfSome o (λ d. depth d ≤ n)

abbrev AreWithin : ℕ → List Row → Type 0
AreWithin n [] = ⊤
AreWithin n (row ∷ rows) = IsWithin n row.1 × AreWithin n rows

rows_within : (n : ℕ) (rows : List Row) → AreWithin n rows → members_depth (members_from rows) ≤ n
rows_within n [] are = omega arith
rows_within n ((k, None) ∷ rows) are = rows_within n rows are.1
rows_within n ((k, Some d) ∷ rows) are =
    let first : depth d ≤ n = are.0 in
    let rest : members_depth (members_from rows) ≤ n = rows_within n rows are.1 in
    omega (arith, first, rest)

abbrev EachWithin : ℕ → List Data → Type 0
EachWithin n [] = ⊤
EachWithin n (d ∷ ds) = (depth d ≤ n) × EachWithin n ds

list_within : (n : ℕ) (ds : List Data) → EachWithin n ds → items_depth (items_of ds) ≤ n
list_within n [] are = omega arith
list_within n (d ∷ ds) are =
    let first : depth d ≤ n = are.0 in
    let rest : items_depth (items_of ds) ≤ n = list_within n ds are.1 in
    omega (arith, first, rest)

each_within : {A : Type 0} (n : ℕ) (f : A → Data) → ((x : A) → depth (f x) ≤ n) → (xs : List A) → EachWithin n (map f xs)
each_within n f within [] = tt
each_within n f within (x ∷ xs) = (within x, each_within n f within xs)

list_if_within : (n : ℕ) (ds : List Data) → EachWithin n ds → IsWithin (suc n) (list_if_any ds)
list_if_within n [] are = tt
list_if_within n (d ∷ ds) are =
    let inner : items_depth (items_of (d ∷ ds)) ≤ n = list_within n (d ∷ ds) are in
    omega (arith, inner)

texts_within : (ps : List (List ℕ × List ℕ)) → members_depth (text_members ps) ≤ 0
texts_within [] = omega arith
texts_within (p ∷ ps) = let rest = texts_within ps in omega (arith, rest)

texts_if_within : (ps : List (List ℕ × List ℕ)) → IsWithin 4 (texts_if_any ps)
texts_if_within [] = tt
texts_if_within (p ∷ ps) = let inner = texts_within (p ∷ ps) in omega (arith, inner)

text_within : {A : Type 0} (n : ℕ) (f : A → List ℕ) (o : Option A) → IsWithin n (option_map (λ x. string (f x)) o)
text_within n f None = tt
text_within n f (Some x) = omega arith

kind_within : (kind : Kind) → IsWithin 4 (kind_unless_fail kind)
kind_within Pass = omega arith
kind_within Undecided = omega arith
kind_within Informational = omega arith
kind_within NotApplicable = omega arith
kind_within Review = omega arith
kind_within Fail = tt

level_within : (kind : Kind) (level : Level) → IsWithin 4 (level_if_fail kind level)
level_within Pass level = tt
level_within Undecided level = tt
level_within Informational level = tt
level_within NotApplicable level = tt
level_within Review level = tt
level_within Fail level = omega arith

id_within : (id : List ℕ) → IsWithin 4 (unless_empty id)
id_within [] = tt
id_within (b ∷ bs) = omega arith

wider : (m n : ℕ) (o : Option Data) → m ≤ n → IsWithin m o → IsWithin n o
wider m n None less is = tt
wider m n (Some d) less is = omega (arith, less, is)

message_within : (m : Message) → depth (object_from (message_rows m)) ≤ 4
message_within m =
    let inner : members_depth (members_from (message_rows m)) ≤ 1 =
    rows_within 1 (message_rows m) (
      list_if_within 0 (map string m.args) (each_within 0 string (λ _. omega arith) m.args),
      (text_within 1 (λ t. t) m.id, (text_within 1 (λ t. t) m.text, tt)),
    ) in
    omega (arith, inner)

number_within : (n : ℕ) (o : Option ℕ) → IsWithin n (number_if o)
number_within n None = tt
number_within n (Some m) = omega arith

snippet_within : (o : Option (List ℕ)) → IsWithin 1 (option_map snippet_for o)
snippet_within None = tt
snippet_within (Some text) = omega arith

rows_of_region : (region : Option Region) (snippet : Option (List ℕ)) → members_depth (members_from (region_rows region snippet)) ≤ 1
rows_of_region region snippet =
    rows_within 1 (region_rows region snippet) (
      number_within 1 (option_and_then (λ r. r.end_column) region),
      (
        number_within 1 (option_and_then (λ r. r.end_line) region),
        (
          snippet_within snippet,
          (
            number_within 1 (option_and_then (λ r. r.start_column) region),
            (number_within 1 (option_map (λ r. r.start_line) region), tt),
          ),
        ),
      ),
    )

region_within : (region : Option Region) (snippet : Option (List ℕ)) → IsWithin 2 (region_for region snippet)
region_within region snippet = by_test (is_some region || is_some snippet)
  where
    by_test : (b : Bool) → IsWithin 2 (if b then Some (object_from (region_rows region snippet)) else None)
    by_test true = let inner = rows_of_region region snippet in omega (arith, inner)
    by_test false = tt

location_within : (ms : Members) (region : Option Data) → members_depth ms ≤ 0 → IsWithin 2 region → depth (one_location ms region) ≤ 6
location_within ms region none within =
    let artifact : depth (object ms) ≤ 2 = omega (arith, none) in
    let inner : members_depth (members_from (physical_rows ms region)) ≤ 2 =
    rows_within 2 (physical_rows ms region) (artifact, (within, tt)) in
    omega (arith, inner)

place_within : (uri base : Option (List ℕ)) (region : Option Data) (artifact : Option ℕ) → IsWithin 2 region
    → IsWithin 6 (locations_for (record { uri = uri; base = base }) region artifact)
place_within uri base region (Some n) within =
    location_within (member (codes "index") (number (unsigned n)) no_members) region (omega arith) within
place_within None base region None within = tt
place_within (Some uri) base region None within =
    location_within (members_from (uri_rows uri base)) region (rows_within 0 (uri_rows uri base) (omega arith, (text_within 0 (λ t. t) base, tt))) within

suppressions_within : (r : Record) → IsWithin 2 (list_if_any (map suppression_for r.held))
suppressions_within r = list_if_within 1 (map suppression_for r.held) (each_within 1 suppression_for (λ _. omega arith) r.held)

result_within : (r : Record) (artifact : Option ℕ) → depth (known_result r artifact) ≤ 7
result_within r artifact =
    let inner : members_depth (members_from (result_rows r artifact)) ≤ 6 =
    rows_within 6 (result_rows r artifact) (
      text_within 6 guid_text r.guid,
      (
        wider 4 6 _ (omega arith) (texts_if_within r.full),
        (
          wider 4 6 _ (omega arith) (kind_within r.kind),
          (
            wider 4 6 _ (omega arith) (level_within r.kind r.level),
            (
              place_within r.place.uri r.place.base (region_for r.region r.snippet) artifact (region_within r.region r.snippet),
              (
                wide (message_within r.message),
                (
                  wider 4 6 _ (omega arith) (texts_if_within r.partial),
                  (
                    wider 4 6 _ (omega arith) (id_within r.rule_id),
                    (wider 2 6 _ (omega arith) (suppressions_within r), tt),
                  ),
                ),
              ),
            ),
          ),
        ),
      ),
    ) in
    omega (arith, inner)
  where
    wide : {n : ℕ} → n ≤ 4 → n ≤ 6
    wide less = omega (arith, less)

results_within : (n : ℕ) (rs : List Record) → EachWithin 7 (results_from n rs)
results_within n [] = tt
results_within n (r ∷ rs) = (result_within r (option_map (λ _. n) (base_alone r)), results_within (next_number n (base_alone r)) rs)

run_within : (run : Chosen) → depth (known_run run) ≤ 9
run_within run =
    let results : items_depth (items_of (results_from 0 run.records)) ≤ 7 = list_within 7 (results_from 0 run.records) (results_within 0 run.records) in
    let all : depth (array (items_of (results_from 0 run.records))) ≤ 8 = omega (arith, results) in
    let tool : depth (tool_named run.tool) ≤ 8 = omega arith in
    let inner : members_depth (members_from (run_rows run)) ≤ 8 =
    rows_within 8 (run_rows run) (
      wider 3 8 _ (omega arith)
          (list_if_within 2 (map artifact_at (bases_alone run.records)) (each_within 2 artifact_at (λ _. omega arith) (bases_alone run.records))),
      (all, (tool, tt)),
    ) in
    omega (arith, inner)

pub log_within : (runs : List Chosen) → depth (known_log runs) ≤ max_depth
log_within runs =
    let inner : items_depth (items_of (map known_run runs)) ≤ 9 = list_within 9 (map known_run runs) (each_within 9 known_run run_within runs) in
    omega (arith, inner)
