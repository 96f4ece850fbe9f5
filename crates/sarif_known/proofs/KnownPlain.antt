-- The known log holds strings and small numbers alone, and the names of its objects rise.
use Rattle.std.proofs.Common.{◌≡◌, ℕ, suc, ◌+◌, ◌^◌, ◌<◌, ◌≤◌, ◌&&◌, Bool, true, false, List, [], ◌∷◌, map, length, Option, Some, None, option_map, codes, refl, sym, arith, Less, Equal, Greater, Ordering, nat_cmp, true≢false}
use Rattle.std.specs.Prelude.{⊤, IfSome}
use Rattle.std.specs.List.{AllByRecursion}
use Rattle.std.specs.Cmp.Lexicographic.{slice_cmp}
use Rattle.std.proofs.lemmas.Bool.{and_parts}
use Rattle.serde_json.specs.Data.{Data, number, unsigned, string, Members, no_members, member}
use Rattle.serde_json.specs.View.{items_of}
use Rattle.json_parts.specs.Internal.Ordered.{IsBelow, AreMembersOrdered}
use Rattle.sarif_model.specs.declared.kinds.Kind.{Kind}
use Rattle.sarif_model.specs.declared.kinds.Kind.TheVariants.{Pass, Undecided, Informational, NotApplicable, Review, Fail}
use Rattle.sarif_model.specs.declared.kinds.Level.{Level}
use Rattle.sarif_model.specs.declared.kinds.Status.{Status}
use Rattle.sarif_model.specs.declared.message.Message.{Message}
use Rattle.sarif_model.specs.declared.record.Record.{Record}
use Rattle.sarif_model.specs.declared.region.Region.{Region}
use Rattle.sarif_model.specs.Limits.{most_results}
use Rattle.sarif_known.specs.Chosen.{Chosen, results_among}
use Rattle.sarif_known.specs.KnownLog.{known_log}
use Rattle.sarif_model.specs.Written.{Row, list_if_any, text_members}
use Rattle.sarif_model.specs.Guid.{guid_text}
use Rattle.sarif_known.specs.KnownResult.{kind_unless_fail, known_result, level_if_fail, locations_for, members_from, message_rows, number_if, object_from, one_location, physical_rows, region_for, region_rows, result_rows, snippet_for, suppression_for, texts_if_any, unless_empty, uri_rows}
use Rattle.sarif_known.specs.KnownRun.{artifact_at, base_alone, bases_alone, known_run, next_number, results_from, run_rows}
use Rattle.sarif_runs.specs.declared.run_options.RecordOptions.{RecordOptions}
use Rattle.sarif_known.specs.Laws.{IsOfTool, IsPosition, IsReadable, IsRegion}
use Rattle.sarif_known.proofs.Plain.{IsPlain, AreItemsPlain, AreMembersPlain}

-- ---- rows whose names rise

abbrev is_less : Ordering → Bool
is_less Less = true
is_less Equal = false
is_less Greater = false

-- the name is below those of these rows
abbrev is_below : List ℕ → List Row → Bool
is_below name [] = true
is_below name (row ∷ rows) = is_less (slice_cmp nat_cmp name row.0) && is_below name rows

abbrev do_rise : List Row → Bool
do_rise [] = true
do_rise (row ∷ rows) = is_below row.0 rows && do_rise rows

abbrev IfPlain : Option Data → Type 0
IfPlain o = IfSome o IsPlain

abbrev ArePlain : List Row → Type 0
ArePlain [] = ⊤
ArePlain (row ∷ rows) = IfPlain row.1 × ArePlain rows

less_is : (o : Ordering) → is_less o ≡ true → o ≡ Less
less_is Less is = refl
less_is Equal is = absurd (true≢false (sym is))
less_is Greater is = absurd (true≢false (sym is))

rows_below : (name : List ℕ) (rows : List Row) → is_below name rows ≡ true → IsBelow name (members_from rows)
rows_below name [] is = tt
rows_below name ((k, None) ∷ rows) is = rows_below name rows (and_parts (is_less (slice_cmp nat_cmp name k)) (is_below name rows) is).1
rows_below name ((k, Some d) ∷ rows) is =
    let parts = and_parts (is_less (slice_cmp nat_cmp name k)) (is_below name rows) is in
    (less_is (slice_cmp nat_cmp name k) parts.0, rows_below name rows parts.1)

rows_plain : (rows : List Row) → do_rise rows ≡ true → ArePlain rows → AreMembersPlain (members_from rows)
rows_plain [] rise plain = tt
rows_plain ((k, None) ∷ rows) rise plain = rows_plain rows (and_parts (is_below k rows) (do_rise rows) rise).1 plain.1
rows_plain ((k, Some d) ∷ rows) rise plain =
    let parts = and_parts (is_below k rows) (do_rise rows) rise in
    (rows_below k rows parts.0, plain.0, rows_plain rows parts.1 plain.1)

-- ---- lists

list_plain : (ds : List Data) → AllByRecursion IsPlain ds → AreItemsPlain (items_of ds)
list_plain [] all = tt
list_plain (d ∷ ds) all = (all.0, list_plain ds all.1)

list_if_plain : (ds : List Data) → AllByRecursion IsPlain ds → IfPlain (list_if_any ds)
list_if_plain [] all = tt
list_if_plain (d ∷ ds) all = list_plain (d ∷ ds) all

each_plain : {A : Type 0} (f : A → Data) → ((x : A) → IsPlain (f x)) → (xs : List A) → AllByRecursion IsPlain (map f xs)
each_plain f plain [] = tt
each_plain f plain (x ∷ xs) = (plain x, each_plain f plain xs)

texts_plain : (ps : List (List ℕ × List ℕ)) → AreMembersOrdered (text_members ps) → AreMembersPlain (text_members ps)
texts_plain [] rise = tt
texts_plain (p ∷ ps) rise = (rise.0, tt, texts_plain ps rise.2)

texts_if_plain : (ps : List (List ℕ × List ℕ)) → AreMembersOrdered (text_members ps) → IfPlain (texts_if_any ps)
texts_if_plain [] rise = tt
texts_if_plain (p ∷ ps) rise = texts_plain (p ∷ ps) rise

-- ---- the members of a result

text_if_plain : {A : Type 0} (f : A → List ℕ) (o : Option A) → IfPlain (option_map (λ x. string (f x)) o)
text_if_plain f None = tt
text_if_plain f (Some x) = tt

kind_plain : (kind : Kind) → IfPlain (kind_unless_fail kind)
kind_plain Pass = tt
kind_plain Undecided = tt
kind_plain Informational = tt
kind_plain NotApplicable = tt
kind_plain Review = tt
kind_plain Fail = tt

level_plain : (kind : Kind) (level : Level) → IfPlain (level_if_fail kind level)
level_plain Pass level = tt
level_plain Undecided level = tt
level_plain Informational level = tt
level_plain NotApplicable level = tt
level_plain Review level = tt
level_plain Fail level = tt

id_plain : (id : List ℕ) → IfPlain (unless_empty id)
id_plain [] = tt
id_plain (b ∷ bs) = tt

suppression_plain : (status : Status) → IsPlain (suppression_for status)
suppression_plain status = ((refl, tt), tt, (tt, tt, tt))

message_plain : (m : Message) → IsPlain (object_from (message_rows m))
message_plain m =
    rows_plain (message_rows m) refl
    (list_if_plain (map string m.args) (each_plain string (λ _. tt) m.args), (text_if_plain (λ t. t) m.id, (text_if_plain (λ t. t) m.text, tt)))

number_plain : (o : Option ℕ) → IfSome o IsPosition → IfPlain (number_if o)
number_plain None small = tt
number_plain (Some n) small = let last = small.last in omega (arith, last)

snippet_plain : (o : Option (List ℕ)) → IfPlain (option_map snippet_for o)
snippet_plain None = tt
snippet_plain (Some text) = (tt, tt, tt)

region_plain : (region : Option Region) (snippet : Option (List ℕ)) → IfSome region IsRegion → IfPlain (region_for region snippet)
region_plain None None is = tt
region_plain None (Some text) is =
    rows_plain (region_rows None (Some text)) refl (tt, (tt, (snippet_plain (Some text), (tt, (tt, tt)))))
region_plain (Some r) snippet is =
    rows_plain (region_rows (Some r) snippet) refl (
      number_plain r.end_column is.end_column,
      (
        number_plain r.end_line is.end_line,
        (snippet_plain snippet, (number_plain r.start_column is.start_column, (number_plain (Some r.start_line) is.start_line, tt))),
      ),
    )

location_plain : (ms : Members) (region : Option Data) → AreMembersPlain ms → IfPlain region → IsPlain (one_location ms region)
location_plain ms region plain of_region = ((tt, rows_plain (physical_rows ms region) refl (plain, (of_region, tt)), tt), tt)

place_plain : (uri base : Option (List ℕ)) (region : Option Data) (artifact : Option ℕ) → IfSome artifact (λ n. n < 2 ^ 32) → IfPlain region
    → IfPlain (locations_for (record { uri = uri; base = base }) region artifact)
place_plain uri base region (Some n) small of_region =
    location_plain (member (codes "index") (number (unsigned n)) no_members) region (tt, omega (arith, small), tt) of_region
place_plain None base region None small of_region = tt
place_plain (Some uri) base region None small of_region =
    location_plain (members_from (uri_rows uri base)) region (rows_plain (uri_rows uri base) refl (tt, (text_if_plain (λ t. t) base, tt))) of_region

result_plain : (options : RecordOptions) (r : Record) (artifact : Option ℕ) → IsReadable options r → IfSome artifact (λ n. n < 2 ^ 32) → IsPlain (known_result r artifact)
result_plain options r artifact readable small =
    rows_plain (result_rows r artifact) refl (
      text_if_plain guid_text r.guid,
      (
        texts_if_plain r.full readable.full,
        (
          kind_plain r.kind,
          (
            level_plain r.kind r.level,
            (
              place_plain r.place.uri r.place.base (region_for r.region r.snippet) artifact small
                  (region_plain r.region r.snippet readable.region),
              (
                message_plain r.message,
                (
                  texts_if_plain r.partial readable.partial,
                  (id_plain r.rule_id, (list_if_plain (map suppression_for r.held) (each_plain suppression_for suppression_plain r.held), tt)),
                ),
              ),
            ),
          ),
        ),
      ),
    )

-- ---- runs and the log

pub number_small : (n : ℕ) (o : Option (List ℕ)) → n < 2 ^ 32 → IfSome (option_map (λ _. n) o) (λ n. n < 2 ^ 32)
number_small n None small = tt
number_small n (Some base) small = small

pub next_small : (n : ℕ) (o : Option (List ℕ)) (left : ℕ) → n + suc left ≤ most_results → next_number n o + left ≤ most_results
next_small n None left few = omega (arith, few)
next_small n (Some base) left few = omega (arith, few)

results_plain : (options : RecordOptions) (tool : List ℕ) (n : ℕ) (rs : List Record) → AllByRecursion (IsOfTool options tool) rs → n + length rs ≤ most_results
    → AllByRecursion IsPlain (results_from n rs)
results_plain options tool n [] all few = tt
results_plain options tool n (r ∷ rs) all few = (
  result_plain options r (option_map (λ _. n) (base_alone r)) all.0.readable (number_small n (base_alone r) (omega (arith, few))),
  results_plain options tool (next_number n (base_alone r)) rs all.1 (next_small n (base_alone r) (length rs) few),
)

artifact_plain : (base : List ℕ) → IsPlain (artifact_at base)
artifact_plain base = (tt, (tt, tt, tt), tt)

run_plain : (options : RecordOptions) (run : Chosen) → AllByRecursion (IsOfTool options run.tool) run.records → length run.records ≤ most_results → IsPlain (known_run run)
run_plain options run all few =
    rows_plain (run_rows run) refl (
      list_if_plain (map artifact_at (bases_alone run.records)) (each_plain artifact_at artifact_plain (bases_alone run.records)),
      (list_plain (results_from 0 run.records) (results_plain options run.tool 0 run.records all (omega (arith, few))), ((tt, (tt, tt, tt), tt), tt)),
    )

runs_plain : (options : RecordOptions) (runs : List Chosen) → AllByRecursion (λ run. AllByRecursion (IsOfTool options run.tool) run.records) runs
    → results_among runs ≤ most_results → AllByRecursion IsPlain (map known_run runs)
runs_plain options [] all few = tt
runs_plain options (run ∷ runs) all few = (run_plain options run all.0 (omega (arith, few)), runs_plain options runs all.1 (omega (arith, few)))

-- the known log is plain
pub log_plain : (options : RecordOptions) (runs : List Chosen) → AllByRecursion (λ run. AllByRecursion (IsOfTool options run.tool) run.records) runs
    → results_among runs ≤ most_results → IsPlain (known_log runs)
log_plain options runs all few = ((refl, tt), list_plain (map known_run runs) (runs_plain options runs all few), (tt, tt, tt))
