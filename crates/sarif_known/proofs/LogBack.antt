-- The text of the known log is read as the known log, and its runs are read without an error.
use Rattle.std.proofs.Common.{◌≡◌, ℕ, suc, ◌+◌, ◌≤◌, Bool, true, false, List, [], ◌∷◌, ◌++◌, map, length, Some, codes, refl, sym, ap, ◌∙◌, arith}
use Rattle.std.specs.Prelude.{Ok, nat_lt}
use Rattle.std.specs.Str.{IsUtf8}
use Rattle.std.proofs.lemmas.Bool.Decides.{nat_tests}
use Rattle.std.proofs.lemmas.Str.{is_utf8-from_IsUtf8}
use Rattle.json.specs.Layout.{pretty_from}
use Rattle.json.specs.Lex.{tokens}
use Rattle.json_parts.specs.Indexed.{json_of}
use Rattle.json_parts.specs.Mark.{without_mark}
use Rattle.sarif_model.specs.declared.fault.Fault.TheVariants.{BadRun}
use Rattle.sarif_model.specs.Limits.{most_results, most_runs}
use Rattle.sarif_model.specs.Members.{◌>>=◌, are_objects, objects_at}
use Rattle.sarif_model.specs.Run.{results_of, runs_of}
use Rattle.sarif_read.specs.Reading.{check_each, check_external, check_log, check_results, check_run, check_tool, count_results, log_of, log_of_value}
use Rattle.sarif_known.specs.Chosen.{Chosen, results_among}
use Rattle.sarif_known.specs.KnownLog.{known_log, pretty_text}
use Rattle.sarif_known.specs.KnownRun.{base_alone, known_run, next_number, results_from}
use Rattle.sarif_runs.specs.declared.run_options.RecordOptions.{RecordOptions}
use Rattle.sarif_known.specs.Laws.{CanBeRead}
use Rattle.sarif_known.specs.Internal.Tokens.{data_tokens}
use Rattle.sarif_model.proofs.Elements.{items_back}
use Rattle.sarif_known.proofs.KnownPlain.{log_plain}
use Rattle.sarif_accept.proofs.Newline.{read_line}
use Rattle.sarif_accept.proofs.FileText.{without_brace}
use Rattle.sarif_known.proofs.Plain.{plain_read, plain_stripped}
use Rattle.sarif_known.proofs.RunBack.{at, driver_is, results_are, count_is}
use Rattle.sarif_known.proofs.Shallow.{log_within}

-- ---- its text

begins_brace : (runs : List Chosen) → (rest : List ℕ) × (pretty_text (known_log runs) ≡ 123 ∷ rest)
unfolding pretty_from
begins_brace runs = (_, refl)

-- the text with its newline is read as the log
pub text_read : (options : RecordOptions) (runs : List Chosen) (text : List ℕ) → CanBeRead options runs → text ≡ pretty_text (known_log runs)
    → tokens text ≡ data_tokens (known_log runs) → IsUtf8 (text ++ 10 ∷ [])
    → json_of (without_mark (text ++ 10 ∷ [])) ≡ Some (known_log runs)
text_read options runs text can is are utf8 =
    let begins = begins_brace runs in
    let opens : text ≡ 123 ∷ begins.0 = is ∙ begins.1 in
    let bare : without_mark (text ++ 10 ∷ []) ≡ text ++ 10 ∷ [] = ap (λ l. without_mark (l ++ 10 ∷ [])) opens
    ∙ without_brace (begins.0 ++ 10 ∷ []) ∙ sym (ap (λ l. l ++ 10 ∷ []) opens) in
    ap json_of bare ∙ rw (is_utf8-from_IsUtf8 (text ++ 10 ∷ []) utf8)
    (read_line text ∙ plain_read (known_log runs) text (log_plain options runs can.each can.few_results) (log_within runs) are)

-- ---- its runs

all_objects : (n : ℕ) (rs : List Rattle.sarif_model.specs.declared.record.Record.Record) → are_objects (results_from n rs) ≡ true
all_objects n [] = refl
all_objects n (r ∷ rs) = all_objects (next_number n (base_alone r)) rs

few_enough : (n most : ℕ) → n ≤ most → nat_lt most n ≡ false
few_enough n most few = grind (arith, nat_tests)

module _ (allow : Bool) (run : Chosen) where
  tool_is : check_tool (known_run run) ≡ Ok tt
  tool_is = rw (driver_is run) refl

  external_is : check_external allow (known_run run) ≡ Ok tt
  external_is = rw (at run (codes "externalPropertyFileReferences")) refl

  objects_are : objects_at BadRun (codes "results") (known_run run) ≡ Ok (results_from 0 run.records)
  objects_are = rw (at run (codes "results"), items_back (results_from 0 run.records), all_objects 0 run.records) refl

  results_is : check_results (known_run run) ≡ Ok tt
  results_is = ap (λ r. r >>= λ _. Ok tt) objects_are

  length_is : length (results_of (known_run run)) ≡ length run.records
  length_is = ap length (results_are run) ∙ count_is 0 run.records

  count_fits : (before : ℕ) → before + length run.records ≤ most_results → count_results before (known_run run) ≡ Ok (before + length run.records)
  count_fits before few = rw (length_is, few_enough (before + length run.records) most_results few) refl

  run_is : (before : ℕ) → before + length run.records ≤ most_results → check_run allow before (known_run run) ≡ Ok (before + length run.records)
  unfolding check_run
  run_is before few = rw (tool_is, external_is, results_is) (count_fits before few)

each_is : (allow : Bool) (n before : ℕ) (runs : List Chosen) → before + results_among runs ≤ most_results
    → check_each allow n before (map known_run runs) ≡ Ok tt
unfolding check_each
each_is allow n before [] few = refl
each_is allow n before (run ∷ runs) few =
    rw (run_is allow run before (omega (arith, few))) (each_is allow (n + 1) (before + length run.records) runs (omega (arith, few)))

runs_are : (runs : List Chosen) → runs_of (known_log runs) ≡ map known_run runs
runs_are runs = items_back (map known_run runs)

count_runs : (runs : List Chosen) → length (map known_run runs) ≡ length runs
count_runs [] = refl
count_runs (run ∷ runs) = ap suc (count_runs runs)

form_is : (runs : List Chosen) → length runs ≤ most_runs → check_log (known_log runs) ≡ Ok tt
unfolding check_log
form_is runs few = rw (runs_are runs, count_runs runs, few_enough (length runs) most_runs few) refl

value_is : (allow : Bool) (runs : List Chosen) → length runs ≤ most_runs → results_among runs ≤ most_results
    → log_of_value allow (known_log runs) ≡ Ok (map known_run runs)
unfolding log_of_value
value_is allow runs few few_results = rw (form_is runs few, runs_are runs, each_is allow 0 0 runs (omega (arith, few_results))) refl

-- from bytes that are the JSON of the known log, its runs are read without an error
pub log_back : (options : RecordOptions) (allow : Bool) (runs : List Chosen) (text : List ℕ) → CanBeRead options runs → json_of (without_mark text) ≡ Some (known_log runs)
    → log_of allow text ≡ Ok (map known_run runs)
unfolding log_of
log_back options allow runs text can is =
    rw (is, plain_stripped (known_log runs) (log_plain options runs can.each can.few_results)) (value_is allow runs can.few_runs can.few_results)
