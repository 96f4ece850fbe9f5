-- The list of unused entries has a line for each of them.
use Rattle.std.proofs.Common.{◌≡◌, ◌<◌, ◌≤◌, ◌==◌, ◌^◌, ◌+◌, ◌%◌, ℕ, Bool, true, false, cond, List, [], ◌∷◌, ◌++◌, length, Option, Some, None, Ok, codes, chars, decimal, if◌then◌else◌, refl, ap, sym, subst, ◌∙◌, arith, true≢false}
use Rattle.std.specs.Prelude.{⊤, count_by, encode_utf8_all, nat_le, ok_or}
use Rattle.std.proofs.lemmas.Bool.{and_parts, eqb-true, leb-true, ne_eqb}
use Rattle.std.proofs.lemmas.Fmt.{decimal_by_steps}
use Rattle.std.proofs.lemmas.List.Sums.{sum_by-append, sum_by-cons}
use Rattle.serde_json.specs.Data.{Data}
use Rattle.serde_json.specs.Written.{compact_text}
use Rattle.json_parts.specs.Indexed.{json_of}
use Rattle.json_parts.specs.Mark.{without_mark}
use Rattle.sarif_model.specs.declared.fault.Fault.TheVariants.{TooMany, NotJson}
use Rattle.sarif_model.specs.declared.record.Record.{Record}
use Rattle.sarif_model.specs.Limits.{most_entries}
use Rattle.sarif_read.proofs.WholeRuns.{bind_ok}
use Rattle.sarif_options.specs.declared.policy.Policy.{Policy}
use Rattle.sarif_entries.specs.declared.entry.Entry.{Entry}
use Rattle.sarif_entries.specs.declared.fault.FileFault.{FileFault}
use Rattle.sarif_entries.specs.Entries.{unless_fault}
use Rattle.sarif_entries.specs.FileFault.{whole}
use Rattle.sarif_entries.specs.File.{File, check_count, check_list, check_version, entries_from, file_of, file_of_value}
use Rattle.sarif_entries.specs.Matching.{is_expired}
use Rattle.sarif_suppress.specs.Suppressing.{is_unused}
use Rattle.sarif_findings.specs.Shown.{shown, shown_chars}
use Rattle.sarif_findings.specs.ShownLaws.{are_seen, is_seen}
use Rattle.sarif_findings.proofs.HighBytes.{char_kept, high_apart}
use Rattle.sarif_findings.proofs.SeenMore.{shown_seen}
use Rattle.sarif_accept.specs.NewFile.{entries_in, file_object}
use Rattle.sarif_accept.specs.Unused.{head_of, line_of, lines_from, reason_of}
use Rattle.sarif_inputs.specs.Faults.{faults_of}
use Rattle.sarif_inputs.specs.Inputs.{Inputs}
use Rattle.sarif_merge.specs.Life.{merge_in}
use Rattle.sarif_merge.specs.MergedLog as log
use Rattle.sarif_merge.specs.MergedLog.{file_given, limited_of}
use Rattle.sarif_merge.proofs.Unkept.{file_was_read}
use Rattle.sarif_upkeep.specs.Internal.IsMatched.{IsFileOf}
use Rattle.sarif_upkeep.specs.Life.{unused_in}
use Rattle.sarif_upkeep.proofs.NewEntries.{entries_long, values_long}
use Rattle.sarif_laws.specs.Lines.{lines_in}
use Rattle.sarif_laws.proofs.FileAfter.{input_file}

-- ---- strings in one line

lines-append : (xs ys : List ℕ) → lines_in (xs ++ ys) ≡ lines_in xs + lines_in ys
lines-append xs ys = sum_by-append (λ b. cond (b == 10) 1 0) xs ys

none_more : (b : ℕ) (bs : List ℕ) → (b == 10) ≡ false → lines_in bs ≡ 0 → lines_in (b ∷ bs) ≡ 0
none_more b bs other none = sum_by-cons (λ c. cond (c == 10) 1 0) b bs ∙ ap (λ t. cond t 1 0 + lines_in bs) other ∙ ap (λ n. 0 + n) none

both_none : (xs ys : List ℕ) → lines_in xs ≡ 0 → lines_in ys ≡ 0 → lines_in (xs ++ ys) ≡ 0
both_none xs ys first second = lines-append xs ys ∙ ap (λ n. n + lines_in ys) first ∙ ap (λ n. 0 + n) second

no_line : (c : ℕ) → is_seen c ≡ true → (c == 10) ≡ false
no_line c seen = by_test (c == 10) refl
  where
    by_test : (b : Bool) → (c == 10) ≡ b → b ≡ false
    by_test true is = absurd (true≢false (sym (subst (λ d. is_seen d ≡ true) (eqb-true c 10 is) seen)))
    by_test false is = refl

seen_none : (cs : List ℕ) → are_seen cs ≡ true → lines_in (encode_utf8_all cs) ≡ 0
seen_none [] seen = refl
seen_none (c ∷ cs) seen =
    let parts = and_parts (is_seen c) (are_seen cs) seen in
    char_kept (λ bs. lines_in bs ≡ 0) (λ b more high none. none_more b more (high_apart b 10 high (omega arith)) none) c (encode_utf8_all cs)
    (λ low none. none_more c (encode_utf8_all cs) (no_line c parts.0) none) (seen_none cs parts.1)

shown_none : (cs : List ℕ) → lines_in (shown cs) ≡ 0
shown_none cs = seen_none (shown_chars cs) (shown_seen cs)

digit_none : (n : ℕ) → lines_in ((48 + n) ∷ []) ≡ 0
digit_none n = none_more (48 + n) [] (ne_eqb (48 + n) 10 (λ same. omega (arith, same))) refl

decimal_none : (n : ℕ) → n < 2 ^ 64 → lines_in (decimal n) ≡ 0
decimal_none n small =
    decimal_by_steps (λ _ ds. lines_in ds ≡ 0) (λ k _. digit_none k) (λ k ds _ none. both_none ds ((48 + k % 10) ∷ []) none (digit_none (k % 10))) n small

-- ---- the lines

reason_none : (expired : Bool) → lines_in (reason_of expired) ≡ 0
reason_none true = refl
reason_none false = refl

head_none : (n : ℕ) (expired : Bool) → n < 2 ^ 64 → lines_in (head_of n expired) ≡ 0
head_none n expired small =
    both_none (codes "entry ") (decimal n ++ (codes ": " ++ (reason_of expired ++ codes ": "))) refl
    (both_none (decimal n) (codes ": " ++ (reason_of expired ++ codes ": ")) (decimal_none n small)
    (both_none (codes ": ") (reason_of expired ++ codes ": ") refl (both_none (reason_of expired) (codes ": ") (reason_none expired) refl)))

one_line : (n : ℕ) (expired : Bool) (d : Data) → n < 2 ^ 64 → lines_in (line_of n expired d) ≡ 1
one_line n expired d small =
    let text = shown (chars (compact_text d)) in
    lines-append (head_of n expired) (text ++ 10 ∷ [])
    ∙ ap (λ m. m + lines_in (text ++ 10 ∷ [])) (head_none n expired small)
    ∙ ap (λ m. 0 + m) (lines-append text (10 ∷ []) ∙ ap (λ m. m + lines_in (10 ∷ [])) (shown_none (chars (compact_text d))))

line_if : (unused : Bool) (n : ℕ) (expired : Bool) (d : Data) → n < 2 ^ 64 → lines_in (if unused then line_of n expired d else []) ≡ cond unused 1 0
line_if true n expired d small = one_line n expired d small
line_if false n expired d small = refl

lines_counted : (file : File) (rs : List Record) (n : ℕ) (es : List Entry) (ds : List Data) → length es ≡ length ds → n + length es < 2 ^ 64
    → lines_in (lines_from file rs n es ds) ≡ count_by (is_unused file rs) es
lines_counted file rs n [] ds long few = refl
lines_counted file rs n (e ∷ es) [] long few = absurd (omega (arith, long))
lines_counted file rs n (e ∷ es) (d ∷ ds) long few =
    let line = if is_unused file rs e then line_of n (is_expired file.today e) d else [] in
    lines-append line (lines_from file rs (n + 1) es ds)
    ∙ ap (λ m. m + lines_in (lines_from file rs (n + 1) es ds)) (line_if (is_unused file rs e) n (is_expired file.today e) d (omega (arith, few)))
    ∙ ap (λ m. cond (is_unused file rs e) 1 0 + m) (lines_counted file rs (n + 1) es ds (omega (arith, long)) (omega (arith, few)))
    ∙ sym (sum_by-cons (λ x. cond (is_unused file rs x) 1 0) e es)

-- ---- the entries of a file that is read are few

few_by : (few : Bool) (fault : FileFault) (n : ℕ) (u : ⊤) → nat_le n most_entries ≡ few → unless_fault few fault ≡ Ok u → n ≤ most_entries
few_by true fault n u is checked = leb-true n most_entries is
few_by false fault n u is checked = let never : ⊥ = cc in absurd never

few_entries : (bytes : List ℕ) (today : Option ℕ) (file : File) → file_of bytes today ≡ Ok file → length file.entries ≤ most_entries
unfolding file_of file_of_value
few_entries bytes today file is =
    let parsed = bind_ok (ok_or (json_of (without_mark bytes)) (whole NotJson)) _ file is in
    let list = bind_ok (check_list parsed.0) _ file parsed.2 in
    let version = bind_ok (check_version parsed.0) _ file list.2 in
    let count = bind_ok (check_count list.0) _ file version.2 in
    let es = bind_ok (entries_from version.0 today 0 list.0) _ file count.2 in
    let same : ◌≡◌ {A = File} (record { entries = es.0; today = today }) file = cc es.2 in
    let few : length list.0 ≤ most_entries = few_by (nat_le (length list.0) most_entries) (whole TooMany) (length list.0) count.0 refl count.1 in
    let long : length es.0 ≡ length list.0 = entries_long version.0 today 0 list.0 es.0 es.1 in
    subst (λ (f : File). length f.entries ≤ most_entries) same (omega (arith, few, long))

few_given : (given : Option (List ℕ)) (file : File) → IsFileOf given file → length file.entries ≤ most_entries
few_given None file none = subst (λ es. length es ≤ most_entries) (sym none) (omega arith)
few_given (Some bytes) file is = few_entries bytes file.today file is

-- ---- the law

pub unused_lines : (inputs : Inputs) (policy : Policy) → faults_of inputs ≡ [] → lines_in (unused_in (merge_in inputs policy)) ≡ log.unused_in inputs
unused_lines inputs policy none =
    let file = file_given inputs in
    let given : IsFileOf inputs.suppressions file = file_was_read inputs.suppressions inputs.today file (input_file inputs none) in
    let few = few_given inputs.suppressions file given in
    lines_counted file (limited_of inputs) 0 file.entries (entries_in (file_object inputs.suppressions)) (values_long inputs.suppressions file given)
    (omega (arith, few))
