-- The length of the report in Markdown.
use Rattle.std.proofs.Common.{◌==◌, ◌<◌, ◌≤◌, ◌+◌, ◌^◌, ◌++◌, ℕ, Bool, true, false, List, [], ◌∷◌, Option, Some, None, IfSome, codes, decimal, flat_map, length, length-append, if◌then◌else◌, arith}
use Rattle.std.proofs.lemmas.Fmt.{length-decimal-le}
use Rattle.sarif_model.specs.declared.kinds.Level.{Level}
use Rattle.sarif_model.specs.declared.kinds.State.{State}
use Rattle.sarif_model.specs.declared.kinds.State.TheVariants.{New, Unchanged, Updated, Absent}
use Rattle.sarif_model.specs.declared.kinds.Level.TheVariants.{NoLevel, Note, Warning, Error}
use Rattle.sarif_model.specs.State.{state_name}
use Rattle.sarif_counts.specs.declared.gate_verdict.Verdict.{Verdict}
use Rattle.sarif_counts.specs.declared.gate_verdict.Verdict.TheVariants.{Pass, Fail}
use Rattle.sarif_model.specs.Level.{is_at_least}
use Rattle.sarif_counts.specs.declared.counts.Counts.{Counts}
use Rattle.sarif_options.specs.declared.policy.Policy.{Policy}
use Rattle.sarif_counts.specs.declared.tally.ByLevel.{ByLevel}
use Rattle.sarif_counts.specs.declared.tally.Tally.{Tally}
use Rattle.sarif_counts.specs.Counts.{count_at}
use Rattle.sarif_options.specs.Policy.{is_listed}
use Rattle.sarif_counts.specs.Hits.{Count, count_if, hits_at, hits_of, severe_of, verdict_name}
use Rattle.sarif_counts.specs.Tally.{at_level, at_side, level_total, tally_total}
use Rattle.sarif_counts.specs.Summary.{suppressed_of}
use Rattle.sarif_findings.specs.declared.finding.Finding.{Finding}
use Rattle.sarif_shown.specs.CountRow.{row_begin, row_end}
use Rattle.sarif_shown.specs.Facts.{Facts}
use Rattle.sarif_conditions.specs.Facts.{failed_told}
use Rattle.sarif_conditions.specs.declared.facts.ConditionFacts.{ConditionFacts}
use Rattle.sarif_conditions.specs.declared.facts.PolicyFacts.{PolicyFacts}
use Rattle.sarif_reports.specs.MarkdownLaws.{AreSmall, AreSmallOfPolicy, most_of, most_with}
use Rattle.sarif_reports.specs.MarkdownReport.{accept_line, condition_rows, conditions_head, conditions_table, count_row, counts_table, head_for, heading, in_table, last_lines, left_out, line_if, markdown_of, notes, others_line, paragraph, results_head, results_table, room_for, row_text, unshown_line}
use Rattle.sarif_shown.specs.Ruled.{end_ruled, gate_ending, gate_hits, gate_verdict, left_by, most_of_ending, noted_in, outside_ruled, unshown_results, unshown_ruled}
use Rattle.sarif_shown.specs.Sentences.{accept_text, counted, entries_text, filters_text, gate_text, more_hits, more_of_both, more_others, more_text, outside_text, runs_text, unchecked_text, unshown_text}
use Rattle.sarif_shown.specs.declared.noted.Noted.{Noted}
use Rattle.sarif_shown.proofs.EndingShort.{conditions_few, end_few as ending_few}
use Rattle.sarif_scope.specs.Told.{hits_told, outside_told}
use Rattle.sarif_scope.specs.declared.facts.ChangeFacts.{ChangeFacts}
use Rattle.sarif_shown.specs.Unshown.{reported_told, unshown_number}
use Rattle.sarif_findings.specs.declared.reporting.Show.{Show}
use Rattle.sarif_findings.specs.declared.reporting.Show.TheVariants.{Hits, All}
use Rattle.sarif_reports.proofs.TableRows.{hits_few, results_parted, table_fits, state_few}
use Rattle.std.specs.Option.{option_map_or}
use Rattle.std.proofs.lemmas.List.Sums.{count_by-le-length}

-- two strings in sequence
two : (m n : ℕ) (a b : List ℕ) → length a ≤ m → length b ≤ n → length (a ++ b) ≤ m + n
two m n a b first second = let whole = length-append a b in omega (arith, first, second, whole)

ten : (n : ℕ) → n < 2 ^ 32 → length (decimal n) ≤ 10
ten n h = length-decimal-le 10 n (omega arith) (omega (arith, h)) (omega (arith, h))

eleven : (n : ℕ) → n < 2 ^ 34 → length (decimal n) ≤ 11
eleven n h = length-decimal-le 11 n (omega arith) (omega (arith, h)) (omega (arith, h))

twenty : (n : ℕ) → n < 2 ^ 64 → length (decimal n) ≤ 20
twenty n h = length-decimal-le 20 n (omega arith) (omega (arith, h)) h

-- the bytes of the sentence that a change adds
abbrev room_of : Option ChangeFacts → ℕ
room_of None = 0
room_of (Some facts) = 53

-- ---- sentences

noun_few : (b : Bool) (k : ℕ) (one more : List ℕ) → length one ≤ k → length more ≤ k → length (if b then one else more) ≤ k
noun_few true k one more first second = first
noun_few false k one more first second = second

counted_few : (digits k n : ℕ) (one more : List ℕ) → length (decimal n) ≤ digits → length one ≤ k → length more ≤ k → length (counted n one more) ≤ digits + k
counted_few digits k n one more h first second = two digits k (decimal n) _ h (noun_few (n == 1) k one more first second)

verdict_few : (v : Verdict) → length (verdict_name v) ≤ 4
verdict_few Pass = omega arith
verdict_few Fail = omega arith

heading_few : (v : Verdict) (end : List ℕ) (k : ℕ) → length end ≤ k → length (heading v end) ≤ k + 15
heading_few v end k h =
    let name = verdict_few v in
    let a = length-append (gate_text v end) (codes "\n\n") in
    let b = length-append (verdict_name v) end in
    omega (arith, name, a, b, h)

line_by : (b : Bool) (k : ℕ) (text : List ℕ) → length text ≤ k → length (if b then [] else text ++ codes "\n") ≤ k + 1
line_by true k text h = omega arith
line_by false k text h = two k 1 text (codes "\n") h (omega arith)

line_few : (k n : ℕ) (text : List ℕ) → length text ≤ k → length (line_if n text) ≤ k + 1
line_few k n text h = line_by (n == 0) k text h

paragraph_few : (k : ℕ) (text : List ℕ) → length text ≤ k → length (paragraph text) ≤ k + 1
paragraph_few k [] h = omega arith
paragraph_few k (b ∷ bs) h = omega (arith, h)

-- the line on results outside of a change fits into the room for it; without a change there are no such results
outside_few : (change : Option ChangeFacts) → outside_told change < 2 ^ 32
    → length (line_if (outside_told change) (outside_text (outside_told change))) ≤ room_of change
outside_few None h = omega arith
outside_few (Some facts) h =
    line_few 52 facts.outside _ (counted_few 10 42 facts.outside _ _ (ten facts.outside h) (omega arith) (omega arith))

-- the numbers of what wasn't checked have 32 bits
pub record AreFew (n : Noted) : Type 0 where
  pub without : n.without < 2 ^ 32
  pub unused : n.unused < 2 ^ 32
  pub filters : n.filters < 2 ^ 32
  pub outside : n.outside < 2 ^ 32
  pub unchecked : n.unchecked < 2 ^ 32

-- these numbers, by what they are made from
abbrev noted_by : Option PolicyFacts → ℕ → ℕ → ℕ → Noted
noted_by ruling without unused outside = record {
  without = without;
  unused = unused;
  filters = option_map_or (λ (one : PolicyFacts). one.unused_filters) ruling 0;
  outside = outside_ruled ruling outside;
  unchecked = option_map_or (λ (one : PolicyFacts). one.unchecked) ruling 0;
}

abbrev notes_room : Option PolicyFacts → Option ChangeFacts → ℕ
notes_room None change = 121 + room_of change
notes_room (Some ruling) change = 217

runs_few : (n : ℕ) → n < 2 ^ 32 → length (line_if n (runs_text n)) ≤ 75
runs_few n h = line_few 74 n (runs_text n) (counted_few 10 64 n _ _ (ten n h) (omega arith) (omega arith))

entries_few : (n : ℕ) → n < 2 ^ 32 → length (line_if n (entries_text n)) ≤ 46
entries_few n h = line_few 45 n (entries_text n) (counted_few 10 35 n _ _ (ten n h) (omega arith) (omega arith))

filters_few : (n : ℕ) → n < 2 ^ 32 → length (line_if n (filters_text n)) ≤ 49
filters_few n h = line_few 48 n (filters_text n) (counted_few 10 38 n _ _ (ten n h) (omega arith) (omega arith))

unchecked_few : (n : ℕ) → n < 2 ^ 32 → length (line_if n (unchecked_text n)) ≤ 47
unchecked_few n h =
    line_few 46 n (unchecked_text n)
    (two 20 26 (codes "No condition checks ") _ (omega arith) (counted_few 10 16 n _ _ (ten n h) (omega arith) (omega arith)))

five : (m n o p q : ℕ) (a b c d e : List ℕ) → length a ≤ m → length b ≤ n → length c ≤ o → length d ≤ p → length e ≤ q
    → length (a ++ (b ++ (c ++ (d ++ e)))) ≤ m + (n + (o + (p + q)))
five m n o p q a b c d e x y z v w = two m _ a _ x (two n _ b _ y (two o _ c _ z (two p q d e v w)))

notes_by : (ruling : Option PolicyFacts) (change : Option ChangeFacts) (without unused : ℕ)
    → AreFew (noted_by ruling without unused (outside_told change))
    → length (notes (noted_by ruling without unused (outside_told change))) ≤ notes_room ruling change
notes_by None change without unused few =
    let whole =
    five 75 46 0 (room_of change) 0 (line_if without (runs_text without)) (line_if unused (entries_text unused)) []
    (line_if (outside_told change) (outside_text (outside_told change))) [] (runs_few without few.without) (entries_few unused few.unused) (omega arith)
    (outside_few change few.outside) (omega arith) in
    omega (arith, whole)
notes_by (Some ruling) change without unused few =
    let whole =
    five 75 46 49 0 47 (line_if without (runs_text without)) (line_if unused (entries_text unused))
    (line_if ruling.unused_filters (filters_text ruling.unused_filters)) [] (line_if ruling.unchecked (unchecked_text ruling.unchecked))
    (runs_few without few.without) (entries_few unused few.unused) (filters_few ruling.unused_filters few.filters) (omega arith)
    (unchecked_few ruling.unchecked few.unchecked) in
    omega (arith, whole)

more_by : (all none : Bool) (n hits : ℕ) → n < 2 ^ 64 → hits < 2 ^ 64
    → length (if all then more_hits n else (if none then more_others n else more_of_both n hits)) ≤ 92
more_by true none n hits m h = counted_few 20 72 n _ _ (twenty n m) (omega arith) (omega arith)
more_by false true n hits m h = counted_few 20 72 n _ _ (twenty n m) (omega arith) (omega arith)
more_by false false n hits m h =
    two 20 72 (decimal n) _ (twenty n m) (two 37 35 (codes " more results are in the merged log, ") _ (omega arith)
    (counted_few 20 15 hits _ _ (twenty hits h) (omega arith) (omega arith)))

more_few : (n hits : ℕ) → n < 2 ^ 64 → hits < 2 ^ 64 → length (more_text n hits) ≤ 92
more_few n hits m h = more_by (hits == n) (hits == 0) n hits m h

others_few : (others : List Finding) → length others < 2 ^ 64 → length (others_line others) ≤ 93
others_few others m =
    let h = hits_few others in
    line_few 92 (length others) _ (more_few (length others) _ m (omega (arith, m, h)))

accept_few : (hits : ℕ) → length (paragraph (accept_line hits)) ≤ 182
unfolding accept_line
accept_few hits =
    paragraph_few 181 (accept_line hits) (line_few 180 hits (accept_text (codes "`") (codes "`") hits)
    (two 10 170 (codes "To accept ") _ (omega arith)
    (two 12 158 (if hits == 1 then codes "this hit" else codes "these hits") _
    (noun_few (hits == 1) 12 (codes "this hit") (codes "these hits") (omega arith) (omega arith)) (omega arith))))

unshown_few : (unshown : ℕ) → unshown < 2 ^ 36 → length (paragraph (unshown_line unshown)) ≤ 41
unfolding unshown_line
unshown_few unshown small =
    paragraph_few 40 (unshown_line unshown) (line_few 39 unshown (unshown_text unshown)
    (counted_few 11 28 unshown _ _ (length-decimal-le 11 unshown (omega arith) (omega (arith, small)) (omega (arith, small))) (omega arith) (omega arith)))

last_few : (unshown hits : ℕ) → unshown < 2 ^ 36 → length (last_lines unshown hits) ≤ 223
last_few unshown hits small = two 41 182 (paragraph (unshown_line unshown)) (paragraph (accept_line hits)) (unshown_few unshown small) (accept_few hits)

-- ---- the counts

begin_few : (name : List ℕ) (error warning : ℕ) → length name ≤ 9 → error < 2 ^ 32 → warning < 2 ^ 32 → length (row_begin name error warning) ≤ 40
begin_few name error warning n e w =
    two 2 38 (codes "| ") _ (omega arith) (two 9 29 name _ n (two 3 26 (codes " | ") _ (omega arith)
    (two 10 16 (decimal error) _ (ten error e)
    (two 3 13 (codes " | ") _ (omega arith) (two 10 3 (decimal warning) (codes " | ") (ten warning w) (omega arith))))))

end_few : (note none suppressed : ℕ) → note < 2 ^ 32 → none < 2 ^ 32 → suppressed < 2 ^ 34 → length (row_end note none suppressed) ≤ 41
end_few note none suppressed n o s =
    two 10 31 (decimal note) _ (ten note n) (two 3 28 (codes " | ") _ (omega arith)
    (two 10 18 (decimal none) _ (ten none o)
    (two 3 15 (codes " | ") _ (omega arith) (two 11 4 (decimal suppressed) (codes " |\n") (eleven suppressed s) (omega arith)))))

row_few : (s : State) (numbers : Level → Bool → ℕ) → ((l : Level) (b : Bool) → numbers l b < 2 ^ 32) → length (count_row s numbers) ≤ 81
row_few s numbers small =
    let e = small Error true in
    let w = small Warning true in
    let n = small Note true in
    let o = small NoLevel true in
    two 40 41 (row_begin (state_name s) (numbers Error false) (numbers Warning false)) _
    (begin_few (state_name s) (numbers Error false) (numbers Warning false) (state_few s) (small Error false) (small Warning false))
    (end_few (numbers Note false) (numbers NoLevel false) (suppressed_of numbers) (small Note false) (small NoLevel false) (omega (arith, e, w, n, o)))

counts_few : (count : Count) → ((s : State) (l : Level) (b : Bool) → count s l b < 2 ^ 32) → length (counts_table count) ≤ 400
counts_few count small =
    two 76 324 (codes "| | error | warning | note | none | suppressed |\n|---|--:|--:|--:|--:|--:|\n")
    (count_row New (count New) ++ (count_row Unchanged (count Unchanged) ++ (count_row Updated (count Updated) ++ count_row Absent (count Absent))))
    (omega arith) (two 81 243 (count_row New (count New)) _ (row_few New (count New) (small New))
    (two 81 162 (count_row Unchanged (count Unchanged)) _ (row_few Unchanged (count Unchanged) (small Unchanged))
    (two 81 81 (count_row Updated (count Updated)) (count_row Absent (count Absent)) (row_few Updated (count Updated) (small Updated))
    (row_few Absent (count Absent) (small Absent)))))

-- ---- the whole report

head_by : (b : Bool) → length (if b then [] else results_head) ≤ 90
head_by true = omega arith
head_by false = omega arith

table_few : (link : Option (List ℕ)) (room : ℕ) (fs : List Finding) → length fs < 2 ^ 64 → length (results_table link room fs) ≤ room + 184
table_few link room fs small =
    let rows : List ℕ = flat_map (row_text link) (in_table link room fs) in
    let more : List ℕ = paragraph (others_line (left_out link room fs)) in
    let parts = results_parted link room fs in
    let first = head_by (length (in_table link room fs) == 0) in
    let fits = table_fits link room fs in
    let last = paragraph_few 93 (others_line (left_out link room fs)) (others_few (left_out link room fs) (omega (arith, parts, small))) in
    let a = length-append (head_for (length (in_table link room fs))) (rows ++ more) in
    let b = length-append rows more in
    omega (arith, first, fits, last, a, b)

-- the bytes of the table of conditions
abbrev conditions_room : Option PolicyFacts → ℕ
conditions_room None = 0
conditions_room (Some ruling) = 80 + length (condition_rows ruling.conditions)

conditions_table_few : (ruling : Option PolicyFacts) → length (conditions_table ruling) ≤ conditions_room ruling
conditions_table_few None = omega arith
conditions_table_few (Some ruling) =
    two 80 (length (condition_rows ruling.conditions)) conditions_head (condition_rows ruling.conditions) (omega arith) (omega arith)

-- at most sixteen of the counts are hits
side_hits : (b : Bool) (n : ℕ) → n < 2 ^ 32 → count_if b n < 2 ^ 32
side_hits true n h = h
side_hits false n h = omega arith

listed_few : (b : Bool) (n : ℕ) → n < 2 ^ 34 → count_if b n < 2 ^ 34
listed_few true n h = h
listed_few false n h = omega arith

state_hits : (count : Count) (policy : Policy) (s : State) → ((t : State) (l : Level) (b : Bool) → count t l b < 2 ^ 32) → hits_at count policy s < 2 ^ 34
state_hits count policy s small =
    let e = side_hits (is_at_least policy.fail_on Error) (count s Error false) (small s Error false) in
    let w = side_hits (is_at_least policy.fail_on Warning) (count s Warning false) (small s Warning false) in
    let n = side_hits (is_at_least policy.fail_on Note) (count s Note false) (small s Note false) in
    let o = side_hits (is_at_least policy.fail_on NoLevel) (count s NoLevel false) (small s NoLevel false) in
    listed_few (is_listed policy.states s) (severe_of (λ level. count s level false) policy.fail_on) (omega (arith, e, w, n, o))

all_hits : (count : Count) (policy : Policy) → ((s : State) (l : Level) (b : Bool) → count s l b < 2 ^ 32) → hits_of count policy < 2 ^ 36
all_hits count policy small =
    let f = state_hits count policy New small in
    let c = state_hits count policy Unchanged small in
    let u = state_hits count policy Updated small in
    let a = state_hits count policy Absent small in
    omega (arith, f, c, u, a)

all_told : (change : Option ChangeFacts) (count : Count) (policy : Policy) → ((s : State) (l : Level) (b : Bool) → count s l b < 2 ^ 32)
    → hits_told change count policy < 2 ^ 36
all_told None count policy small = all_hits count policy small
all_told (Some facts) count policy small = let all = all_hits count policy small in omega (arith, all)

all_reported : (change : Option ChangeFacts) (count : Count) (policy : Policy) → ((s : State) (l : Level) (b : Bool) → count s l b < 2 ^ 32)
    → reported_told change count policy < 2 ^ 36
all_reported None count policy small = all_hits count (record policy { fail_on = NoLevel }) small
all_reported (Some facts) count policy small = let all = all_hits count (record policy { fail_on = NoLevel }) small in omega (arith, all)

all_unshown : (change : Option ChangeFacts) (show : Show) (count : Count) (policy : Policy) → ((s : State) (l : Level) (b : Bool) → count s l b < 2 ^ 32)
    → unshown_number change show count policy < 2 ^ 36
all_unshown change All count policy small = omega arith
all_unshown change Hits count policy small = let all = all_reported change count policy small in omega (arith, all)

left_few : (show : Show) (ruling : PolicyFacts) → ruling.reported < 2 ^ 32 → left_by show ruling < 2 ^ 36
left_few All ruling h = omega arith
left_few Hits ruling h = omega (arith, h)

unshown_by : (ruling : Option PolicyFacts) (show : Show) (n : ℕ) → n < 2 ^ 36 → IfSome ruling AreSmallOfPolicy → unshown_ruled ruling show n < 2 ^ 36
unshown_by None show n h small = h
unshown_by (Some ruling) show n h small = left_few show ruling small.reported

ending_by : (ruling : Option PolicyFacts) (hits max : ℕ) → hits < 2 ^ 64 → max < 2 ^ 32 → IfSome ruling AreSmallOfPolicy
    → length (end_ruled ruling hits max) ≤ most_of_ending ruling
ending_by None hits max h m small = ending_few hits max h m
ending_by (Some ruling) hits max h m small =
    let failed = count_by-le-length (λ (c : ConditionFacts). c.fails) ruling.conditions in
    let all = small.conditions in
    conditions_few ruling.hits (failed_told ruling) (length ruling.conditions) small.hits (omega (arith, failed, all)) small.conditions

few_by : (ruling : Option PolicyFacts) (without unused outside : ℕ) → without < 2 ^ 32 → unused < 2 ^ 32 → outside < 2 ^ 32 → IfSome ruling AreSmallOfPolicy
    → AreFew (noted_by ruling without unused outside)
few_by None without unused outside w u o small =
    record { without = w; unused = u; filters = omega arith; outside = o; unchecked = omega arith }
few_by (Some ruling) without unused outside w u o small =
    record { without = w; unused = u; filters = small.filters; outside = omega arith; unchecked = small.unchecked }

-- what a change or a policy adds fits into what it may add
most_by : (ruling : Option PolicyFacts) (change : Option ChangeFacts) (n : ℕ)
    → n ≤ (most_of_ending ruling + 415) + (notes_room ruling change + (conditions_room ruling + (room_for ruling + 408)))
    → n ≤ most_with ruling change
most_by None None n h = omega (arith, h)
most_by None (Some change) n h = omega (arith, h)
most_by (Some ruling) change n h = omega (arith, h)

-- the sizes of the parts of a report
pub record AreShort (facts : Facts) : Type 0 where
  pub counts : (s : State) (l : Level) (b : Bool) → facts.count s l b < 2 ^ 32
  pub ending : length (gate_ending facts) ≤ most_of_ending facts.ruling
  pub few : AreFew (noted_in facts)
  pub unshown : unshown_results facts < 2 ^ 36
  pub findings : length facts.findings < 2 ^ 64

pub short_report : (facts : Facts) → AreShort facts → length (markdown_of facts) ≤ most_of facts
short_report facts short =
    let ends : List ℕ = last_lines (unshown_results facts) (gate_hits facts) in
    let results : List ℕ = results_table facts.link (room_for facts.ruling) facts.findings in
    let conditions : List ℕ = conditions_table facts.ruling in
    let sentences : List ℕ = paragraph (notes (noted_in facts)) in
    let counts : List ℕ = counts_table facts.count in
    let top = heading_few (gate_verdict facts) (gate_ending facts) (most_of_ending facts.ruling) short.ending in
    let second = counts_few facts.count short.counts in
    let said =
    paragraph_few (notes_room facts.ruling facts.change) (notes (noted_in facts))
    (notes_by facts.ruling facts.change facts.without facts.unused short.few) in
    let third = conditions_table_few facts.ruling in
    let fourth = table_few facts.link (room_for facts.ruling) facts.findings short.findings in
    let last = last_few (unshown_results facts) (gate_hits facts) short.unshown in
    let a = length-append (heading (gate_verdict facts) (gate_ending facts)) (counts ++ (sentences ++ (conditions ++ (results ++ ends)))) in
    let b = length-append counts (sentences ++ (conditions ++ (results ++ ends))) in
    let c = length-append sentences (conditions ++ (results ++ ends)) in
    let d = length-append conditions (results ++ ends) in
    let e = length-append results ends in
    most_by facts.ruling facts.change (length (markdown_of facts)) (omega (arith, top, second, said, third, fourth, last, a, b, c, d, e))

pub report_few : (facts : Facts) → AreSmall facts → length (markdown_of facts) ≤ most_of facts
report_few facts small =
    let hits = all_told facts.change facts.count facts.policy small.counts in
    short_report facts (record {
      counts = small.counts;
      ending = ending_by facts.ruling (hits_told facts.change facts.count facts.policy) facts.policy.max (omega (arith, hits)) small.max small.ruling;
      few = few_by facts.ruling facts.without facts.unused (outside_told facts.change) small.without small.unused small.outside small.ruling;
      unshown =
          unshown_by facts.ruling facts.show (unshown_number facts.change facts.show facts.count facts.policy)
          (all_unshown facts.change facts.show facts.count facts.policy small.counts) small.ruling;
      findings = small.findings;
    })

-- ---- the counts of a merge have 32 bits

level_few : (n : ByLevel) (l : Level) → at_level n l ≤ level_total n
level_few n NoLevel = omega arith
level_few n Note = omega arith
level_few n Warning = omega arith
level_few n Error = omega arith

side_few : (t : Tally) (b : Bool) (l : Level) → at_level (at_side t b) l ≤ tally_total t
side_few t true l = let h = level_few t.suppressed l in omega (arith, h)
side_few t false l = let h = level_few t.active l in omega (arith, h)

pub count_few : (counts : Counts) (s : State) (l : Level) (b : Bool) → count_at counts s l b < 2 ^ 32
count_few counts New l b = let h = side_few counts.fresh b l in let all = counts.few in omega (arith, h, all)
count_few counts Unchanged l b = let h = side_few counts.unchanged b l in let all = counts.few in omega (arith, h, all)
count_few counts Updated l b = let h = side_few counts.updated b l in let all = counts.few in omega (arith, h, all)
count_few counts Absent l b = let h = side_few counts.absent b l in let all = counts.few in omega (arith, h, all)
