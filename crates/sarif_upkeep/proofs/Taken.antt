-- Runs, and the results of each.
use Rattle.std.proofs.Common.{◌≡◌, ◌<◌, ◌≤◌, ◌+◌, ◌++◌, ◌||◌, ℕ, zero, suc, Bool, true, false, List, [], ◌∷◌, Option, Some, map, take, drop, length, get_or, append_assoc, refl, sym, ap, ◌∙◌, arith}
use Rattle.std.proofs.lemmas.List.{drop-map, get_or-map, map-append, take-map}
use Rattle.serde_json.specs.Data.{Data}
use Rattle.sarif_model.specs.declared.record.Record.{Record}
use Rattle.sarif_model.specs.Run.{present, results_of}
use Rattle.sarif_options.specs.declared.policy.Policy.{Policy}
use Rattle.std.proofs.lemmas.Bool.Decides.{nat_tests}
use Rattle.std.specs.Prelude.{nat_lt}
use Rattle.sarif_model.specs.FirstFault.{first}
use Rattle.sarif_model.specs.Limits.{most_bytes}
use Rattle.sarif_model.specs.Driver.{tool_name}
use Rattle.sarif_options.specs.declared.upkeep.Knowing.{Knowing}
use Rattle.sarif_accept.specs.declared.heard.ToolRun.{ToolRun}
use Rattle.sarif_accept.specs.Heard.{heard_of}
use Rattle.sarif_copies.specs.Copies.{has_alike}
use Rattle.sarif_entries.specs.File.{File}
use Rattle.sarif_suppress.specs.Suppressing.{matching_numbers}
use Rattle.sarif_runs.specs.declared.opened.OpenedRun.{OpenedRun}
use Rattle.sarif_runs.specs.Judging.{run_values}
use Rattle.sarif_runs.specs.Internal.Opened.{placed_of}
use Rattle.sarif_results.specs.declared.draft.Draft.{Draft}
use Rattle.sarif_results.specs.Drafts.{applied_of}
use Rattle.sarif_known.specs.Chosen.{all_chosen, chosen_of, results_among, Chosen}
use Rattle.sarif_known.specs.KnownLog.{known_text, too_long}
use Rattle.sarif_known.specs.declared.chosen.KnownRun.{KnownRun}
use Rattle.sarif_known.specs.declared.standing.Standing.{Standing}
use Rattle.sarif_known.specs.Selected.{is_left_out, keep_unless, kept_of, known_of, unmatched_of}
use Rattle.sarif_heard.specs.Heard.{tool_run}
use Rattle.sarif_upkeep.specs.Known.{chosen_before, chosen_now, gone_if, kept_before, known_faults, known_now, matched_or_alike, records_among, runs_known}
use Rattle.sarif_upkeep.specs.Merge.{present_counts, Merge}
use Rattle.sarif_upkeep.proofs.Walked.{first_left}

-- one more record, whose draft says what the file makes of it
pub record NextRecord (file : File) (rs : List Record) (n : ℕ) (draft : Draft) : Type 0 where
  pub here : Record
  pub entries : draft.applied.entries ≡ matching_numbers file here
  pub more : take (suc n) rs ≡ take n rs ++ here ∷ []

pub next_record : (file : File) (rs : List Record) (drafts : List Draft) (n : ℕ) (draft d : Draft)
    → map (λ draft. draft.applied) drafts ≡ map (applied_of file) rs → n < length drafts → draft ≡ get_or drafts n d → NextRecord file rs n draft
next_record file rs [] n draft d same within is = absurd (omega (arith, within))
next_record file [] (x ∷ xs) n draft d same within is = let never : ⊥ = cc in absurd never
next_record file (r ∷ rs) (x ∷ xs) zero draft d same within is = record {
  here = r;
  entries = ap (λ y. y.applied.entries) is ∙ ap (λ l. (get_or l 0 x.applied).entries) same;
  more = refl;
}
next_record file (r ∷ rs) (x ∷ xs) (suc n) draft d same within is =
    let rest = next_record file rs xs n draft d (ap (drop 1) same) (omega (arith, within)) is in record {
      here = rest.here;
      entries = rest.entries;
      more = ap (λ l. r ∷ l) rest.more;
    }

-- the drafts of a part of the results, and of the others
pub applied_front : (file : File) (rs these : List Record) (drafts those : List Draft) (n : ℕ) → map (λ draft. draft.applied) drafts ≡ map (applied_of file) rs
    → these ≡ take n rs → those ≡ take n drafts → map (λ draft. draft.applied) those ≡ map (applied_of file) these
applied_front file rs these drafts those n same records_are drafts_are =
    ap (map (λ (d : Draft). d.applied)) drafts_are ∙ sym (take-map (λ (d : Draft). d.applied) n drafts) ∙ ap (take n) same ∙ take-map (applied_of file) n rs
    ∙ ap (map (applied_of file)) (sym records_are)

pub applied_back : (file : File) (rs these : List Record) (drafts those : List Draft) (n : ℕ) → map (λ draft. draft.applied) drafts ≡ map (applied_of file) rs
    → these ≡ drop n rs → those ≡ drop n drafts → map (λ draft. draft.applied) those ≡ map (applied_of file) these
applied_back file rs these drafts those n same records_are drafts_are =
    ap (map (λ (d : Draft). d.applied)) drafts_are ∙ sym (drop-map (λ (d : Draft). d.applied) n drafts) ∙ ap (drop n) same ∙ drop-map (applied_of file) n rs
    ∙ ap (map (applied_of file)) (sym records_are)

-- what is left of runs
pub runs_left : (runs : List OpenedRun) (n : ℕ) (run d : OpenedRun) → n < length runs → run ≡ get_or runs n d
    → run_values (map placed_of (drop n runs)) ≡ (placed_of run).run ∷ run_values (map placed_of (drop (n + 1) runs))
runs_left runs n run d within is = ap (λ l. run_values (map placed_of l)) (first_left runs n run d within is)

-- one more run of a log
pub now_next : (file : File) (policy : Policy) (adopt : Bool) (runs : List Data) (run : Data) (more : List Data) (rs others : List Record)
    (states left : List Standing) (k : ℕ)
    → (old : List Chosen) (one : Chosen) (new whole : List Chosen)
    → runs ≡ run ∷ more → k ≡ length (results_of run) → others ≡ drop k rs → left ≡ drop k states
    → one ≡ record { tool = tool_name run; records = known_of file policy adopt (take k rs) (take k states) }
    → new ≡ old ++ one ∷ []
    → old ++ chosen_now file policy adopt runs rs states ≡ whole
    → new ++ chosen_now file policy adopt more others left ≡ whole
now_next file policy adopt runs run more rs others states left k old one new whole runs_are count others_are left_is one_is pushed held =
    let n = length (results_of run) in
    let chosen : ℕ → Chosen = λ m. record { tool = tool_name run; records = known_of file policy adopt (take m rs) (take m states) } in
    let rest = chosen_now file policy adopt more (drop n rs) (drop n states) in
    let last : chosen_now file policy adopt more others left ≡ rest =
    ap (λ l. chosen_now file policy adopt more l left) (others_are ∙ ap (λ m. drop m rs) count)
    ∙ ap (λ l. chosen_now file policy adopt more (drop n rs) l) (left_is ∙ ap (λ m. drop m states) count) in
    ap (λ l. l ++ chosen_now file policy adopt more others left) pushed
    ∙ append_assoc old (one ∷ []) (chosen_now file policy adopt more others left)
    ∙ ap (λ c. old ++ c ∷ chosen_now file policy adopt more others left) (one_is ∙ ap chosen count)
    ∙ ap (λ l. old ++ chosen n ∷ l) last
    ∙ ap (λ l. old ++ chosen_now file policy adopt l rs states) (sym runs_are)
    ∙ held

-- one more run of a baseline
pub before_next : (heard : Option (List ℕ) → Bool) (runs : List Data) (run : Data) (more : List Data) (rs others : List Record) (taken left : List Bool) (k : ℕ)
    → (old : List Chosen) (one : Chosen) (new whole : List Chosen)
    → runs ≡ run ∷ more → k ≡ length (present (results_of run)) → others ≡ drop k rs → left ≡ drop k taken
    → one ≡ record { tool = tool_name run; records = kept_of (heard (Some (tool_name run))) (take k rs) (take k taken) }
    → new ≡ old ++ one ∷ []
    → old ++ chosen_before heard runs rs taken ≡ whole
    → new ++ chosen_before heard more others left ≡ whole
before_next heard runs run more rs others taken left k old one new whole runs_are count others_are left_is one_is pushed held =
    let n = length (present (results_of run)) in
    let chosen : ℕ → Chosen = λ m. record { tool = tool_name run; records = kept_of (heard (Some (tool_name run))) (take m rs) (take m taken) } in
    let rest = chosen_before heard more (drop n rs) (drop n taken) in
    let last : chosen_before heard more others left ≡ rest =
    ap (λ l. chosen_before heard more l left) (others_are ∙ ap (λ m. drop m rs) count)
    ∙ ap (λ l. chosen_before heard more (drop n rs) l) (left_is ∙ ap (λ m. drop m taken) count) in
    ap (λ l. l ++ chosen_before heard more others left) pushed
    ∙ append_assoc old (one ∷ []) (chosen_before heard more others left)
    ∙ ap (λ c. old ++ c ∷ chosen_before heard more others left) (one_is ∙ ap chosen count)
    ∙ ap (λ l. old ++ chosen n ∷ l) last
    ∙ ap (λ l. old ++ chosen_before heard l rs taken) (sym runs_are)
    ∙ held

pub chosen_push : (runs : List KnownRun) (run : KnownRun) (new : List KnownRun) → new ≡ runs ++ run ∷ []
    → all_chosen new ≡ all_chosen runs ++ chosen_of run ∷ []
chosen_push runs run new is = ap all_chosen is ∙ map-append chosen_of runs (run ∷ [])

-- the same run, by equal parts
pub known_same : (file : File) (policy : Policy) (adopt : Bool) (tool name : List ℕ) (rs these : List Record) (states those : List Standing)
    → tool ≡ name → rs ≡ these → states ≡ those
    → ◌≡◌ {A = Chosen} (record { tool = tool; records = known_of file policy adopt rs states })
    (record { tool = name; records = known_of file policy adopt these those })
known_same file policy adopt tool name rs these states those tool_is rs_are states_are = rw (tool_is, rs_are, states_are) refl

pub kept_same : (a b : Bool) (tool name : List ℕ) (rs these : List Record) (taken those : List Bool)
    → a ≡ b → tool ≡ name → rs ≡ these → taken ≡ those
    → ◌≡◌ {A = Chosen} (record { tool = tool; records = kept_of a rs taken }) (record { tool = name; records = kept_of b these those })
kept_same a b tool name rs these taken those is tool_is rs_are taken_are = rw (is, tool_is, rs_are, taken_are) refl

-- the number of results of a baseline run
pub count_at : (runs : List OpenedRun) (n : ℕ) (run d : OpenedRun) (counts : List ℕ) → counts ≡ present_counts (run_values (map placed_of runs))
    → n < length runs → run ≡ get_or runs n d → get_or counts n 0 ≡ length (present (results_of (placed_of run).run))
count_at [] n run d counts are within is = absurd (omega (arith, within))
count_at (x ∷ xs) zero run d counts are within is = ap (λ l. get_or l 0 0) are ∙ ap (λ x. length (present (results_of (placed_of x).run))) (sym is)
count_at (x ∷ xs) (suc n) run d counts are within is =
    ap (λ l. get_or l (suc n) 0) are ∙ count_at xs n run d (present_counts (run_values (map placed_of xs))) refl (omega (arith, within)) is

-- ---- how many are chosen

split_long : {X : Type 0} (n : ℕ) (xs : List X) → length (take n xs) + length (drop n xs) ≡ length xs
split_long zero xs = omega arith
split_long (suc n) [] = refl
split_long (suc n) (x ∷ xs) = let rest = split_long n xs in omega (arith, rest)

kept_fewer : (b : Bool) (r : Record) (rs all : List Record) → length rs ≤ length all → length (keep_unless b r rs) ≤ suc (length all)
kept_fewer true r rs all few = omega (arith, few)
kept_fewer false r rs all few = omega (arith, few)

pub known_fewer : (file : File) (policy : Policy) (adopt : Bool) (rs : List Record) (states : List Standing)
    → length (known_of file policy adopt rs states) ≤ length rs
known_fewer file policy adopt [] states = omega arith
known_fewer file policy adopt (r ∷ rs) [] = omega arith
known_fewer file policy adopt (r ∷ rs) (state ∷ states) =
    kept_fewer (is_left_out file policy adopt r state) r (known_of file policy adopt rs states) rs (known_fewer file policy adopt rs states)

unmatched_fewer : (rs : List Record) (taken : List Bool) → length (unmatched_of rs taken) ≤ length rs
unmatched_fewer [] taken = omega arith
unmatched_fewer (r ∷ rs) [] = omega arith
unmatched_fewer (r ∷ rs) (t ∷ taken) = kept_fewer t r (unmatched_of rs taken) rs (unmatched_fewer rs taken)

pub kept_of_fewer : (heard : Bool) (rs : List Record) (taken : List Bool) → length (kept_of heard rs taken) ≤ length rs
kept_of_fewer true rs taken = omega arith
kept_of_fewer false rs taken = unmatched_fewer rs taken

pub now_fewer : (file : File) (policy : Policy) (adopt : Bool) (runs : List Data) (rs : List Record) (states : List Standing)
    → results_among (chosen_now file policy adopt runs rs states) ≤ length rs
now_fewer file policy adopt [] rs states = omega arith
now_fewer file policy adopt (run ∷ runs) rs states =
    let n = length (results_of run) in
    let here = known_fewer file policy adopt (take n rs) (take n states) in
    let rest = now_fewer file policy adopt runs (drop n rs) (drop n states) in
    let all = split_long n rs in
    omega (arith, here, rest, all)

pub before_fewer : (heard : Option (List ℕ) → Bool) (runs : List Data) (rs : List Record) (taken : List Bool)
    → results_among (chosen_before heard runs rs taken) ≤ length rs
before_fewer heard [] rs taken = omega arith
before_fewer heard (run ∷ runs) rs taken =
    let n = length (present (results_of run)) in
    let here = kept_of_fewer (heard (Some (tool_name run))) (take n rs) (take n taken) in
    let rest = before_fewer heard runs (drop n rs) (drop n taken) in
    let all = split_long n rs in
    omega (arith, here, rest, all)

-- ---- the known log of a merge

pub now_same : (m : Merge) (a : Bool) (file : File) (policy : Policy) (adopt : Bool) (runs : List Data) (rs : List Record) (states : List Standing)
    → file ≡ m.file → policy ≡ m.policy → adopt ≡ a → runs ≡ m.runs → rs ≡ m.records → states ≡ m.standings
    → chosen_now file policy adopt runs rs states ≡ known_now m a
now_same m a file policy adopt runs rs states file_is policy_is adopt_is runs_are rs_are states_are =
    rw (file_is, policy_is, adopt_is, runs_are, rs_are, states_are) refl

pub before_same : (m : Merge) (adopt : Bool) (tools : List ToolRun) (runs : List Data) (rs : List Record) (gone : List Bool)
    → tools ≡ map tool_run m.runs → runs ≡ m.before → rs ≡ m.known → gone ≡ gone_if m.once (records_among (known_now m adopt)) m.known m.taken
    → chosen_before (heard_of tools) runs rs gone ≡ kept_before m adopt
before_same m adopt tools runs rs gone tools_are_those runs_are rs_are gone_is = rw (tools_are_those, runs_are, rs_are, gone_is) refl

-- one more baseline result, which is matched, or alike to a current one, or neither
pub gone_next : (now rs : List Record) (taken alike : List Bool) (n : ℕ) (t dt a da : Bool) (dr : Record) (old new whole : List Bool)
    → alike ≡ map (has_alike now) rs → n < length rs → n < length taken → n < length alike → t ≡ get_or taken n dt → a ≡ get_or alike n da
    → new ≡ old ++ (t || a) ∷ []
    → old ++ matched_or_alike now (drop n rs) (drop n taken) ≡ whole
    → new ++ matched_or_alike now (drop (n + 1) rs) (drop (n + 1) taken) ≡ whole
gone_next now rs taken alike n t dt a da dr old new whole alike_are in_rs in_taken in_alike t_is a_is pushed held =
    let rest = matched_or_alike now (drop (n + 1) rs) (drop (n + 1) taken) in
    let here : a ≡ has_alike now (get_or rs n dr) = a_is ∙ ap (λ l. get_or l n da) alike_are ∙ get_or-map (has_alike now) rs n dr da in_rs in
    let opened : matched_or_alike now (drop n rs) (drop n taken) ≡ (t || a) ∷ rest =
    ap (λ l. matched_or_alike now l (drop n taken)) (first_left rs n (get_or rs n dr) dr in_rs refl)
    ∙ ap (λ l. matched_or_alike now (get_or rs n dr ∷ drop (n + 1) rs) l) (first_left taken n t dt in_taken t_is)
    ∙ ap (λ b. (t || b) ∷ rest) (sym here) in
    ap (λ l. l ++ rest) pushed ∙ append_assoc old ((t || a) ∷ []) rest ∙ ap (λ l. old ++ l) (sym opened) ∙ held

pub gone_same : (m : Merge) (adopt once : Bool) (now : List Chosen) (rs : List Record) (taken : List Bool)
    → once ≡ m.once → now ≡ known_now m adopt → rs ≡ m.known → taken ≡ m.taken
    → gone_if once (records_among now) rs taken ≡ gone_if m.once (records_among (known_now m adopt)) m.known m.taken
gone_same m adopt once now rs taken once_is now_is rs_are taken_is = rw (once_is, now_is, rs_are, taken_is) refl

pub short_enough : (m : Merge) (knowing : Knowing) (n : ℕ) → n ≡ length (known_text (runs_known m knowing)) → n ≤ most_bytes → known_faults m knowing ≡ []
short_enough m knowing n is few =
    let fits : length (known_text (runs_known m knowing)) ≤ most_bytes = omega (arith, is, few) in
    let within : nat_lt most_bytes (length (known_text (runs_known m knowing))) ≡ false = grind (arith, nat_tests) in
    rw within refl

pub too_long_is : (m : Merge) (knowing : Knowing) → most_bytes < length (known_text (runs_known m knowing)) → first (known_faults m knowing) ≡ Some too_long
too_long_is m knowing long =
    let past : nat_lt most_bytes (length (known_text (runs_known m knowing))) ≡ true = grind (arith, nat_tests) in
    rw past refl

-- ---- baseline results that don't stay known

marked_at : (now rs : List Record) (taken : List Bool) (n : ℕ) (d e : Bool) → n < length taken → length taken ≡ length rs
    → matched_or_alike now (drop n rs) (drop n taken)
    ≡ (get_or taken n d || get_or (map (has_alike now) rs) n e) ∷ matched_or_alike now (drop (n + 1) rs) (drop (n + 1) taken)
marked_at now [] [] n d e within same = absurd (omega (arith, within))
marked_at now [] (t ∷ taken) n d e within same = absurd (omega (arith, same))
marked_at now (r ∷ rs) [] n d e within same = absurd (omega (arith, within))
marked_at now (r ∷ rs) (t ∷ taken) zero d e within same = refl
marked_at now (r ∷ rs) (t ∷ taken) (suc n) d e within same =
    let more : suc n + 1 ≡ suc (n + 1) = omega arith in
    rw more (marked_at now rs taken n d e (omega (arith, within)) (omega (arith, same)))

-- one more result is marked
pub one_marked : (now rs : List Record) (taken alike gone : List Bool) (n : ℕ) (d e v : Bool) → n < length taken → length taken ≡ length rs
    → alike ≡ map (has_alike now) rs → v ≡ (get_or taken n d || get_or alike n e)
    → (gone ++ v ∷ []) ++ matched_or_alike now (drop (n + 1) rs) (drop (n + 1) taken) ≡ gone ++ matched_or_alike now (drop n rs) (drop n taken)
one_marked now rs taken alike gone n d e v within same alike_is is =
    append_assoc gone (v ∷ []) (matched_or_alike now (drop (n + 1) rs) (drop (n + 1) taken))
    ∙ ap (λ b. gone ++ b ∷ matched_or_alike now (drop (n + 1) rs) (drop (n + 1) taken))
    (is ∙ ap (λ l. get_or taken n d || get_or l n e) alike_is)
    ∙ ap (λ l. gone ++ l) (sym (marked_at now rs taken n d e within same))
