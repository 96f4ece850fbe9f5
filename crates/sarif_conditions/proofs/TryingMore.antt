-- Filters that are filed, compared with results.
use Rattle.std.proofs.Common.{◌≡◌, ℕ, ◌+◌, ◌<◌, ◌==◌, Bool, true, false, not, ◌||◌, List, [], ◌∷◌, ◌++◌, get_or, length, map, take, suc, Option, Some, None, refl, sym, ap, subst, ◌∙◌, arith, if◌then◌else◌}
use Rattle.std.specs.Prelude.{replicate, unwrap_or}
use Rattle.std.proofs.lemmas.Bool.Decides.{nat_tests}
use Rattle.std.specs.List.{count_by, list_any}
use Rattle.std.proofs.lemmas.List.{length-map, map-append, take_more}
use Rattle.sarif_entries.specs.File.{File}
use Rattle.sarif_entries.specs.declared.entry.Entry.{Entry}
use Rattle.sarif_entries.specs.Matching.{matches}
use Rattle.sarif_filing.specs.Numbers.{numbers_from}
use Rattle.sarif_model.specs.declared.record.Record.{Record}
use Rattle.sarif_policy.specs.Condition.{any_matches, is_chosen}
use Rattle.sarif_policy.specs.declared.condition.GateCondition.{GateCondition}
use Rattle.sarif_suppress.specs.Internal.Marks.{marks_of}
use Rattle.sarif_suppress.specs.Suppressing.{matching_numbers, unused_of}
use Rattle.sarif_conditions.specs.Decided.{currents, is_absent, is_unused}
use Rattle.sarif_conditions.specs.Internal.Deciding.{outcome_of}
use Rattle.sarif_conditions.specs.Internal.Tried.{outcomes_by, passing, IsTried}
use Rattle.sarif_conditions.specs.Judged.{Judged, judged_of}
use Rattle.sarif_conditions.specs.declared.judged.JudgedResult.{JudgedResult}
use Rattle.sarif_conditions.specs.declared.outcome.Outcome.{Outcome}
use Rattle.sarif_conditions.specs.declared.trying.TriedFilters.{TriedFilters}

not_none : (n : ℕ) → not (suc n == 0) ≡ true
not_none n = let is : (suc n == 0) ≡ false = grind (arith, nat_tests) in rw is refl

-- there are numbers exactly if one passes the test
any_numbered : {A : Type 0} (test : A → Bool) (n : ℕ) (xs : List A) → not (length (numbers_from test n xs) == 0) ≡ list_any test xs
any_numbered test n [] = refl
any_numbered test n (x ∷ xs) =
    elim (test x) as (λ b. not (length (if b then n ∷ numbers_from test (n + 1) xs else numbers_from test (n + 1) xs) == 0)
    ≡ (b || list_any test xs)) [
      | true ↦ not_none (length (numbers_from test (n + 1) xs))
      | false ↦ any_numbered test (n + 1) xs
    ]

-- entries match a result if there are numbers of those that do
pub matched_filed : (file : File) (r : Record) (numbers : List ℕ) (none : Bool) → file.today ≡ None → numbers ≡ matching_numbers file r
    → none ≡ (length numbers == 0) → not none ≡ any_matches file.entries r
matched_filed file r numbers none today found is =
    ap not (is ∙ ap (λ ns. length ns == 0) found)
    ∙ any_numbered (λ e. matches file.today e r) 0 file.entries
    ∙ ap (λ day. list_any (λ e. matches day e r) file.entries) today

-- ---- the current results, with one result more

no_more : {A : Type 0} (xs : List A) → xs ++ [] ≡ xs
no_more [] = refl
no_more (x ∷ xs) = ap (λ l. x ∷ l) (no_more xs)

currents_more : (rs : List Judged) (r : Judged) → currents (rs ++ r ∷ []) ≡ currents rs ++ (if is_absent r.state then [] else r.found ∷ [])
currents_more [] r = refl
currents_more (x ∷ rs) r =
    elim (is_absent x.state) as (λ b. (if b then currents (rs ++ r ∷ []) else x.found ∷ currents (rs ++ r ∷ []))
    ≡ (if b then currents rs else x.found ∷ currents rs) ++ (if is_absent r.state then [] else r.found ∷ [])) [
      | true ↦ currents_more rs r
      | false ↦ ap (λ l. x.found ∷ l) (currents_more rs r)
    ]

pub marked_absent : (file : File) (marks : List Bool) (rs : List Judged) (r : Judged) → is_absent r.state ≡ true
    → marks ≡ marks_of file (currents rs) → marks ≡ marks_of file (currents (rs ++ r ∷ []))
marked_absent file marks rs r absent is =
    is ∙ ap (marks_of file) (sym (currents_more rs r ∙ rw absent (no_more (currents rs))))

pub marked_current : (file : File) (marks : List Bool) (rs : List Judged) (r : Judged) → is_absent r.state ≡ false
    → marks ≡ marks_of file (currents rs ++ r.found ∷ []) → marks ≡ marks_of file (currents (rs ++ r ∷ []))
marked_current file marks rs r current is =
    is ∙ ap (marks_of file) (sym (currents_more rs r ∙ rw current refl))

-- the entries without a mark are the unused filters
pub unused_filed : (file : File) (rs : List Judged) (unused : ℕ) → file.today ≡ None → unused ≡ unused_of file (currents rs)
    → unused ≡ count_by (is_unused rs) file.entries
unused_filed file rs unused today is =
    is ∙ ap (λ day. count_by (λ e. not (list_any (λ found. matches day e found) (currents rs))) file.entries) today

-- ---- what a condition decides about each result

passing_long : (test : Record → Bool) (results : List JudgedResult) → length (passing test (map judged_of results)) ≡ length results
passing_long test results = length-map (map judged_of results) (λ (r : Judged). test r.found) ∙ length-map results judged_of

pub tried_long : (test : Record → Bool) (results : List JudgedResult) (marks : List Bool) → marks ≡ passing test (map judged_of results)
    → length marks ≡ length results
tried_long test results marks is = ap length is ∙ passing_long test results

outcomes_each : (c : GateCondition) (rs : List Judged)
    → outcomes_by c rs (passing (is_chosen c.only) rs) (passing (any_matches c.except) rs) ≡ map (outcome_of c) rs
outcomes_each c [] = refl
outcomes_each c (r ∷ rs) = ap (λ os. outcome_of c r ∷ os) (outcomes_each c rs)

pub outcomes_tried : (c : GateCondition) (rs : List Judged) (only except : List Bool) (all : List Outcome)
    → only ≡ passing (is_chosen c.only) rs → except ≡ passing (any_matches c.except) rs → all ≡ outcomes_by c rs only except
    → all ≡ map (outcome_of c) rs
outcomes_tried c rs only except all only_is except_is is =
    is ∙ ap (λ marks. outcomes_by c rs marks except) only_is
    ∙ ap (λ marks. outcomes_by c rs (passing (is_chosen c.only) rs) marks) except_is ∙ outcomes_each c rs

-- the results up to the next one
pub one_more : (results : List JudgedResult) (i : ℕ) (found : JudgedResult) → i < length results → found ≡ get_or results i found
    → map judged_of (take (i + 1) results) ≡ map judged_of (take i results) ++ judged_of found ∷ []
one_more results i found within is =
    ap (map judged_of) (take_more results i found within ∙ ap (λ (x : JudgedResult). take i results ++ x ∷ []) (sym is))
    ∙ map-append judged_of (take i results) (found ∷ [])

-- without filters of `only` each result is chosen
chosen_each : (results : List JudgedResult) → replicate (length results) true ≡ passing (is_chosen None) (map judged_of results)
chosen_each [] = refl
chosen_each (r ∷ rs) = ap (λ marks. true ∷ marks) (chosen_each rs)

pub all_chosen : (results : List JudgedResult) (marks : List Bool) (n : ℕ) → marks ≡ replicate n true → n ≡ length results
    → marks ≡ passing (is_chosen None) (map judged_of results)
all_chosen results marks n is long = is ∙ ap (λ k. replicate k true) long ∙ chosen_each results

-- with filters of `only` those that one of them matches are chosen
pub tried_some : (only : Option (List Entry)) (filters fs : List Entry) (rs : List Judged) (tried : TriedFilters) → only ≡ Some fs → filters ≡ fs
    → IsTried (any_matches filters) filters rs tried → IsTried (is_chosen only) (unwrap_or only []) rs tried
tried_some only filters fs rs tried some same is =
    subst (λ (o : Option (List Entry)). IsTried (is_chosen o) (unwrap_or o []) rs tried) (sym some)
    (subst (λ (l : List Entry). IsTried (any_matches l) l rs tried) same is)
