-- The test cases and the suites of the report in JUnit XML, put together.
use Rattle.std.proofs.Common.{◌≡◌, ◌<◌, ◌≤◌, ◌+◌, ◌++◌, ℕ, zero, suc, Bool, true, false, cond, List, [], ◌∷◌, length, take, drop, get_or, slice_get, map, bytes_eq, flat_map, string_bytes, unwrap_or, Option, Some, if◌then◌else◌, refl, sym, ap, ap₂, ◌∙◌, append_assoc, arith}
use Rattle.std.specs.Borrow.{Bor}
use Rattle.std.specs.HashMap.{HashMap, UpdatesBy, get_by_text}
use Rattle.std.specs.declared.string.String.{String}
use Rattle.std.specs.List.{count_by}
use Rattle.std.specs.String.{string_eq}
use Rattle.std.proofs.lemmas.Map.Text.{hash_map_updates_text}
use Rattle.std.proofs.lemmas.Slice.Eq.{bytes_eq-Decides}
use Rattle.std.proofs.lemmas.List.{length-map, length-take-le}
use Rattle.std.proofs.lemmas.List.Folds.{flat_map-map}
use Rattle.std.proofs.lemmas.List.Sums.{sum_by-append, sum_by-cons, count_by-le-length}
use Rattle.std.specs.declared.alloc.Global.{Global}
use Rattle.std.specs.declared.vec.Vec.{Vec}
use Rattle.sarif_shown.specs.declared.stopping.Stopping.{Stopping}
use Rattle.sarif_findings.specs.declared.finding.Finding.{Finding}
use Rattle.sarif_reports.specs.JunitReport.{case_name, cases_after, named_among, nth_name, plain_name, results_of, suite_of, suites_in, test_case, tools_of}
use Rattle.sarif_reports.specs.Internal.Suites.{Suite, counted, entry_text, pointed, seen_suite, suites_of, text_at}
use Rattle.sarif_shown.proofs.LinesMore.{pointed_left}
use Rattle.sarif_reports.proofs.SuitesMore.{apart_back, pointed_more}

pub length_pointed : (fs : List (Bor Finding)) → length (pointed fs) ≡ length fs
length_pointed fs = length-map fs (λ x. x.now)

-- ---- test cases of a kind

pub one_at_most : (b : Bool) → (if b then 1 else 0) ≤ 1
one_at_most true = omega arith
one_at_most false = omega arith

counted_by : (test : Finding → Bool) (b : Bool) (f : Finding) (fs : List Finding) → test f ≡ b
    → count_by test (f ∷ fs) ≡ (if b then 1 else 0) + count_by test fs
counted_by test b f fs e = sum_by-cons (λ x. cond (test x) 1 0) f fs ∙ ap (λ t. cond t 1 0 + count_by test fs) e

-- one result less is left to count
pub counted_step : (test : Finding → Bool) (fs : List (Bor Finding)) (i : ℕ) (f : Bor Finding) (b : Bool) (old new whole : ℕ) → i < length fs
    → f ≡ get_or fs i f → test f.now ≡ b → new ≡ (if b then 1 else 0) + old → old + count_by test (pointed (drop i fs)) ≡ whole
    → new + count_by test (pointed (drop (i + 1) fs)) ≡ whole
counted_step test fs i f b old new whole within is same next held =
    let left = ap (count_by test) (pointed_left fs i f within is) in
    let first = counted_by test b f.now (pointed (drop (i + 1) fs)) same in
    omega (arith, left, first, next, held)

-- ---- names

named_more : (name : List ℕ) (gs : List Finding) (f : Finding)
    → named_among (gs ++ f ∷ []) name ≡ named_among gs name + (if bytes_eq name (plain_name f) then 1 else 0)
named_more name gs f =
    let whole = sum_by-append (λ x. cond (bytes_eq name (plain_name x)) 1 0) gs (f ∷ []) in
    let last = sum_by-cons (λ x. cond (bytes_eq name (plain_name x)) 1 0) f [] in
    omega (arith, whole, last)

-- one more name is counted
pub counts_step : (fs : List (Bor Finding)) (i : ℕ) (f : Bor Finding) (name : List ℕ) (old new : ℕ) → i < length fs → f ≡ get_or fs i f
    → new ≡ old + (if bytes_eq name (plain_name f.now) then 1 else 0) → old ≡ named_among (pointed (take i fs)) name
    → new ≡ named_among (pointed (take (i + 1) fs)) name
counts_step fs i f name old new within is next held =
    next ∙ ap (λ n. n + (if bytes_eq name (plain_name f.now) then 1 else 0)) held
    ∙ sym (named_more name (pointed (take i fs)) f.now)
    ∙ sym (ap (λ gs. named_among gs name) (pointed_more fs i f within is))

-- fewer have a name than were read
pub named_few : (fs : List (Bor Finding)) (i : ℕ) (name : List ℕ) → i ≤ length fs → named_among (pointed (take i fs)) name ≤ i
named_few fs i name within =
    let few = count_by-le-length (λ x. bytes_eq name (plain_name x)) (pointed (take i fs)) in
    let same = length-map (take i fs) (λ x. x.now) in
    let size = length-take-le i fs within in
    omega (arith, few, same, size)

-- the count after one more
updated_by : (b : Bool) (name plain : List ℕ) (w : ℕ) (there here : Option ℕ) → bytes_eq plain name ≡ b → (b ≡ true → here ≡ there) → w ≡ unwrap_or there 0 + 1
    → unwrap_or (cond b (Some w) here) 0 ≡ unwrap_or here 0 + (if bytes_eq name plain then 1 else 0)
updated_by true name plain w there here e one next =
    let same : bytes_eq name plain ≡ true = (bytes_eq-Decides name plain).1 (sym ((bytes_eq-Decides plain name).0 e)) in
    next ∙ ap (λ o. unwrap_or o 0 + 1) (sym (one refl)) ∙ sym (ap (λ t. unwrap_or here 0 + (if t then 1 else 0)) same)
updated_by false name plain w there here e one next =
    let apart : bytes_eq name plain ≡ false = apart_back plain name e in
    let none = ap {B = ℕ} (λ t. if t then 1 else 0) apart in
    omega (arith, none)

pub count_updated : {X S : Type 0} (m n : HashMap (String X) ℕ S) (plain : List ℕ) (w : ℕ) → w ≡ counted m plain + 1
    → UpdatesBy string_eq (λ k. bytes_eq plain (string_bytes k)) m n (Some w)
    → (name : List ℕ) → counted n name ≡ counted m name + (if bytes_eq name plain then 1 else 0)
count_updated m n plain w next updates name =
    ap (λ o. unwrap_or o 0) (hash_map_updates_text plain m n (Some w) updates name)
    ∙ updated_by (bytes_eq plain name) name plain w (get_by_text m plain) (get_by_text m name) refl
    (λ same. ap (get_by_text m) (sym ((bytes_eq-Decides plain name).0 same))) next

-- ---- test cases

-- one more test case is written
pub cases_step : (v : Stopping) (fs : List (Bor Finding)) (i : ℕ) (f : Bor Finding) (n : ℕ) (old new whole : List ℕ) → i < length fs → f ≡ get_or fs i f
    → n ≡ named_among (pointed (take i fs)) (plain_name f.now)
    → new ≡ old ++ test_case v (nth_name (plain_name f.now) (n + 1)) f.now
    → old ++ cases_after v (pointed (take i fs)) (pointed (drop i fs)) ≡ whole
    → new ++ cases_after v (pointed (take (i + 1) fs)) (pointed (drop (i + 1) fs)) ≡ whole
cases_step v fs i f n old new whole within is number written held =
    let before = pointed (take i fs) in
    let after = pointed (drop (i + 1) fs) in
    let own : nth_name (plain_name f.now) (n + 1) ≡ case_name before f.now = ap (λ k. nth_name (plain_name f.now) (k + 1)) number in
    let left : cases_after v before (pointed (drop i fs)) ≡ test_case v (case_name before f.now) f.now ++ cases_after v (before ++ f.now ∷ []) after =
    ap (cases_after v before) (pointed_left fs i f within is) in
    ap₂ (λ t front. t ++ cases_after v front after) (written ∙ ap (λ t. old ++ test_case v t f.now) own) (pointed_more fs i f within is)
    ∙ append_assoc old (test_case v (case_name before f.now) f.now) (cases_after v (before ++ f.now ∷ []) after)
    ∙ ap (λ t. old ++ t) (sym left) ∙ held

-- ---- suites

abbrev suite_text : Stopping → Suite → List ℕ
suite_text v s = suite_of v s.0 s.1

-- the suites of a table are those of its results
pub suites_told : (v : Stopping) (es : List (Bor (List ℕ) × Vec (Bor Finding) Global)) (gs : List Finding) → map seen_suite es ≡ suites_of gs
    → flat_map (entry_text v) es ≡ suites_in v gs
suites_told v es gs seen =
    sym (flat_map-map (suite_text v) seen_suite es) ∙ ap (flat_map (suite_text v)) seen
    ∙ flat_map-map (suite_text v) (λ tool. (tool, results_of gs tool)) (tools_of gs)

suite_left : (v : Stopping) (es : List (Bor (List ℕ) × Vec (Bor Finding) Global)) (i : ℕ) → i < length es
    → flat_map (entry_text v) (drop i es) ≡ text_at v (slice_get es i) ++ flat_map (entry_text v) (drop (i + 1) es)
suite_left v [] i within = absurd (omega (arith, within))
suite_left v (e ∷ es) zero within = refl
suite_left v (e ∷ es) (suc i) within =
    let next : suc (i + 1) ≡ suc i + 1 = omega arith in
    suite_left v es i (omega (arith, within)) ∙ ap (λ k. text_at v (slice_get es i) ++ flat_map (entry_text v) (drop k (e ∷ es))) next

-- one more suite is written
pub suites_step : (v : Stopping) (es : List (Bor (List ℕ) × Vec (Bor Finding) Global)) (i : ℕ) (old new whole : List ℕ) → i < length es
    → new ≡ old ++ text_at v (slice_get es i)
    → old ++ flat_map (entry_text v) (drop i es) ≡ whole → new ++ flat_map (entry_text v) (drop (i + 1) es) ≡ whole
suites_step v es i old new whole within written held =
    ap (λ t. t ++ flat_map (entry_text v) (drop (i + 1) es)) written
    ∙ append_assoc old (text_at v (slice_get es i)) (flat_map (entry_text v) (drop (i + 1) es))
    ∙ ap (λ t. old ++ t) (sym (suite_left v es i within)) ∙ held

-- ---- a string after several additions

-- what is added is known by another name
pub named : (t0 t1 x y : List ℕ) → t1 ≡ t0 ++ x → x ≡ y → t1 ≡ t0 ++ y
named t0 t1 x y added is = added ∙ ap (λ t. t0 ++ t) is

pub two : (t0 t1 t2 a b : List ℕ) → t1 ≡ t0 ++ a → t2 ≡ t1 ++ b → t2 ≡ t0 ++ (a ++ b)
two t0 t1 t2 a b p q = q ∙ ap (λ t. t ++ b) p ∙ append_assoc t0 a b

pub three : (t0 t1 t2 t3 a b c : List ℕ) → t1 ≡ t0 ++ a → t2 ≡ t1 ++ b → t3 ≡ t2 ++ c → t3 ≡ t0 ++ (a ++ (b ++ c))
three t0 t1 t2 t3 a b c p q r = two t0 t1 t3 a (b ++ c) p (two t1 t2 t3 b c q r)

pub four : (t0 t1 t2 t3 t4 a b c d : List ℕ) → t1 ≡ t0 ++ a → t2 ≡ t1 ++ b → t3 ≡ t2 ++ c → t4 ≡ t3 ++ d → t4 ≡ t0 ++ (a ++ (b ++ (c ++ d)))
four t0 t1 t2 t3 t4 a b c d p q r s = two t0 t1 t4 a (b ++ (c ++ d)) p (three t1 t2 t3 t4 b c d q r s)

pub five : (t0 t1 t2 t3 t4 t5 a b c d e : List ℕ) → t1 ≡ t0 ++ a → t2 ≡ t1 ++ b → t3 ≡ t2 ++ c → t4 ≡ t3 ++ d → t5 ≡ t4 ++ e
    → t5 ≡ t0 ++ (a ++ (b ++ (c ++ (d ++ e))))
five t0 t1 t2 t3 t4 t5 a b c d e p q r s t = two t0 t1 t5 a (b ++ (c ++ (d ++ e))) p (four t1 t2 t3 t4 t5 b c d e q r s t)
