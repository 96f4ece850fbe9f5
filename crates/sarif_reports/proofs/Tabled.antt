-- What rows in Markdown need of a result: its strings are shown, its rule links to an address, and what is added to them
-- is seen and short.
use Rattle.std.proofs.Common.{◌≡◌, ◌<◌, ◌≤◌, ◌+◌, ◌^◌, ◌==◌, ℕ, zero, suc, Bool, true, false, not, ◌&&◌, cond, List, [], ◌∷◌, ◌++◌, Option, Some, None, IfSome, chars, length, map, refl, sym, ap, ◌∙◌, subst, if◌then◌else◌, arith}
use Rattle.std.specs.Prelude.{codes, find, nat_le, nat_lt, option_and_then, option_map, slice_get, unwrap_or}
use Rattle.std.specs.List.{AllByRecursion}
use Rattle.std.specs.Option.{option_or}
use Rattle.std.proofs.StrCases.{chars_of_empty}
use Rattle.std.proofs.lemmas.Bool.{and_from, and_parts, eqb-true, ltb-true}
use Rattle.std.proofs.lemmas.List.Elements.{All-from_recursion, recursion_from_All}
use Rattle.std.proofs.lemmas.List.Sorted.{All-permutation}
use Rattle.std.proofs.lemmas.Str.{encode_ascii}
use Rattle.serde_json.specs.Data.{Data}
use Rattle.serde_json.specs.Find.{get}
use Rattle.sarif_model.specs.declared.kinds.Level.{Level}
use Rattle.sarif_model.specs.declared.kinds.State.{State}
use Rattle.sarif_findings.specs.declared.code.Code.{Code}
use Rattle.sarif_findings.specs.declared.finding.Finding.{Finding}
use Rattle.sarif_findings.specs.declared.reporting.Reporting.{Reporting}
use Rattle.sarif_findings.specs.CodeLaws.{HasCode, IsCode, IsSeenLine}
use Rattle.sarif_findings.specs.CodeRows.{filled_line, if_filled, is_filled, one_line, without_spaces}
use Rattle.sarif_findings.specs.Lookup.{descriptor_of, number_in, physical_location, position_in, position_number, rule_id}
use Rattle.sarif_findings.specs.Reported.{finding_of, only_with, path_in}
use Rattle.sarif_findings.specs.RuleName.{most_of_name, name_in, shown_name}
use Rattle.sarif_findings.specs.Shown.{is_concealed, kept, parted_signs, plain}
use Rattle.sarif_findings.specs.ShownLaws.{are_seen, is_seen}
use Rattle.sarif_findings.proofs.CharsBack.{char_back, chars_back}
use Rattle.sarif_findings.proofs.CodesTold.{codes_told}
use Rattle.sarif_findings.proofs.EachFinding.{each_finding}
use Rattle.sarif_findings.proofs.ToldFindings.{IsTold}
use Rattle.sarif_scope.specs.declared.gated.GatedChange.{GatedChange}
use Rattle.sarif_shown.specs.FindingLaws.{HasAddress}
use Rattle.sarif_shown.specs.ReportedInside.{reported_by}
use Rattle.sarif_shown.proofs.FindingsInside.{each_inside, told_inside}
use Rattle.sarif_shown.specs.Listed.{listed}
use Rattle.sarif_shown.proofs.AddressSigns.{all_linked}
use Rattle.sarif_shown.proofs.ListedMore.{listed_permutes}

-- the name of the rule, if it has one, is seen and short
abbrev pub HasLabel : Finding → Type 0
HasLabel f = IfSome f.rule_name IsSeenLine

-- the line, if there is one, has 32 bits
abbrev pub HasLine : Finding → Type 0
HasLine f = IfSome f.line (λ n. n < 2 ^ 32)

pub record IsTabled (f : Finding) : Type 0 where
  pub told : IsTold f
  pub address : HasAddress f
  pub label : HasLabel f
  pub code : HasCode f
  pub line : HasLine f

-- ---- names

plain_by : (c : ℕ) (b : Bool) → is_concealed c ≡ b → is_seen (if b then 32 else c) ≡ true
plain_by c true e = refl
plain_by c false e = ap not e

map_seen : (cs : List ℕ) → are_seen (map plain cs) ≡ true
map_seen [] = refl
map_seen (c ∷ cs) = and_from (is_seen (plain c)) (are_seen (map plain cs)) (plain_by c (is_concealed c) refl) (map_seen cs)

parted_by : (b : Bool) (c : ℕ) (rest : List ℕ) → is_seen c ≡ true → are_seen rest ≡ true
    → are_seen ((if b then 32 ∷ c ∷ [] else c ∷ []) ++ rest) ≡ true
parted_by true c rest here there = and_from (is_seen c) (are_seen rest) here there
parted_by false c rest here there = and_from (is_seen c) (are_seen rest) here there

parted_seen : (after : Bool) (cs : List ℕ) → are_seen cs ≡ true → are_seen (parted_signs after cs) ≡ true
parted_seen after [] h = refl
parted_seen after (c ∷ cs) h =
    let parts = and_parts (is_seen c) (are_seen cs) h in
    parted_by (after && c == 35) c (parted_signs (c == 35) cs) parts.0 (parted_seen (c == 35) cs parts.1)

kept_seen : (room : ℕ) (cs : List ℕ) → are_seen cs ≡ true → are_seen (kept room cs) ≡ true
unfolding kept
kept_seen zero [] h = refl
kept_seen (suc room) [] h = refl
kept_seen zero (c ∷ cs) h = refl
kept_seen (suc room) (c ∷ cs) h =
    let parts = and_parts (is_seen c) (are_seen cs) h in
    and_from (is_seen c) (are_seen (kept room cs)) parts.0 (kept_seen room cs parts.1)

kept_few : (room : ℕ) (cs : List ℕ) → length (kept room cs) ≤ room + 1
unfolding kept
kept_few zero [] = omega arith
kept_few (suc room) [] = omega arith
kept_few zero (c ∷ cs) = omega arith
kept_few (suc room) (c ∷ cs) = let rest = kept_few room cs in omega (arith, rest)

name_seen : (name : List ℕ) → IsSeenLine (shown_name name)
name_seen name =
    let cs : List ℕ = parted_signs false (map plain (chars name)) in
    let few = kept_few most_of_name cs in
    subst (λ (text : List ℕ). (length text ≤ 121) × (are_seen text ≡ true)) (sym (chars_back (kept most_of_name cs)))
    (omega (arith, few), kept_seen most_of_name cs (parted_seen false (map plain (chars name)) (map_seen (chars name))))

label_by : (o : Option (List ℕ)) → IfSome (option_map shown_name o) IsSeenLine
label_by None = tt
label_by (Some name) = name_seen name

finding_labelled : (reporting : Reporting) (run result : Data) (l : Level) (s : State) → HasLabel (finding_of reporting run result l s)
unfolding finding_of
finding_labelled reporting run result l s = label_by (option_and_then (name_in (rule_id run result)) (descriptor_of run result))

-- ---- lines

number_by : (b : Bool) (n : ℕ) → (nat_le 1 n && nat_lt n (2 ^ 32)) ≡ b → IfSome (if b then Some n else None) (λ k. k < 2 ^ 32)
number_by true n e = ltb-true n (2 ^ 32) (and_parts (nat_le 1 n) (nat_lt n (2 ^ 32)) e).1
number_by false n e = tt

number_small : (o : Option ℕ) → IfSome (option_and_then position_number o) (λ k. k < 2 ^ 32)
number_small None = tt
number_small (Some n) = number_by _ n refl

with_small : {X : Type 0} (o : Option X) (p : Option ℕ) → IfSome p (λ k. k < 2 ^ 32) → IfSome (only_with o p) (λ k. k < 2 ^ 32)
with_small None p h = tt
with_small (Some x) p h = h

finding_lined : (reporting : Reporting) (run result : Data) (l : Level) (s : State) → HasLine (finding_of reporting run result l s)
unfolding finding_of
finding_lined reporting run result l s =
    with_small (path_in reporting run result) (position_in (codes "startLine") result)
    (number_small (option_and_then (number_in (codes "startLine")) (option_and_then (get (codes "region")) (physical_location result))))

-- ---- one line of the code

space_first : (bs : List ℕ) → chars (32 ∷ bs) ≡ 32 ∷ chars bs
space_first bs = ap (λ (first : List ℕ). chars (first ++ bs)) (sym (encode_ascii 32 (omega arith))) ∙ char_back 32 bs

tail_seen : (bs : List ℕ) → IsSeenLine (32 ∷ bs) → IsSeenLine bs
tail_seen bs seen =
    let whole : (length (32 ∷ chars bs) ≤ 121) × (are_seen (32 ∷ chars bs) ≡ true) =
    subst (λ (cs : List ℕ). (length cs ≤ 121) × (are_seen cs ≡ true)) (space_first bs) seen in
    let few = whole.0 in (omega (arith, few), (and_parts (is_seen 32) (are_seen (chars bs)) whole.1).1)

spaces_by : (space : Bool) (b : ℕ) (bs : List ℕ) → (b == 32) ≡ space → (IsSeenLine bs → IsSeenLine (without_spaces bs)) → IsSeenLine (b ∷ bs)
    → IsSeenLine (if space then without_spaces bs else b ∷ bs)
spaces_by true b bs is rest seen = rest (tail_seen bs (subst (λ (c : ℕ). IsSeenLine (c ∷ bs)) (eqb-true b 32 is) seen))
spaces_by false b bs is rest seen = seen

outdented : (line : List ℕ) → IsSeenLine line → IsSeenLine (without_spaces line)
outdented [] seen = seen
outdented (b ∷ bs) seen = spaces_by (b == 32) b bs refl (outdented bs) seen

nothing_seen : IsSeenLine []
nothing_seen = subst (λ (cs : List ℕ). (length cs ≤ 121) × (are_seen cs ≡ true)) (sym (chars_of_empty [] refl)) (omega arith, refl)

line_at : (lines : List (List ℕ)) (i : ℕ) → AllByRecursion IsSeenLine lines → IfSome (slice_get lines i) IsSeenLine
line_at [] i all = tt
line_at (line ∷ lines) zero all = all.0
line_at (line ∷ lines) (suc i) all = line_at lines i all.1

filled_by : (filled : Bool) (line : List ℕ) → IsSeenLine line → IfSome (if filled then Some line else None) IsSeenLine
filled_by true line seen = seen
filled_by false line seen = tt

filled_of : (o : Option (List ℕ)) → IfSome o IsSeenLine → IfSome (option_and_then if_filled o) IsSeenLine
filled_of None seen = tt
filled_of (Some line) seen = filled_by (is_filled line) line seen

filled_seen : (lines : List (List ℕ)) (index : Option ℕ) → AllByRecursion IsSeenLine lines → IfSome (filled_line lines index) IsSeenLine
filled_seen lines None all = tt
filled_seen lines (Some i) all = filled_of (slice_get lines i) (line_at lines i all)

found_by : (filled : Bool) (line : List ℕ) (rest : Option (List ℕ)) → IsSeenLine line → IfSome rest IsSeenLine
    → IfSome (cond filled (Some line) rest) IsSeenLine
found_by true line rest seen h = seen
found_by false line rest seen h = h

found_seen : (lines : List (List ℕ)) → AllByRecursion IsSeenLine lines → IfSome (find is_filled lines) IsSeenLine
found_seen [] all = tt
found_seen (line ∷ lines) all = found_by (is_filled line) line (find is_filled lines) all.0 (found_seen lines all.1)

either_seen : (a b : Option (List ℕ)) → IfSome a IsSeenLine → IfSome b IsSeenLine → IsSeenLine (unwrap_or (option_or a b) [])
either_seen (Some line) b h k = h
either_seen None (Some line) h k = k
either_seen None None h k = nothing_seen

pub line_seen : (code : Code) → AllByRecursion IsSeenLine code.lines → IsSeenLine (one_line code)
line_seen code all =
    outdented (unwrap_or (option_or (filled_line code.lines code.hit_line) (find is_filled code.lines)) [])
    (either_seen (filled_line code.lines code.hit_line) (find is_filled code.lines) (filled_seen code.lines code.hit_line all) (found_seen code.lines all))

pub code_seen : (n : Option ℕ) (code : Option Code) → IfSome code (IsCode n) → IfSome code (λ c. AllByRecursion IsSeenLine c.lines)
code_seen n None h = tt
code_seen n (Some code) h = h.seen

-- ---- all shown results

-- what is true of each of these is true of each listed one
pub listed_each : (P : Finding → Type 0) (fs : List Finding) → AllByRecursion P fs → AllByRecursion P (listed fs)
listed_each P fs h = recursion_from_All P (listed fs) (All-permutation P fs (listed fs) (listed_permutes fs) (All-from_recursion P fs h))

all_facts : (fs : List Finding) → AllByRecursion IsTold fs → AllByRecursion HasAddress fs → AllByRecursion HasLabel fs → AllByRecursion HasCode fs
    → AllByRecursion HasLine fs → AllByRecursion IsTabled fs
all_facts [] told address label code line = tt
all_facts (f ∷ fs) told address label code line = (
  record { told = told.0; address = address.0; label = label.0; code = code.0; line = line.0 },
  all_facts fs told.1 address.1 label.1 code.1 line.1,
)

pub all_tabled : (change : Option GatedChange) (reporting : Reporting) (log : Data) → AllByRecursion IsTabled (reported_by change reporting log)
all_tabled change reporting log =
    let fs : List Finding = reported_by change reporting log in
    all_facts fs (told_inside change reporting log) (recursion_from_All HasAddress fs (all_linked change reporting log))
    (each_inside HasLabel change reporting log (each_finding HasLabel reporting (finding_labelled reporting) log))
    (each_inside HasCode change reporting log (codes_told reporting log))
    (each_inside HasLine change reporting log (each_finding HasLine reporting (finding_lined reporting) log))
