-- No path begins with `./`.
use Rattle.std.proofs.Common.{◌≡◌, ◌==◌, ◌&&◌, ◌++◌, ℕ, suc, Bool, true, false, List, [], ◌∷◌, map, chars, Option, Some, None, IfSome, refl, ap, sym, ◌∙◌, if◌then◌else◌}
use mathlib.Core.Bool.{and-false}
use Rattle.std.specs.Prelude.{option_and_then}
use Rattle.std.specs.List.{All}
use Rattle.std.proofs.lemmas.Bool.{and_parts, and_from, false_from_ne_true, or_parts, true≢false}
use Rattle.std.proofs.lemmas.List.Elements.{All-from_recursion}
use Rattle.serde_json.specs.Data.{Data}
use Rattle.sarif_model.specs.declared.kinds.Level.{Level}
use Rattle.sarif_model.specs.declared.kinds.State.{State}
use Rattle.sarif_model.specs.Members.{none_if_empty}
use Rattle.sarif_findings.specs.declared.reporting.Reporting.{Reporting}
use Rattle.sarif_findings.specs.Lookup.{uri_of}
use Rattle.sarif_findings.specs.PathOf.{after_here, begins_here, decoded, is_removed, path_chars, without_here, without_root}
use Rattle.sarif_findings.specs.Placeholders.{first_is}
use Rattle.sarif_findings.specs.Reported.{finding_of, shown_path}
use Rattle.sarif_findings.specs.Shown.{is_concealed, kept, parted_signs, plain, shown, shown_chars}
use Rattle.sarif_findings.proofs.CharsBack.{chars_back}
use Rattle.sarif_findings.proofs.EachFinding.{each_finding}
use Rattle.sarif_shown.specs.FindingLaws.{IsNamed, starts_here}
use Rattle.sarif_scope.specs.declared.gated.GatedChange.{GatedChange}
use Rattle.sarif_shown.specs.ReportedInside.{reported_by}
use Rattle.sarif_shown.proofs.FindingsInside.{each_inside}

-- ---- before a path is shown

after_by : (b : Bool) (c : ℕ) (cs : List ℕ) → is_removed c cs ≡ b → starts_here (after_here cs) ≡ false
    → starts_here (if b then after_here cs else c ∷ cs) ≡ false
after_by true c cs e rest = rest
after_by false c cs e rest = (or_parts (c == 47) (begins_here c cs) e).1

after_named : (cs : List ℕ) → starts_here (after_here cs) ≡ false
after_named [] = refl
after_named (c ∷ cs) = after_by (is_removed c cs) c cs refl (after_named cs)

without_by : (b : Bool) (c : ℕ) (cs : List ℕ) → begins_here c cs ≡ b → starts_here (if b then after_here cs else c ∷ cs) ≡ false
without_by true c cs e = after_named cs
without_by false c cs e = e

without_named : (cs : List ℕ) → starts_here (without_here cs) ≡ false
without_named [] = refl
without_named (c ∷ cs) = without_by (begins_here c cs) c cs refl

-- ---- as it is shown

plain_by : (b : Bool) (c n : ℕ) → (32 == n) ≡ false → ((if b then 32 else c) == n) ≡ true → (c == n) ≡ true
plain_by true c n other e = absurd (true≢false (sym e ∙ other))
plain_by false c n other e = e

plain_was : (c n : ℕ) → (32 == n) ≡ false → (plain c == n) ≡ true → (c == n) ≡ true
plain_was c n other e = plain_by (is_concealed c) c n other e

-- the second character, where a space may have been put before it
second_by : (b : Bool) (room d : ℕ) (rest : List ℕ) → first_is 47 (kept (suc room) ((if b then 32 ∷ d ∷ [] else d ∷ []) ++ rest)) ≡ true → (d == 47) ≡ true
unfolding kept
second_by true room d rest e = absurd (true≢false (sym e))
second_by false room d rest e = e

shown_named : (room : ℕ) (cs : List ℕ) → starts_here cs ≡ false → starts_here (kept (suc (suc room)) (parted_signs false (map plain cs))) ≡ false
unfolding kept
shown_named room [] h = refl
shown_named room (c ∷ []) h = and-false (plain c == 46)
shown_named room (c ∷ d ∷ ds) h =
    false_from_ne_true _ (λ both.
    let after : Bool = plain c == 35 in
    let rest : List ℕ = parted_signs (plain d == 35) (map plain ds) in
    let parts = and_parts (plain c == 46) (first_is 47 (kept (suc room) (parted_signs after (map plain (d ∷ ds))))) both in
    let first : (c == 46) ≡ true = plain_was c 46 refl parts.0 in
    let second : (d == 47) ≡ true = plain_was d 47 refl (second_by (after && plain d == 35) room (plain d) rest parts.1) in
    true≢false (sym (and_from (c == 46) (d == 47) first second) ∙ h))

text_named : (cs : List ℕ) → starts_here cs ≡ false → starts_here (chars (shown cs)) ≡ false
text_named cs h = ap starts_here (chars_back (shown_chars cs)) ∙ shown_named 998 cs h

-- ---- the path of a finding

some_named : (text : List ℕ) → starts_here (chars text) ≡ false → IfSome (none_if_empty text) (λ path. starts_here (chars path) ≡ false)
some_named [] h = tt
some_named (b ∷ bs) h = h

path_named : (roots : List (List ℕ)) (o : Option (List ℕ)) → IfSome (option_and_then (shown_path roots) o) (λ path. starts_here (chars path) ≡ false)
path_named roots None = tt
path_named roots (Some uri) =
    some_named (shown (path_chars roots uri)) (text_named (path_chars roots uri) (without_named (chars (without_root roots (decoded uri)))))

finding_named : (reporting : Reporting) (run result : Data) (l : Level) (s : State) → IsNamed (finding_of reporting run result l s)
unfolding finding_of
finding_named reporting run result l s = path_named reporting.roots (uri_of run result)

pub all_named : (change : Option GatedChange) (reporting : Reporting) (log : Data) → All IsNamed (reported_by change reporting log)
all_named change reporting log =
    All-from_recursion IsNamed (reported_by change reporting log)
    (each_inside IsNamed change reporting log (each_finding IsNamed reporting (finding_named reporting) log))
