-- The strings of a finding are shown strings.
use Rattle.std.proofs.Common.{◌≡◌, ◌<◌, ◌^◌, ℕ, Bool, true, false, ◌&&◌, List, [], ◌∷◌, Option, Some, None, IfSome, codes, if◌then◌else◌, refl, arith}
use Rattle.std.specs.Prelude.{option_and_then, nat_le, nat_lt}
use Rattle.std.specs.Char.{encode_utf8}
use Rattle.std.specs.List.{AllByRecursion}
use Rattle.std.proofs.lemmas.Bool.{and_parts, ltb-true}
use Rattle.serde_json.specs.Data.{Data}
use Rattle.serde_json.specs.Find.{get}
use Rattle.sarif_model.specs.declared.kinds.Level.{Level}
use Rattle.sarif_model.specs.declared.kinds.State.{State}
use Rattle.sarif_model.specs.Members.{none_if_empty}
use Rattle.sarif_findings.specs.declared.finding.Finding.{Finding}
use Rattle.sarif_findings.specs.declared.reporting.Reporting.{Reporting}
use Rattle.sarif_findings.specs.Lookup.{position_number, position_in, number_in, physical_location, uri_of}
use Rattle.sarif_findings.specs.Shown.{shown, kept}
use Rattle.sarif_findings.specs.Reported.{reported_of, finding_of, or_no_message, shown_path, only_with, path_in, line_in}
use Rattle.sarif_findings.proofs.EachFinding.{each_finding}

abbrev pub IsShown : List ℕ → Type 0
IsShown text = (cs : List ℕ) × (text ≡ shown cs)

pub record IsPath (text : List ℕ) : Type 0 where
  pub shown : IsShown text
  pub some : text ≡ [] → ⊥

pub record IsTold (f : Finding) : Type 0 where
  pub tool : IsShown f.tool
  pub rule : IsShown f.rule
  pub message : IsShown f.message
  pub path : IfSome f.path IsPath
  pub line : IfSome f.line (λ n. n < 2 ^ 64)
  pub column : IfSome f.column (λ n. n < 2 ^ 64)

no_message : codes "(no message)" ≡ shown (codes "(no message)")
unfolding kept encode_utf8
no_message = refl

message_by : (cs text : List ℕ) → text ≡ shown cs → IsShown (or_no_message text)
message_by cs [] e = (codes "(no message)", no_message)
message_by cs (b ∷ bs) e = (cs, e)

path_by : (cs text : List ℕ) → text ≡ shown cs → IfSome (none_if_empty text) IsPath
path_by cs [] e = tt
path_by cs (b ∷ bs) e = record { shown = (cs, e); some = λ none. cc }

path_told : (roots : List (List ℕ)) (o : Option (List ℕ)) → IfSome (option_and_then (shown_path roots) o) IsPath
path_told roots None = tt
path_told roots (Some uri) = path_by _ _ refl

number_by : (b : Bool) (n : ℕ) → (nat_le 1 n && nat_lt n (2 ^ 32)) ≡ b → IfSome (if b then Some n else None) (λ k. k < 2 ^ 64)
number_by true n e = let small : n < 2 ^ 32 = ltb-true n (2 ^ 32) (and_parts (nat_le 1 n) (nat_lt n (2 ^ 32)) e).1 in omega (arith, small)
number_by false n e = tt

number_told : (o : Option ℕ) → IfSome (option_and_then position_number o) (λ k. k < 2 ^ 64)
number_told None = tt
number_told (Some n) = number_by _ n refl

with_told : {X : Type 0} (o : Option X) (p : Option ℕ) → IfSome p (λ k. k < 2 ^ 64) → IfSome (only_with o p) (λ k. k < 2 ^ 64)
with_told None p h = tt
with_told (Some x) p h = h

finding_told : (reporting : Reporting) (run result : Data) (l : Level) (s : State) → IsTold (finding_of reporting run result l s)
unfolding finding_of
finding_told reporting run result l s = record {
  tool = (_, refl);
  rule = (_, refl);
  message = message_by _ _ refl;
  path = path_told reporting.roots (uri_of run result);
  line = with_told (path_in reporting run result) (position_in (codes "startLine") result)
      (number_told (option_and_then (number_in (codes "startLine")) (option_and_then (get (codes "region")) (physical_location result))));
  column = with_told (line_in reporting run result) (position_in (codes "startColumn") result)
      (number_told (option_and_then (number_in (codes "startColumn")) (option_and_then (get (codes "region")) (physical_location result))));
}

pub all_told : (reporting : Reporting) (log : Data) → AllByRecursion IsTold (reported_of reporting log)
all_told reporting log = each_finding IsTold reporting (finding_told reporting) log
