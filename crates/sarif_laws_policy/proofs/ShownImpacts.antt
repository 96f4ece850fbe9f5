-- What shown results do to the gate, in the findings and in the results.
use Rattle.std.proofs.Common.{◌≡◌, Bool, true, false, not, List, [], ◌∷◌, length, map, Option, Some, None, refl, sym, ap, ◌∙◌, arith, if◌then◌else◌}
use Rattle.std.specs.List.{cons_option, filter, filter_map}
use Rattle.sarif_conditions.specs.Judged.{Judged}
use Rattle.sarif_counts.specs.Impacts.{is_hit}
use Rattle.sarif_counts.specs.declared.gate_verdict.Impact.{Impact}
use Rattle.sarif_findings.specs.Reported.{is_among}
use Rattle.sarif_findings.specs.declared.finding.Finding.{Finding}
use Rattle.sarif_findings.specs.declared.reporting.Show.{Show}
use Rattle.sarif_prepare.specs.Told.{active_in, shown_by, told_with, with_impact}

one_told : (i : Option Impact) (f : Finding) (rest : List Finding) (impacts : List Impact) → map (λ (g : Finding). g.impact) rest ≡ impacts
    → map (λ (g : Finding). g.impact) (cons_option (with_impact i f) rest) ≡ cons_option i impacts
one_told None f rest impacts is = is
one_told (Some i) f rest impacts is = ap (λ is. i ∷ is) is

-- each reported finding has what its result does
pub impacts_told : (show : Show) (is : List (Option Impact)) (fs : List Finding) → length fs ≡ length is
    → map (λ (f : Finding). f.impact) (told_with show is fs) ≡ filter_map (shown_by show) is
impacts_told show [] fs same = refl
impacts_told show (i ∷ is) [] same = absurd (omega (arith, same))
impacts_told show (i ∷ is) (f ∷ fs) same =
    one_told (shown_by show i) f (told_with show is fs) (filter_map (shown_by show) is) (impacts_told show is fs (omega (arith, same)))

abbrev is_shown : Show → Impact → Bool
is_shown show i = is_among show (is_hit i)

kept_one : (show : Show) (i : Impact) (b : Bool) → is_shown show i ≡ b → (left right : List Impact) → left ≡ filter (is_shown show) right
    → cons_option (if b then Some i else None) left ≡ (if b then i ∷ filter (is_shown show) right else filter (is_shown show) right)
kept_one show i true is left right same = ap (λ l. i ∷ l) same
kept_one show i false is left right same = same

one_shown : (show : Show) (o : Option Impact) (left right : List Impact) → left ≡ filter (is_shown show) right
    → cons_option (shown_by show o) left ≡ filter (is_shown show) (cons_option o right)
one_shown show None left right same = same
one_shown show (Some i) left right same = kept_one show i (is_shown show i) refl left right same

-- what the shown ones of the active results do is what the shown ones of all do, if a suppressed one does nothing
module _ (show : Show) (does : Judged → Option Impact) (quiet : (r : Judged) → r.suppressed ≡ true → does r ≡ None) where
  one_active : (r : Judged) (rs : List Judged) (b : Bool) → r.suppressed ≡ b
      → filter_map (shown_by show) (map does (active_in rs)) ≡ filter (is_shown show) (filter_map does rs)
      → filter_map (shown_by show) (map does (active_in (r ∷ rs))) ≡ filter (is_shown show) (filter_map does (r ∷ rs))
  one_active r rs true is rest =
      ap (λ b. filter_map (shown_by show) (map does (if not b then r ∷ active_in rs else active_in rs))) is ∙ rest
      ∙ sym (ap (λ o. filter (is_shown show) (cons_option o (filter_map does rs))) (quiet r is))
  one_active r rs false is rest =
      ap (λ b. filter_map (shown_by show) (map does (if not b then r ∷ active_in rs else active_in rs))) is
      ∙ one_shown show (does r) (filter_map (shown_by show) (map does (active_in rs))) (filter_map does rs) rest

  pub shown_active : (rs : List Judged) → filter_map (shown_by show) (map does (active_in rs)) ≡ filter (is_shown show) (filter_map does rs)
  shown_active [] = refl
  shown_active (r ∷ rs) = one_active r rs r.suppressed refl (shown_active rs)
