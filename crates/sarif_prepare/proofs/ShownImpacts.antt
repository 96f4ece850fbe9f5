-- The findings of the results that are shown are those of all active results, each with what it does to the gate.
use Rattle.std.proofs.Common.{◌≡◌, ◌++◌, Bool, true, false, ◌&&◌, not, List, [], ◌∷◌, Option, Some, None, map, length, suc, refl, sym, ap, ◌∙◌, arith}
use Rattle.std.specs.Prelude.{⊤, cond, if◌then◌else◌}
use Rattle.std.specs.List.{cons_option}
use Rattle.serde_json.specs.Data.{Data}
use Rattle.sarif_conditions.specs.Decided.{impact_by, impact_of, is_hit, is_reported, is_stopping}
use Rattle.sarif_conditions.specs.Judged.{Judged}
use Rattle.sarif_counts.specs.declared.gate_verdict.Impact.{Impact}
use Rattle.sarif_findings.specs.Reported.{are_shown, finding_of}
use Rattle.sarif_findings.specs.declared.finding.Finding.{Finding}
use Rattle.sarif_findings.specs.declared.reporting.Reporting.{Reporting}
use Rattle.sarif_findings.specs.declared.reporting.Show.{Show}
use Rattle.sarif_log.specs.Internal.Copied.{mask, masked}
use Rattle.sarif_model.specs.declared.kinds.Level.{Level}
use Rattle.sarif_model.specs.declared.kinds.State.{State}
use Rattle.sarif_model.specs.declared.kinds.State.TheVariants.{New, Unchanged, Updated, Absent}
use Rattle.sarif_policy.specs.declared.condition.GateCondition.{GateCondition}
use Rattle.sarif_prepare.specs.Internal.Impacts.{all_shown, is_hidden, put_impacts}
use Rattle.sarif_prepare.specs.Internal.Telling.{told_as, told_each}
use Rattle.sarif_prepare.specs.Told.{active_in, of_all, shown_by, told_with, with_impact}
use Rattle.sarif_results.specs.declared.draft.Draft.{Draft}

-- ---- one result

all_are_shown : (reporting : Reporting) (state : State) (level : Level) → are_shown (of_all reporting) state level ≡ true
all_are_shown reporting New level = refl
all_are_shown reporting Unchanged level = refl
all_are_shown reporting Updated level = refl
all_are_shown reporting Absent level = refl

-- the finding of a result depends on whether it is active
told_active : (reporting : Reporting) (run d : Data) (draft : Draft) (state : State) (suppressed : Bool) → draft.suppressed ≡ suppressed
    → told_as (of_all reporting) run d draft (Some state)
    ≡ (if not suppressed then Some (finding_of (of_all reporting) run d draft.level state) else None)
told_active reporting run d draft state suppressed same =
    ap (λ b. if b && not draft.suppressed then Some (finding_of (of_all reporting) run d draft.level state) else None)
    (all_are_shown reporting state draft.level)
    ∙ ap (λ b. if not b then Some (finding_of (of_all reporting) run d draft.level state) else None) same

-- a suppressed result isn't reported
none_reported : (cs : List GateCondition) (r : Judged) → r.suppressed ≡ true → is_reported cs r ≡ false
none_reported [] r same = refl
none_reported (c ∷ cs) r same = rw same (none_reported cs r same)

pub no_impact : (cs : List GateCondition) (rs : List Judged) (r : Judged) → r.suppressed ≡ true → impact_of cs rs r ≡ None
no_impact cs rs r same =
    ap (λ b. if b then Some (impact_by (is_stopping cs rs r) (is_hit cs r)) else None) (none_reported cs r same)

-- ---- lists side by side

-- these results are suppressed where these drafts say so
abbrev pub AreActiveAs : List Judged → List Draft → Type 0
AreActiveAs [] ds = ⊤
AreActiveAs (r ∷ rs) [] = ⊤
AreActiveAs (r ∷ rs) (d ∷ ds) = (r.suppressed ≡ d.suppressed) × AreActiveAs rs ds

module _ (show : Show) (reporting : Reporting) (f : Judged → Option Impact) (quiet : (r : Judged) → r.suppressed ≡ true → f r ≡ None) where
  abbrev told : List (Data × Data) → List Draft → List (Option State) → List Finding
  told ps ds states = told_each (of_all reporting) ps ds states

  abbrev shown : List Judged → List (Option Impact)
  shown rs = map (shown_by show) (map f rs)

  abbrev left : List (Data × Data) → List Draft → List State → List Judged → List Finding
  left ps ds xs rs = put_impacts (told ps ds (masked (map is_hidden (shown rs)) (map Some xs))) (all_shown (shown rs))

  abbrev right : List (Data × Data) → List Draft → List State → List Judged → List Finding
  right ps ds xs rs = told_with show (map f (active_in rs)) (told ps ds (map Some xs))

  -- a result that may be shown, in front of others
  one_shown : (p : Data × Data) (d : Draft) (x : State) (i : Option Impact) (found : Finding)
      → told_as (of_all reporting) p.0 p.1 d (Some x) ≡ Some found → (rest : List Finding) (impacts : List Impact)
      → put_impacts (cons_option (told_as (of_all reporting) p.0 p.1 d (mask (is_hidden i) (Some x))) rest) (cons_option i impacts)
      ≡ cons_option (with_impact i found) (put_impacts rest impacts)
  one_shown p d x None found is rest impacts = refl
  one_shown p d x (Some impact) found is rest impacts = ap (λ o. put_impacts (cons_option o rest) (impact ∷ impacts)) is

  step : (p : Data × Data) (d : Draft) (x : State) (r : Judged) (ps : List (Data × Data)) (ds : List Draft) (xs : List State) (rs : List Judged)
      (suppressed : Bool) → r.suppressed ≡ suppressed → d.suppressed ≡ suppressed
      → left ps ds xs rs ≡ right ps ds xs rs → left (p ∷ ps) (d ∷ ds) (x ∷ xs) (r ∷ rs) ≡ right (p ∷ ps) (d ∷ ds) (x ∷ xs) (r ∷ rs)
  step p d x r ps ds xs rs true same_r same_d rest =
      let later = told ps ds (map Some xs) in
      let masks = masked (map is_hidden (shown rs)) (map Some xs) in
      ap (λ i. put_impacts (cons_option (told_as (of_all reporting) p.0 p.1 d (mask (is_hidden (shown_by show i)) (Some x))) (told ps ds masks))
      (cons_option (shown_by show i) (all_shown (shown rs)))) (quiet r same_r)
      ∙ rest
      ∙ sym (ap (λ b. told_with show (map f (cond (not b) (r ∷ active_in rs) (active_in rs)))
      (cons_option (told_as (of_all reporting) p.0 p.1 d (Some x)) later)) same_r
      ∙ ap (λ o. told_with show (map f (active_in rs)) (cons_option o later)) (told_active reporting p.0 p.1 d x true same_d))
  step p d x r ps ds xs rs false same_r same_d rest =
      let later = told ps ds (map Some xs) in
      let masks = masked (map is_hidden (shown rs)) (map Some xs) in
      let found = finding_of (of_all reporting) p.0 p.1 d.level x in
      one_shown p d x (shown_by show (f r)) found (told_active reporting p.0 p.1 d x false same_d) (told ps ds masks) (all_shown (shown rs))
      ∙ ap (cons_option (with_impact (shown_by show (f r)) found)) rest
      ∙ sym (ap (λ b. told_with show (map f (cond (not b) (r ∷ active_in rs) (active_in rs)))
      (cons_option (told_as (of_all reporting) p.0 p.1 d (Some x)) later)) same_r
      ∙ ap (λ o. told_with show (map f (r ∷ active_in rs)) (cons_option o later)) (told_active reporting p.0 p.1 d x false same_d))

  pub side_told : (ps : List (Data × Data)) (ds : List Draft) (xs : List State) (rs : List Judged)
      → length ds ≡ length ps → length xs ≡ length ps → length rs ≡ length ps → AreActiveAs rs ds → left ps ds xs rs ≡ right ps ds xs rs
  side_told [] [] [] [] same_d same_x same_r alike = refl
  side_told [] [] [] (r ∷ rs) same_d same_x same_r alike = absurd (omega (arith, same_r))
  side_told [] [] (x ∷ xs) rs same_d same_x same_r alike = absurd (omega (arith, same_x))
  side_told [] (d ∷ ds) xs rs same_d same_x same_r alike = absurd (omega (arith, same_d))
  side_told (p ∷ ps) [] xs rs same_d same_x same_r alike = absurd (omega (arith, same_d))
  side_told (p ∷ ps) (d ∷ ds) [] rs same_d same_x same_r alike = absurd (omega (arith, same_x))
  side_told (p ∷ ps) (d ∷ ds) (x ∷ xs) [] same_d same_x same_r alike = absurd (omega (arith, same_r))
  side_told (p ∷ ps) (d ∷ ds) (x ∷ xs) (r ∷ rs) same_d same_x same_r alike =
      step p d x r ps ds xs rs d.suppressed alike.0 refl
      (side_told ps ds xs rs (omega (arith, same_d)) (omega (arith, same_x)) (omega (arith, same_r)) alike.1)

  -- there is a finding for each active result
  many : (p : Data × Data) (d : Draft) (x : State) (r : Judged) (suppressed : Bool) → r.suppressed ≡ suppressed → d.suppressed ≡ suppressed
      → (rest : List Finding) (rs : List Judged) → length rest ≡ length (map f (active_in rs))
      → length (cons_option (told_as (of_all reporting) p.0 p.1 d (Some x)) rest) ≡ length (map f (active_in (r ∷ rs)))
  many p d x r true same_r same_d rest rs same =
      ap (λ o. length (cons_option o rest)) (told_active reporting p.0 p.1 d x true same_d) ∙ same
      ∙ sym (ap (λ b. length (map f (cond (not b) (r ∷ active_in rs) (active_in rs)))) same_r)
  many p d x r false same_r same_d rest rs same =
      ap (λ o. length (cons_option o rest)) (told_active reporting p.0 p.1 d x false same_d) ∙ ap suc same
      ∙ sym (ap (λ b. length (map f (cond (not b) (r ∷ active_in rs) (active_in rs)))) same_r)

  pub active_long : (ps : List (Data × Data)) (ds : List Draft) (xs : List State) (rs : List Judged)
      → length ds ≡ length ps → length xs ≡ length ps → length rs ≡ length ps → AreActiveAs rs ds
      → length (told ps ds (map Some xs)) ≡ length (map f (active_in rs))
  active_long [] [] [] [] same_d same_x same_r alike = refl
  active_long [] [] [] (r ∷ rs) same_d same_x same_r alike = absurd (omega (arith, same_r))
  active_long [] [] (x ∷ xs) rs same_d same_x same_r alike = absurd (omega (arith, same_x))
  active_long [] (d ∷ ds) xs rs same_d same_x same_r alike = absurd (omega (arith, same_d))
  active_long (p ∷ ps) [] xs rs same_d same_x same_r alike = absurd (omega (arith, same_d))
  active_long (p ∷ ps) (d ∷ ds) [] rs same_d same_x same_r alike = absurd (omega (arith, same_x))
  active_long (p ∷ ps) (d ∷ ds) (x ∷ xs) [] same_d same_x same_r alike = absurd (omega (arith, same_r))
  active_long (p ∷ ps) (d ∷ ds) (x ∷ xs) (r ∷ rs) same_d same_x same_r alike =
      many p d x r d.suppressed alike.0 refl (told ps ds (map Some xs)) rs
      (active_long ps ds xs rs (omega (arith, same_d)) (omega (arith, same_x)) (omega (arith, same_r)) alike.1)

-- ---- both sides

cons_both : {X : Type 0} (o : Option X) (xs ys : List X) → cons_option o (xs ++ ys) ≡ cons_option o xs ++ ys
cons_both None xs ys = refl
cons_both (Some x) xs ys = refl

pub told_both : (show : Show) (is js : List (Option Impact)) (fs gs : List Finding) → length fs ≡ length is
    → told_with show (is ++ js) (fs ++ gs) ≡ told_with show is fs ++ told_with show js gs
told_both show [] js [] gs same = refl
told_both show [] js (one ∷ fs) gs same = absurd (omega (arith, same))
told_both show (i ∷ is) js [] gs same = absurd (omega (arith, same))
told_both show (i ∷ is) js (one ∷ fs) gs same =
    ap (cons_option (with_impact (shown_by show i) one)) (told_both show is js fs gs (omega (arith, same)))
    ∙ cons_both (with_impact (shown_by show i) one) (told_with show is fs) (told_with show js gs)
