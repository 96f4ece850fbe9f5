-- The current results among all.
use Rattle.std.proofs.Common.{◌≡◌, Bool, true, false, not, ◌&&◌, ◌||◌, List, [], ◌∷◌, map, refl, ap, ◌∙◌, if◌then◌else◌}
use Rattle.std.specs.List.{list_any}
use Rattle.sarif_model.specs.declared.record.Record.{Record}
use Rattle.sarif_conditions.specs.Decided.{currents, is_absent}
use Rattle.sarif_conditions.specs.Judged.{Judged, judged_of}
use Rattle.sarif_conditions.specs.declared.judged.JudgedResult.{JudgedResult}

-- one of the current results passes
any_of : (p : Record → Bool) (rs : List Judged)
    → list_any (λ (r : Judged). not (is_absent r.state) && p r.found) rs ≡ list_any p (currents rs)
any_of p [] = refl
any_of p (r ∷ rs) =
    elim (is_absent r.state) as (λ b. (not b && p r.found || list_any (λ (r : Judged). not (is_absent r.state) && p r.found) rs)
    ≡ list_any p (if b then currents rs else r.found ∷ currents rs)) [
      | true ↦ any_of p rs
      | false ↦ ap (λ b. p r.found || b) (any_of p rs)
    ]

any_borrowed : (p : Record → Bool) (rs : List JudgedResult)
    → list_any (λ (r : JudgedResult). not (is_absent r.state) && p r.record.now) rs
    ≡ list_any (λ (r : Judged). not (is_absent r.state) && p r.found) (map judged_of rs)
any_borrowed p [] = refl
any_borrowed p (r ∷ rs) = ap (λ b. (not (is_absent r.state) && p r.record.now) || b) (any_borrowed p rs)

pub any_current : (found : Bool) (p : Record → Bool) (rs : List JudgedResult)
    → found ≡ list_any (λ (r : JudgedResult). not (is_absent r.state) && p r.record.now) rs → found ≡ list_any p (currents (map judged_of rs))
any_current found p rs is = is ∙ any_borrowed p rs ∙ any_of p (map judged_of rs)
