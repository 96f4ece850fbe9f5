-- Which hits are chosen, if only those at some places or of some rules are.
use Rattle.std.specs.Prelude.{ℕ, Bool, true, not, ◌&&◌, List, [], ◌∷◌, Option, None, bytes_eq, filter, option_map}
use Rattle.std.specs.List.{list_any, position}
use Rattle.std.specs.Option.{option_or}
use Rattle.sarif_findings.specs.declared.finding.Finding.{Finding}
use Rattle.sarif_findings.specs.Finding.{place}
use Rattle.sarif_choice.specs.declared.choice.Choice.{Choice}
use Rattle.sarif_choice.specs.declared.choice.Unfit.{Unfit}
use Rattle.sarif_choice.specs.declared.choice.Unfit.TheVariants.{Place, Rule}

-- the places that name a hit: the one that the text report prints for it, that without its column, and that without
-- column and line; a hit without a path has the place `-`
abbrev pub places_of : Finding → List (List ℕ)
places_of hit =
    place hit.path hit.line hit.column
    ∷ place hit.path hit.line None
    ∷ place hit.path None None ∷ []

-- the one rule of a hit, as reports show it; it is the empty string for a hit without a rule
abbrev pub rules_of : Finding → List (List ℕ)
rules_of hit = hit.rule ∷ []

-- a string fits a hit if it is one of these names of the hit
abbrev pub fits : (Finding → List (List ℕ)) → List ℕ → Finding → Bool
fits names text hit = list_any (bytes_eq text) (names hit)

-- no string is given, or one of them fits the hit
abbrev pub fits_one : (Finding → List (List ℕ)) → List (List ℕ) → Finding → Bool
fits_one names [] hit = true
fits_one names (text ∷ texts) hit = list_any (λ t. fits names t hit) (text ∷ texts)

-- one of the places fits the hit, and one of the rules, as far as any are given
abbrev pub is_chosen : Choice → Finding → Bool
is_chosen choice hit =
    fits_one places_of choice.places hit && fits_one rules_of choice.rules hit

-- the chosen ones of these hits
abbrev pub chosen_of : Choice → List Finding → List Finding
chosen_of choice hits = filter (is_chosen choice) hits

-- the number of the first string that fits none of these hits
abbrev pub unfit_among : (Finding → List (List ℕ)) → List (List ℕ) → List Finding → Option ℕ
unfit_among names texts hits =
    position (λ text. not (list_any (fits names text) hits)) texts

-- the first place that fits none of these chosen hits, or if there is none the first such rule
abbrev pub unfit_in : Choice → List Finding → Option Unfit
unfit_in choice chosen =
    option_or (option_map Place (unfit_among places_of choice.places chosen))
    (option_map Rule (unfit_among rules_of choice.rules chosen))

-- the first place or rule that fits no chosen one of these hits
abbrev pub unfit_of : Choice → List Finding → Option Unfit
unfit_of choice hits = unfit_in choice (chosen_of choice hits)
