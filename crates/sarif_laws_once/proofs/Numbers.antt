-- Each written result is counted once.
use Rattle.std.proofs.Common.{◌≡◌, ◌+◌, ℕ, Bool, true, false, ◌&&◌, List, [], ◌∷◌, Some, map, length, refl, arith}
use Rattle.sarif_model.specs.declared.kinds.Level.{Level}
use Rattle.sarif_model.specs.declared.kinds.Level.TheVariants.{NoLevel, Note, Warning, Error}
use Rattle.sarif_model.specs.declared.kinds.State.{State}
use Rattle.sarif_model.specs.declared.kinds.State.TheVariants.{New, Unchanged, Updated, Absent}
use Rattle.sarif_counts.specs.Counts.{same_state}
use Rattle.sarif_counts.specs.Hits.{Count, count_if}
use Rattle.sarif_counts.specs.Tally.{same_level, same_side}
use Rattle.sarif_log.specs.Internal.Texts.{counts_as, tallied, unless_taken}
use Rattle.sarif_results.specs.declared.draft.Draft.{Draft}
use Rattle.sarif_laws_once.specs.Totals.{of_level, of_state, results_counted}
use Rattle.sarif_laws_once.proofs.Apart.{unset_in}

-- ---- sums

level_same : (f g : Bool → ℕ) → ((b : Bool) → f b ≡ g b) → of_level f ≡ of_level g
level_same f g same =
    let active = same false in
    let suppressed = same true in
    omega (arith, active, suppressed)

pub state_same : (f g : Level → Bool → ℕ) → ((l : Level) (b : Bool) → f l b ≡ g l b) → of_state f ≡ of_state g
state_same f g same =
    let e = level_same (f Error) (g Error) (same Error) in
    let w = level_same (f Warning) (g Warning) (same Warning) in
    let n = level_same (f Note) (g Note) (same Note) in
    let o = level_same (f NoLevel) (g NoLevel) (same NoLevel) in
    omega (arith, e, w, n, o)

pub counted_same : (f g : Count) → ((s : State) (l : Level) (b : Bool) → f s l b ≡ g s l b) → results_counted f ≡ results_counted g
counted_same f g same =
    let n = state_same (f New) (g New) (same New) in
    let u = state_same (f Unchanged) (g Unchanged) (same Unchanged) in
    let p = state_same (f Updated) (g Updated) (same Updated) in
    let o = state_same (f Absent) (g Absent) (same Absent) in
    omega (arith, n, u, p, o)

pub state_add : (f g : Level → Bool → ℕ) → of_state (λ l b. f l b + g l b) ≡ of_state f + of_state g
state_add f g = omega arith

pub counted_add : (f g : Count) → results_counted (λ s l b. f s l b + g s l b) ≡ results_counted f + results_counted g
counted_add f g =
    let n = state_add (f New) (g New) in
    let u = state_add (f Unchanged) (g Unchanged) in
    let p = state_add (f Updated) (g Updated) in
    let o = state_add (f Absent) (g Absent) in
    omega (arith, n, u, p, o)

-- ---- one result

side_once : (suppressed : Bool) → of_level (λ b. count_if (same_side b suppressed) 1) ≡ 1
side_once true = refl
side_once false = refl

pub level_once : (level : Level) (suppressed : Bool) → of_state (λ l b. count_if (same_level l level && same_side b suppressed) 1) ≡ 1
level_once NoLevel suppressed = let once = side_once suppressed in omega (arith, once)
level_once Note suppressed = let once = side_once suppressed in omega (arith, once)
level_once Warning suppressed = let once = side_once suppressed in omega (arith, once)
level_once Error suppressed = let once = side_once suppressed in omega (arith, once)

state_once : (state : State) (level : Level) (suppressed : Bool)
    → results_counted (λ s l b. count_if (same_state s state && (same_level l level && same_side b suppressed)) 1) ≡ 1
state_once New level suppressed = let once = level_once level suppressed in omega (arith, once)
state_once Unchanged level suppressed = let once = level_once level suppressed in omega (arith, once)
state_once Updated level suppressed = let once = level_once level suppressed in omega (arith, once)
state_once Absent level suppressed = let once = level_once level suppressed in omega (arith, once)

-- ---- all results

pub all_tallied : (ds : List Draft) (ss : List State) → length ss ≡ length ds → results_counted (tallied ds (map Some ss)) ≡ length ds
all_tallied [] ss same = refl
all_tallied (d ∷ ds) [] same = absurd (omega (arith, same))
all_tallied (d ∷ ds) (s ∷ ss) same =
    let both = counted_add (counts_as (Some s) d) (tallied ds (map Some ss)) in
    let here = state_once s d.level d.suppressed in
    let rest = all_tallied ds ss (omega (arith, same)) in
    omega (arith, both, here, rest)

-- results that aren't matched
pub left_tallied : (ds : List Draft) (taken : List Bool) → length taken ≡ length ds
    → results_counted (tallied ds (map unless_taken taken)) ≡ unset_in taken
left_tallied [] [] same = refl
left_tallied [] (t ∷ taken) same = absurd (omega (arith, same))
left_tallied (d ∷ ds) [] same = absurd (omega (arith, same))
left_tallied (d ∷ ds) (true ∷ taken) same = let rest = left_tallied ds taken (omega (arith, same)) in omega (arith, rest)
left_tallied (d ∷ ds) (false ∷ taken) same =
    let both = counted_add (counts_as (Some Absent) d) (tallied ds (map unless_taken taken)) in
    let here = state_once Absent d.level d.suppressed in
    let rest = left_tallied ds taken (omega (arith, same)) in
    omega (arith, both, here, rest)
