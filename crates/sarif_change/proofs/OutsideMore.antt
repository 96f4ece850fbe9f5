-- No result is outside that has a location in the change.
use Rattle.std.proofs.Common.{◌≡◌, ◌≤◌, ◌<◌, inl, inr, ℕ, suc, zero, Bool, true, false, not, ◌&&◌, ◌||◌, List, [], ◌∷◌, length, get_or, Option, Some, None, refl, sym, ap, ◌∙◌, arith}
use Rattle.std.specs.Prelude.{nat_le, option_map, unwrap_or}
use Rattle.std.specs.List.{list_any, list_all, Contains}
use Rattle.std.proofs.lemmas.Bool.Decides.{nat_tests}
use Rattle.std.proofs.lemmas.List.Folds.{list_any_at}
use Rattle.sarif_diff.specs.declared.section.Section.{Section}
use Rattle.sarif_diff.specs.declared.section.Span.{Span}
use Rattle.sarif_change.specs.Meeting.{touches, changes, may_be, meets}
use Rattle.sarif_change.specs.Outside.{Covers, IsChangedAt, IsInChange, is_missed, lines_in, is_outside, are_missed, is_met}
use Rattle.sarif_change.specs.declared.spots.Scope.{Scope}
use Rattle.sarif_change.specs.declared.spots.Spot.{Spot}
use Rattle.sarif_change.specs.declared.spots.Spots.{Spots}

-- ---- a place in the change is met

or_true : (a : Bool) → (a || true) ≡ true
or_true true = refl
or_true false = refl

and_true : (a b : Bool) → a ≡ true → b ≡ true → (a && b) ≡ true
and_true a b h i = rw (h, i) refl

and_false : (a : Bool) → (a && false) ≡ false
and_false true = refl
and_false false = refl

three_false : (a b : Bool) → (a && b && false) ≡ false
three_false true true = refl
three_false true false = refl
three_false false b = refl

last_true : (b : Bool) → (true && b && true) ≡ b
last_true true = refl
last_true false = refl

touching : (first last asked_first asked_last n : ℕ) → first ≤ n → n ≤ last → asked_first ≤ n → n ≤ asked_last
    → (nat_le first asked_last && nat_le asked_first last) ≡ true
touching first last asked_first asked_last n a b c d = grind (arith, nat_tests)

covers_any : (s : Section) (lines : Span) → Covers s lines → list_any (touches lines) s.spans ≡ true
covers_any s lines c =
    list_any_at (touches lines) s.spans c.is_changed.0 c.span c.is_changed.1
    (ap (λ span. touches lines span) c.is_changed.2
    ∙ touching c.span.first c.span.last lines.first lines.last c.line c.in_span.0 c.in_span.1 c.in_lines.0 c.in_lines.1)

changes_there : (lines : Option Span) (s : Section) → IsChangedAt lines s → changes lines s ≡ true
changes_there None s h = refl
changes_there (Some lines) s (inl whole) = rw whole refl
changes_there (Some lines) s (inr covers) = ap (λ b. s.whole || b) (covers_any s lines covers) ∙ or_true s.whole

meets_there : (sections : List Section) (roots : List (List ℕ)) (uri : List ℕ) (lines : Option Span) (s : Section)
    → Contains sections s → may_be roots uri s ≡ true → IsChangedAt lines s → meets sections roots uri lines ≡ true
meets_there sections roots uri lines s among may changed =
    list_any_at (λ t. may_be roots uri t && changes lines t) sections among.0 s among.1
    (ap (λ t. may_be roots uri t && changes lines t) among.2 ∙ and_true (may_be roots uri s) (changes lines s) may (changes_there lines s changed))

-- ---- so the result isn't outside

not_all : (test : Spot → Bool) (spots : List Spot) (k : ℕ) (d : Spot) → k < length spots → test (get_or spots k d) ≡ false → list_all test spots ≡ false
not_all test [] k d within h = absurd (omega arith)
not_all test (s ∷ ss) zero d within h = rw h refl
not_all test (s ∷ ss) (suc k) d within h = ap (λ b. test s && b) (not_all test ss k d (omega arith) h) ∙ and_false (test s)

pub none_missed : (sections : List Section) (roots : List (List ℕ)) (scope : Scope) (spots : List Spot) → length spots ≡ 0
    → false ≡ are_missed sections roots scope spots
none_missed sections roots scope [] h = refl
none_missed sections roots scope (s ∷ ss) h = absurd (omega arith)

pub all_missed : (sections : List Section) (roots : List (List ℕ)) (scope : Scope) (spots : List Spot) → 0 < length spots
    → true ≡ list_all (is_missed sections roots scope) spots → true ≡ are_missed sections roots scope spots
all_missed sections roots scope [] some h = absurd (omega arith)
all_missed sections roots scope (s ∷ ss) some h = h

pub not_missed : (sections : List Section) (roots : List (List ℕ)) (scope : Scope) (spots : List Spot)
    → false ≡ list_all (is_missed sections roots scope) spots → false ≡ are_missed sections roots scope spots
not_missed sections roots scope [] h = refl
not_missed sections roots scope (s ∷ ss) h = h

pub never_outside : (sections : List Section) (roots : List (List ℕ)) (scope : Scope) (spots : Spots) (spot : Spot)
    → Contains spots.locations spot → IsInChange sections roots scope spot → is_outside sections roots scope spots ≡ false
never_outside sections roots scope spots spot among there =
    let missed : is_missed sections roots scope spot ≡ false =
    ap (λ uri. not (unwrap_or (option_map (λ u. meets sections roots u (lines_in scope spot.region)) uri) true)) there.has_uri
    ∙ ap (λ b. not b) (meets_there sections roots there.uri (lines_in scope spot.region) there.section there.is_section there.may there.is_changed) in
    let none : are_missed sections roots scope spots.locations ≡ false =
    sym (not_missed sections roots scope spots.locations
    (sym (not_all (is_missed sections roots scope) spots.locations among.0 spot among.1
    (ap (λ s. is_missed sections roots scope s) among.2 ∙ missed)))) in
    rw none refl

-- ---- what is outside, test by test

pub kept_elsewhere : (sections : List Section) (roots : List (List ℕ)) (scope : Scope) (spots : Spots) → spots.elsewhere ≡ true
    → false ≡ is_outside sections roots scope spots
kept_elsewhere sections roots scope spots h =
    rw h (sym (three_false (are_missed sections roots scope spots.locations) (not (list_any (is_met sections roots scope) spots.others))))

pub not_each_missed : (sections : List Section) (roots : List (List ℕ)) (scope : Scope) (spots : Spots)
    → false ≡ are_missed sections roots scope spots.locations → false ≡ is_outside sections roots scope spots
not_each_missed sections roots scope spots h = rw (← h) refl

pub others_met : (sections : List Section) (roots : List (List ℕ)) (scope : Scope) (spots : Spots) (met : Bool) → spots.elsewhere ≡ false
    → true ≡ are_missed sections roots scope spots.locations
    → met ≡ list_any (is_met sections roots scope) spots.others → not met ≡ is_outside sections roots scope spots
others_met sections roots scope spots met kept missed is = rw (kept, ← missed, ← is) (sym (last_true (not met)))
