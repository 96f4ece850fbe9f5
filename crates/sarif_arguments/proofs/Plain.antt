-- Arguments that name no file.
use Rattle.std.proofs.Common.{◌≡◌, ◌∙◌, ◌∷◌, ◌||◌, [], List, ℕ, Bool, true, false, true≢false, refl, ap, subst}
use Rattle.std.specs.Prelude.{None, Some, Ok, Err, Option, is_some, MatchOption, MatchResult}
use Rattle.std.specs.List.{list_any}
use Rattle.sarif_arguments.specs.Reading.{Read}
use Rattle.sarif_arguments.specs.Replaced.{AreReplaced, Arguments, StandFor, StandsFor, before, file_in, file_named, given_by, is_end, names_file, some_left}

neither : (a b : Bool) → (a || b) ≡ false → (a ≡ false) × (b ≡ false)
neither true b e = absurd (true≢false e)
neither false b e = (refl, e)

none_there : {A : Type 0} (x : Option A) → is_some x ≡ false → x ≡ None
none_there None e = refl
none_there (Some x) e = absurd (true≢false e)

none_in : (is_ended : Bool) (word : List ℕ) → file_named word ≡ None → file_in is_ended word ≡ None
none_in true word e = refl
none_in false word e = e

-- such an argument is left unchanged
one : (gives : List ℕ → Read → Type 0) (is_ended : Bool) (word : List ℕ) (all : Arguments)
    → file_named word ≡ None → StandsFor gives is_ended word all → all ≡ Ok (word ∷ [])
one gives is_ended word all e stands =
    subst (λ (file : Option (List ℕ)). MatchOption file (all ≡ Ok (word ∷ [])) (λ name. (read : Read) × gives name read × (all ≡ given_by name read)))
    (none_in is_ended word e) stands

more : (gives : List ℕ → Read → Type 0) (is_ended : Bool) (word : List ℕ) (words : List (List ℕ)) (first all : Arguments)
    → first ≡ Ok (word ∷ [])
    → ((ended : Bool) (others : Arguments) → StandFor gives ended words others → others ≡ Ok words)
    → MatchResult first
    (λ given. (others : Arguments) × StandFor gives (is_ended || list_any is_end given) words others × (all ≡ before given others))
    (λ fault. all ≡ Err fault)
    → all ≡ Ok (word ∷ words)
more gives is_ended word words first all e rest found =
    let P : Arguments → Type 0 = λ r. MatchResult r
    (λ given. (others : Arguments) × StandFor gives (is_ended || list_any is_end given) words others × (all ≡ before given others))
    (λ fault. all ≡ Err fault) in
    let step = subst P e found in
    step.2 ∙ ap (before (word ∷ [])) (rest (is_ended || list_any is_end (word ∷ [])) step.0 step.1)

pub plain : (gives : List ℕ → Read → Type 0) (words : List (List ℕ)) (is_ended : Bool) (all : Arguments)
    → list_any names_file words ≡ false → StandFor gives is_ended words all → all ≡ Ok words
plain gives [] is_ended all none stand = stand
plain gives (word ∷ words) is_ended all none stand =
    let apart = neither (names_file word) (list_any names_file words) none in
    more gives is_ended word words stand.0 all (one gives is_ended word stand.0 (none_there (file_named word) apart.0) stand.1)
    (λ ended others found. plain gives words ended others apart.1 found) stand.2

some : (words : List (List ℕ)) → some_left words (Ok words) ≡ Ok words
some [] = refl
some (word ∷ words) = refl

pub plain_replaced : (gives : List ℕ → Read → Type 0) (words : List (List ℕ)) (all : Arguments)
    → list_any names_file words ≡ false → AreReplaced gives words all → all ≡ Ok words
plain_replaced gives words all none replaced =
    replaced.2 ∙ ap (some_left words) (plain gives words false replaced.0 none replaced.1) ∙ some words
