-- A loop that reads one value after the other gives what reading each gives.
use Rattle.std.proofs.Common.{◌≡◌, List, [], ◌∷◌, ◌++◌, Result, Ok, Err, refl, ap, ◌∙◌, sym, append_assoc, append-nil}
use Rattle.sarif_model.specs.Members.{◌>>=◌, result_map, read_each}

-- the values so far, before those of the rest
abbrev pub before : {X E : Type 0} → List X → Result (List X) E → Result (List X) E
before ys r = result_map (λ rest. ys ++ rest) r

pub begins : {X E : Type 0} (r : Result (List X) E) → before [] r ≡ r
begins (Ok ys) = refl
begins (Err e) = refl

pub before-push : {X E : Type 0} (ys : List X) (y : X) (r : Result (List X) E)
    → before ys (result_map (λ rest. y ∷ rest) r) ≡ before (ys ++ y ∷ []) r
before-push ys y (Ok rest) = ap Ok (sym (append_assoc ys (y ∷ []) rest))
before-push ys y (Err e) = refl

pub goes_on : {A X E : Type 0} (read : A → Result X E) (ys : List X) (x : A) (xs : List A) (y : X)
    → read x ≡ Ok y
    → before ys (read_each read (x ∷ xs)) ≡ before (ys ++ y ∷ []) (read_each read xs)
goes_on read ys x xs y e =
    ap (λ r. before ys (r >>= λ z. result_map (λ rest. z ∷ rest) (read_each read xs))) e
    ∙ before-push ys y (read_each read xs)

pub stops : {A X E : Type 0} (read : A → Result X E) (ys : List X) (x : A) (xs : List A) (e : E)
    → read x ≡ Err e → before ys (read_each read (x ∷ xs)) ≡ Err e
stops read ys x xs e h =
    ap (λ r. before ys (r >>= λ z. result_map (λ rest. z ∷ rest) (read_each read xs))) h

pub at_end : {A X E : Type 0} (read : A → Result X E) (ys : List X)
    → before ys (read_each read []) ≡ Ok ys
at_end read ys = ap Ok (append-nil ys)

pub ruleset read_steps = (begins, goes_on, stops, at_end)
