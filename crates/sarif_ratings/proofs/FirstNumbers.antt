-- The number of the first rule with an id leads to that rule.
use Rattle.std.proofs.Common.{◌≡◌, ◌+◌, ◌++◌, ◌∙◌, ℕ, Bool, true, false, cond, List, [], ◌∷◌, Option, Some, None, length, slice_get, option_and_then, find, refl, sym, ap, arith}
use Rattle.std.specs.Prelude.{if◌then◌else◌}
use Rattle.std.specs.Option.{option_or}
use Rattle.std.proofs.lemmas.List.{append_assoc, length-append, length_push}
use Rattle.std.proofs.lemmas.Option.{slice_get_read}
use Rattle.std.proofs.Math.Seq.{get_or-append_seam}
use Rattle.serde_json.specs.Data.{Data}
use Rattle.sarif_findings.specs.Lookup.{has_id}
use Rattle.sarif_ratings.specs.Internal.Tables.{first_number}

-- a number that is put at its id, where none was there
pub put_number : (here : Bool) (had has : Option ℕ) (n : ℕ) (said : Bool) → said ≡ here
    → has ≡ cond here (Some n) had → (here ≡ true → had ≡ None)
    → has ≡ option_or had (if said then Some n else None)
put_number true had has n said is put none = rw (put, none refl, is) refl
put_number false None has n said is put none = rw (put, is) refl
put_number false (Some r) has n said is put none = put

-- one more rule is seen
pub or_more : (had : Option ℕ) (here : Bool) (n : ℕ) (later : Option ℕ)
    → option_or (option_or had (if here then Some n else None)) later
    ≡ option_or had (if here then Some n else later)
or_more None true n later = refl
or_more None false n later = refl
or_more (Some m) true n later = refl
or_more (Some m) false n later = refl

-- the rule that a number leads to, where the number depends on a test
led : (f : ℕ → Option Data) (here : Bool) (n : ℕ) (later : Option ℕ)
    → option_and_then f (if here then Some n else later)
    ≡ (if here then f n else option_and_then f later)
led f true n later = refl
led f false n later = refl

-- the rules that follow others
after : (id : List ℕ) (before rules : List Data)
    → option_and_then (slice_get (before ++ rules)) (first_number id (length before) rules)
    ≡ find (has_id id) rules
after id before [] = refl
after id before (rule ∷ rules) =
    let whole = before ++ rule ∷ rules in
    let here : slice_get whole (length before) ≡ Some rule =
    slice_get_read whole (length whole) (length before) rule refl (omega (arith, length-append before (rule ∷ rules))) (sym (get_or-append_seam before rule rules rule)) in
    let rest : option_and_then (slice_get whole) (first_number id (length before + 1) rules) ≡ find (has_id id) rules =
    sym (ap (λ l. option_and_then (slice_get l) (first_number id (length before + 1) rules)) (append_assoc before (rule ∷ []) rules))
    ∙ sym (ap (λ n. option_and_then (slice_get ((before ++ rule ∷ []) ++ rules)) (first_number id n rules)) (length_push before rule))
    ∙ after id (before ++ rule ∷ []) rules in
    led (slice_get whole) (has_id id rule) (length before) (first_number id (length before + 1) rules)
    ∙ ap (λ t. if has_id id rule then t else option_and_then (slice_get whole) (first_number id (length before + 1) rules)) here
    ∙ ap (λ t. if has_id id rule then Some rule else t) rest

pub first_led : (id : List ℕ) (rules : List Data)
    → option_and_then (slice_get rules) (first_number id 0 rules) ≡ find (has_id id) rules
first_led id rules = after id [] rules
