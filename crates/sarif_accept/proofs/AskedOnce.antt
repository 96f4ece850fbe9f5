-- The conditions of the entries of results, each once.
use Rattle.std.proofs.Common.{◌≡◌, ℕ, suc, ◌+◌, ◌<◌, ◌≤◌, Bool, true, false, cond, if◌then◌else◌, ◌||◌, List, [], ◌∷◌, ◌++◌, length, Bor, map, drop, slice_index_or, refl, sym, ap, ◌∙◌, arith, length-append}
use Rattle.std.specs.List.{list_any}
use Rattle.std.proofs.lemmas.List.Folds.{list_any-append}
use Rattle.std.proofs.lemmas.List.{append_assoc}
use Rattle.indexmap.specs.IndexSet.{IndexSet, Updates, contains}
use Rattle.sarif_model.specs.Limits.{most_entries}
use Rattle.sarif_model.specs.declared.record.Record.{Record}
use Rattle.sarif_entries.specs.declared.condition.Condition.{Condition}
use Rattle.sarif_accept.specs.Adding.{is_said, same_conditions, once_each}
use Rattle.sarif_accept.specs.Internal.Asked.{HasAsked, IsSameList}
use Rattle.sarif_accept.specs.Entry.{conditions_for}
use Rattle.sarif_accept.proofs.Flags.{left_of}

pub either : (a b : Bool) → cond a true b ≡ (b || (a || false))
either true true = refl
either true false = refl
either false true = refl
either false false = refl

-- the conditions of one more entry
pub one_more : {S : Type 0} (old new : IndexSet (List Condition) S) (a : List Condition) (r : Record) (records : List Record)
    → a ≡ conditions_for r → Updates same_conditions old new a true
    → HasAsked old records → HasAsked new (records ++ r ∷ [])
one_more old new a r records is updates has = λ q.
    let test : Record → Bool = λ x. same_conditions (conditions_for x) q in
    let here : same_conditions a q ≡ test r = ap (λ c. same_conditions c q) is in
    updates.0 q ∙ rw (here, has q) (either (test r) (list_any test records)) ∙ sym (list_any-append test records (r ∷ []))

-- whether the set has the conditions of an entry says whether one of the records asks the same
pub said_there : {S : Type 0} (set : IndexSet (List Condition) S) (a : List Condition) (r : Record) (records : List Record) (b : Bool)
    → a ≡ conditions_for r → HasAsked set records
    → contains same_conditions set a ≡ b → list_any (is_said r) records ≡ b
said_there set a r records b is has there = sym (has (conditions_for r)) ∙ ap (λ q. contains same_conditions set q) (sym is) ∙ there

-- the results once each, where it is known whether the entry of the first of the rest is new
abbrev with_first : List Record → Record → List Record → Bool → List Record
with_first records r rest said = records ++ (if said then once_each records rest else r ∷ once_each (records ++ r ∷ []) rest)

pub same_where_said : (records rest : List Record) (r : Record) → list_any (is_said r) records ≡ true → IsSameList records rest records (r ∷ rest)
same_where_said records rest r said = ap (with_first records r rest) (sym said)

pub same_where_new : (records rest : List Record) (r : Record) → list_any (is_said r) records ≡ false → IsSameList (records ++ r ∷ []) rest records (r ∷ rest)
same_where_new records rest r said = append_assoc records (r ∷ []) (once_each (records ++ r ∷ []) rest) ∙ ap (with_first records r rest) (sym said)

pub long_where_new : (records rest : List Record) (r : Record) → most_entries ≤ length records → list_any (is_said r) records ≡ false
    → most_entries < length (records ++ once_each records (r ∷ rest))
long_where_new records rest r full said =
    let whole : length (records ++ once_each records (r ∷ rest)) ≡ length (records ++ r ∷ once_each (records ++ r ∷ []) rest) =
    ap (λ b. length (with_first records r rest b)) said in
    let longer : length (records ++ r ∷ once_each (records ++ r ∷ []) rest)
    ≡ length records + suc (length (once_each (records ++ r ∷ []) rest)) = length-append records (r ∷ once_each (records ++ r ∷ []) rest) in
    omega (arith, full, whole, longer)

-- the list gets too long at this result
pub goes_past : (accepted : List (Bor Record)) (done : List Record) (n : ℕ) (r : Bor Record) → n < length accepted → r ≡ slice_index_or accepted n r
    → done ++ once_each done (map (λ r. r.now) (drop n accepted)) ≡ once_each [] (map (λ r. r.now) accepted)
    → ((rest : List Record) → most_entries < length (done ++ once_each done (r.now ∷ rest))) → most_entries < length (once_each [] (map (λ r. r.now) accepted))
goes_past accepted done n r within is told long =
    let split : drop n accepted ≡ r ∷ drop (n + 1) accepted = left_of accepted n r within is in
    let whole : done ++ once_each done (r.now ∷ map (λ r. r.now) (drop (n + 1) accepted)) ≡ once_each [] (map (λ r. r.now) accepted) = rw split at told in
    rw (← whole) (long (map (λ r. r.now) (drop (n + 1) accepted)))
