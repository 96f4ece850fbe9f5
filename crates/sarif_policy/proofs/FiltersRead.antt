-- The filters of a policy that was read.
use Rattle.std.proofs.Common.{◌≡◌, ◌+◌, ℕ, Bool, true, false, List, [], ◌∷◌, ◌++◌, Option, Some, None, Result, Ok, Err, ok_or, refl, sym, subst, ap, if◌then◌else◌}
use Rattle.std.specs.Prelude.{codes, is_none, not, unwrap_or, ◌||◌}
use Rattle.std.specs.List.{AllByRecursion}
use Rattle.serde_json.specs.Data.{Data}
use Rattle.json_parts.specs.Indexed.{json_of}
use Rattle.json_parts.specs.Mark.{without_mark}
use Rattle.sarif_model.specs.Members.{◌>>=◌, result_map}
use Rattle.sarif_entries.specs.declared.entry.Entry.{Entry}
use Rattle.sarif_entries.specs.Matching.{is_empty}
use Rattle.sarif_policy.specs.Condition.{filter_with}
use Rattle.sarif_policy.specs.Laws.{FiltersHaveNoMax, HasNoMax, HaveNoMax}
use Rattle.sarif_policy.specs.Fault.{in_condition, in_filter, unless_fault, whole}
use Rattle.sarif_policy.specs.File.{check_count, check_list, conditions_from, is_first, policy_of, policy_of_value}
use Rattle.sarif_policy.specs.Reading.{bare_of, condition_of, except_of, filter_conditions, filter_of, filtered_of, filters_at, filters_from, has_same_name, if_accepted, is_object_of, only_of, with_filters}
use Rattle.sarif_policy.specs.declared.condition.GateCondition.{GateCondition}
use Rattle.sarif_policy.specs.declared.members.Part.TheVariants.{Filter}
use Rattle.sarif_policy.specs.declared.fault.FilterList.{FilterList}
use Rattle.sarif_policy.specs.declared.fault.PolicyCause.TheVariants.{BadCondition, BadFilter, EmptyFilter, NeedsDiff, NotJson, SameName, WrongVersion}
use Rattle.sarif_policy.specs.declared.fault.FilterList.TheVariants.{Only, Except}
use Rattle.sarif_policy.specs.declared.fault.PolicyFault.{PolicyFault}

bind_ok : {A B E : Type 0} (m : Result A E) (f : A → Result B E) (y : B) → (m >>= f) ≡ Ok y → (x : A) × (m ≡ Ok x) × (f x ≡ Ok y)
bind_ok (Ok x) f y is = (x, refl, is)
bind_ok (Err e) f y is = let never : ⊥ = cc in absurd never

ok_is : {A E : Type 0} (x y : A) → ◌≡◌ {A = Result A E} (Ok x) (Ok y) → x ≡ y
ok_is x y is = cc

-- ---- filters

filter_plain : (n : ℕ) (list : FilterList) (k : ℕ) (d : Data) (e : Entry) → filter_of n list k d ≡ Ok e → HasNoMax e
unfolding filter_of
filter_plain n list k d e is =
    let known = bind_ok (unless_fault (is_object_of Filter d) (in_filter n list k BadFilter)) _ e is in
    let read = bind_ok (filter_conditions (in_filter n list k BadFilter) d) _ e known.2 in
    let named = bind_ok (unless_fault (not (is_empty read.0)) (in_filter n list k EmptyFilter)) _ e read.2 in
    ap (λ (x : Entry). x.limit) (sym (ok_is (filter_with read.0) e named.2))

with_more : (es : List Entry) (e : Entry) → AllByRecursion HasNoMax es → HasNoMax e → AllByRecursion HasNoMax (es ++ e ∷ [])
with_more [] e all one = (one, tt)
with_more (x ∷ es) e all one = (all.0, with_more es e all.1 one)

filters_plain : (n : ℕ) (list : FilterList) (k : ℕ) (es : List Entry) (ds : List Data) (all : List Entry) → AllByRecursion HasNoMax es
    → filters_from n list k es ds ≡ Ok all → AllByRecursion HasNoMax all
unfolding filters_from
filters_plain n list k es [] all before is = subst (AllByRecursion HasNoMax) (ok_is es all is) before
filters_plain n list k es (d ∷ ds) all before is =
    let first = bind_ok (filter_of n list k d) _ all is in
    filters_plain n list (k + 1) (es ++ first.0 ∷ []) ds all (with_more es first.0 before (filter_plain n list k d first.0 first.1)) first.2

some_read : (r : Result (List Entry) PolicyFault) (o : Option (List Entry)) → ((es : List Entry) → r ≡ Ok es → AllByRecursion HasNoMax es)
    → result_map Some r ≡ Ok o → AllByRecursion HasNoMax (unwrap_or o [])
some_read (Ok es) o plain is = subst (λ p. AllByRecursion HasNoMax (unwrap_or p [])) (ok_is (Some es) o is) (plain es refl)
some_read (Err fault) o plain is = let never : ⊥ = cc in absurd never

only_plain : (n : ℕ) (ds : Option (List Data)) (o : Option (List Entry)) → only_of n ds ≡ Ok o → AllByRecursion HasNoMax (unwrap_or o [])
only_plain n None o is = subst (λ p. AllByRecursion HasNoMax (unwrap_or p [])) (ok_is None o is) tt
only_plain n (Some ds) o is = some_read (filters_from n Only 0 [] ds) o (λ es read. filters_plain n Only 0 [] ds es tt read) is

except_plain : (n : ℕ) (ds : Option (List Data)) (es : List Entry) → except_of n ds ≡ Ok es → AllByRecursion HasNoMax es
except_plain n None es is = subst (AllByRecursion HasNoMax) (ok_is [] es is) tt
except_plain n (Some ds) es is = filters_plain n Except 0 [] ds es tt is

-- ---- conditions

with_plain : (n : ℕ) (bare : GateCondition) (only except : Option (List Data)) (c : GateCondition) → with_filters n bare only except ≡ Ok c
    → FiltersHaveNoMax c
unfolding with_filters
with_plain n bare only except c is =
    let chosen = bind_ok (only_of n only) _ c is in
    let left_out = bind_ok (except_of n except) _ c chosen.2 in
    let made : record bare { only = chosen.0; except = left_out.0 } ≡ c = ok_is (record bare { only = chosen.0; except = left_out.0 }) c left_out.2 in
    subst FiltersHaveNoMax made (only_plain n only chosen.0 chosen.1, except_plain n except left_out.0 left_out.1)

filtered_plain : (n : ℕ) (d : Data) (c : GateCondition) → filtered_of n d ≡ Ok c → FiltersHaveNoMax c
unfolding filtered_of
filtered_plain n d c is =
    let only = bind_ok (filters_at (in_condition n BadCondition) (codes "only") d) _ c is in
    let except = bind_ok (filters_at (in_condition n BadCondition) (codes "except") d) _ c only.2 in
    let bare = bind_ok (bare_of (in_condition n BadCondition) d) _ c except.2 in
    with_plain n bare.0 only.0 except.0 c bare.2

accepted_is : (diff : Bool) (n : ℕ) (earlier : List GateCondition) (c e : GateCondition) → if_accepted diff n earlier c ≡ Ok e → c ≡ e
accepted_is diff n earlier c e is = by_name (has_same_name earlier c) is
  where
    by_diff : (b : Bool) (wrong : PolicyFault) → (if b then Ok c else Err wrong) ≡ Ok e → c ≡ e
    by_diff true wrong same = ok_is c e same
    by_diff false wrong same = let never : ⊥ = cc in absurd never

    by_name : (b : Bool)
        → (if b then Err (in_condition n SameName) else (if diff || is_none c.diff then Ok c else Err (in_condition n NeedsDiff))) ≡ Ok e → c ≡ e
    by_name true same = let never : ⊥ = cc in absurd never
    by_name false same = by_diff (diff || is_none c.diff) (in_condition n NeedsDiff) same

condition_plain : (diff : Bool) (n : ℕ) (earlier : List GateCondition) (d : Data) (c : GateCondition) → condition_of diff n earlier d ≡ Ok c
    → FiltersHaveNoMax c
unfolding condition_of
condition_plain diff n earlier d c is =
    let read = bind_ok (filtered_of n d) (if_accepted diff n earlier) c is in
    subst FiltersHaveNoMax (accepted_is diff n earlier read.0 c read.2) (filtered_plain n d read.0 read.1)

more_conditions : (cs : List GateCondition) (c : GateCondition) → HaveNoMax cs → FiltersHaveNoMax c → HaveNoMax (cs ++ c ∷ [])
more_conditions [] c all one = (one, tt)
more_conditions (x ∷ cs) c all one = (all.0, more_conditions cs c all.1 one)

conditions_plain : (diff : Bool) (n : ℕ) (cs : List GateCondition) (ds : List Data) (all : List GateCondition) → HaveNoMax cs
    → conditions_from diff n cs ds ≡ Ok all → HaveNoMax all
unfolding conditions_from
conditions_plain diff n cs [] all before is = subst HaveNoMax (ok_is cs all is) before
conditions_plain diff n cs (d ∷ ds) all before is =
    let first = bind_ok (condition_of diff n cs d) _ all is in
    conditions_plain diff (n + 1) (cs ++ first.0 ∷ []) ds all
    (more_conditions cs first.0 before (condition_plain diff n cs d first.0 first.1)) first.2

value_plain : (diff : Bool) (d : Data) (cs : List GateCondition) → policy_of_value diff d ≡ Ok cs → HaveNoMax cs
unfolding policy_of_value
value_plain diff d cs is =
    let list = bind_ok (check_list d) _ cs is in
    let first = bind_ok (unless_fault (is_first d) (whole WrongVersion)) _ cs list.2 in
    let count = bind_ok (check_count list.0) _ cs first.2 in
    conditions_plain diff 0 [] list.0 cs tt count.2

pub no_max_is_read : (bytes : List ℕ) (diff : Bool) (cs : List GateCondition) → policy_of bytes diff ≡ Ok cs → HaveNoMax cs
unfolding policy_of
no_max_is_read bytes diff cs is =
    let read = bind_ok (ok_or (json_of (without_mark bytes)) (whole NotJson)) (policy_of_value diff) cs is in
    value_plain diff read.0 cs read.2
