-- Runs that are put into the groups of their tools, in order, are those of each tool in order.
use Rattle.std.proofs.Common.{◌≡◌, ℕ, zero, suc, ◌+◌, ◌<◌, ◌≤◌, ◌==◌, Bool, true, false, not, ◌&&◌, ◌||◌, List, [], ◌∷◌, ◌++◌, map, filter, length, replicate, position, Some, None, bytes_eq, refl, sym, ap, ap₂, ◌∙◌, subst, true≢false, append_assoc, append-nil, if◌then◌else◌, arith, Bor, get_or}
use Rattle.std.specs.Prelude.{slice_set}
use Rattle.std.specs.List.{flat_map, list_any, position_or_len}
use Rattle.std.specs.declared.alloc.Global.{Global}
use Rattle.std.specs.declared.vec.Vec.{Vec}
use Rattle.std.proofs.lemmas.Grind.{common_steps}
use Rattle.std.proofs.lemmas.List.Quantifiers.{position-Some}
use Rattle.std.proofs.lemmas.List.Sums.{fails_before_first}
use Rattle.std.proofs.lemmas.Slice.Eq.{bytes_eq-Decides}
use Rattle.std.proofs.lemmas.Bool.{or_parts, or_right}
use Rattle.sarif_model.specs.declared.record.Record.{Record}
use Rattle.sarif_entries.specs.Matching.{is_empty}
use Rattle.sarif_known.specs.declared.chosen.KnownRun.{KnownRun}
use Rattle.sarif_known.specs.Chosen.{Chosen, all_chosen, chosen_of}
use Rattle.sarif_known.specs.Internal.Groups.{AreApart, groups_of, side_by_side, spread, texts_of}
use Rattle.sarif_evidence.specs.declared.version.MatchingVersion.{MatchingVersion}
use Rattle.sarif_known.specs.Order.{in_turn, known_runs, once_each, runs_of_tool, tools_of}

-- ---- the tools

by_test : (b : Bool) (before rest more : List (List ℕ)) (x : List ℕ)
    → (if b then before else before ++ x ∷ []) ++ (if b then rest else more) ≡ before ++ (if b then rest else x ∷ more)
by_test true before rest more x = refl
by_test false before rest more x = append_assoc before (x ∷ []) more

once_from : (b : Bool) (before xs : List (List ℕ)) (x : List ℕ)
    → once_each (if b then before else before ++ x ∷ []) xs ≡ (if b then once_each before xs else once_each (before ++ x ∷ []) xs)
once_from true before xs x = refl
once_from false before xs x = refl

-- one tool more
pub once_step : (before now xs whole : List (List ℕ)) (x : List ℕ) → now ≡ (if list_any (bytes_eq x) before then before else before ++ x ∷ [])
    → before ++ once_each before (x ∷ xs) ≡ whole → now ++ once_each now xs ≡ whole
once_step before now xs whole x is so_far =
    let b : Bool = list_any (bytes_eq x) before in
    ap (λ l. l ++ once_each l xs) is
    ∙ ap (λ l. (if b then before else before ++ x ∷ []) ++ l) (once_from b before xs x)
    ∙ by_test b before (once_each before xs) (once_each (before ++ x ∷ []) xs) x
    ∙ so_far

once_append : (before xs ys : List (List ℕ)) → once_each before (xs ++ ys) ≡ once_each before xs ++ once_each (before ++ once_each before xs) ys
once_append before [] ys = ap (λ l. once_each l ys) (sym (append-nil before))
once_append before (x ∷ xs) ys = by_member (list_any (bytes_eq x) before) (once_append before xs ys) (once_append (before ++ x ∷ []) xs ys)
  where
    by_member : (b : Bool) → once_each before (xs ++ ys) ≡ once_each before xs ++ once_each (before ++ once_each before xs) ys
        → once_each (before ++ x ∷ []) (xs ++ ys) ≡ once_each (before ++ x ∷ []) xs ++ once_each ((before ++ x ∷ []) ++ once_each (before ++ x ∷ []) xs) ys
        → (if b then once_each before (xs ++ ys) else x ∷ once_each (before ++ x ∷ []) (xs ++ ys))
        ≡ (if b then once_each before xs else x ∷ once_each (before ++ x ∷ []) xs)
        ++ once_each (before ++ (if b then once_each before xs else x ∷ once_each (before ++ x ∷ []) xs)) ys
    by_member true there new = there
    by_member false there new =
        ap (λ l. x ∷ l)
        (new ∙ ap (λ l. once_each (before ++ x ∷ []) xs ++ once_each l ys) (append_assoc before (x ∷ []) (once_each (before ++ x ∷ []) xs)))

once_apart : (before xs : List (List ℕ)) → AreApart before (once_each before xs)
once_apart before [] = tt
once_apart before (x ∷ xs) = by_member (list_any (bytes_eq x) before) refl (once_apart before xs) (once_apart (before ++ x ∷ []) xs)
  where
    by_member : (b : Bool) → list_any (bytes_eq x) before ≡ b → AreApart before (once_each before xs)
        → AreApart (before ++ x ∷ []) (once_each (before ++ x ∷ []) xs)
        → AreApart before (if b then once_each before xs else x ∷ once_each (before ++ x ∷ []) xs)
    by_member true is there new = there
    by_member false is there new = (is, new)

-- ---- a run in its group

any_end : (x : List ℕ) (before : List (List ℕ)) (y : List ℕ) → list_any (bytes_eq x) before ≡ true → list_any (bytes_eq x) (before ++ y ∷ []) ≡ true
any_end x [] y is = absurd (true≢false (sym is))
any_end x (z ∷ before) y is = by_first (bytes_eq x z) (list_any (bytes_eq x) before) (list_any (bytes_eq x) (before ++ y ∷ [])) is (any_end x before y)
  where
    by_first : (a b c : Bool) → (a || b) ≡ true → (b ≡ true → c ≡ true) → (a || c) ≡ true
    by_first true b c is more = refl
    by_first false b c is more = more is

any_last : (x y : List ℕ) (before : List (List ℕ)) → bytes_eq x y ≡ true → list_any (bytes_eq x) (before ++ y ∷ []) ≡ true
any_last x y [] is = rw is refl
any_last x y (z ∷ before) is = or_right (bytes_eq x z) _ (any_last x y before is)

-- a tool that came before doesn't come again
later_differ : (x : List ℕ) (before ys : List (List ℕ)) → list_any (bytes_eq x) before ≡ true → AreApart before ys → list_any (bytes_eq x) ys ≡ false
later_differ x before [] there apart = refl
later_differ x before (y ∷ ys) there apart =
    by_first (bytes_eq x y) refl (later_differ x (before ++ y ∷ []) ys (any_end x before y there) apart.1)
  where
    by_first : (b : Bool) → bytes_eq x y ≡ b → list_any (bytes_eq x) ys ≡ false → (b || list_any (bytes_eq x) ys) ≡ false
    by_first true same rest =
        let is : x ≡ y = (bytes_eq-Decides x y).0 same in
        absurd (true≢false (sym there ∙ ap (λ t. list_any (bytes_eq t) before) is ∙ apart.0))
    by_first false same rest = rest

module _ (run : Chosen) (some : is_empty run.records ≡ false) (rest : List Chosen) where
  taken_in : (t : List ℕ) → bytes_eq run.tool t ≡ true → runs_of_tool (run ∷ rest) t ≡ run ∷ runs_of_tool rest t
  taken_in t is = rw (is, some) refl

  left_out : (t : List ℕ) → bytes_eq run.tool t ≡ false → runs_of_tool (run ∷ rest) t ≡ runs_of_tool rest t
  left_out t is = rw is refl

  none_taken : (tools : List (List ℕ)) → list_any (bytes_eq run.tool) tools ≡ false → map (runs_of_tool (run ∷ rest)) tools ≡ map (runs_of_tool rest) tools
  none_taken [] none = refl
  none_taken (t ∷ tools) none =
      let parts = or_parts (bytes_eq run.tool t) (list_any (bytes_eq run.tool) tools) none in
      ap₂ (λ x xs. x ∷ xs) (left_out t parts.0) (none_taken tools parts.1)

  -- a run that is put into its group is before those that come later
  pub step_groups : (before tools : List (List ℕ)) (groups : List (List Chosen)) → AreApart before tools
      → side_by_side (spread tools run groups) (map (runs_of_tool rest) tools) ≡ side_by_side groups (map (runs_of_tool (run ∷ rest)) tools)
  step_groups before [] [] apart = refl
  step_groups before [] (g ∷ groups) apart = refl
  step_groups before (t ∷ tools) [] apart = refl
  step_groups before (t ∷ tools) (g ∷ groups) apart =
      by_tool (bytes_eq run.tool t) refl (step_groups (before ++ t ∷ []) tools groups apart.1)
    where
      by_tool : (b : Bool) → bytes_eq run.tool t ≡ b
          → side_by_side (spread tools run groups) (map (runs_of_tool rest) tools)
          ≡ side_by_side groups (map (runs_of_tool (run ∷ rest)) tools)
          → side_by_side (if b then (g ++ run ∷ []) ∷ groups else g ∷ spread tools run groups) (map (runs_of_tool rest) (t ∷ tools))
          ≡ side_by_side (g ∷ groups) (map (runs_of_tool (run ∷ rest)) (t ∷ tools))
      by_tool true is later =
          ap₂ (λ x xs. x ∷ side_by_side groups xs)
          (append_assoc g (run ∷ []) (runs_of_tool rest t) ∙ ap (λ l. g ++ l) (sym (taken_in t is)))
          (sym (none_taken tools (later_differ run.tool (before ++ t ∷ []) tools (any_last run.tool t before is) apart.1)))
      by_tool false is later = ap₂ (λ x xs. x ∷ xs) (ap (λ l. g ++ l) (sym (left_out t is))) later

-- an empty run is in no group
pub step_empty : (run : Chosen) (rest : List Chosen) → is_empty run.records ≡ true → (tools : List (List ℕ))
    → map (runs_of_tool rest) tools ≡ map (runs_of_tool (run ∷ rest)) tools
step_empty run rest none [] = refl
step_empty run rest none (t ∷ tools) = ap₂ (λ x xs. x ∷ xs) (rw none (by_and (bytes_eq run.tool t))) (step_empty run rest none tools)
  where
    by_and : (b : Bool) → runs_of_tool rest t ≡ (if b && false then run ∷ runs_of_tool rest t else runs_of_tool rest t)
    by_and true = refl
    by_and false = refl

-- with no run left the groups stay
pub no_more : (tools : List (List ℕ)) (groups : List (List Chosen)) → side_by_side groups (map (runs_of_tool []) tools) ≡ groups
no_more [] [] = refl
no_more [] (g ∷ groups) = refl
no_more (t ∷ tools) [] = refl
no_more (t ∷ tools) (g ∷ groups) = ap₂ (λ x xs. x ∷ xs) (append-nil g) (no_more tools groups)

-- ---- a group that is written

abbrev Keys : Type 0
Keys = List (Bor (List ℕ))

-- the key at a place
abbrev key_at : Keys → ℕ → Bor (List ℕ) → List ℕ
key_at keys k d = (get_or keys k d).now

no_key : (keys : Keys) (run : Chosen) (groups : List (List Chosen)) (d : Bor (List ℕ))
    → ((k : ℕ) → k < length keys → bytes_eq run.tool (key_at keys k d) ≡ false) → length groups ≡ length keys
    → groups ≡ spread (texts_of keys) run groups
no_key [] run groups d none same = refl
no_key (t ∷ keys) run [] d none same = refl
no_key (t ∷ keys) run (g ∷ groups) d none same =
    rw (none 0 (omega arith)) (ap (λ l. g ∷ l) (no_key keys run groups d (λ k within. none (suc k) (omega (arith, within))) (omega (arith, same))))

-- a run whose tool is none of these is not put into a group
pub no_group : (keys : Keys) (run : Chosen) (groups : List (List Chosen)) → position (λ y. bytes_eq run.tool y.now) keys ≡ None
    → length groups ≡ length keys → groups ≡ spread (texts_of keys) run groups
no_group [] run groups none same = refl
no_group (t ∷ keys) run groups none same =
    let test : Bor (List ℕ) → Bool = λ y. bytes_eq run.tool y.now in
    let past : length (t ∷ keys) ≤ position_or_len test (t ∷ keys) = past_end test (t ∷ keys) none in
    no_key (t ∷ keys) run groups t (λ k within. fails_before_first test (t ∷ keys) k t (omega (arith, within, past))) same
  where
    past_end : (test : Bor (List ℕ) → Bool) (keys : Keys) → position test keys ≡ None → length keys ≤ position_or_len test keys
    past_end test keys none = grind (arith, common_steps)

more_chosen : (runs : List KnownRun) (run : KnownRun) → all_chosen (runs ++ run ∷ []) ≡ all_chosen runs ++ chosen_of run ∷ []
more_chosen [] run = refl
more_chosen (r ∷ runs) run = ap (λ l. chosen_of r ∷ l) (more_chosen runs run)

set_at : (keys : Keys) (run : KnownRun) (groups : List (Vec KnownRun Global)) (i : ℕ) (d : Bor (List ℕ)) (old now : Vec KnownRun Global)
    → i < length keys → bytes_eq run.tool.now (key_at keys i d) ≡ true → ((k : ℕ) → k < i → bytes_eq run.tool.now (key_at keys k d) ≡ false)
    → length groups ≡ length keys → old ≡ get_or groups i old → now.items ≡ old.items ++ run ∷ []
    → groups_of (slice_set groups i now) ≡ spread (texts_of keys) (chosen_of run) (groups_of groups)
set_at [] run groups i d old now within here before same was added = absurd (omega (arith, within))
set_at (t ∷ keys) run [] i d old now within here before same was added = absurd (omega (arith, same))
set_at (t ∷ keys) run (g ∷ groups) zero d old now within here before same was added =
    rw here (ap (λ l. l ∷ groups_of groups) (ap all_chosen added ∙ more_chosen old.items run ∙ ap (λ v. all_chosen v.items ++ chosen_of run ∷ []) was))
set_at (t ∷ keys) run (g ∷ groups) (suc n) d old now within here before same was added =
    rw (before 0 (omega arith))
    (ap (λ l. all_chosen g.items ∷ l)
    (set_at keys run groups n d old now (omega (arith, within)) here (λ k below. before (suc k) (omega (arith, below))) (omega (arith, same)) was added))

-- the group at the place of the tool is written with the run at its end
pub set_group : (keys : Keys) (run : KnownRun) (groups : List (Vec KnownRun Global)) (i : ℕ) (old now : Vec KnownRun Global)
    → Some i ≡ position (λ y. bytes_eq run.tool.now y.now) keys → length groups ≡ length keys → old ≡ get_or groups i old → now.items ≡ old.items ++ run ∷ []
    → groups_of (slice_set groups i now) ≡ spread (texts_of keys) (chosen_of run) (groups_of groups)
set_group keys run groups i old now is same was added =
    let at = position-Some (λ y. bytes_eq run.tool.now y.now) keys i run.tool (sym is) in
    set_at keys run groups i run.tool old now at.0 at.1 at.2 same was added

pub groups_count : (groups : List (Vec KnownRun Global)) → length (groups_of groups) ≡ length groups
groups_count [] = refl
groups_count (g ∷ groups) = ap suc (groups_count groups)

-- a key that is put among keys
pub keys_put : (keys now : Keys) (k : Bor (List ℕ)) → now ≡ (if list_any (λ y. bytes_eq k.now y.now) keys then keys else keys ++ k ∷ [])
    → texts_of now ≡ (if list_any (bytes_eq k.now) (texts_of keys) then texts_of keys else texts_of keys ++ k.now ∷ [])
keys_put keys now k is = ap texts_of is ∙ by_member (list_any (λ y. bytes_eq k.now y.now) keys) (list_any (bytes_eq k.now) (texts_of keys)) (same_test keys)
  where
    same_test : (keys : Keys) → list_any (λ y. bytes_eq k.now y.now) keys ≡ list_any (bytes_eq k.now) (texts_of keys)
    same_test [] = refl
    same_test (x ∷ keys) = ap (λ b. bytes_eq k.now x.now || b) (same_test keys)

    more : (keys : Keys) → texts_of (keys ++ k ∷ []) ≡ texts_of keys ++ k.now ∷ []
    more [] = refl
    more (x ∷ keys) = ap (λ l. x.now ∷ l) (more keys)

    by_member : (a b : Bool) → a ≡ b → texts_of (if a then keys else keys ++ k ∷ []) ≡ (if b then texts_of keys else texts_of keys ++ k.now ∷ [])
    by_member true true same = refl
    by_member true false same = absurd (true≢false same)
    by_member false true same = absurd (true≢false (sym same))
    by_member false false same = more keys

-- a run with some result isn't empty
pub some_records : (run : KnownRun) → (length run.records.items == 0) ≡ false → is_empty (chosen_of run).records ≡ false
some_records run is = by_list run.records.items is
  where
    by_list : (xs : List (Bor Record)) → (length xs == 0) ≡ false → is_empty (map (λ r. r.now) xs) ≡ false
    by_list [] is = absurd (true≢false is)
    by_list (x ∷ xs) is = refl

pub no_items : {A : Type 0} (xs : List A) → length xs ≡ 0 → xs ≡ []
no_items [] is = refl
no_items (x ∷ xs) is = absurd (omega (arith, is))

-- one empty group more
pub one_empty : (groups : List (Vec KnownRun Global)) (n : ℕ) (v : Vec KnownRun Global) → groups_of groups ≡ replicate n [] → v.items ≡ []
    → groups_of (groups ++ v ∷ []) ≡ replicate (n + 1) []
one_empty groups n v are none =
    let next : suc n ≡ n + 1 = omega arith in
    more groups ∙ ap₂ (λ xs x. xs ++ all_chosen x ∷ []) are none ∙ longer n ∙ ap (λ k. replicate k []) next
  where
    more : (groups : List (Vec KnownRun Global)) → groups_of (groups ++ v ∷ []) ≡ groups_of groups ++ all_chosen v.items ∷ []
    more [] = refl
    more (g ∷ groups) = ap (λ l. all_chosen g.items ∷ l) (more groups)

    longer : (n : ℕ) → replicate n [] ++ all_chosen [] ∷ [] ≡ replicate (suc n) []
    longer zero = refl
    longer (suc n) = ap (λ l. [] ∷ l) (longer n)

-- ---- all of it

filter_append : {A : Type 0} (test : A → Bool) (xs ys : List A) → filter test (xs ++ ys) ≡ filter test xs ++ filter test ys
filter_append test [] ys = refl
filter_append test (x ∷ xs) ys = by_test (test x) (filter_append test xs ys)
  where
    by_test : (b : Bool) → filter test (xs ++ ys) ≡ filter test xs ++ filter test ys
        → (if b then x ∷ filter test (xs ++ ys) else filter test (xs ++ ys)) ≡ (if b then x ∷ filter test xs else filter test xs) ++ filter test ys
    by_test true rest = ap (λ l. x ∷ l) rest
    by_test false rest = rest

both_beside : (one other : List Chosen) (tools : List (List ℕ)) (old : List (List Chosen)) → length old ≡ length tools
    → side_by_side (side_by_side old (map (runs_of_tool one) tools)) (map (runs_of_tool other) tools)
    ≡ side_by_side old (map (runs_of_tool (one ++ other)) tools)
both_beside one other [] [] is = refl
both_beside one other [] (g ∷ old) is = absurd (omega (arith, is))
both_beside one other (t ∷ tools) [] is = absurd (omega (arith, is))
both_beside one other (t ∷ tools) (g ∷ old) is =
    ap₂ (λ x xs. x ∷ xs)
    (append_assoc g (runs_of_tool one t) (runs_of_tool other t)
    ∙ ap (λ l. g ++ l) (sym (filter_append (λ run. bytes_eq run.tool t && not (is_empty run.records)) one other)))
    (both_beside one other tools old (omega (arith, is)))

beside_none : (all : List Chosen) (tools : List (List ℕ)) (n : ℕ) → n ≡ length tools
    → side_by_side (replicate n []) (map (runs_of_tool all) tools) ≡ map (runs_of_tool all) tools
beside_none all [] zero is = refl
beside_none all [] (suc n) is = absurd (omega (arith, is))
beside_none all (t ∷ tools) zero is = absurd (omega (arith, is))
beside_none all (t ∷ tools) (suc n) is = ap (λ l. runs_of_tool all t ∷ l) (beside_none all tools n (omega (arith, is)))

flat : (f : List ℕ → List Chosen) (tools : List (List ℕ)) → flat_map (λ g. g) (map f tools) ≡ flat_map f tools
flat f [] = refl
flat f (t ∷ tools) = ap (λ l. f t ++ l) (flat f tools)

map_append : (xs ys : List Chosen) → map (λ run. run.tool) (xs ++ ys) ≡ map (λ run. run.tool) xs ++ map (λ run. run.tool) ys
map_append [] ys = refl
map_append (x ∷ xs) ys = ap (λ l. x.tool ∷ l) (map_append xs ys)

-- the tools of both sides, each once
pub both_tools : (current baseline : List Chosen) (first tools : List (List ℕ)) → first ≡ once_each [] (map (λ run. run.tool) baseline)
    → tools ≡ first ++ once_each first (map (λ run. run.tool) current) → tools ≡ tools_of (baseline ++ current)
both_tools current baseline first tools is are =
    are
    ∙ ap (λ l. l ++ once_each l (map (λ run. run.tool) current)) is
    ∙ sym (once_append [] (map (λ run. run.tool) baseline) (map (λ run. run.tool) current))
    ∙ ap (once_each []) (sym (map_append baseline current))

pub tools_apart : (runs : List Chosen) (tools : List (List ℕ)) → tools ≡ tools_of runs → AreApart [] tools
tools_apart runs tools is = subst (AreApart []) (sym is) (once_apart [] (map (λ run. run.tool) runs))

-- adding the runs of one side and then of another is adding all of them
pub added_both : (one other : List Chosen) (tools : List (List ℕ)) (old first groups : List (List Chosen)) → length old ≡ length tools
    → first ≡ side_by_side old (map (runs_of_tool one) tools) → groups ≡ side_by_side first (map (runs_of_tool other) tools)
    → groups ≡ side_by_side old (map (runs_of_tool (one ++ other)) tools)
added_both one other tools old first groups long e1 e2 =
    e2 ∙ ap (λ l. side_by_side l (map (runs_of_tool other) tools)) e1 ∙ both_beside one other tools old long

-- the groups, in order, are the runs of the known log
pub all_grouped : (version : MatchingVersion) (current baseline : List Chosen) (tools : List (List ℕ)) (n : ℕ) (empty groups : List (List Chosen))
    → tools ≡ tools_of (baseline ++ current) → n ≡ length tools → empty ≡ replicate n []
    → groups ≡ side_by_side empty (map (runs_of_tool (in_turn version current baseline)) tools)
    → flat_map (λ g. g) groups ≡ known_runs version current baseline
all_grouped version current baseline tools n empty groups are count none e =
    let all = in_turn version current baseline in
    ap (flat_map (λ g. g)) (e
    ∙ ap (λ l. side_by_side l (map (runs_of_tool all) tools)) none
    ∙ beside_none all tools n count)
    ∙ flat (runs_of_tool all) tools
    ∙ ap (flat_map (runs_of_tool all)) are

pub texts_count : (keys : Keys) → length (texts_of keys) ≡ length keys
texts_count [] = refl
texts_count (k ∷ keys) = ap suc (texts_count keys)

-- the tools of both sides, as they are put among the keys
pub order_tools : (current baseline now before : List KnownRun) (t0 t1 t2 : Keys) → t0 ≡ [] → before ≡ baseline → now ≡ current
    → texts_of t1 ≡ texts_of t0 ++ once_each (texts_of t0) (map (λ run. run.tool) (all_chosen before))
    → texts_of t2 ≡ texts_of t1 ++ once_each (texts_of t1) (map (λ run. run.tool) (all_chosen now))
    → texts_of t2 ≡ tools_of (all_chosen baseline ++ all_chosen current)
order_tools current baseline now before t0 t1 t2 none same too e1 e2 =
    both_tools (all_chosen current) (all_chosen baseline) (texts_of t1) (texts_of t2)
    (e1 ∙ ap (λ l. texts_of l ++ once_each (texts_of l) (map (λ run. run.tool) (all_chosen before))) none
    ∙ ap (λ rs. once_each [] (map (λ run. run.tool) (all_chosen rs))) same)
    (e2 ∙ ap (λ rs. texts_of t1 ++ once_each (texts_of t1) (map (λ run. run.tool) (all_chosen rs))) too)
