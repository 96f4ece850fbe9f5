-- What the entries with `max` that admit results change for them.
use Rattle.std.proofs.Common.{◌≡◌, ℕ, zero, suc, ◌+◌, Bool, true, false, List, [], ◌∷◌, ◌++◌, ◌<◌, map, length, drop, get_or, Option, append_assoc, refl, sym, ap, ◌∙◌, arith}
use Rattle.std.specs.Prelude.{slice_index_or}
use Rattle.std.specs.List.{AllByRecursion}
use Rattle.std.proofs.lemmas.List.{drop_more}
use Rattle.serde_json.specs.Data.{Data}
use Rattle.sarif_copies.specs.Copies.{copies_of, numbers_of, spread}
use Rattle.sarif_entries.specs.File.{File}
use Rattle.sarif_entries.specs.Matching.{is_met}
use Rattle.sarif_log.specs.LogBy.{listing_of}
use Rattle.sarif_log.proofs.Limits.{all_admitted_long}
use Rattle.sarif_model.specs.declared.record.Record.{Record}
use Rattle.sarif_once.specs.Once.{marked}
use Rattle.sarif_once.proofs.Spread.{spread_found, spread_long}
use Rattle.sarif_prepare.specs.declared.changes.Changes.{Changes}
use Rattle.sarif_prepare.specs.Internal.Limiting.{draft_again, draft_of, drafts_again, drafts_of, put_draft, put_drafts, put_each, put_admitted, unadmitted, AreChanges, AreDraftsOf}
use Rattle.sarif_prepare.specs.Once.{findings_only, limited_once, admitted_once, with_each}
use Rattle.sarif_read.specs.Unmarked.{unmarked}
use Rattle.sarif_results.specs.Drafts.{applied_of, draft_by, drafts_by, members_in, Listing}
use Rattle.sarif_results.specs.declared.draft.Draft.{Draft}
use Rattle.sarif_suppress.specs.declared.suppressions.Applied.{Applied}
use Rattle.sarif_suppress.specs.Limited.{all_admitted, all_admitted_after, is_unlimited, limited, limited_after, admitted_after, with_admitted, AreUnadmitted}
use Rattle.sarif_suppress.proofs.LimitedResults.{none_admitted}

-- ---- drafts

pub drafts_unmarked : (listed : Listing) (applied : Record → Applied) (ms : List Bool) (rs : List Record) (ds : List Data) → length rs ≡ length ds
    → drafts_by listed applied (unmarked ms rs) (unmarked ms ds) ≡ unmarked ms (drafts_by listed applied rs ds)
drafts_unmarked listed applied [] rs ds same = refl
drafts_unmarked listed applied (m ∷ ms) [] ds same = refl
drafts_unmarked listed applied (m ∷ ms) (r ∷ rs) [] same = absurd (omega (arith, same))
drafts_unmarked listed applied (true ∷ ms) (r ∷ rs) (d ∷ ds) same = drafts_unmarked listed applied ms rs ds (omega (arith, same))
drafts_unmarked listed applied (false ∷ ms) (r ∷ rs) (d ∷ ds) same =
    ap (λ xs. draft_by listed applied r (members_in d) ∷ xs) (drafts_unmarked listed applied ms rs ds (omega (arith, same)))

-- ---- results with numbers of entries

pub once_long : (file : File) (rs : List Record) → length (admitted_once file rs) ≡ length rs
once_long file rs = spread_long [] rs (all_admitted file (findings_only rs))

pub each_long : (rs : List Record) (lists : List (List ℕ)) → length lists ≡ length rs → length (with_each rs lists) ≡ length rs
each_long [] lists same = refl
each_long (r ∷ rs) [] same = absurd (omega (arith, same))
each_long (r ∷ rs) (numbers ∷ lists) same = let rest = each_long rs lists (omega (arith, same)) in omega (arith, rest)

limited_by : (file : File) (before rs : List Record) → limited_after file before rs ≡ with_each rs (all_admitted_after file before rs)
limited_by file before [] = refl
limited_by file before (r ∷ rs) = ap (λ l. with_admitted r (admitted_after file before r) ∷ l) (limited_by file (before ++ r ∷ []) rs)

pub limited_each : (file : File) (rs : List Record) → limited file rs ≡ with_each rs (all_admitted file rs)
limited_each file rs = limited_by file [] rs

pub same_unadmitted : (r : Record) → r.admitted ≡ [] → with_admitted r [] ≡ r
same_unadmitted r none = ap (with_admitted r) (sym none)

-- what a result is without them
pub each_unadmitted : (rs : List Record) (lists : List (List ℕ)) → length lists ≡ length rs → map unadmitted (with_each rs lists) ≡ map unadmitted rs
each_unadmitted [] lists same = refl
each_unadmitted (r ∷ rs) [] same = absurd (omega (arith, same))
each_unadmitted (r ∷ rs) (numbers ∷ lists) same = ap (λ l. unadmitted r ∷ l) (each_unadmitted rs lists (omega (arith, same)))

pub all_unadmitted : (rs : List Record) → AreUnadmitted rs → map unadmitted rs ≡ rs
all_unadmitted [] none = refl
all_unadmitted (r ∷ rs) none = ap (λ q. q ∷ map unadmitted rs) (same_unadmitted r none.0) ∙ ap (λ l. r ∷ l) (all_unadmitted rs none.1)

pub limited_unadmitted : (file : File) (rs : List Record) → AreUnadmitted rs → map unadmitted (limited file rs) ≡ rs
limited_unadmitted file rs none =
    ap (map unadmitted) (limited_each file rs) ∙ each_unadmitted rs (all_admitted file rs) (all_admitted_long file rs) ∙ all_unadmitted rs none

-- ---- no entry has a limit

abbrev AreNone : List (List ℕ) → Type 0
AreNone lists = AllByRecursion (λ l. l ≡ []) lists

none_after : (file : File) → is_unlimited file ≡ true → (before rs : List Record) → AreNone (all_admitted_after file before rs)
none_after file none before [] = tt
none_after file none before (r ∷ rs) =
    (none_admitted (λ e. is_met file.today e r) file.today before 0 file.entries none, none_after file none (before ++ r ∷ []) rs)

none_at : (lists : List (List ℕ)) → AreNone lists → (n : ℕ) → slice_index_or lists n [] ≡ []
none_at [] none n = refl
none_at (l ∷ lists) none zero = none.0
none_at (l ∷ lists) none (suc n) = none_at lists none.1 n

none_spread : (lists : List (List ℕ)) → AreNone lists → (numbers : List ℕ) → AreNone (spread [] numbers lists)
none_spread lists none [] = tt
none_spread lists none (n ∷ numbers) = (none_at lists none n, none_spread lists none numbers)

each_none : (rs : List Record) (lists : List (List ℕ)) → AreUnadmitted rs → AreNone lists → length lists ≡ length rs → with_each rs lists ≡ rs
each_none [] lists unadmitted none same = refl
each_none (r ∷ rs) [] unadmitted none same = absurd (omega (arith, same))
each_none (r ∷ rs) (numbers ∷ lists) unadmitted none same =
    ap (λ q. q ∷ with_each rs lists) (ap (with_admitted r) none.0 ∙ same_unadmitted r unadmitted.0)
    ∙ ap (λ l. r ∷ l) (each_none rs lists unadmitted.1 none.1 (omega (arith, same)))

pub put_none : {X Y : Type 0} (put : X → Y → X) (xs : List X) → put_each put xs [] ≡ xs
put_none put [] = refl
put_none put (x ∷ xs) = refl

nothing_changes : (file : File) (rs : List Record) (lists : List (List ℕ)) (ds : List Data) (changes : Changes)
    → changes.admitted.items ≡ [] → changes.drafts.items ≡ [] → with_each rs lists ≡ rs → AreChanges file rs lists ds changes
nothing_changes file rs lists ds changes no_admitted no_drafts same = record {
  records = ap (put_admitted rs) no_admitted ∙ put_none with_admitted rs ∙ sym same;
  drafts = ap (put_drafts (drafts_of file rs ds)) no_drafts ∙ put_none put_draft (drafts_of file rs ds) ∙ ap (λ qs. drafts_of file qs ds) (sym same);
}

-- nothing changes
pub none_of_all : (file : File) (rs : List Record) (ds : List Data) (changes : Changes) → changes.admitted.items ≡ [] → changes.drafts.items ≡ []
    → is_unlimited file ≡ true → AreUnadmitted rs → AreChanges file rs (all_admitted file rs) ds changes
none_of_all file rs ds changes no_admitted no_drafts none unadmitted =
    nothing_changes file rs (all_admitted file rs) ds changes no_admitted no_drafts
    (each_none rs (all_admitted file rs) unadmitted (none_after file none [] rs) (all_admitted_long file rs))

once_none : (file : File) (rs : List Record) → is_unlimited file ≡ true → AreUnadmitted rs → limited_once file rs ≡ rs
once_none file rs none unadmitted =
    let nothing = none_spread (all_admitted file (findings_only rs)) (none_after file none [] (findings_only rs)) (numbers_of rs) in
    each_none rs (admitted_once file rs) unadmitted nothing (once_long file rs)

-- no draft of a copy changes
pub none_of_copies : (file : File) (ms : List Bool) (rs : List Record) (ds : List Data) (again : List (Option Draft)) → again ≡ []
    → is_unlimited file ≡ true → AreUnadmitted rs
    → put_drafts (marked ms (drafts_of file rs ds)) again ≡ marked ms (drafts_of file (limited_once file rs) ds)
none_of_copies file ms rs ds again nothing none unadmitted =
    ap (put_drafts (marked ms (drafts_of file rs ds))) nothing ∙ put_none put_draft (marked ms (drafts_of file rs ds))
    ∙ ap (λ qs. marked ms (drafts_of file qs ds)) (sym (once_none file rs none unadmitted))

-- ---- the changes that are made

admitted_put : (rs : List Record) (lists : List (List ℕ)) → length lists ≡ length rs → put_admitted rs lists ≡ with_each rs lists
admitted_put [] lists same = refl
admitted_put (r ∷ rs) [] same = absurd (omega (arith, same))
admitted_put (r ∷ rs) (l ∷ lists) same = ap (λ qs. with_admitted r l ∷ qs) (admitted_put rs lists (omega (arith, same)))

draft_put : (file : File) (r : Record) (numbers : List ℕ) (d : Data) → r.admitted ≡ []
    → put_draft (draft_of file r d) (draft_again file r numbers d) ≡ draft_of file (with_admitted r numbers) d
draft_put file r [] d none = ap (λ q. draft_of file q d) (sym (same_unadmitted r none))
draft_put file r (n ∷ ns) d none = refl

pub drafts_put : (file : File) (rs : List Record) (lists : List (List ℕ)) (ds : List Data) → AreUnadmitted rs → length lists ≡ length rs → length ds ≡ length rs
    → AreDraftsOf file rs lists ds (drafts_again file rs lists ds)
drafts_put file [] lists ds none same_l same_d = refl
drafts_put file (r ∷ rs) [] ds none same_l same_d = absurd (omega (arith, same_l))
drafts_put file (r ∷ rs) (l ∷ lists) [] none same_l same_d = absurd (omega (arith, same_d))
drafts_put file (r ∷ rs) (l ∷ lists) (d ∷ ds) none same_l same_d =
    ap (λ q. q ∷ put_drafts (drafts_of file rs ds) (drafts_again file rs lists ds)) (draft_put file r l d none.0)
    ∙ ap (λ qs. draft_of file (with_admitted r l) d ∷ qs) (drafts_put file rs lists ds none.1 (omega (arith, same_l)) (omega (arith, same_d)))

pub again_long : (file : File) (rs : List Record) (lists : List (List ℕ)) (ds : List Data) → length lists ≡ length rs → length ds ≡ length rs
    → length (drafts_again file rs lists ds) ≡ length rs
again_long file [] lists ds same_l same_d = refl
again_long file (r ∷ rs) [] ds same_l same_d = absurd (omega (arith, same_l))
again_long file (r ∷ rs) (l ∷ lists) [] same_l same_d = absurd (omega (arith, same_d))
again_long file (r ∷ rs) (l ∷ lists) (d ∷ ds) same_l same_d =
    let rest = again_long file rs lists ds (omega (arith, same_l)) (omega (arith, same_d)) in omega (arith, rest)

pub changes_made : (file : File) (rs : List Record) (lists : List (List ℕ)) (ds : List Data) (changes : Changes)
    → changes.admitted.items ≡ lists → AreDraftsOf file rs lists ds changes.drafts.items → length lists ≡ length rs → AreChanges file rs lists ds changes
changes_made file rs lists ds changes admitted drafts same = record {
  records = ap (put_admitted rs) admitted ∙ admitted_put rs lists same;
  drafts = drafts;
}

-- ---- results in turn

-- the draft of the next result
pub again_next : (file : File) (rs : List Record) (lists : List (List ℕ)) (ds : List Data) (n : ℕ) (r dr : Record) (numbers dn : List ℕ) (d dd : Data)
    (one : Option Draft) (old new whole : List (Option Draft))
    → n < length rs → n < length lists → n < length ds → r ≡ get_or rs n dr → numbers ≡ get_or lists n dn → d ≡ get_or ds n dd
    → one ≡ draft_again file r numbers d → new ≡ old ++ one ∷ []
    → old ++ drafts_again file (drop n rs) (drop n lists) (drop n ds) ≡ whole
    → new ++ drafts_again file (drop (n + 1) rs) (drop (n + 1) lists) (drop (n + 1) ds) ≡ whole
again_next file rs lists ds n r dr numbers dn d dd one old new whole in_rs in_lists in_ds r_is numbers_are d_is made pushed held =
    let rest = drafts_again file (drop (n + 1) rs) (drop (n + 1) lists) (drop (n + 1) ds) in
    ap (λ l. l ++ rest) pushed
    ∙ append_assoc old (one ∷ []) rest
    ∙ ap (λ o. old ++ (o ∷ rest)) made
    ∙ ap (λ x. old ++ (draft_again file x numbers d ∷ rest)) r_is
    ∙ ap (λ x. old ++ (draft_again file (get_or rs n dr) x d ∷ rest)) numbers_are
    ∙ ap (λ x. old ++ (draft_again file (get_or rs n dr) (get_or lists n dn) x ∷ rest)) d_is
    ∙ ap (λ l. old ++ drafts_again file l (get_or lists n dn ∷ drop (n + 1) lists) (get_or ds n dd ∷ drop (n + 1) ds)) (sym (drop_more rs n dr in_rs))
    ∙ ap (λ l. old ++ drafts_again file (drop n rs) l (get_or ds n dd ∷ drop (n + 1) ds)) (sym (drop_more lists n dn in_lists))
    ∙ ap (λ l. old ++ drafts_again file (drop n rs) (drop n lists) l) (sym (drop_more ds n dd in_ds))
    ∙ held

-- ---- findings and copies

put_unmarked : {X Y : Type 0} (put : X → Y → X) (ms : List Bool) (xs : List X) (ys : List Y)
    → put_each put (unmarked ms xs) (unmarked ms ys) ≡ unmarked ms (put_each put xs ys)
put_unmarked put [] xs ys = refl
put_unmarked put (m ∷ ms) [] ys = refl
put_unmarked put (m ∷ ms) (x ∷ xs) [] = put_none put (unmarked (m ∷ ms) (x ∷ xs))
put_unmarked put (true ∷ ms) (x ∷ xs) (y ∷ ys) = put_unmarked put ms xs ys
put_unmarked put (false ∷ ms) (x ∷ xs) (y ∷ ys) = ap (λ zs. put x y ∷ zs) (put_unmarked put ms xs ys)

put_marked : {X Y : Type 0} (put : X → Y → X) (ms : List Bool) (xs : List X) (ys : List Y)
    → put_each put (marked ms xs) (marked ms ys) ≡ marked ms (put_each put xs ys)
put_marked put [] xs ys = refl
put_marked put (m ∷ ms) [] ys = refl
put_marked put (m ∷ ms) (x ∷ xs) [] = put_none put (marked (m ∷ ms) (x ∷ xs))
put_marked put (true ∷ ms) (x ∷ xs) (y ∷ ys) = ap (λ zs. put x y ∷ zs) (put_marked put ms xs ys)
put_marked put (false ∷ ms) (x ∷ xs) (y ∷ ys) = put_marked put ms xs ys

pub each_unmarked : (ms : List Bool) (rs : List Record) (lists : List (List ℕ)) → length lists ≡ length rs
    → unmarked ms (with_each rs lists) ≡ with_each (unmarked ms rs) (unmarked ms lists)
each_unmarked [] rs lists same = refl
each_unmarked (m ∷ ms) [] lists same = refl
each_unmarked (m ∷ ms) (r ∷ rs) [] same = absurd (omega (arith, same))
each_unmarked (true ∷ ms) (r ∷ rs) (l ∷ lists) same = each_unmarked ms rs lists (omega (arith, same))
each_unmarked (false ∷ ms) (r ∷ rs) (l ∷ lists) same = ap (λ qs. with_admitted r l ∷ qs) (each_unmarked ms rs lists (omega (arith, same)))

-- the drafts of the others that are made again
pub drafts_left : (file : File) (ms : List Bool) (rs : List Record) (lists : List (List ℕ)) (ds : List Data) (again : List (Option Draft))
    → length lists ≡ length rs → length ds ≡ length rs → AreDraftsOf file rs lists ds again
    → AreDraftsOf file (unmarked ms rs) (unmarked ms lists) (unmarked ms ds) (unmarked ms again)
drafts_left file ms rs lists ds again same_l same_d is =
    let many = each_long rs lists same_l in
    ap (λ xs. put_drafts xs (unmarked ms again)) (drafts_unmarked (listing_of file) (applied_of file) ms rs ds (sym same_d))
    ∙ put_unmarked put_draft ms (drafts_of file rs ds) again
    ∙ ap (unmarked ms) is
    ∙ sym (drafts_unmarked (listing_of file) (applied_of file) ms (with_each rs lists) ds (many ∙ sym same_d))
    ∙ ap (λ qs. drafts_of file qs (unmarked ms ds)) (each_unmarked ms rs lists same_l)

-- the drafts of the marked ones that are made again
pub drafts_of_copies : (file : File) (ms : List Bool) (rs : List Record) (lists : List (List ℕ)) (ds : List Data) (again : List (Option Draft))
    → AreDraftsOf file rs lists ds again
    → put_drafts (marked ms (drafts_of file rs ds)) (marked ms again) ≡ marked ms (drafts_of file (with_each rs lists) ds)
drafts_of_copies file ms rs lists ds again is = put_marked put_draft ms (drafts_of file rs ds) again ∙ ap (marked ms) is

-- the findings of all results are those that are counted
pub once_left : (file : File) (rs : List Record) → unmarked (copies_of rs) (limited_once file rs) ≡ limited file (findings_only rs)
once_left file rs =
    let found = findings_only rs in
    each_unmarked (copies_of rs) rs (admitted_once file rs) (once_long file rs)
    ∙ ap (with_each found) (spread_found [] rs (all_admitted file found) (all_admitted_long file found))
    ∙ sym (limited_each file found)
