-- The matching of two pairs of lists whose tools differ is the two matchings, in both versions.
use Rattle.std.proofs.Common.{◌≡◌, ℕ, ◌+◌, ◌-◌, ◌<◌, zero, suc, Bool, true, false, ◌||◌, bytes_eq, List, [], ◌∷◌, ◌++◌, Option, None, Some, IfSome, option_map, option_and_then, map, length, reverse, slice_get, slice_index_or, refl, sym, ap, ap₂, subst, ◌∙◌, arith, length-append, true≢false}
use Rattle.std.proofs.Math.ListN.{get_or-append}
use Rattle.std.proofs.lemmas.Bool.{or_left, or_parts, or_right}
use Rattle.std.proofs.lemmas.List.{get_or-append-add, length-map, length-reverse, map-append, reverse-append}
use Rattle.std.proofs.lemmas.List.Concat.{flat_map-append}
use Rattle.std.proofs.lemmas.List.Folds.{list_any-append}
use Rattle.std.proofs.lemmas.Slice.Eq.{bytes_eq-Decides}
use Rattle.sarif_model.specs.declared.record.Record.{Record}
use Rattle.sarif_evidence.specs.declared.version.MatchingVersion.{MatchingVersion}
use Rattle.sarif_evidence.specs.declared.version.MatchingVersion.TheVariants.{Two, Three}
use Rattle.sarif_match.specs.Partners.{from_end, is_taken, partners_after, partners_in, seen_from_end, turned}
use Rattle.sarif_evidence.specs.Seen.{seen}
use Rattle.sarif_match.specs.Tiers.{falling_names, finer_tiers, has_name, names_of, tiers_in, tiers_of}
use Rattle.sarif_match.specs.Internal.Turned.{AreBelow}
use Rattle.sarif_match.proofs.LawLemmas.{after_counts}
use Rattle.sarif_match.proofs.TurnedLemmas.{length-seen, partners_below}
use Rattle.sarif_match_laws.specs.ByTool.{HaveNoToolInCommon, IsMatchedApart, has_tool, moved}
use Rattle.sarif_match_laws.proofs.SameTiers.{all_reverse, no_values, same_names, same_three, same_two}
use Rattle.sarif_match_laws.proofs.Shifted.{get_moved, taken_back, taken_front}
use Rattle.sarif_match_laws.proofs.TwoTools.{AreOfOthers, partners_both}

-- ---- tools

of_others : (rs ss : List Record) → HaveNoToolInCommon rs ss → AreOfOthers rs ss
of_others [] ss apart = tt
of_others (r ∷ rs) ss apart = (
  apart r.tool (ap (λ b. b || has_tool r.tool rs) ((bytes_eq-Decides r.tool r.tool).1 refl)),
  of_others rs ss (λ tool there. apart tool (or_right (bytes_eq r.tool tool) (has_tool tool rs) there)),
)

turn_round : (rs ss : List Record) → HaveNoToolInCommon rs ss → HaveNoToolInCommon ss rs
turn_round rs ss apart tool there = by_test (has_tool tool rs) refl
  where
    by_test : (b : Bool) → has_tool tool rs ≡ b → b ≡ false
    by_test true is = absurd (true≢false (sym there ∙ apart tool is))
    by_test false is = refl

module _ (rs rest ss more : List Record) (apart : HaveNoToolInCommon (rs ++ rest) (ss ++ more)) where
  parts_apart : (tool : List ℕ) → has_tool tool (rs ++ rest) ≡ true → (has_tool tool ss ≡ false) × (has_tool tool more ≡ false)
  parts_apart tool there =
      or_parts (has_tool tool ss) (has_tool tool more)
      (sym (list_any-append (λ (r : Record). bytes_eq r.tool tool) ss more) ∙ apart tool there)

  in_first : (tool : List ℕ) → has_tool tool rs ≡ true → has_tool tool (rs ++ rest) ≡ true
  in_first tool there =
      list_any-append (λ (r : Record). bytes_eq r.tool tool) rs rest ∙ or_left (has_tool tool rs) (has_tool tool rest) there

  in_rest : (tool : List ℕ) → has_tool tool rest ≡ true → has_tool tool (rs ++ rest) ≡ true
  in_rest tool there =
      list_any-append (λ (r : Record). bytes_eq r.tool tool) rs rest ∙ or_right (has_tool tool rs) (has_tool tool rest) there

  first_first : HaveNoToolInCommon rs ss
  first_first tool there = (parts_apart tool (in_first tool there)).0

  first_more : HaveNoToolInCommon rs more
  first_more tool there = (parts_apart tool (in_first tool there)).1

  rest_first : HaveNoToolInCommon rest ss
  rest_first tool there = (parts_apart tool (in_rest tool there)).0

-- ---- as version 3 sees the results

tool_seen : (tool : List ℕ) (rs : List Record) → has_tool tool (map seen rs) ≡ has_tool tool rs
tool_seen tool [] = refl
tool_seen tool (r ∷ rs) = ap (λ b. bytes_eq r.tool tool || b) (tool_seen tool rs)

or_turned : (a b : Bool) → a || (b || false) ≡ b || a
or_turned true true = refl
or_turned true false = refl
or_turned false true = refl
or_turned false false = refl

tool_reversed : (tool : List ℕ) (rs : List Record) → has_tool tool (reverse rs) ≡ has_tool tool rs
tool_reversed tool [] = refl
tool_reversed tool (r ∷ rs) =
    ap (has_tool tool) (reverse-append (r ∷ []) rs)
    ∙ list_any-append (λ (r : Record). bytes_eq r.tool tool) (reverse rs) (r ∷ [])
    ∙ ap (λ b. b || (bytes_eq r.tool tool || false)) (tool_reversed tool rs)
    ∙ or_turned (has_tool tool rs) (bytes_eq r.tool tool)

tool_from_end : (tool : List ℕ) (rs : List Record) → has_tool tool (seen_from_end rs) ≡ has_tool tool rs
tool_from_end tool rs = tool_reversed tool (map seen rs) ∙ tool_seen tool rs

apart_from_end : (rs ss : List Record) → HaveNoToolInCommon rs ss → HaveNoToolInCommon (seen_from_end rs) (seen_from_end ss)
apart_from_end rs ss apart tool there = tool_from_end tool ss ∙ apart tool (sym (tool_from_end tool rs) ∙ there)

seen_both : (rs ss : List Record) → seen_from_end (rs ++ ss) ≡ seen_from_end ss ++ seen_from_end rs
seen_both rs ss = ap reverse (map-append seen rs ss) ∙ reverse-append (map seen rs) (map seen ss)

-- ---- names

names_both : (name : List ℕ) (rs ss : List Record) → has_name name (names_of (rs ++ ss)) ≡ has_name name (names_of rs) || has_name name (names_of ss)
names_both name rs ss =
    ap (has_name name) (flat_map-append (λ (r : Record). map (λ (pair : List ℕ × List ℕ). pair.0) r.full) rs ss)
    ∙ list_any-append (λ own. bytes_eq own name) (names_of rs) (names_of ss)

in_front : (name : List ℕ) (rs ss : List Record) → has_name name (names_of rs) ≡ true → has_name name (names_of (rs ++ ss)) ≡ true
in_front name rs ss there = names_both name rs ss ∙ or_left (has_name name (names_of rs)) (has_name name (names_of ss)) there

in_back : (name : List ℕ) (rs ss : List Record) → has_name name (names_of ss) ≡ true → has_name name (names_of (rs ++ ss)) ≡ true
in_back name rs ss there = names_both name rs ss ∙ or_right (has_name name (names_of rs)) (has_name name (names_of ss)) there

-- ---- from the other end

map_reverse : {X : Type 0} {Y : Type 0} (f : X → Y) (xs : List X) → map f (reverse xs) ≡ reverse (map f xs)
map_reverse f [] = refl
map_reverse f (x ∷ xs) =
    ap (map f) (reverse-append (x ∷ []) xs) ∙ map-append f (reverse xs) (x ∷ []) ∙ ap (λ l. l ++ f x ∷ []) (map_reverse f xs)
    ∙ sym (reverse-append (f x ∷ []) (map f xs))

past_first : (m n : ℕ) (ps : List (Option ℕ)) → map (option_map (from_end (m + n))) (moved n ps) ≡ map (option_map (from_end m)) ps
past_first m n [] = refl
past_first m n (None ∷ ps) = ap (λ l. None ∷ l) (past_first m n ps)
past_first m n (Some j ∷ ps) =
    let same : m + n - 1 - (n + j) ≡ m - 1 - j = omega arith in
    ap₂ (λ k l. Some k ∷ l) same (past_first m n ps)

within_first : (m n : ℕ) (qs : List (Option ℕ)) → AreBelow n qs → map (option_map (from_end (m + n))) qs ≡ moved m (map (option_map (from_end n)) qs)
within_first m n [] below = refl
within_first m n (None ∷ qs) below = ap (λ l. None ∷ l) (within_first m n qs below.1)
within_first m n (Some j ∷ qs) below =
    let lt : j < n = below.0 in
    let same : m + n - 1 - j ≡ m + (n - 1 - j) = omega (arith, lt) in
    ap₂ (λ k l. Some k ∷ l) same (within_first m n qs below.1)

turned_both : (m n : ℕ) (ps qs : List (Option ℕ)) → AreBelow n qs → turned (m + n) (qs ++ moved n ps) ≡ turned m ps ++ moved m (turned n qs)
turned_both m n ps qs below =
    ap reverse (map-append (option_map (from_end (m + n))) qs (moved n ps))
    ∙ reverse-append (map (option_map (from_end (m + n))) qs) (map (option_map (from_end (m + n))) (moved n ps))
    ∙ ap₂ (λ l r. reverse l ++ reverse r) (past_first m n ps) (within_first m n qs below)
    ∙ ap (λ r. turned m ps ++ r) (sym (map_reverse (option_map (λ j. m + j)) (map (option_map (from_end n)) qs)))

-- ---- matches of a version

turned_within : (n : ℕ) (ps : List (Option ℕ)) → AreBelow n ps → AreBelow n (map (option_map (from_end n)) ps)
turned_within n [] below = tt
turned_within n (None ∷ ps) below = (tt, turned_within n ps below.1)
turned_within n (Some j ∷ ps) below = let lt : j < n = below.0 in let back : n - 1 - j < n = omega (arith, lt) in (back, turned_within n ps below.1)

below_in : (version : MatchingVersion) (cs bs : List Record) → AreBelow (length bs) (partners_in version cs bs)
below_in Two cs bs = partners_below cs bs (tiers_of cs bs)
below_in Three cs bs =
    let found = partners_after (seen_from_end cs) (seen_from_end bs) (tiers_in Three cs bs) in
    all_reverse (λ partner. IfSome partner (λ j. j < length bs)) (map (option_map (from_end (length bs))) found)
    (turned_within (length bs) found
    (subst (λ n. AreBelow n found) (length-seen bs) (partners_below (seen_from_end cs) (seen_from_end bs) (tiers_in Three cs bs))))

long_in : (version : MatchingVersion) (cs bs : List Record) → length (partners_in version cs bs) ≡ length cs
long_in Two cs bs = after_counts cs bs (tiers_of cs bs)
long_in Three cs bs =
    let found = partners_after (seen_from_end cs) (seen_from_end bs) (tiers_in Three cs bs) in
    length-reverse (map (option_map (from_end (length bs))) found) ∙ length-map found (option_map (from_end (length bs)))
    ∙ after_counts (seen_from_end cs) (seen_from_end bs) (tiers_in Three cs bs) ∙ length-seen cs

-- ---- the law

module _ (cs bs more others : List Record) (apart : HaveNoToolInCommon (cs ++ bs) (more ++ others)) where
  apart_cs_more : HaveNoToolInCommon cs more
  apart_cs_more = first_first cs bs more others apart

  apart_cs_others : HaveNoToolInCommon cs others
  apart_cs_others = first_more cs bs more others apart

  apart_bs_more : HaveNoToolInCommon bs more
  apart_bs_more = rest_first cs bs more others apart

  in_two : partners_in Two (cs ++ more) (bs ++ others) ≡ partners_in Two cs bs ++ moved (length bs) (partners_in Two more others)
  in_two =
      let names = falling_names (cs ++ more) (bs ++ others) in
      partners_both cs bs more others (of_others cs others apart_cs_others) (of_others more cs (turn_round cs more apart_cs_more))
      (of_others more bs (turn_round bs more apart_bs_more)) (tiers_of (cs ++ more) (bs ++ others))
      ∙ ap₂ (λ ps qs. ps ++ moved (length bs) qs)
      (same_two cs bs (λ name. has_name name (names_of cs)) (λ name none. no_values name cs none) names (falling_names cs bs)
      (same_names (λ name. has_name name (names_of cs)) (cs ++ more) (bs ++ others) cs bs (λ name is. in_front name cs more is) (λ name is. is)))
      (same_two more others (λ name. has_name name (names_of more)) (λ name none. no_values name more none) names (falling_names more others)
      (same_names (λ name. has_name name (names_of more)) (cs ++ more) (bs ++ others) more others (λ name is. in_back name cs more is) (λ name is. is)))

  abbrev names : List (List ℕ)
  names = falling_names (map seen (cs ++ more)) (map seen (bs ++ others))

  -- the matches of the first lists from the end, with the names of all
  first_seen : partners_after (seen_from_end cs) (seen_from_end bs) (finer_tiers names)
      ≡ partners_after (seen_from_end cs) (seen_from_end bs) (tiers_in Three cs bs)
  first_seen =
      same_three (seen_from_end cs) (seen_from_end bs) (λ name. has_name name (names_of (map seen cs)))
      (λ name none. all_reverse _ (map seen cs) (no_values name (map seen cs) none)) names (falling_names (map seen cs) (map seen bs))
      (same_names (λ name. has_name name (names_of (map seen cs))) (map seen (cs ++ more)) (map seen (bs ++ others)) (map seen cs) (map seen bs)
      (λ name is. ap (λ l. has_name name (names_of l)) (map-append seen cs more) ∙ in_front name (map seen cs) (map seen more) is) (λ name is. is))

  second_seen : partners_after (seen_from_end more) (seen_from_end others) (finer_tiers names)
      ≡ partners_after (seen_from_end more) (seen_from_end others) (tiers_in Three more others)
  second_seen =
      same_three (seen_from_end more) (seen_from_end others) (λ name. has_name name (names_of (map seen more)))
      (λ name none. all_reverse _ (map seen more) (no_values name (map seen more) none)) names (falling_names (map seen more) (map seen others))
      (same_names (λ name. has_name name (names_of (map seen more))) (map seen (cs ++ more)) (map seen (bs ++ others)) (map seen more) (map seen others)
      (λ name is. ap (λ l. has_name name (names_of l)) (map-append seen cs more) ∙ in_back name (map seen cs) (map seen more) is) (λ name is. is))

  both_seen : partners_after (seen_from_end (cs ++ more)) (seen_from_end (bs ++ others)) (finer_tiers names)
      ≡ partners_after (seen_from_end more) (seen_from_end others) (tiers_in Three more others)
      ++ moved (length others) (partners_after (seen_from_end cs) (seen_from_end bs) (tiers_in Three cs bs))
  both_seen =
      ap₂ (λ l r. partners_after l r (finer_tiers names)) (seen_both cs more) (seen_both bs others)
      ∙ partners_both (seen_from_end more) (seen_from_end others) (seen_from_end cs) (seen_from_end bs)
      (of_others (seen_from_end more) (seen_from_end bs) (apart_from_end more bs (turn_round bs more apart_bs_more)))
      (of_others (seen_from_end cs) (seen_from_end more) (apart_from_end cs more apart_cs_more))
      (of_others (seen_from_end cs) (seen_from_end others) (apart_from_end cs others apart_cs_others)) (finer_tiers names)
      ∙ ap (λ n. partners_after (seen_from_end more) (seen_from_end others) (finer_tiers names)
      ++ moved n (partners_after (seen_from_end cs) (seen_from_end bs) (finer_tiers names))) (length-seen others)
      ∙ ap₂ (λ qs ps. qs ++ moved (length others) ps) second_seen first_seen

  in_three : partners_in Three (cs ++ more) (bs ++ others) ≡ partners_in Three cs bs ++ moved (length bs) (partners_in Three more others)
  in_three =
      let below : AreBelow (length others) (partners_after (seen_from_end more) (seen_from_end others) (tiers_in Three more others)) =
      subst (λ n. AreBelow n (partners_after (seen_from_end more) (seen_from_end others) (tiers_in Three more others))) (length-seen others)
      (partners_below (seen_from_end more) (seen_from_end others) (tiers_in Three more others)) in
      ap₂ turned (length-append bs others) both_seen
      ∙ turned_both (length bs) (length others) (partners_after (seen_from_end cs) (seen_from_end bs) (tiers_in Three cs bs))
      (partners_after (seen_from_end more) (seen_from_end others) (tiers_in Three more others)) below

  partners_are : (version : MatchingVersion)
      → partners_in version (cs ++ more) (bs ++ others) ≡ partners_in version cs bs ++ moved (length bs) (partners_in version more others)
  partners_are Two = in_two
  partners_are Three = in_three

-- ---- what follows

found_front : (bs others : List Record) (o : Option ℕ) → IfSome o (λ j. j < length bs)
    → option_and_then (slice_get (bs ++ others)) o ≡ option_and_then (slice_get bs) o
found_front bs others None below = refl
found_front bs others (Some j) below = front bs j below
  where
    front : (bs : List Record) (j : ℕ) → j < length bs → slice_get (bs ++ others) j ≡ slice_get bs j
    front [] j lt = absurd (omega (arith, lt))
    front (b ∷ bs) zero lt = refl
    front (b ∷ bs) (suc j) lt = front bs j (omega (arith, lt))

back : (bs others : List Record) (j : ℕ) → slice_get (bs ++ others) (length bs + j) ≡ slice_get others j
back [] others j = let none : 0 + j ≡ j = omega arith in ap (slice_get others) none
back (b ∷ bs) others j =
    let next : suc (length bs) + j ≡ suc (length bs + j) = omega arith in
    ap (slice_get (b ∷ (bs ++ others))) next ∙ back bs others j

found_back : (bs others : List Record) (o : Option ℕ)
    → option_and_then (slice_get (bs ++ others)) (option_map (λ j. length bs + j) o) ≡ option_and_then (slice_get others) o
found_back bs others None = refl
found_back bs others (Some j) = back bs others j

all_get : (n : ℕ) (ps : List (Option ℕ)) (i : ℕ) → AreBelow n ps → IfSome (slice_index_or ps i None) (λ j. j < n)
all_get n [] i below = tt
all_get n (p ∷ ps) zero below = below.0
all_get n (p ∷ ps) (suc i) below = all_get n ps i below.1

pub matched_apart : (version : MatchingVersion) (cs bs more others : List Record) → HaveNoToolInCommon (cs ++ bs) (more ++ others)
    → IsMatchedApart version cs bs more others
matched_apart version cs bs more others apart =
    let n = length bs in
    let ps = partners_in version cs bs in
    let qs = partners_in version more others in
    let are = partners_are cs bs more others apart version in record {
      partners = are;
      first = λ i lt.
          ap (λ l. option_and_then (slice_get (bs ++ others)) (slice_index_or l i None)) are
          ∙ ap (option_and_then (slice_get (bs ++ others))) (get_or-append ps (moved n qs) None i (omega (arith, lt, long_in version cs bs)))
          ∙ found_front bs others (slice_index_or ps i None) (all_get n ps i (below_in version cs bs));
      second = λ i.
          ap (λ l. option_and_then (slice_get (bs ++ others)) (slice_index_or l (length cs + i) None)) are
          ∙ ap (λ k. option_and_then (slice_get (bs ++ others)) (slice_index_or (ps ++ moved n qs) (k + i) None)) (sym (long_in version cs bs))
          ∙ ap (option_and_then (slice_get (bs ++ others))) (get_or-append-add ps (moved n qs) i None ∙ get_moved n qs i)
          ∙ found_back bs others (slice_index_or qs i None);
      first_taken = λ j lt. ap (λ l. is_taken l j) are ∙ taken_front ps n qs j lt;
      second_taken = λ j. ap (λ l. is_taken l (n + j)) are ∙ taken_back ps n qs (below_in version cs bs) j;
    }
