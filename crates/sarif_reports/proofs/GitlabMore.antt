-- The report for GitLab, put together from its parts.
use Rattle.std.proofs.Common.{◌≡◌, ◌<◌, ◌≤◌, ◌==◌, ne_eqb, ℕ, Bool, true, false, List, [], ◌∷◌, ◌++◌, length, map, take, drop, Option, Some, None, codes, bytes_eq, refl, sym, ap, ap₂, cond, ◌∙◌, append_assoc, arith}
use Rattle.std.specs.List.{count_by}
use Rattle.std.proofs.Common.{◌+◌, get_or, if◌then◌else◌, Result, String, Global, string_bytes, subst}
use Rattle.std.specs.Prelude.{Ok}
use Rattle.std.proofs.lemmas.Bool.{and_parts, and_from}
use Rattle.std.proofs.lemmas.Slice.Eq.{bytes_eq-Decides}
use Rattle.std.proofs.lemmas.List.{append_cancel_left, drop_more, take_more, map-append, length-map}
use Rattle.std.proofs.lemmas.List.Sums.{sum_by-cons, count_by_more_yes, count_by_more_no}
use Rattle.std.specs.BTreeMap as tree
use Rattle.std.specs.Ordering.{is_eq, nat_cmp}
use Rattle.std.specs.Cmp.{tied_then, unsigned_ties}
use Rattle.std.specs.Cmp.Lexicographic.{slice_cmp, texts_ties}
use Rattle.hex.specs.Hex.{encode_lower}
use Rattle.sha2.specs.Sha256.{sha256}
use Rattle.std.specs.List.{AllByRecursion, flat_map, list_all}
use Rattle.std.specs.Prelude.{nat_lt, unwrap_or}
use Rattle.std.proofs.lemmas.Bool.{le-ltb, false_from_ne_true, true≢false}
use Rattle.std.proofs.lemmas.Bool.Decides.{nat_tests}
use Rattle.json.specs.Print.{quoted, escape, escape_byte}
use Rattle.json.specs.Text.{content, plain}
use Rattle.json.proofs.Printed.Strings.{content-escape}
use Rattle.serde_json.specs.Data.{Data, item}
use Rattle.serde_json.specs.View.{items_of}
use Rattle.serde_json.specs.Written.{compact_text, items_text, comma_if}
use Rattle.serde_json.proofs.OnLiterals.{serde_json_on_literals}
use denote.Ref.{Bor}
use denote.Param.Members.{Shared}
use Rattle.sarif_model.specs.Internal.Hashed.{first_bits}
use Rattle.sarif_share.specs.Sharing.{AreJoined, GivesInParts, GivesPart, GivesParts}
use Rattle.sarif_findings.specs.declared.finding.Finding.{Finding}
use Rattle.sarif_reports.specs.declared.ranked.Ranked.{Ranked}
use Rattle.sarif_reports.specs.Internal.GitlabObjects.{object_of, objects_after, joined_objects, before_part}
use Rattle.sarif_reports.specs.GitlabReport.{quality_of, hashed_text, are_alike, same_path, path_or_null, rank_among, items_after, mark_of, gitlab_of}
use Rattle.sarif_reports.specs.GitlabParts.{stands_in_string, quoted_text, identity_of, rank_text, rule_text, location_text, severity_text, number_of, key_cmp, counted}

-- ---- an object and a hashed string, by their parts

pub quality_parts : (f : Finding) (mark : List ℕ)
    → compact_text (quality_of f mark) ≡ rule_text f ++ ((codes ",\"fingerprint\":" ++ quoted_text mark) ++ (location_text f ++ severity_text f.level))
unfolding quality_of quoted_text rule_text location_text severity_text serde_json_on_literals
quality_parts f mark = simp append_assoc

pub hashed_parts : (f : Finding) (rank : ℕ) → hashed_text f rank ≡ identity_of f ++ rank_text rank
unfolding hashed_text identity_of quoted_text serde_json_on_literals
hashed_parts f rank = simp append_assoc

-- ---- results with one identity are alike

-- what follows a quoted string is separate from it
json_cut : (a b r s : List ℕ) → quoted a ++ r ≡ quoted b ++ s → (a ≡ b) × (r ≡ s)
json_cut a b r s e =
    let inner : escape a ++ 34 ∷ r ≡ escape b ++ 34 ∷ s = sym (append_assoc (escape a) (34 ∷ []) r) ∙ ap (drop 1) e ∙ append_assoc (escape b) (34 ∷ []) s in
    let same : Some a ≡ Some b = sym (content-escape a r) ∙ ap (content plain) inner ∙ content-escape b s in
    let texts : a ≡ b = cc in
    let rest : 34 ∷ r ≡ 34 ∷ s = append_cancel_left (escape b) (34 ∷ r) (34 ∷ s) (ap (λ t. escape t ++ 34 ∷ r) (sym texts) ∙ inner) in
    (texts, ap (drop 1) rest)

quoted_cut : (a b r s : List ℕ) → quoted_text a ++ r ≡ quoted_text b ++ s → (a ≡ b) × (r ≡ s)
unfolding quoted_text
quoted_cut a b r s e = json_cut a b r s e

path_cut : (p q : Option (List ℕ)) (r s : List ℕ) → compact_text (path_or_null p) ++ r ≡ compact_text (path_or_null q) ++ s → (p ≡ q) × (r ≡ s)
path_cut None None r s e = (refl, append_cancel_left (codes "null") r s e)
path_cut None (Some b) r s e = let head : 110 ≡ 34 = ap (λ t. get_or t 0 0) e in absurd (omega (arith, head))
path_cut (Some a) None r s e = let head : 34 ≡ 110 = ap (λ t. get_or t 0 0) e in absurd (omega (arith, head))
path_cut (Some a) (Some b) r s e = let cut = json_cut a b r s e in (ap Some cut.0, cut.1)

-- an identity and more, piece by piece
identity_pieces : (f : Finding) (r : List ℕ)
    → identity_of f ++ r ≡ 91
    ∷ (quoted_text f.tool
    ++ (44 ∷ (quoted_text f.rule ++ (44 ∷ (compact_text (path_or_null f.path) ++ (44 ∷ (quoted_text f.message ++ r)))))))
unfolding identity_of
identity_pieces f r = simp append_assoc

same_path-from : (p q : Option (List ℕ)) → p ≡ q → same_path p q ≡ true
same_path-from None None e = refl
same_path-from None (Some b) e = cc
same_path-from (Some a) None e = cc
same_path-from (Some a) (Some b) e = let same : a ≡ b = cc in (bytes_eq-Decides a b).1 same

same_path-is : (p q : Option (List ℕ)) → same_path p q ≡ true → p ≡ q
same_path-is None None h = refl
same_path-is None (Some b) h = cc
same_path-is (Some a) None h = cc
same_path-is (Some a) (Some b) h = ap Some ((bytes_eq-Decides a b).0 h)

-- equal strings that begin with the identities of two results belong to results that are alike
pub identity_cut : (f g : Finding) (r s : List ℕ) → identity_of f ++ r ≡ identity_of g ++ s → (are_alike f g ≡ true) × (r ≡ s)
identity_cut f g r s e =
    let whole = sym (identity_pieces f r) ∙ e ∙ identity_pieces g s in
    let tool = quoted_cut f.tool g.tool _ _ (ap (drop 1) whole) in
    let rule = quoted_cut f.rule g.rule _ _ (ap (drop 1) tool.1) in
    let path = path_cut f.path g.path _ _ (ap (drop 1) rule.1) in
    let message = quoted_cut f.message g.message r s (ap (drop 1) path.1) in (
      and_from _ _ ((bytes_eq-Decides f.tool g.tool).1 tool.0)
          (and_from _ _ ((bytes_eq-Decides f.rule g.rule).1 rule.0)
          (and_from _ _ (same_path-from f.path g.path path.0) ((bytes_eq-Decides f.message g.message).1 message.0))),
      message.1,
    )

-- results that are alike have one identity
pub alike_identity : (f g : Finding) → are_alike f g ≡ true → identity_of f ≡ identity_of g
unfolding identity_of
alike_identity f g h =
    let tool = and_parts _ _ h in
    let rule = and_parts _ _ tool.1 in
    let path = and_parts _ _ rule.1 in
    rw (
      (bytes_eq-Decides f.tool g.tool).0 tool.0,
      (bytes_eq-Decides f.rule g.rule).0 rule.0,
      same_path-is f.path g.path path.0,
      (bytes_eq-Decides f.message g.message).0 path.1,
    )
    refl

same_tests : (a b : Bool) → (a ≡ true → b ≡ true) → (b ≡ true → a ≡ true) → a ≡ b
same_tests true b f g = sym (f refl)
same_tests false true f g = g refl
same_tests false false f g = refl

pub identity_tells : (f g : Finding) → are_alike f g ≡ bytes_eq (identity_of f) (identity_of g)
identity_tells f g =
    same_tests (are_alike f g) (bytes_eq (identity_of f) (identity_of g))
    (λ h. (bytes_eq-Decides (identity_of f) (identity_of g)).1 (alike_identity f g h))
    (λ h. (identity_cut f g [] [] (ap (λ t. t ++ []) ((bytes_eq-Decides (identity_of f) (identity_of g)).0 h))).0)

-- ---- one result after another

-- a string after two additions
pub joined : (old mid new x y : List ℕ) → mid ≡ old ++ x → new ≡ mid ++ y → new ≡ old ++ (x ++ y)
joined old mid new x y p q = q ∙ ap (λ t. t ++ y) p ∙ append_assoc old x y

-- before more of it
pub joined_before : (old mid new x y rest : List ℕ) → mid ≡ old ++ x → new ≡ mid ++ y → new ++ rest ≡ old ++ (x ++ (y ++ rest))
joined_before old mid new x y rest p q =
    ap (λ t. t ++ rest) (joined old mid new x y p q) ∙ append_assoc old (x ++ y) rest ∙ ap (λ t. old ++ t) (append_assoc x y rest)

count_by-same : (p q : Finding → Bool) → ((g : Finding) → p g ≡ q g) → (fs : List Finding) → count_by p fs ≡ count_by q fs
count_by-same p q same [] = refl
count_by-same p q same (g ∷ gs) =
    sum_by-cons (λ x. cond (p x) 1 0) g gs ∙ ap₂ (λ b n. cond b 1 0 + n) (same g) (count_by-same p q same gs)
    ∙ sym (sum_by-cons (λ x. cond (q x) 1 0) g gs)

pub rank_told : (f : Finding) (fs : List Finding) → rank_among fs f ≡ count_by (λ g. bytes_eq (identity_of f) (identity_of g)) fs
rank_told f fs = count_by-same (are_alike f) (λ g. bytes_eq (identity_of f) (identity_of g)) (identity_tells f) fs

count_by_case : (b : Bool) (q : List ℕ) (fs : List Finding) (i : ℕ) (f : Finding) (old new : ℕ) → i < length fs → f ≡ get_or fs i f
    → old ≡ count_by (λ g. bytes_eq q (identity_of g)) (take i fs) → bytes_eq q (identity_of f) ≡ b → new ≡ old + (if b then 1 else 0)
    → new ≡ count_by (λ g. bytes_eq q (identity_of g)) (take (i + 1) fs)
count_by_case true q fs i f old new within is counted test next =
    let more = count_by_more_yes (λ g. bytes_eq q (identity_of g)) fs i f within (ap (λ g. bytes_eq q (identity_of g)) (sym is) ∙ test) in
    omega (arith, more, counted, next)
count_by_case false q fs i f old new within is counted test next =
    let more = count_by_more_no (λ g. bytes_eq q (identity_of g)) fs i f within (ap (λ g. bytes_eq q (identity_of g)) (sym is) ∙ test) in
    omega (arith, more, counted, next)

-- one more result is counted
pub count_step : (q : List ℕ) (fs : List Finding) (i : ℕ) (f : Finding) (old new : ℕ) → i < length fs → f ≡ get_or fs i f
    → old ≡ count_by (λ g. bytes_eq q (identity_of g)) (take i fs) → new ≡ old + (if bytes_eq q (identity_of f) then 1 else 0)
    → new ≡ count_by (λ g. bytes_eq q (identity_of g)) (take (i + 1) fs)
count_step q fs i f old new within is counted next = count_by_case (bytes_eq q (identity_of f)) q fs i f old new within is counted refl next

-- the next object
pub next_object : (fs : List Finding) (i : ℕ) (f : Finding) (rank : ℕ) → i < length fs → f ≡ get_or fs i f
    → rank ≡ count_by (λ g. bytes_eq (identity_of f) (identity_of g)) (take i fs)
    → objects_after (take i fs) (drop i fs) ≡ quality_of f (mark_of f rank) ∷ objects_after (take (i + 1) fs) (drop (i + 1) fs)
next_object fs i f rank within is counted =
    let left : drop i fs ≡ f ∷ drop (i + 1) fs = drop_more fs i f within ∙ ap (λ x. x ∷ drop (i + 1) fs) (sym is) in
    let taken : take i fs ++ f ∷ [] ≡ take (i + 1) fs = ap (λ x. take i fs ++ x ∷ []) is ∙ sym (take_more fs i f within) in
    let ranked : rank_among (take i fs) f ≡ rank = rank_told f (take i fs) ∙ sym counted in
    ap (objects_after (take i fs)) left
    ∙ ap (λ n. quality_of f (mark_of f n) ∷ objects_after (take i fs ++ f ∷ []) (drop (i + 1) fs)) ranked
    ∙ ap (λ front. quality_of f (mark_of f rank) ∷ objects_after front (drop (i + 1) fs)) taken

-- a result more with its rank
pub ranked_more : (old new : List Ranked) (ranked : Ranked) (d : Data) (rest before whole : List Data) → new ≡ old ++ ranked ∷ [] → object_of ranked ≡ d
    → before ≡ d ∷ rest → map object_of old ++ before ≡ whole → map object_of new ++ rest ≡ whole
ranked_more old new ranked d rest before whole pushed is next held =
    ap (λ xs. map object_of xs ++ rest) pushed
    ∙ ap (λ xs. xs ++ rest) (map-append object_of old (ranked ∷ []))
    ∙ append_assoc (map object_of old) (object_of ranked ∷ []) rest
    ∙ ap (λ x. map object_of old ++ (x ∷ rest)) is
    ∙ ap (λ t. map object_of old ++ t) (sym next)
    ∙ held

-- a fingerprint, by the identity that is hashed
pub mark_is : (f : Finding) (rank : ℕ) (identity text : List ℕ) → identity ≡ identity_of f → text ≡ encode_lower (sha256 (identity ++ rank_text rank))
    → text ≡ mark_of f rank
mark_is f rank identity text is made =
    made ∙ ap (λ i. encode_lower (sha256 (i ++ rank_text rank))) is ∙ ap (λ t. encode_lower (sha256 t)) (sym (hashed_parts f rank))

-- ---- the array

items_are : (earlier fs : List Finding) → items_of (objects_after earlier fs) ≡ items_after earlier fs
items_are earlier [] = refl
items_are earlier (f ∷ fs) = ap (item (quality_of f (mark_of f (rank_among earlier f)))) (items_are (earlier ++ f ∷ []) fs)

joined_items : (later : Bool) (ds : List Data) → joined_objects later ds ++ 93 ∷ [] ≡ items_text later (items_of ds)
joined_items later [] = refl
joined_items later (d ∷ ds) =
    append_assoc (comma_if later) (compact_text d ++ joined_objects true ds) (93 ∷ [])
    ∙ ap (λ t. comma_if later ++ t) (append_assoc (compact_text d) (joined_objects true ds) (93 ∷ []) ∙ ap (λ t. compact_text d ++ t) (joined_items true ds))

-- all objects, between brackets
pub whole_array : (fs : List Finding) (ds : List Data) (objects text : List ℕ) → ds ≡ objects_after [] fs → objects ≡ 91 ∷ joined_objects false ds
    → text ≡ objects ++ 93 ∷ [] → text ≡ gitlab_of fs
whole_array fs ds objects text are is whole =
    whole ∙ ap (λ t. t ++ 93 ∷ []) (is ∙ ap (λ xs. 91 ∷ joined_objects false xs) are)
    ∙ ap (λ t. 91 ∷ t) (joined_items false (objects_after [] fs) ∙ ap (items_text false) (items_are [] fs))

joined_on : (xs ys : List Data) → joined_objects true xs ++ joined_objects true ys ≡ joined_objects true (xs ++ ys)
joined_on [] ys = refl
joined_on (x ∷ xs) ys = ap (λ t. 44 ∷ t)
    (append_assoc (compact_text x) (joined_objects true xs) (joined_objects true ys) ∙ ap (λ t. compact_text x ++ t) (joined_on xs ys))

joined_first : (xs ys : List Data) → 0 < length xs → joined_objects false xs ++ joined_objects true ys ≡ joined_objects false (xs ++ ys)
joined_first [] ys some = absurd (omega (arith, some))
joined_first (x ∷ xs) ys some = append_assoc (compact_text x) (joined_objects true xs) (joined_objects true ys)
    ∙ ap (λ t. compact_text x ++ t) (joined_on xs ys)

joined_later : (xs : List Data) → 0 < length xs → 44 ∷ joined_objects false xs ≡ joined_objects true xs
joined_later [] some = absurd (omega (arith, some))
joined_later (x ∷ xs) some = refl

-- after the first result there is a comma
comma_later : (begin : List ℕ) (start : ℕ) → 0 < start → before_part begin start ≡ 44 ∷ []
comma_later begin start later = ap (λ b. if b then begin else (44 ∷ [])) (ne_eqb start 0 (λ e. omega (arith, later, e)))

-- the objects of parts, the first of them after a string
module _ {F E : Type 0} (g : Shared F (ℕ × (Bor (List Ranked) × Unit {0})) (Result (String Global) E)) (f : F) (begin : List ℕ)
    (each : (start : ℕ) (p : Bor (List Ranked)) (s : String Global) → g.post f (start, (p, tt)) (Ok s)
    → string_bytes s ≡ before_part begin start ++ joined_objects false (map object_of p.now)) where
  part_text : (start : ℕ) (p : List Ranked) (s : String Global) → GivesPart g f start p (Ok s)
      → string_bytes s ≡ before_part begin start ++ joined_objects false (map object_of p)
  part_text start p s made = each start made.shown s made.call ∙ ap (λ q. before_part begin start ++ joined_objects false (map object_of q)) made.shows

  later_parts : (start : ℕ) (ps : List (List Ranked)) (ss : List (String Global)) → 0 < start → AllByRecursion (λ p. 0 < length p) ps
      → GivesParts g f start ps (map Ok ss)
      → flat_map string_bytes ss ≡ joined_objects true (map object_of (flat_map (λ p. p) ps))
  later_parts start [] [] later some given = refl
  later_parts start [] (s ∷ ss) later some given = absurd given
  later_parts start (p ∷ ps) [] later some given = absurd given
  later_parts start (p ∷ ps) (s ∷ ss) later some given =
      let xs = map object_of p in
      let rest = flat_map (λ q. q) ps in
      ap₂ (λ a b. a ++ b)
      (part_text start p s given.0 ∙ ap (λ t. t ++ joined_objects false xs) (comma_later begin start later)
      ∙ joined_later xs (rw (length-map p object_of) some.0))
      (later_parts (start + length p) ps ss (omega (arith, later)) some.1 given.1)
      ∙ joined_on xs (map object_of rest) ∙ ap (joined_objects true) (sym (map-append object_of p rest))

  all_parts : (ps : List (List Ranked)) (ss : List (String Global)) → 0 < length (flat_map (λ p. p) ps)
      → AllByRecursion (λ p. 0 < length p) ps → GivesParts g f 0 ps (map Ok ss)
      → flat_map string_bytes ss ≡ begin ++ joined_objects false (map object_of (flat_map (λ p. p) ps))
  all_parts [] ss any some given = absurd (omega (arith, any))
  all_parts (p ∷ ps) [] any some given = absurd given
  all_parts (p ∷ ps) (s ∷ ss) any some given =
      let xs = map object_of p in
      let rest = flat_map (λ q. q) ps in
      ap₂ (λ a b. a ++ b) (part_text 0 p s given.0) (later_parts (0 + length p) ps ss (omega (arith, some.0)) some.1 given.1)
      ∙ append_assoc begin (joined_objects false xs) (joined_objects true (map object_of rest))
      ∙ ap (λ t. begin ++ t) (joined_first xs (map object_of rest) (rw (length-map p object_of) some.0)
      ∙ ap (joined_objects false) (sym (map-append object_of p rest)))

  pub joined_parts : (xs : List Ranked) (rs : List (Result (String Global) E)) (text : List ℕ) → 0 < length xs → GivesInParts g f xs rs
      → AreJoined string_bytes rs text
      → text ≡ begin ++ joined_objects false (map object_of xs)
  joined_parts xs rs text any made are =
      let ps = made.parts in
      sym are.2
      ∙ all_parts ps are.0 (subst (λ ys. 0 < length ys) (sym made.whole) any) made.some (subst (GivesParts g f 0 ps) (sym are.1) made.given)
      ∙ ap (λ ys. begin ++ joined_objects false (map object_of ys)) made.whole

-- ---- a string in which nothing is escaped

quote_apart : (b : ℕ) → stands_in_string b ≡ true → (b == 34) ≡ false
quote_apart b h = grind (arith, nat_tests, h)

slash_apart : (b : ℕ) → stands_in_string b ≡ true → (b == 92) ≡ false
slash_apart b h = grind (arith, nat_tests, h)

high : (b : ℕ) → stands_in_string b ≡ true → 32 ≤ b
high b h = grind (arith, nat_tests, h)

low_apart : (b n : ℕ) → n < 32 → stands_in_string b ≡ true → (b == n) ≡ false
low_apart b n low h = let at_least = high b h in ne_eqb b n (λ e. omega (arith, low, at_least, e))

not_low : (b : ℕ) → stands_in_string b ≡ true → nat_lt b 32 ≡ false
not_low b h = le-ltb b 32 (high b h)

byte_stands : (b : ℕ) → stands_in_string b ≡ true → escape_byte b ≡ b ∷ []
unfolding escape_byte
byte_stands b h =
    rw (
      quote_apart b h,
      slash_apart b h,
      low_apart b 8 (omega arith) h,
      low_apart b 12 (omega arith) h,
      low_apart b 10 (omega arith) h,
      low_apart b 13 (omega arith) h,
      low_apart b 9 (omega arith) h,
      not_low b h,
    ) refl

escape_whole : (bs : List ℕ) → list_all stands_in_string bs ≡ true → escape bs ≡ bs
escape_whole [] h = refl
escape_whole (b ∷ bs) h =
    let parts = and_parts (stands_in_string b) (list_all stands_in_string bs) h in
    rw (byte_stands b parts.0) (ap (λ t. b ∷ t) (escape_whole bs parts.1))

pub quoted_whole : (bs : List ℕ) → list_all stands_in_string bs ≡ true → quoted_text bs ≡ 34 ∷ (bs ++ 34 ∷ [])
unfolding quoted_text
quoted_whole bs h = ap (λ t. 34 ∷ (t ++ 34 ∷ [])) (escape_whole bs h)

-- ---- counting

same_number : (n m : ℕ) → n ≡ m → is_eq (nat_cmp n m) ≡ true
same_number n m e = let told : (n == m) ≡ true = grind (arith, nat_tests, e) in sym (unsigned_ties n m) ∙ told

is_same_key : (key : ℕ × List ℕ) (other : List ℕ) (b : Bool) → key.0 ≡ number_of key.1 → bytes_eq other key.1 ≡ b
    → is_eq (key_cmp key (number_of other, other)) ≡ b
is_same_key key other true is h =
    let same : other ≡ key.1 = (bytes_eq-Decides other key.1).0 h in
    sym (tied_then (nat_cmp key.0 (number_of other)) (slice_cmp nat_cmp key.1 other))
    ∙ and_from _ _ (same_number key.0 (number_of other) (is ∙ ap number_of (sym same)))
    (sym (texts_ties key.1 other) ∙ (bytes_eq-Decides key.1 other).1 (sym same))
is_same_key key other false is h =
    sym (tied_then (nat_cmp key.0 (number_of other)) (slice_cmp nat_cmp key.1 other))
    ∙ false_from_ne_true _
    (λ both. true≢false
    (sym ((bytes_eq-Decides other key.1).1 (sym ((bytes_eq-Decides key.1 other).0 (texts_ties key.1 other ∙ (and_parts _ _ both).1)))) ∙ h))

counted_by : (b : Bool) (old new : Option ℕ) (rank : ℕ) → new ≡ cond b (Some (rank + 1)) old → (b ≡ true → unwrap_or old 0 ≡ rank)
    → unwrap_or new 0 ≡ unwrap_or old 0 + (if b then 1 else 0)
counted_by true old new rank e same = ap (λ o. unwrap_or o 0) e ∙ ap (λ n. n + 1) (sym (same refl))
counted_by false old new rank e same = let zero : unwrap_or old 0 ≡ unwrap_or old 0 + 0 = omega arith in ap (λ o. unwrap_or o 0) e ∙ zero

pub counted_more : (old new : tree.BTreeMap (ℕ × List ℕ) ℕ) (key : ℕ × List ℕ) (other : List ℕ) (rank : ℕ) → key.0 ≡ number_of key.1
    → rank ≡ counted old key.1
    → ((q : ℕ × List ℕ) → tree.get key_cmp new q ≡ cond (is_eq (key_cmp key q)) (Some (rank + 1)) (tree.get key_cmp old q))
    → counted new other ≡ counted old other + (if bytes_eq other key.1 then 1 else 0)
counted_more old new key other rank is told updates =
    counted_by (bytes_eq other key.1) (tree.get key_cmp old (number_of other, other)) (tree.get key_cmp new (number_of other, other)) rank
    (updates (number_of other, other)
    ∙ ap (λ b. cond b (Some (rank + 1)) (tree.get key_cmp old (number_of other, other))) (is_same_key key other (bytes_eq other key.1) is refl))
    (λ h. ap (counted old) ((bytes_eq-Decides other key.1).0 h) ∙ sym told)

pub number_told : (identity digest : List ℕ) (number : ℕ) → digest ≡ sha256 (identity ++ rank_text 0) → number ≡ first_bits digest
    → number ≡ number_of identity
unfolding number_of
number_told identity digest number p q = q ∙ ap first_bits p

rank_is : (old : tree.BTreeMap (ℕ × List ℕ) ℕ) (key : ℕ × List ℕ) → key.0 ≡ number_of key.1
    → unwrap_or (tree.get key_cmp old key) 0 ≡ counted old key.1
rank_is old key is = ap (λ n. unwrap_or (tree.get key_cmp old (n, key.1)) 0) is

-- a result with an identity that none was counted with
pub counted_first : (old new : tree.BTreeMap (ℕ × List ℕ) ℕ) (key : ℕ × List ℕ) (text other : List ℕ) → key.0 ≡ number_of key.1 → key.1 ≡ text
    → None ≡ tree.get key_cmp old key
    → ((q : ℕ × List ℕ) → tree.get key_cmp new q ≡ cond (is_eq (key_cmp key q)) (Some 1) (tree.get key_cmp old q))
    → counted new other ≡ counted old other + (if bytes_eq other text then 1 else 0)
counted_first old new key text other is same none updates =
    counted_more old new key other 0 is (ap (λ o. unwrap_or o 0) none ∙ rank_is old key is) updates
    ∙ ap (λ t. counted old other + (if bytes_eq other t then 1 else 0)) same

put_twice : {X : Type 0} (b : Bool) (old mid new first last : Option X) → mid ≡ cond b first old → new ≡ cond b last mid → new ≡ cond b last old
put_twice true old mid new first last p q = q
put_twice false old mid new first last p q = q ∙ p

-- how many were counted with an identity
pub rank_some : (old : tree.BTreeMap (ℕ × List ℕ) ℕ) (key : ℕ × List ℕ) (text : List ℕ) (rank : ℕ) → key.0 ≡ number_of key.1 → key.1 ≡ text
    → Some rank ≡ tree.get key_cmp old key → rank ≡ counted old text
rank_some old key text rank is same some = ap (λ o. unwrap_or o 0) some ∙ rank_is old key is ∙ ap (counted old) same

pub same_keys : (key again : ℕ × List ℕ) (text : List ℕ) → key.0 ≡ number_of key.1 → again.0 ≡ number_of again.1 → key.1 ≡ text → again.1 ≡ text → key ≡ again
same_keys key again text is be p q =
    let texts : key.1 ≡ again.1 = p ∙ sym q in
    ap₂ (λ n t. (n, t)) (is ∙ ap number_of texts ∙ sym be) texts

-- a result with an identity that some were counted with
pub counted_again : (old mid new : tree.BTreeMap (ℕ × List ℕ) ℕ) (key again : ℕ × List ℕ) (text other : List ℕ) (rank : ℕ) → key.0 ≡ number_of key.1
    → key.1 ≡ text → key ≡ again → Some rank ≡ tree.get key_cmp old key
    → ((q : ℕ × List ℕ) → tree.get key_cmp mid q ≡ cond (is_eq (key_cmp key q)) (Some 1) (tree.get key_cmp old q))
    → ((q : ℕ × List ℕ) → tree.get key_cmp new q ≡ cond (is_eq (key_cmp again q)) (Some (rank + 1)) (tree.get key_cmp mid q))
    → counted new other ≡ counted old other + (if bytes_eq other text then 1 else 0)
counted_again old mid new key again text other rank is same twice some first last =
    let updates : (q : ℕ × List ℕ) → tree.get key_cmp new q ≡ cond (is_eq (key_cmp key q)) (Some (rank + 1)) (tree.get key_cmp old q) =
    λ q. put_twice (is_eq (key_cmp key q)) (tree.get key_cmp old q) (tree.get key_cmp mid q) (tree.get key_cmp new q) (Some 1)
    (Some (rank + 1)) (first q) (last q ∙ ap (λ k. cond (is_eq (key_cmp k q)) (Some (rank + 1)) (tree.get key_cmp mid q)) (sym twice)) in
    counted_more old new key other rank is (ap (λ o. unwrap_or o 0) some ∙ rank_is old key is) updates
    ∙ ap (λ t. counted old other + (if bytes_eq other t then 1 else 0)) same
