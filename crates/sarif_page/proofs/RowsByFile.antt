-- The rows of a page: by file, each result once, hits before others.
use Rattle.std.proofs.Common.{◌≡◌, ◌≤◌, ◌+◌, ◌-◌, ◌==◌, ℕ, Bool, true, false, cond, not, ◌&&◌, ◌||◌, List, [], ◌∷◌, ◌++◌, length, take, flat_map, bytes_eq, if◌then◌else◌, refl, sym, ap, ◌∙◌, append_assoc, zero, suc, arith}
use Rattle.std.specs.List.{filter, list_any, list_all, count_by}
use Rattle.std.proofs.lemmas.Bool.{true≢false, and_parts, or_parts, and_from, not-true}
use Rattle.std.proofs.lemmas.List.{take_all, length-append, length-take}
use Rattle.std.proofs.lemmas.List.Folds.{list_any-append}
use Rattle.std.proofs.lemmas.List.Sums.{sum_by-append, sum_by-cons}
use Rattle.sarif_model.specs.declared.kinds.Level.TheVariants.{NoLevel, Note, Warning, Error}
use Rattle.sarif_model.specs.Level.{severity}
use Rattle.sarif_counts.specs.Impacts.{is_hit}
use Rattle.sarif_counts.specs.declared.gate_verdict.Impact.{Impact}
use Rattle.sarif_counts.specs.declared.gate_verdict.Impact.TheVariants as impacts
use Rattle.sarif_findings.specs.declared.finding.Finding.{Finding}
use Rattle.sarif_page.specs.Internal.ByFile.{has_file}
use Rattle.sarif_page.specs.HtmlLaws.{goes_on, are_together}
use Rattle.sarif_page.specs.HtmlRows.{file_of, is_in, files_of, by_file, most_rows, hit_rows, other_rows, page_rows}
use Rattle.sarif_shown.specs.Listed.{by_level, does, doing, hits_among, of_level, others_among, weight}
use Rattle.sarif_shown.proofs.ListedMore.{counted_listed}
use Rattle.sarif_page.proofs.FilesMore.{files_seen, others_stay, text_same, text_self, texts_swap}

-- ---- what is true for all findings is true for the rows

all_filter : (p q : Finding → Bool) (fs : List Finding) → list_all p fs ≡ true → list_all p (filter q fs) ≡ true
all_filter p q [] h = refl
all_filter p q (f ∷ fs) h =
    let parts = and_parts (p f) (list_all p fs) h in
    by (q f) (all_filter p q fs parts.1) parts.0
  where
    by : (b : Bool) → list_all p (filter q fs) ≡ true → p f ≡ true → list_all p (cond b (f ∷ filter q fs) (filter q fs)) ≡ true
    by true rest first = and_from (p f) (list_all p (filter q fs)) first rest
    by false rest first = rest

all_append : (p : Finding → Bool) (xs ys : List Finding) → list_all p xs ≡ true → list_all p ys ≡ true → list_all p (xs ++ ys) ≡ true
all_append p [] ys h g = g
all_append p (x ∷ xs) ys h g =
    let parts = and_parts (p x) (list_all p xs) h in
    and_from (p x) (list_all p (xs ++ ys)) parts.0 (all_append p xs ys parts.1 g)

all_files : (p : Finding → Bool) (fs : List Finding) (files : List (List ℕ)) → list_all p fs ≡ true
    → list_all p (flat_map (λ file. filter (is_in file) fs) files) ≡ true
all_files p fs [] h = refl
all_files p fs (file ∷ files) h =
    all_append p (filter (is_in file) fs) (flat_map (λ q. filter (is_in q) fs) files) (all_filter p (is_in file) fs h) (all_files p fs files h)

all_take : (p : Finding → Bool) (n : ℕ) (xs : List Finding) → list_all p xs ≡ true → list_all p (take n xs) ≡ true
all_take p zero xs h = refl
all_take p (suc n) [] h = refl
all_take p (suc n) (x ∷ xs) h =
    let parts = and_parts (p x) (list_all p xs) h in
    and_from (p x) (list_all p (take n xs)) parts.0 (all_take p n xs parts.1)

all_kept : (p : Finding → Bool) (fs : List Finding) → list_all p (filter p fs) ≡ true
all_kept p [] = refl
all_kept p (f ∷ fs) = by (p f) refl (all_kept p fs)
  where
    by : (b : Bool) → p f ≡ b → list_all p (filter p fs) ≡ true → list_all p (cond b (f ∷ filter p fs) (filter p fs)) ≡ true
    by true e rest = and_from (p f) (list_all p (filter p fs)) e rest
    by false e rest = rest

-- what is true for all is true if they are sorted by level
all_levels : (p : Finding → Bool) (fs : List Finding) → list_all p fs ≡ true → list_all p (by_level fs) ≡ true
unfolding by_level
all_levels p fs h =
    all_append p (of_level Error fs) _ (all_filter p (λ f. severity f.level == severity Error) fs h)
    (all_append p (of_level Warning fs) _ (all_filter p (λ f. severity f.level == severity Warning) fs h)
    (all_append p (of_level Note fs) (of_level NoLevel fs) (all_filter p (λ f. severity f.level == severity Note) fs h)
    (all_filter p (λ f. severity f.level == severity NoLevel) fs h)))

-- what all that do this to the gate are, they are too if they are sorted by level
all_doing : (i : Impact) (p : Finding → Bool) → ((f : Finding) → does i f ≡ true → p f ≡ true) → (fs : List Finding)
    → list_all p (by_level (doing i fs)) ≡ true
all_doing i p sure fs = all_levels p (doing i fs) (kept fs)
  where
    kept_by : (b : Bool) (f : Finding) (gs : List Finding) → does i f ≡ b → list_all p gs ≡ true → list_all p (cond b (f ∷ gs) gs) ≡ true
    kept_by true f gs e rest = and_from (p f) (list_all p gs) (sure f e) rest
    kept_by false f gs e rest = rest

    kept : (gs : List Finding) → list_all p (doing i gs) ≡ true
    kept [] = refl
    kept (f ∷ gs) = kept_by (does i f) f (doing i gs) refl (kept gs)

stops_hit : (i : Impact) → (weight i == 2) ≡ true → is_hit i ≡ true
stops_hit impacts.Stops e = refl
stops_hit impacts.Hit e = refl
stops_hit impacts.None e = e

hit_hit : (i : Impact) → (weight i == 1) ≡ true → is_hit i ≡ true
hit_hit impacts.Stops e = refl
hit_hit impacts.Hit e = refl
hit_hit impacts.None e = e

none_other : (i : Impact) → (weight i == 0) ≡ true → not (is_hit i) ≡ true
none_other impacts.Stops e = e
none_other impacts.Hit e = e
none_other impacts.None e = refl

all_hits : (fs : List Finding) → list_all (λ f. is_hit f.impact) (hits_among fs) ≡ true
all_hits fs =
    all_append (λ f. is_hit f.impact) (by_level (doing impacts.Stops fs)) (by_level (doing impacts.Hit fs))
    (all_doing impacts.Stops (λ f. is_hit f.impact) (λ f e. stops_hit f.impact e) fs)
    (all_doing impacts.Hit (λ f. is_hit f.impact) (λ f e. hit_hit f.impact e) fs)

pub rows_are_hits : (fs : List Finding) → list_all (λ f. is_hit f.impact) (hit_rows fs) ≡ true
unfolding hit_rows
rows_are_hits fs =
    all_take (λ f. is_hit f.impact) most_rows (by_file (hits_among fs))
    (all_files (λ f. is_hit f.impact) (hits_among fs) (files_of (hits_among fs)) (all_hits fs))

pub rows_are_others : (fs : List Finding) → list_all (λ f. not (is_hit f.impact)) (other_rows fs) ≡ true
unfolding other_rows
rows_are_others fs =
    all_take (λ f. not (is_hit f.impact)) (most_rows - length (hit_rows fs)) (by_file (others_among fs))
    (all_files (λ f. not (is_hit f.impact)) (others_among fs) (files_of (others_among fs))
    (all_doing impacts.None (λ f. not (is_hit f.impact)) (λ f e. none_other f.impact e) fs))

-- ---- each file's rows together

-- files that differ from each other
abbrev are_apart : List (List ℕ) → Bool
are_apart [] = true
are_apart (file ∷ files) = not (has_file files file) && are_apart files

fewer_by : (d : Bool) (q file : List ℕ) (rest : List (List ℕ)) → bytes_eq q file ≡ false → has_file rest q ≡ false
    → has_file (cond d (file ∷ rest) rest) q ≡ false
fewer_by true q file rest a b = ap (λ t. t || has_file rest q) a ∙ b
fewer_by false q file rest a b = b

fewer : (p : List ℕ → Bool) (files : List (List ℕ)) (q : List ℕ) → has_file files q ≡ false → has_file (filter p files) q ≡ false
fewer p [] q h = refl
fewer p (file ∷ files) q h =
    let parts = or_parts (bytes_eq q file) (has_file files q) h in
    fewer_by (p file) q file (filter p files) parts.0 (fewer p files q parts.1)

apart_by : (d : Bool) (file : List ℕ) (rest : List (List ℕ)) → has_file rest file ≡ false → are_apart rest ≡ true
    → are_apart (cond d (file ∷ rest) rest) ≡ true
apart_by true file rest a b = and_from (not (has_file rest file)) (are_apart rest) (ap not a) b
apart_by false file rest a b = b

apart_filter : (p : List ℕ → Bool) (files : List (List ℕ)) → are_apart files ≡ true → are_apart (filter p files) ≡ true
apart_filter p [] h = refl
apart_filter p (file ∷ files) h =
    let parts = and_parts (not (has_file files file)) (are_apart files) h in
    apart_by (p file) file (filter p files) (fewer p files file (not-true (has_file files file) parts.0)) (apart_filter p files parts.1)

files_apart : (fs : List Finding) → are_apart (files_of fs) ≡ true
files_apart [] = refl
files_apart (f ∷ fs) =
    let file = file_of f in
    let rest = filter (λ own. not (bytes_eq own file)) (files_of fs) in
    let new : has_file rest file ≡ false = others_stay file file (files_of fs) ∙ ap (λ b. not b && has_file (files_of fs) file) (text_self file) in
    and_from (not (has_file rest file)) (are_apart rest) (ap not new) (apart_filter (λ own. not (bytes_eq own file)) (files_of fs) (files_apart fs))

-- the rows of one file, and then no more of it
goes : (f : Finding) (xs ys : List Finding) → list_all (is_in (file_of f)) xs ≡ true → list_any (is_in (file_of f)) ys ≡ false
    → goes_on f (xs ++ ys) ≡ true
goes f [] [] h g = refl
goes f [] (y ∷ ys) h g =
    let parts = or_parts (is_in (file_of f) y) (list_any (is_in (file_of f)) ys) g in
    ap (λ b. if b then goes_on f ys else not (list_any (is_in (file_of f)) ys)) parts.0 ∙ ap not parts.1
goes f (x ∷ xs) ys h g =
    let parts = and_parts (is_in (file_of f) x) (list_all (is_in (file_of f)) xs) h in
    ap (λ b. if b then goes_on f (xs ++ ys) else not (list_any (is_in (file_of f)) (xs ++ ys))) parts.0 ∙ goes f xs ys parts.1 g

join : (file : List ℕ) (xs ys : List Finding) → list_all (is_in file) xs ≡ true → list_any (is_in file) ys ≡ false
    → are_together ys ≡ true → are_together (xs ++ ys) ≡ true
join file [] ys h none rest = rest
join file (x ∷ xs) ys h none rest =
    let parts = and_parts (is_in file x) (list_all (is_in file) xs) h in
    let same = text_same file (file_of x) parts.0 in
    and_from (goes_on x (xs ++ ys)) (are_together (xs ++ ys))
    (goes x xs ys (ap (λ t. list_all (is_in t) xs) (sym same) ∙ parts.1) (ap (λ t. list_any (is_in t) ys) (sym same) ∙ none))
    (join file xs ys parts.1 none rest)

apart_any_by : (b : Bool) (q file : List ℕ) (f : Finding) (rest : List Finding) → is_in file f ≡ b → bytes_eq q file ≡ false
    → list_any (is_in q) rest ≡ false → list_any (is_in q) (cond b (f ∷ rest) rest) ≡ false
apart_any_by true q file f rest e apart h =
    ap (λ b. b || list_any (is_in q) rest) (ap (bytes_eq q) (sym (text_same file (file_of f) e)) ∙ apart) ∙ h
apart_any_by false q file f rest e apart h = h

apart_any : (q file : List ℕ) (fs : List Finding) → bytes_eq q file ≡ false → list_any (is_in q) (filter (is_in file) fs) ≡ false
apart_any q file [] apart = refl
apart_any q file (f ∷ fs) apart = apart_any_by (is_in file f) q file f (filter (is_in file) fs) refl apart (apart_any q file fs apart)

none_at : (fs : List Finding) (files : List (List ℕ)) (q : List ℕ) → has_file files q ≡ false
    → list_any (is_in q) (flat_map (λ file. filter (is_in file) fs) files) ≡ false
none_at fs [] q h = refl
none_at fs (file ∷ files) q h =
    let parts = or_parts (bytes_eq q file) (has_file files q) h in
    let rest = flat_map (λ own. filter (is_in own) fs) files in
    list_any-append (is_in q) (filter (is_in file) fs) rest
    ∙ ap (λ b. b || list_any (is_in q) rest) (apart_any q file fs parts.0) ∙ none_at fs files q parts.1

together_files : (fs : List Finding) (files : List (List ℕ)) → are_apart files ≡ true
    → are_together (flat_map (λ file. filter (is_in file) fs) files) ≡ true
together_files fs [] h = refl
together_files fs (file ∷ files) h =
    let parts = and_parts (not (has_file files file)) (are_apart files) h in
    join file (filter (is_in file) fs) (flat_map (λ own. filter (is_in own) fs) files) (all_kept (is_in file) fs)
    (none_at fs files file (not-true (has_file files file) parts.0)) (together_files fs files parts.1)

-- the first rows
any_take : (p : Finding → Bool) (n : ℕ) (xs : List Finding) → list_any p xs ≡ false → list_any p (take n xs) ≡ false
any_take p zero xs h = refl
any_take p (suc n) [] h = refl
any_take p (suc n) (x ∷ xs) h =
    let parts = or_parts (p x) (list_any p xs) h in
    ap (λ b. b || list_any p (take n xs)) parts.0 ∙ any_take p n xs parts.1

goes_by : (b x y z w : Bool) → (if b then x else y) ≡ true → (x ≡ true → z ≡ true) → (y ≡ true → w ≡ true) → (if b then z else w) ≡ true
goes_by true x y z w h f g = f h
goes_by false x y z w h f g = g h

goes_take : (f : Finding) (n : ℕ) (xs : List Finding) → goes_on f xs ≡ true → goes_on f (take n xs) ≡ true
goes_take f zero xs h = refl
goes_take f (suc n) [] h = refl
goes_take f (suc n) (x ∷ xs) h =
    goes_by (is_in (file_of f) x) (goes_on f xs) (not (list_any (is_in (file_of f)) xs)) (goes_on f (take n xs))
    (not (list_any (is_in (file_of f)) (take n xs))) h
    (goes_take f n xs) (λ e. ap not (any_take (is_in (file_of f)) n xs (not-true (list_any (is_in (file_of f)) xs) e)))

together_take : (n : ℕ) (xs : List Finding) → are_together xs ≡ true → are_together (take n xs) ≡ true
together_take zero xs h = refl
together_take (suc n) [] h = refl
together_take (suc n) (x ∷ xs) h =
    let parts = and_parts (goes_on x xs) (are_together xs) h in
    and_from (goes_on x (take n xs)) (are_together (take n xs)) (goes_take x n xs parts.0) (together_take n xs parts.1)

pub rows_together : (fs : List Finding) → (are_together (hit_rows fs) && are_together (other_rows fs)) ≡ true
unfolding hit_rows other_rows
rows_together fs =
    and_from (are_together (hit_rows fs)) (are_together (other_rows fs))
    (together_take most_rows (by_file (hits_among fs)) (together_files (hits_among fs) (files_of (hits_among fs)) (files_apart (hits_among fs))))
    (together_take (most_rows - length (hit_rows fs)) (by_file (others_among fs))
    (together_files (others_among fs) (files_of (others_among fs)) (files_apart (others_among fs))))

-- ---- each result once

module _ (p : Finding → Bool) where
  part : (d : Bool) (f : Finding) (rest : List Finding) → count_by p (cond d (f ∷ rest) rest) ≡ cond d (cond (p f) 1 0) 0 + count_by p rest
  part true f rest = sum_by-cons (λ g. cond (p g) 1 0) f rest
  part false f rest = omega arith

  numbers : (a b : Bool) (x c d e : ℕ) → (a ≡ true → b ≡ false) → c + d ≡ e
      → (cond a x 0 + c) + (cond (not (a || b)) x 0 + d) ≡ cond (not b) x 0 + e
  numbers true true x c d e apart sum = absurd (true≢false (apart refl))
  numbers true false x c d e apart sum = omega (arith, sum)
  numbers false true x c d e apart sum = omega (arith, sum)
  numbers false false x c d e apart sum = omega (arith, sum)

  split : (file : List ℕ) (files : List (List ℕ)) → has_file files file ≡ false → (fs : List Finding)
      → count_by p (filter (is_in file) fs) + count_by p (filter (λ f. not (bytes_eq (file_of f) file || has_file files (file_of f))) fs)
      ≡ count_by p (filter (λ f. not (has_file files (file_of f))) fs)
  split file files new [] = refl
  split file files new (f ∷ fs) =
      let a = bytes_eq (file_of f) file in
      let b = has_file files (file_of f) in
      let first = filter (is_in file) fs in
      let second = filter (λ g. not (bytes_eq (file_of g) file || has_file files (file_of g))) fs in
      let third = filter (λ g. not (has_file files (file_of g))) fs in
      let swapped : count_by p (cond (is_in file f) (f ∷ first) first) ≡ count_by p (cond a (f ∷ first) first) =
      ap (λ t. count_by p (cond t (f ∷ first) first)) (texts_swap file (file_of f)) in
      let one_a = part a f first in
      let one_b = part (not (a || b)) f second in
      let one_c = part (not b) f third in
      let sums = numbers a b (cond (p f) 1 0) (count_by p first) (count_by p second) (count_by p third)
      (λ e. ap (has_file files) (text_same (file_of f) file e) ∙ new) (split file files new fs) in
      ap (λ t. t + count_by p (cond (not (a || b)) (f ∷ second) second)) swapped
      ∙ ap (λ t. t + count_by p (cond (not (a || b)) (f ∷ second) second)) one_a
      ∙ ap (λ t. (cond a (cond (p f) 1 0) 0 + count_by p first) + t) one_b ∙ sums ∙ sym one_c

  whole : (fs : List Finding) → filter (λ f. not (has_file [] (file_of f))) fs ≡ fs
  whole [] = refl
  whole (f ∷ fs) = ap (λ t. f ∷ t) (whole fs)

  total : (fs : List Finding) (files : List (List ℕ)) → are_apart files ≡ true
      → count_by p (flat_map (λ file. filter (is_in file) fs) files) + count_by p (filter (λ f. not (has_file files (file_of f))) fs) ≡ count_by p fs
  total fs [] h = ap (λ t. 0 + count_by p t) (whole fs) ∙ omega arith
  total fs (file ∷ files) h =
      let parts = and_parts (not (has_file files file)) (are_apart files) h in
      let rest = flat_map (λ own. filter (is_in own) fs) files in
      let both = sum_by-append (λ g. cond (p g) 1 0) (filter (is_in file) fs) rest in
      let here = split file files (not-true (has_file files file) parts.0) fs in
      let there = total fs files parts.1 in
      omega (arith, both, here, there)

left_by : (b : Bool) (f : Finding) (rest : List Finding) → b ≡ true → rest ≡ [] → cond (not b) (f ∷ rest) rest ≡ []
left_by true f rest e h = h
left_by false f rest e h = absurd (true≢false (sym e))

or_true : (b : Bool) → (b || true) ≡ true
or_true true = refl
or_true false = refl

-- no result is outside of the files of all
none_left : (before fs : List Finding) → filter (λ f. not (has_file (files_of (before ++ fs)) (file_of f))) fs ≡ []
none_left before [] = refl
none_left before (f ∷ fs) =
    let file = file_of f in
    let seen : has_file (files_of (before ++ (f ∷ fs))) file ≡ true =
    files_seen file (before ++ (f ∷ fs)) ∙ list_any-append (is_in file) before (f ∷ fs)
    ∙ ap (λ b. list_any (is_in file) before || (b || list_any (is_in file) fs)) (text_self file) ∙ or_true (list_any (is_in file) before) in
    left_by (has_file (files_of (before ++ (f ∷ fs))) file) f (filter (λ g. not (has_file (files_of (before ++ (f ∷ fs))) (file_of g))) fs) seen
    (ap (λ l. filter (λ g. not (has_file (files_of l) (file_of g))) fs) (sym (append_assoc before (f ∷ []) fs)) ∙ none_left (before ++ f ∷ []) fs)

pub once_by_file : (p : Finding → Bool) (fs : List Finding) → count_by p (by_file fs) ≡ count_by p fs
once_by_file p fs =
    let all = total p fs (files_of fs) (files_apart fs) in
    let none = ap (λ l. count_by p l) (none_left [] fs) in
    omega (arith, all, none)

halves : (p : Finding → Bool) (fs : List Finding) → count_by p (hits_among fs) + count_by p (others_among fs) ≡ count_by p fs
halves p fs = sym (sum_by-append (λ g. cond (p g) 1 0) (hits_among fs) (others_among fs)) ∙ counted_listed p fs

count_all : (fs : List Finding) → count_by (λ f. true) fs ≡ length fs
count_all [] = refl
count_all (f ∷ fs) =
    let first = sum_by-cons (λ (g : Finding). cond {A = ℕ} true 1 0) f fs in
    let rest = count_all fs in
    omega (arith, first, rest)

pub length_by_file : (fs : List Finding) → length (by_file fs) ≡ length fs
length_by_file fs = sym (count_all (by_file fs)) ∙ once_by_file (λ f. true) fs ∙ count_all fs

length_halves : (fs : List Finding) → length (hits_among fs) + length (others_among fs) ≡ length fs
length_halves fs =
    let hits = count_all (hits_among fs) in
    let others = count_all (others_among fs) in
    let both = halves (λ f. true) fs in
    let all = count_all fs in
    omega (arith, hits, others, both, all)

pub rows_once : (fs : List Finding) (p : Finding → Bool) → length fs ≤ most_rows → count_by p (page_rows fs) ≡ count_by p fs
unfolding hit_rows other_rows
rows_once fs p few =
    let hits = hits_among fs in
    let others = others_among fs in
    let sizes = length_halves fs in
    let of_hits = length_by_file hits in
    let of_others = length_by_file others in
    let all_hits : hit_rows fs ≡ by_file hits = take_all most_rows (by_file hits) (omega (arith, sizes, of_hits, few)) in
    let of_rows = ap length all_hits in
    let all_others : other_rows fs ≡ by_file others =
    take_all (most_rows - length (hit_rows fs)) (by_file others) (omega (arith, sizes, of_hits, of_others, of_rows, few)) in
    sum_by-append (λ g. cond (p g) 1 0) (hit_rows fs) (other_rows fs)
    ∙ ap (λ l. count_by p l + count_by p (other_rows fs)) all_hits ∙ ap (λ l. count_by p (by_file hits) + count_by p l) all_others
    ∙ ap (λ n. n + count_by p (by_file others)) (once_by_file p hits) ∙ ap (λ n. count_by p hits + n) (once_by_file p others)
    ∙ halves p fs

pub rows_most : (fs : List Finding) → length (page_rows fs) ≤ most_rows
unfolding hit_rows other_rows
rows_most fs =
    let sum = length-append (hit_rows fs) (other_rows fs) in
    let first = length-take most_rows (by_file (hits_among fs)) in
    let second = length-take (most_rows - length (hit_rows fs)) (by_file (others_among fs)) in
    omega (arith, sum, first, second)
