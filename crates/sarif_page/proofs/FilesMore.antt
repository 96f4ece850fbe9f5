-- Findings grouped by file, one finding more.
use Rattle.std.proofs.Common.{◌≡◌, ◌<◌, ◌≤◌, ◌+◌, ℕ, Bool, true, false, cond, not, ◌&&◌, ◌||◌, List, [], ◌∷◌, ◌++◌, Option, Some, None, length, take, drop, flat_map, unwrap_or, bytes_eq, if◌then◌else◌, refl, sym, ap, subst, ◌∙◌, append-nil, append_assoc, map, get_or, ⊎_elim, arith}
use Rattle.std.specs.Borrow.{Bor}
use Rattle.std.specs.List.{filter, list_any}
use Rattle.std.specs.Option.{option_map, is_some}
use Rattle.std.specs.Map.{lookup}
use Rattle.std.specs.declared.alloc.Global.{Global}
use Rattle.std.specs.declared.vec.Vec.{Vec}
use Rattle.std.proofs.lemmas.Bool.{true≢false, cases_lt}
use Rattle.std.proofs.lemmas.Grind.{flat_map-append}
use Rattle.std.proofs.lemmas.List.{take_all, take-append-le, take-append-drop, length-take, length-take-le, length-append, take_more, map-append}
use Rattle.std.proofs.lemmas.List.Elements.{filter-append}
use Rattle.std.proofs.lemmas.List.Folds.{list_any-append}
use Rattle.std.proofs.lemmas.Map.Views.{any-filter_same}
use Rattle.std.proofs.lemmas.Slice.Eq.{bytes_eq-Decides}
use Rattle.sarif_findings.specs.declared.finding.Finding.{Finding}
use Rattle.sarif_page.specs.Internal.ByFile.{has_file, group_of, group_in, findings_in, all_rows, IsGrouped}
use Rattle.sarif_page.specs.declared.by_file.Grouped.{Grouped}
use Rattle.sarif_page.specs.HtmlRows.{file_of, is_in, files_of, by_file}

same_text : (a b : List ℕ) → bytes_eq a b ≡ true → a ≡ b
same_text a b = (bytes_eq-Decides a b).0

pub text_self : (a : List ℕ) → bytes_eq a a ≡ true
text_self a = (bytes_eq-Decides a a).1 refl

-- the test of equality in either order
pub texts_swap : (a b : List ℕ) → bytes_eq a b ≡ bytes_eq b a
texts_swap a b = by (bytes_eq a b) (bytes_eq b a) refl refl
  where
    by : (p q : Bool) → bytes_eq a b ≡ p → bytes_eq b a ≡ q → p ≡ q
    by true true e h = refl
    by false false e h = refl
    by true false e h = sym (text_self a) ∙ ap (λ t. bytes_eq t a) (same_text a b e) ∙ h
    by false true e h = sym e ∙ ap (λ t. bytes_eq t b) (sym (same_text b a h)) ∙ text_self b

-- ---- the files of findings

-- another file leaves the others
pub others_stay : (file q : List ℕ) (files : List (List ℕ))
    → has_file (filter (λ own. not (bytes_eq own file)) files) q ≡ (not (bytes_eq q file) && has_file files q)
others_stay file q files =
    any-filter_same (λ own. bytes_eq q own) (λ own. not (bytes_eq own file)) (not (bytes_eq q file))
    (λ own e. ap (λ t. not (bytes_eq t file)) (sym (same_text q own e))) files

or_rest : (b d : Bool) → (b || (not b && d)) ≡ (b || d)
or_rest true d = refl
or_rest false d = refl

-- a file is among the files of findings if one of them is in it
pub files_seen : (q : List ℕ) (fs : List Finding) → has_file (files_of fs) q ≡ list_any (is_in q) fs
files_seen q [] = refl
files_seen q (f ∷ fs) =
    ap (λ b. bytes_eq q (file_of f) || b) (others_stay (file_of f) q (files_of fs))
    ∙ or_rest (bytes_eq q (file_of f)) (has_file (files_of fs) q)
    ∙ ap (λ b. bytes_eq q (file_of f) || b) (files_seen q fs)

-- the files of one finding more
with_file : List (List ℕ) → List ℕ → List (List ℕ)
with_file files file = if has_file files file then files else files ++ file ∷ []

files_by : (e b : Bool) (file first : List ℕ) (files : List (List ℕ)) → bytes_eq file first ≡ e → has_file files file ≡ b
    → (first ∷ filter (λ own. not (bytes_eq own first)) (if b then files else files ++ file ∷ []))
    ≡ (if e || (not e && b) then first ∷ filter (λ own. not (bytes_eq own first)) files
    else (first ∷ filter (λ own. not (bytes_eq own first)) files) ++ file ∷ [])
files_by true true file first files same there = refl
files_by true false file first files same there =
    ap (λ t. first ∷ t) (filter-append (λ own. not (bytes_eq own first)) files (file ∷ [])
    ∙ ap (λ b. filter (λ own. not (bytes_eq own first)) files ++ (if not b then file ∷ [] else [])) same
    ∙ append-nil (filter (λ own. not (bytes_eq own first)) files))
files_by false true file first files same there = refl
files_by false false file first files same there =
    ap (λ t. first ∷ t) (filter-append (λ own. not (bytes_eq own first)) files (file ∷ [])
    ∙ ap (λ b. filter (λ own. not (bytes_eq own first)) files ++ (if not b then file ∷ [] else [])) same)

pub files_push : (fs : List Finding) (f : Finding)
    → files_of (fs ++ f ∷ []) ≡ (if has_file (files_of fs) (file_of f) then files_of fs else files_of fs ++ file_of f ∷ [])
files_push [] f = refl
files_push (g ∷ fs) f =
    ap (λ t. file_of g ∷ filter (λ own. not (bytes_eq own (file_of g))) t) (files_push fs f)
    ∙ files_by (bytes_eq (file_of f) (file_of g)) (has_file (files_of fs) (file_of f)) (file_of f) (file_of g) (files_of fs) refl refl
    ∙ ap (λ b. if bytes_eq (file_of f) (file_of g) || b then files_of (g ∷ fs) else files_of (g ∷ fs) ++ file_of f ∷ [])
    (sym (others_stay (file_of g) (file_of f) (files_of fs)))

-- ---- the group of a file

some_if : (b : Bool) (g : List Finding) → is_some (if b then Some g else None) ≡ b
some_if true g = refl
some_if false g = refl

-- the findings of a file, one finding more
rows_push : (q : List ℕ) (fs : List Finding) (f : Finding)
    → filter (is_in q) (fs ++ f ∷ []) ≡ filter (is_in q) fs ++ (if bytes_eq q (file_of f) then f ∷ [] else [])
rows_push q fs f = filter-append (is_in q) fs (f ∷ [])

none_by : (b : Bool) (q : List ℕ) (f : Finding) (fs : List Finding) → is_in q f ≡ b → (b || list_any (is_in q) fs) ≡ false
    → (list_any (is_in q) fs ≡ false → filter (is_in q) fs ≡ []) → filter (is_in q) (f ∷ fs) ≡ []
none_by true q f fs e h rest = absurd (true≢false h)
none_by false q f fs e h rest = ap (λ b. cond b (f ∷ filter (is_in q) fs) (filter (is_in q) fs)) e ∙ rest h

none_kept : (q : List ℕ) (fs : List Finding) → list_any (is_in q) fs ≡ false → filter (is_in q) fs ≡ []
none_kept q [] h = refl
none_kept q (f ∷ fs) h = none_by (is_in q f) q f fs refl h (none_kept q fs)

-- one finding more, where its file has a group
grow_by : (d h : Bool) (q : List ℕ) (fs : List Finding) (f : Finding) → bytes_eq q (file_of f) ≡ d
    → (if d then option_map (λ group. group ++ f ∷ []) (if h then Some (filter (is_in q) fs) else None) else (if h then Some (filter (is_in q) fs) else None))
    ≡ (if h then Some (filter (is_in q) (fs ++ f ∷ [])) else None)
grow_by true true q fs f e = ap (λ t. Some t) (ap (λ b. filter (is_in q) fs ++ (if b then f ∷ [] else [])) (sym e) ∙ sym (rows_push q fs f))
grow_by true false q fs f e = refl
grow_by false true q fs f e =
    ap (λ t. Some t) (sym (append-nil (filter (is_in q) fs)) ∙ ap (λ b. filter (is_in q) fs ++ (if b then f ∷ [] else [])) (sym e) ∙ sym (rows_push q fs f))
grow_by false false q fs f e = refl

-- its first files are the same if its file is among them
stay_if : (b : Bool) (most : ℕ) (files : List (List ℕ)) (file : List ℕ) → has_file files file ≡ b → has_file (take most files) file ≡ true
    → (if b then files else files ++ file ∷ []) ≡ files
stay_if true most files file all first = refl
stay_if false most files file all first =
    absurd (true≢false (sym first ∙ part (has_file (take most files) file) (has_file (drop most files) file)
    (sym (list_any-append (λ own. bytes_eq file own) (take most files) (drop most files)) ∙ ap (λ t. has_file t file) (take-append-drop most files) ∙ all)))
  where
    part : (a b : Bool) → (a || b) ≡ false → a ≡ false
    part true b h = h
    part false b h = refl

same_files : (most : ℕ) (fs : List Finding) (f : Finding) → has_file (take most (files_of fs)) (file_of f) ≡ true
    → files_of (fs ++ f ∷ []) ≡ files_of fs
same_files most fs f first = files_push fs f ∙ stay_if (has_file (files_of fs) (file_of f)) most (files_of fs) (file_of f) refl first

-- the first files, where its file is not among them and there is no room
full_if : (b : Bool) (most : ℕ) (files : List (List ℕ)) (file : List ℕ) → most ≤ length (take most files)
    → take most (if b then files else files ++ file ∷ []) ≡ take most files
full_if true most files file full = refl
full_if false most files file full = take-append-le most files (file ∷ []) (omega (arith, length-take most files, full))

pub full_files : (most : ℕ) (fs : List Finding) (f : Finding) → most ≤ length (take most (files_of fs))
    → take most (files_of (fs ++ f ∷ [])) ≡ take most (files_of fs)
full_files most fs f full = ap (take most) (files_push fs f) ∙ full_if (has_file (files_of fs) (file_of f)) most (files_of fs) (file_of f) full

-- what a group that is grown by the finding is
pub grown : (most : ℕ) (fs : List Finding) (f : Finding) (q : List ℕ) → take most (files_of (fs ++ f ∷ [])) ≡ take most (files_of fs)
    → (if bytes_eq (file_of f) q then option_map (λ group. group ++ f ∷ []) (group_of most fs q) else group_of most fs q)
    ≡ group_of most (fs ++ f ∷ []) q
grown most fs f q same =
    ap (λ b. if b then option_map (λ group. group ++ f ∷ []) (group_of most fs q) else group_of most fs q) (texts_swap (file_of f) q)
    ∙ grow_by (bytes_eq q (file_of f)) (has_file (take most (files_of fs)) q) q fs f refl
    ∙ ap (λ t. if has_file t q then Some (filter (is_in q) (fs ++ f ∷ [])) else None) (sym same)

pub found_files : (most : ℕ) (fs : List Finding) (f : Finding) → is_some (group_of most fs (file_of f)) ≡ true
    → take most (files_of (fs ++ f ∷ [])) ≡ take most (files_of fs)
found_files most fs f found =
    ap (take most) (same_files most fs f (sym (some_if (has_file (take most (files_of fs)) (file_of f)) (filter (is_in (file_of f)) fs)) ∙ found))

-- ---- a new group

-- while there is room, all files are first files
all_files : (most : ℕ) (fs : List Finding) → length (take most (files_of fs)) < most → take most (files_of fs) ≡ files_of fs
all_files most fs room = take_all most (files_of fs) (omega (arith, length-take most (files_of fs), room))

new_if : (b : Bool) (files : List (List ℕ)) (file : List ℕ) → b ≡ false → (if b then files else files ++ file ∷ []) ≡ files ++ file ∷ []
new_if true files file h = absurd (true≢false h)
new_if false files file h = refl

module _ (most : ℕ) (fs : List Finding) (f : Finding) (none : is_some (group_of most fs (file_of f)) ≡ false)
    (room : length (take most (files_of fs)) < most) where
  absent : has_file (files_of fs) (file_of f) ≡ false
  absent =
      ap (λ t. has_file t (file_of f)) (sym (all_files most fs room))
      ∙ sym (some_if (has_file (take most (files_of fs)) (file_of f)) (filter (is_in (file_of f)) fs)) ∙ none

  one_more : files_of (fs ++ f ∷ []) ≡ files_of fs ++ file_of f ∷ []
  one_more = files_push fs f ∙ new_if (has_file (files_of fs) (file_of f)) (files_of fs) (file_of f) absent

  pub new_files : take most (files_of (fs ++ f ∷ [])) ≡ take most (files_of fs) ++ file_of f ∷ []
  new_files =
      ap (take most) one_more
      ∙ take_all most (files_of fs ++ file_of f ∷ []) (omega (arith, length-append (files_of fs) (file_of f ∷ []), length-take most (files_of fs), room))
      ∙ ap (λ t. t ++ file_of f ∷ []) (sym (all_files most fs room))

  has_more : (q : List ℕ) → has_file (take most (files_of (fs ++ f ∷ []))) q ≡ (has_file (take most (files_of fs)) q || (bytes_eq q (file_of f) || false))
  has_more q = ap (λ t. has_file t q) new_files ∙ list_any-append (λ own. bytes_eq q own) (take most (files_of fs)) (file_of f ∷ [])

  new_by : (d h : Bool) (q : List ℕ) → bytes_eq q (file_of f) ≡ d
      → (if d then Some (f ∷ []) else (if h then Some (filter (is_in q) fs) else None))
      ≡ (if h || (d || false) then Some (filter (is_in q) (fs ++ f ∷ [])) else None)
  new_by true h q e =
      ap (λ t. Some (t ++ f ∷ [])) (sym (none_kept q fs (sym (files_seen q fs) ∙ ap (has_file (files_of fs)) (same_text q (file_of f) e) ∙ absent)))
      ∙ ap (λ b. Some (filter (is_in q) fs ++ (if b then f ∷ [] else []))) (sym e)
      ∙ ap (λ t. Some t) (sym (rows_push q fs f)) ∙ kept h
    where
      kept : (h : Bool) → Some (filter (is_in q) (fs ++ f ∷ [])) ≡ (if h || true then Some (filter (is_in q) (fs ++ f ∷ [])) else None)
      kept true = refl
      kept false = refl
  new_by false true q e =
      ap (λ t. Some t) (sym (append-nil (filter (is_in q) fs)) ∙ ap (λ b. filter (is_in q) fs ++ (if b then f ∷ [] else [])) (sym e) ∙ sym (rows_push q fs f))
  new_by false false q e = refl

  pub new_group : (q : List ℕ) → (if bytes_eq (file_of f) q then Some (f ∷ []) else group_of most fs q) ≡ group_of most (fs ++ f ∷ []) q
  new_group q =
      ap (λ b. if b then Some (f ∷ []) else group_of most fs q) (texts_swap (file_of f) q)
      ∙ new_by (bytes_eq q (file_of f)) (has_file (take most (files_of fs)) q) q refl
      ∙ ap (λ b. if b then Some (filter (is_in q) (fs ++ f ∷ [])) else None) (sym (has_more q))

-- no group is grown where the file has none
pub none_grown : (file q : List ℕ) (f : Finding) (at : List ℕ → Option (List Finding)) → is_some (at file) ≡ false
    → (if bytes_eq file q then option_map (λ group. group ++ f ∷ []) (at q) else at q) ≡ at q
none_grown file q f at none = by (bytes_eq file q) refl (at q) refl
  where
    by : (b : Bool) → bytes_eq file q ≡ b → (o : Option (List Finding)) → at q ≡ o
        → (if b then option_map (λ group. group ++ f ∷ []) o else o) ≡ o
    by false e o h = refl
    by true e None h = refl
    by true e (Some g) h = absurd (true≢false (ap is_some (sym h) ∙ ap (λ t. is_some (at t)) (sym (same_text file q e)) ∙ none))

-- ---- the rows

-- each of these files is among them all
module _ (fs : List Finding) where
  rows_at : List ℕ → List Finding
  rows_at file = filter (is_in file) fs

  pub here : (before after : List (List ℕ)) (file : List ℕ) → has_file (before ++ (file ∷ after)) file ≡ true
  here before after file =
      list_any-append (λ own. bytes_eq file own) before (file ∷ after)
      ∙ ap (λ b. has_file before file || (b || has_file after file)) (text_self file) ∙ last (has_file before file)
    where
      last : (b : Bool) → (b || true) ≡ true
      last true = refl
      last false = refl

-- the groups of some of these files, in order
pub grouped_rows : (fs : List Finding) (before files : List (List ℕ))
    → flat_map (λ file. unwrap_or (if has_file (before ++ files) file then Some (filter (is_in file) fs) else None) []) files
    ≡ flat_map (λ file. filter (is_in file) fs) files
grouped_rows fs before [] = refl
grouped_rows fs before (file ∷ files) =
    ap (λ b. unwrap_or (if b then Some (filter (is_in file) fs) else None) []
    ++ flat_map (λ q. unwrap_or (if has_file (before ++ (file ∷ files)) q then Some (filter (is_in q) fs) else None) []) files)
    (here fs before files file)
    ∙ ap (λ t. filter (is_in file) fs ++ t)
    (ap (λ l. flat_map (λ q. unwrap_or (if has_file l q then Some (filter (is_in q) fs) else None) []) files) (sym (append_assoc before (file ∷ []) files))
    ∙ grouped_rows fs (before ++ file ∷ []) files)

some_by : (b : Bool) (q : List ℕ) (f : Finding) (fs : List Finding) → is_in q f ≡ b → (b || list_any (is_in q) fs) ≡ true
    → (list_any (is_in q) fs ≡ true → 1 ≤ length (filter (is_in q) fs)) → 1 ≤ length (filter (is_in q) (f ∷ fs))
some_by true q f fs e h rest = subst (λ b. 1 ≤ length (cond b (f ∷ filter (is_in q) fs) (filter (is_in q) fs))) (sym e) (omega arith)
some_by false q f fs e h rest = subst (λ b. 1 ≤ length (cond b (f ∷ filter (is_in q) fs) (filter (is_in q) fs))) (sym e) (rest h)

kept_some : (q : List ℕ) (fs : List Finding) → list_any (is_in q) fs ≡ true → 1 ≤ length (filter (is_in q) fs)
kept_some q [] h = absurd (true≢false (sym h))
kept_some q (f ∷ fs) h = some_by (is_in q f) q f fs refl h (kept_some q fs)

-- each file has a row
pub at_least : (fs : List Finding) (before files after : List (List ℕ)) → before ++ (files ++ after) ≡ files_of fs
    → length files ≤ length (flat_map (λ file. filter (is_in file) fs) files)
at_least fs before [] after whole = omega arith
at_least fs before (file ∷ files) after whole =
    let seen : list_any (is_in file) fs ≡ true = sym (files_seen file fs) ∙ ap (λ l. has_file l file) (sym whole) ∙ here fs before (files ++ after) file in
    let one = kept_some file fs seen in
    let rest = at_least fs (before ++ file ∷ []) files after (append_assoc before (file ∷ []) (files ++ after) ∙ whole) in
    let both = length-append (filter (is_in file) fs) (flat_map (λ q. filter (is_in q) fs) files) in
    omega (arith, one, rest, both)

-- the first rows are those of the first files
pub first_rows : (most : ℕ) (fs : List Finding)
    → take most (flat_map (λ file. filter (is_in file) fs) (take most (files_of fs))) ≡ take most (by_file fs)
first_rows most fs =
    let files = files_of fs in
    let rows = λ (l : List (List ℕ)). flat_map (λ file. filter (is_in file) fs) l in
    let whole : rows files ≡ rows (take most files) ++ rows (drop most files) =
    ap rows (sym (take-append-drop most files)) ∙ flat_map-append (λ file. filter (is_in file) fs) (take most files) (drop most files) in
    ⊎_elim
    (λ (less : length files < most). ap (λ l. take most (rows l)) (take_all most files (omega arith)))
    (λ (more : most ≤ length files).
    let enough : most ≤ length (rows (take most files)) =
    omega (arith, at_least fs [] (take most files) (drop most files) (take-append-drop most files), length-take-le most files more) in
    sym (ap (take most) whole ∙ take-append-le most (rows (take most files)) (rows (drop most files)) enough))
    (cases_lt (length files) most)

-- ---- steps of the code

-- one more of these references
pub refs_more : (refs : List (Bor Finding)) (i : ℕ) (r : Bor Finding) → i < length refs → r ≡ get_or refs i r
    → findings_in (take (i + 1) refs) ≡ findings_in (take i refs) ++ r.now ∷ []
refs_more refs i r within here =
    ap findings_in (take_more refs i r within ∙ ap (λ x. take i refs ++ x ∷ []) (sym here)) ∙ map-append (λ f. f.now) (take i refs) (r ∷ [])

-- the rows are full
pub cut_full : (most : ℕ) (rows old : List Finding) (refs : List (Bor Finding)) (i : ℕ) → length rows ≡ most
    → rows ≡ old ++ findings_in (take i refs) → rows ≡ take most (old ++ findings_in refs)
cut_full most rows old refs i full so_far =
    let rest = findings_in (drop i refs) in
    let whole : old ++ findings_in refs ≡ rows ++ rest =
    ap (λ l. old ++ findings_in l) (sym (take-append-drop i refs))
    ∙ ap (λ l. old ++ l) (map-append (λ f. f.now) (take i refs) (drop i refs))
    ∙ sym (append_assoc old (findings_in (take i refs)) rest) ∙ ap (λ l. l ++ rest) (sym so_far) in
    sym (ap (take most) whole ∙ take-append-le most rows rest (omega (arith, full)) ∙ take_all most rows (omega (arith, full)))

-- one group more among the first rows
pub cut_more : (most : ℕ) (rows before group all : List Finding) → rows ≡ take most before → all ≡ take most (rows ++ group)
    → all ≡ take most (before ++ group)
cut_more most rows before group all so_far step =
    step ∙ ap (λ l. take most (l ++ group)) so_far ∙ ⊎_elim
    (λ (less : length before < most). ap (λ l. take most (l ++ group)) (take_all most before (omega arith)))
    (λ (more : most ≤ length before).
    take-append-le most (take most before) group (omega (arith, length-take-le most before more))
    ∙ take_all most (take most before) (omega (arith, length-take-le most before more))
    ∙ sym (take-append-le most before group more))
    (cases_lt (length before) most)

-- the group of a file, one finding more
pub grown_at : (b : Bool) (v g : Vec (Bor Finding) Global) (old : Option (Vec (Bor Finding) Global)) (r : Bor Finding)
    → v.items ≡ g.items ++ r ∷ [] → (b ≡ true → old ≡ Some g)
    → group_in (cond b (Some v) old) ≡ (if b then option_map (λ group. group ++ r.now ∷ []) (group_in old) else group_in old)
grown_at true v g old r pushed same =
    ap (λ l. Some (findings_in l)) pushed ∙ ap (λ l. Some l) (map-append (λ f. f.now) g.items (r ∷ []))
    ∙ sym (ap (λ o. option_map (λ group. group ++ r.now ∷ []) (group_in o)) (same refl))
grown_at false v g old r pushed same = refl

pub first_at : (b : Bool) (v : Vec (Bor Finding) Global) (old : Option (Vec (Bor Finding) Global)) (r : Bor Finding)
    → v.items ≡ r ∷ [] → group_in (cond b (Some v) old) ≡ (if b then Some (r.now ∷ []) else group_in old)
first_at true v old r one = ap (λ l. Some (findings_in l)) one
first_at false v old r one = refl

-- a file that is not among the full first files has no group, and none is grown
pub full_group : (most : ℕ) (fs : List Finding) (f : Finding) (q : List ℕ) → is_some (group_of most fs (file_of f)) ≡ false
    → take most (files_of (fs ++ f ∷ [])) ≡ take most (files_of fs) → group_of most fs q ≡ group_of most (fs ++ f ∷ []) q
full_group most fs f q none same = sym (none_grown (file_of f) q f (group_of most fs) none) ∙ grown most fs f q same

pub text_same : (a b : List ℕ) → bytes_eq a b ≡ true → a ≡ b
text_same a b = same_text a b

-- nothing is grouped at first
no_entries : {X : Type 0} → (es : List X) → length es ≡ 0 → es ≡ []
no_entries [] h = refl
no_entries (e ∷ es) h = absurd (omega (arith, h))

pub none_grouped : (most : ℕ) (grouped : Grouped) → grouped.files.items ≡ [] → length grouped.groups.entries ≡ 0 → IsGrouped most [] grouped
none_grouped most grouped no_files empty =
    let no_groups = no_entries grouped.groups.entries empty in
    let first : take most (files_of []) ≡ [] = take_all most [] (omega arith) in (
      ap (map (λ t. t.now)) no_files ∙ sym first,
      λ q. ap (λ es. group_in (lookup (λ own. bytes_eq q own.now) es)) no_groups
          ∙ ap (λ l. if has_file l q then Some (filter (is_in q) []) else None) (sym first),
    )

-- the rows of one file more
pub rows_more : (at : List ℕ → List Finding) (most : ℕ) (refs : List (Bor (List ℕ))) (i : ℕ) (d : Bor (List ℕ)) (rows all : List Finding)
    → i < length refs → rows ≡ take most (flat_map at (map (λ t. t.now) (take i refs)))
    → all ≡ take most (rows ++ at (get_or refs i d).now) → all ≡ take most (flat_map at (map (λ t. t.now) (take (i + 1) refs)))
rows_more at most refs i d rows all within so_far step =
    let before = map (λ (t : Bor (List ℕ)). t.now) (take i refs) in
    let r = get_or refs i d in
    let more : flat_map at (map (λ t. t.now) (take (i + 1) refs)) ≡ flat_map at before ++ at r.now =
    ap (λ l. flat_map at (map (λ t. t.now) l)) (take_more refs i d within)
    ∙ ap (flat_map at) (map-append (λ t. t.now) (take i refs) (r ∷ []))
    ∙ flat_map-append at before (r.now ∷ []) ∙ ap (λ t. flat_map at before ++ t) (append-nil (at r.now)) in
    cut_more most rows (flat_map at before) (at r.now) all so_far step ∙ ap (take most) (sym more)

-- the first rows of the groups are the first rows by file
pub grouped_all : (most : ℕ) (fs : List Finding) (grouped : Grouped) → IsGrouped most fs grouped
    → take most (all_rows grouped) ≡ take most (by_file fs)
grouped_all most fs grouped h =
    let same : all_rows grouped ≡ flat_map (λ file. unwrap_or (group_of most fs file) []) (take most (files_of fs)) =
    λ j. flat_map (λ file. unwrap_or (h.1 file j) []) (h.0 j) in
    ap (take most) (same ∙ grouped_rows fs [] (take most (files_of fs))) ∙ first_rows most fs
