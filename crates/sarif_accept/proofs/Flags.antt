-- Flags and lines by the marks of used entries, as loops make them.
use Rattle.std.proofs.Common.{◌≡◌, ℕ, zero, suc, ◌+◌, ◌<◌, ◌≤◌, Bool, true, false, not, ◌&&◌, List, [], ◌∷◌, ◌++◌, map, length, drop, slice_index_or, Option, Some, None, option_map, refl, sym, ap, ◌∙◌, arith, length-append, if◌then◌else◌}
use Rattle.std.specs.Prelude.{slice_get}
use Rattle.std.specs.List.{list_any}
use Rattle.std.proofs.lemmas.List.{append_assoc, append-nil, drop_more, at_drop_all, drop-drop}
use Rattle.json.specs.Token.{Token}
use Rattle.json_parts.specs.Indexed.{data_of, json_of}
use Rattle.json_parts.specs.Mark.{without_mark}
use Rattle.serde_json.specs.Data.{Data}
use Rattle.sarif_model.specs.declared.record.Record.{Record}
use Rattle.sarif_entries.specs.declared.entry.Entry.{Entry}
use Rattle.sarif_entries.specs.File.{File}
use Rattle.sarif_suppress.specs.Internal.Marks.{marks_of}
use Rattle.sarif_entries.specs.Matching.{matches, is_expired}
use Rattle.sarif_accept.specs.Internal.Flags.{mark_at, if_marked, is_dropped, flags_by, line_at, lines_by}
use Rattle.sarif_accept.specs.Keeping.{Heard, is_kept, chosen}
use Rattle.sarif_accept.specs.NewFile.{entry_in, entries_in, file_object}
use Rattle.sarif_accept.specs.Unused.{line_of, lines_from, unused_text}

pub left_of : {A : Type 0} (xs : List A) (n : ℕ) (x : A) → n < length xs → x ≡ slice_index_or xs n x → drop n xs ≡ x ∷ drop (n + 1) xs
left_of xs n x within is = drop_more xs n x within ∙ ap (λ y. y ∷ drop (n + 1) xs) (sym is)

-- ---- flags

pub flags_go_on : (today : Option ℕ) (marks : List Bool) (prune : Bool) (heard : Heard) (entries : List Entry) (front : List Bool) (n : ℕ)
    (e : Entry) (used : Bool)
    → n < length entries → e ≡ slice_index_or entries n e → used ≡ mark_at marks n
    → (front ++ not (prune && is_dropped heard today e used) ∷ []) ++ flags_by today marks prune heard (n + 1) (drop (n + 1) entries)
    ≡ front ++ flags_by today marks prune heard n (drop n entries)
flags_go_on today marks prune heard entries front n e used within is mark =
    rw (left_of entries n e within is, mark)
    (append_assoc front (not (prune && is_dropped heard today e (mark_at marks n)) ∷ [])
    (flags_by today marks prune heard (n + 1) (drop (n + 1) entries)))

pub flags_end : (today : Option ℕ) (marks : List Bool) (prune : Bool) (heard : Heard) (entries : List Entry) (front : List Bool) (n : ℕ) → length entries ≤ n
    → front ++ flags_by today marks prune heard n (drop n entries) ≡ front
flags_end today marks prune heard entries front n past =
    let none : drop n entries ≡ [] = at_drop_all (λ es. es) entries n past in
    rw (none, append-nil) refl

-- the mark of an entry after others
mark_here : (g : Entry → Bool) (front : List Entry) (e : Entry) (es : List Entry) → mark_at (map g (front ++ e ∷ es)) (length front) ≡ g e
mark_here g [] e es = refl
mark_here g (x ∷ front) e es = mark_here g front e es

next_front : (front : List Entry) (e : Entry) → length front + 1 ≡ length (front ++ e ∷ [])
next_front front e = sym (length-append front (e ∷ []))

flags_behind : (prune : Bool) (heard : Heard) (file : File) (rs : List Record) (front es : List Entry)
    → flags_by file.today (map (λ e. list_any (λ r. matches file.today e r) rs) (front ++ es)) prune heard (length front) es
    ≡ map (is_kept prune heard file rs) es
flags_behind prune heard file rs front [] = refl
flags_behind prune heard file rs front (e ∷ es) =
    let g : Entry → Bool = λ e. list_any (λ r. matches file.today e r) rs in
    let here : mark_at (map g (front ++ e ∷ es)) (length front) ≡ g e = mark_here g front e es in
    let more = flags_behind prune heard file rs (front ++ e ∷ []) es in
    let whole : (front ++ e ∷ []) ++ es ≡ front ++ e ∷ es = append_assoc front (e ∷ []) es in
    rw (here, next_front front e) (ap (λ l. not (prune && is_dropped heard file.today e (g e)) ∷ l) (rw whole at more))

pub flags_of_marks : (prune : Bool) (heard : Heard) (file : File) (rs : List Record) (marks : List Bool) → marks ≡ marks_of file rs
    → flags_by file.today marks prune heard 0 file.entries ≡ map (is_kept prune heard file rs) file.entries
flags_of_marks prune heard file rs marks is = rw is (flags_behind prune heard file rs [] file.entries)

-- ---- lines

no_lines : (today : Option ℕ) (marks : List Bool) (n : ℕ) (es : List Entry) → lines_by today marks n es [] ≡ []
no_lines today marks n [] = refl
no_lines today marks n (e ∷ es) = refl

lines_behind : (file : File) (rs : List Record) (front es : List Entry) (ds : List Data)
    → lines_by file.today (map (λ e. list_any (λ r. matches file.today e r) rs) (front ++ es)) (length front) es ds ≡ lines_from file rs (length front) es ds
lines_behind file rs front [] ds = refl
lines_behind file rs front (e ∷ es) [] = refl
lines_behind file rs front (e ∷ es) (d ∷ ds) =
    let g : Entry → Bool = λ e. list_any (λ r. matches file.today e r) rs in
    let here : mark_at (map g (front ++ e ∷ es)) (length front) ≡ g e = mark_here g front e es in
    let more = lines_behind file rs (front ++ e ∷ []) es ds in
    let whole : (front ++ e ∷ []) ++ es ≡ front ++ e ∷ es = append_assoc front (e ∷ []) es in
    rw (here, next_front front e, either (g e) (line_of (length front) (is_expired file.today e) d))
    (ap (λ l. (if not (g e) then line_of (length front) (is_expired file.today e) d else []) ++ l) (rw whole at more))
  where
    either : (b : Bool) (line : List ℕ) → (if b then [] else line) ≡ (if not b then line else [])
    either true line = refl
    either false line = refl

pub lines_of_marks : (file : File) (rs : List Record) (marks : List Bool) (ds : List Data) → marks ≡ marks_of file rs
    → lines_by file.today marks 0 file.entries ds ≡ unused_text file rs ds
lines_of_marks file rs marks ds is = rw is (lines_behind file rs [] file.entries ds)

none_listed : (file : File) (rs : List Record) (n : ℕ) (es : List Entry) → lines_from file rs n es [] ≡ []
none_listed file rs n [] = refl
none_listed file rs n (e ∷ es) = refl

-- a file that is not JSON has no lines
pub no_file : (file : File) (rs : List Record) (bytes : List ℕ) → json_of (without_mark bytes) ≡ None
    → unused_text file rs (entries_in (file_object (Some bytes))) ≡ []
no_file file rs bytes is = rw is (none_listed file rs 0 file.entries)

-- the value of an entry
abbrev pub node_value : List Token → Data
node_value ts = entry_in (data_of ts)

slice_get-drop : {A : Type 0} (xs : List A) (n : ℕ) → slice_get xs n ≡ slice_get (drop n xs) 0
slice_get-drop [] zero = refl
slice_get-drop [] (suc n) = refl
slice_get-drop (x ∷ xs) zero = refl
slice_get-drop (x ∷ xs) (suc n) = slice_get-drop xs n

pub lines_go_on : (today : Option ℕ) (marks : List Bool) (entries : List Entry) (nodes : List (List Token)) (front line : List ℕ) (n : ℕ) (e : Entry)
    → n < length entries → e ≡ slice_index_or entries n e → line ≡ line_at marks n (is_expired today e) (option_map node_value (slice_get nodes n))
    → (front ++ line) ++ lines_by today marks (n + 1) (drop (n + 1) entries) (map node_value (drop (n + 1) nodes))
    ≡ front ++ lines_by today marks n (drop n entries) (map node_value (drop n nodes))
lines_go_on today marks entries nodes front line n e within is said =
    append_assoc front line _
    ∙ ap (λ l. front ++ l)
    (rw (left_of entries n e within is, said, slice_get-drop nodes n)
    (by_rest (drop n nodes) (drop (n + 1) nodes) (sym (drop-drop 1 n nodes))))
  where
    by_rest : (here later : List (List Token)) → later ≡ drop 1 here
        → line_at marks n (is_expired today e) (option_map node_value (slice_get here 0))
        ++ lines_by today marks (n + 1) (drop (n + 1) entries) (map node_value later)
        ≡ lines_by today marks n (e ∷ drop (n + 1) entries) (map node_value here)
    by_rest [] later next = rw next (no_lines today marks (n + 1) (drop (n + 1) entries))
    by_rest (node ∷ here) later next = rw next refl

pub lines_end : (today : Option ℕ) (marks : List Bool) (entries : List Entry) (ds : List Data) (front : List ℕ) (n : ℕ) → length entries ≤ n
    → front ++ lines_by today marks n (drop n entries) ds ≡ front
lines_end today marks entries ds front n past =
    let none : drop n entries ≡ [] = at_drop_all (λ es. es) entries n past in
    rw (none, append-nil) refl

-- ---- entries that stay

marked_or_not : (marks : List Bool) (n : ℕ) (d : Data) (ds : List Data)
    → chosen (drop n marks) (d ∷ ds) ≡ (if mark_at marks n then d ∷ chosen (drop (n + 1) marks) ds else chosen (drop (n + 1) marks) ds)
marked_or_not [] zero d ds = refl
marked_or_not [] (suc n) d ds = let more : suc n + 1 ≡ suc (n + 1) = omega arith in rw more refl
marked_or_not (true ∷ marks) zero d ds = refl
marked_or_not (false ∷ marks) zero d ds = refl
marked_or_not (mark ∷ marks) (suc n) d ds =
    let more : suc n + 1 ≡ suc (n + 1) = omega arith in
    rw more (marked_or_not marks n d ds)

pub chosen_goes_on : (marks : List Bool) (nodes : List (List Token)) (front added : List Data) (n : ℕ) (node : List Token)
    → n < length nodes → node ≡ slice_index_or nodes n node
    → added ≡ if_marked (mark_at marks n) (node_value node)
    → (front ++ added) ++ chosen (drop (n + 1) marks) (map node_value (drop (n + 1) nodes)) ≡ front ++ chosen (drop n marks) (map node_value (drop n nodes))
chosen_goes_on marks nodes front added n node within is value =
    append_assoc front added (chosen (drop (n + 1) marks) (map node_value (drop (n + 1) nodes)))
    ∙ ap (λ l. front ++ l) (rw (left_of nodes n node within is, marked_or_not marks n (node_value node) (map node_value (drop (n + 1) nodes)), value)
    (either (mark_at marks n) (node_value node) (chosen (drop (n + 1) marks) (map node_value (drop (n + 1) nodes)))))
  where
    either : (b : Bool) (d : Data) (ds : List Data) → if_marked b d ++ ds ≡ (if b then d ∷ ds else ds)
    either true d ds = refl
    either false d ds = refl

none_chosen : (marks : List Bool) → chosen {A = Data} marks [] ≡ []
none_chosen [] = refl
none_chosen (mark ∷ marks) = refl

pub chosen_end : (marks : List Bool) (nodes : List (List Token)) (front : List Data) (n : ℕ) → length nodes ≤ n
    → front ++ chosen (drop n marks) (map node_value (drop n nodes)) ≡ front
chosen_end marks nodes front n past =
    let none : drop n nodes ≡ [] = at_drop_all (λ es. es) nodes n past in
    rw (none, none_chosen (drop n marks), append-nil) refl
