-- What is found under a name among rows.
use Rattle.std.proofs.Common.{◌≡◌, ℕ, Bool, true, false, ◌&&◌, ◌||◌, not, List, [], ◌∷◌, Option, Some, None, option_map, bytes_eq, refl, sym, ap, ◌∙◌, Ordering, Less, Equal, Greater, nat_cmp, true≢false, if◌then◌else◌}
use Rattle.std.specs.Prelude.{Ok, is_none, option_and_then}
use Rattle.std.specs.Cmp.Lexicographic.{slice_cmp}
use Rattle.std.specs.Ordering.{match_ordering}
use Rattle.std.proofs.lemmas.Bool.{and_from, and_parts}
use Rattle.std.proofs.lemmas.Slice.Eq.{bytes_eq-Decides}
use Rattle.serde_json.specs.Data.{Data, Members, no_members, member, string, put}
use Rattle.serde_json.specs.Find.{get_member, as_str}
use Rattle.serde_json.proofs.Views.{get_member-put, get_member-put_other}
use Rattle.sarif_model.specs.Members.{of_kind, unless_null}
use Rattle.sarif_entries.specs.declared.version.Version.{Version}
use Rattle.sarif_entries.specs.Entries.{has_member, are_members_of}
use Rattle.sarif_model.specs.Written.{Row}
use Rattle.sarif_accept.specs.Entry.{members_from}

-- the value of the first row with that name
abbrev pub found : List ℕ → List Row → Option Data
found name [] = None
found name (row ∷ rows) = if bytes_eq name row.0 then row.1 else found name rows

-- no later row has the name of an earlier one
abbrev pub lacks : List ℕ → List Row → Bool
lacks name [] = true
lacks name (row ∷ rows) = not (bytes_eq name row.0) && lacks name rows

abbrev pub are_apart : List Row → Bool
are_apart [] = true
are_apart (row ∷ rows) = lacks row.0 rows && are_apart rows

-- a member that was set is found, and no other changes
pub at_put : (q k : List ℕ) (d : Data) (ms : Members) → get_member q (put k d ms) ≡ (if bytes_eq q k then Some d else get_member q ms)
at_put q k d ms =
    elim (bytes_eq q k) as (λ b. bytes_eq q k ≡ b → get_member q (put k d ms) ≡ (if b then Some d else get_member q ms)) [
      | true ↦ λ same. rw ((bytes_eq-Decides q k).0 same) (get_member-put k d ms)
      | false ↦ λ other. get_member-put_other q k d ms (λ same. true≢false (sym ((bytes_eq-Decides q k).1 same) ∙ other))
    ] refl

-- a name that no row has isn't found among its members
missing : (q : List ℕ) (rows : List Row) → lacks q rows ≡ true → get_member q (members_from rows) ≡ None
missing q [] e = refl
missing q ((k, None) ∷ rows) e = missing q rows (and_parts (not (bytes_eq q k)) (lacks q rows) e).1
missing q ((k, Some d) ∷ rows) e =
    let both = and_parts (not (bytes_eq q k)) (lacks q rows) e in
    at_put q k d (members_from rows) ∙ no_row d (get_member q (members_from rows)) (bytes_eq q k) both.0 (missing q rows both.1)
  where
    no_row : (d : Data) (o : Option Data) (b : Bool) → not b ≡ true → o ≡ None → (if b then Some d else o) ≡ None
    no_row d o true e none = absurd (true≢false (sym e))
    no_row d o false e none = none

here_none : (q k : List ℕ) (o f : Option Data) → (bytes_eq q k ≡ true → o ≡ None) → o ≡ f → o ≡ (if bytes_eq q k then None else f)
here_none q k o f same is =
    elim (bytes_eq q k) as (λ b. (b ≡ true → o ≡ None) → o ≡ (if b then None else f)) [ true ↦ λ s. s refl | false ↦ λ s. is ] same

-- what is found under a name among members that are made of rows, whose names differ
pub get_row : (q : List ℕ) (rows : List Row) → are_apart rows ≡ true → get_member q (members_from rows) ≡ found q rows
get_row q [] e = refl
get_row q ((k, None) ∷ rows) e =
    let both = and_parts (lacks k rows) (are_apart rows) e in
    here_none q k (get_member q (members_from rows)) (found q rows) (λ same. rw ((bytes_eq-Decides q k).0 same) (missing k rows both.0)) (get_row q rows both.1)
get_row q ((k, Some d) ∷ rows) e =
    let both = and_parts (lacks k rows) (are_apart rows) e in
    at_put q k d (members_from rows) ∙ ap (λ o. if bytes_eq q k then Some d else o) (get_row q rows both.1)

-- a string is read as itself
pub text_back : {E : Type 0} (wrong : E) (o : Option (List ℕ)) → of_kind wrong as_str (option_and_then unless_null (option_map string o)) ≡ Ok o
text_back wrong None = refl
text_back wrong (Some text) = refl

-- ---- members all of whose names are known, where they have a value

abbrev pub are_known : Version → List Row → Bool
are_known version [] = true
are_known version (row ∷ rows) = (has_member version row.0 || is_none row.1) && are_known version rows

put_on : (o : Ordering) (version : Version) (k l : List ℕ) (d e : Data) (ms : Members) → slice_cmp nat_cmp k l ≡ o
    → has_member version k ≡ true → are_members_of version (member l e ms) ≡ true
    → are_members_of version (put k d ms) ≡ true
    → are_members_of version (match_ordering o (member k d (member l e ms)) (member l d ms) (member l e (put k d ms))) ≡ true
put_on Less version k l d e ms is has all later = and_from _ _ has all
put_on Equal version k l d e ms is has all later =
    and_from _ _ (and_parts (has_member version l) (are_members_of version ms) all).0
    (and_parts (has_member version l) (are_members_of version ms) all).1
put_on Greater version k l d e ms is has all later = and_from _ _ (and_parts (has_member version l) (are_members_of version ms) all).0 later

put_known : (version : Version) (k : List ℕ) (d : Data) (ms : Members) → has_member version k ≡ true → are_members_of version ms ≡ true
    → are_members_of version (put k d ms) ≡ true
put_known version k d no_members has all = and_from _ _ has refl
put_known version k d (member l e ms) has all =
    put_on (slice_cmp nat_cmp k l) version k l d e ms refl has all
    (put_known version k d ms has (and_parts (has_member version l) (are_members_of version ms) all).1)

-- a row with a value has a name that is known
valued : (b : Bool) → (b || false) ≡ true → b ≡ true
valued true is = refl
valued false is = is

pub known_rows : (version : Version) (rows : List Row) → are_known version rows ≡ true → are_members_of version (members_from rows) ≡ true
known_rows version [] e = refl
known_rows version ((k, None) ∷ rows) e = known_rows version rows (and_parts (has_member version k || true) (are_known version rows) e).1
known_rows version ((k, Some d) ∷ rows) e =
    let both = and_parts (has_member version k || false) (are_known version rows) e in
    put_known version k d (members_from rows) (valued (has_member version k) both.0) (known_rows version rows both.1)
