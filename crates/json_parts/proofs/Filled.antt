-- An object's text with a value at its open place is the text of the object with that member set.
use Rattle.std.proofs.Common.{◌≡◌, Bool, true, false, List, [], ◌∷◌, ◌++◌, ℕ, Ordering, Less, Equal, Greater, nat_cmp, is_eq, refl, ap, sym, ◌∙◌, append_assoc}
use Rattle.std.proofs.lemmas.Map.Text.{is_eq-slice_cmp}
use Rattle.std.proofs.lemmas.Slice.Eq.{bytes_eq-Decides}
use Rattle.std.specs.Ordering.{match_ordering}
use Rattle.std.specs.Cmp.Lexicographic.{slice_cmp}
use Rattle.serde_json.specs.Data.{Data, string, object, Members, no_members, member, put}
use Rattle.serde_json.specs.Written.{comma_if, compact_text, members_text}
use Rattle.json_parts.specs.Internal.Around.{name_text, texts_before, members_after, surrounding, filled}

-- the text of a member, followed by others
abbrev member_text : List ℕ → Data → List ℕ → List ℕ
member_text k d rest = compact_text (string k) ++ 58 ∷ (compact_text d ++ rest)

-- a name and its colon, and then more
named : (k rest : List ℕ) → name_text k ++ rest ≡ compact_text (string k) ++ 58 ∷ rest
named k rest = append_assoc (compact_text (string k)) (58 ∷ []) rest

-- the text of the object with the value, after the name
abbrev Opened : List ℕ → Data → Members → List ℕ
Opened name d ms = texts_before name ms ++ (name_text name ++ (compact_text d ++ members_text true (members_after name ms)))

put_text_at : (o : Ordering) (later : Bool) (name k : List ℕ) (d e : Data) (ms : Members) → slice_cmp nat_cmp name k ≡ o
    → members_text true (put name d ms) ≡ comma_if true ++ Opened name d ms
    → members_text later (match_ordering o (member name d (member k e ms)) (member k d ms) (member k e (put name d ms)))
    ≡ comma_if later ++ (match_ordering o [] [] (name_text k ++ (compact_text e ++ (44 ∷ texts_before name ms)))
    ++ (name_text name ++ (compact_text d ++ members_text true (match_ordering o (member k e ms) ms (members_after name ms)))))
put_text_at Less later name k d e ms is more = ap (λ t. comma_if later ++ t) (sym (named name (compact_text d ++ members_text true (member k e ms))))
put_text_at Equal later name k d e ms is more =
    let same : name ≡ k = (bytes_eq-Decides name k).0 (sym (is_eq-slice_cmp name k) ∙ ap is_eq is) in
    ap (λ t. comma_if later ++ t) (ap (λ l. member_text l d (members_text true ms)) (sym same) ∙ sym (named name (compact_text d ++ members_text true ms)))
put_text_at Greater later name k d e ms is more =
    let rest = name_text name ++ (compact_text d ++ members_text true (members_after name ms)) in
    ap (λ t. comma_if later ++ t) (
    ap (λ t. member_text k e t) more
    ∙ sym (named k (compact_text e ++ (44 ∷ Opened name d ms)))
    ∙ ap (λ t. name_text k ++ t) (sym (append_assoc (compact_text e) (44 ∷ texts_before name ms) rest))
    ∙ sym (append_assoc (name_text k) (compact_text e ++ (44 ∷ texts_before name ms)) rest))

put_text : (later : Bool) (name : List ℕ) (d : Data) (ms : Members) → members_text later (put name d ms) ≡ comma_if later ++ Opened name d ms
put_text later name d no_members = ap (λ t. comma_if later ++ t) (sym (named name (compact_text d ++ members_text true no_members)))
put_text later name d (member k e ms) = put_text_at _ later name k d e ms refl (put_text true name d ms)

pub filled_is_put : (name : List ℕ) (d : Data) (ms : Members) → filled (surrounding name ms) (compact_text d) ≡ compact_text (object (put name d ms))
filled_is_put name d ms =
    ap (λ t. 123 ∷ t) (append_assoc (texts_before name ms) (name_text name) (compact_text d ++ members_text true (members_after name ms))
    ∙ sym (put_text false name d ms))
