-- The text around a member that is written from tokens is the one that is written from the value.
use Rattle.std.proofs.Common.{◌≡◌, ℕ, true, false, List, [], ◌∷◌, ◌++◌, map, Some, unwrap_or, Ordering, Less, Equal, Greater, nat_cmp, refl, sym, ap, ap₂, ◌∙◌, append_assoc}
use Rattle.std.specs.Cmp.Lexicographic.{slice_cmp}
use Rattle.std.specs.Ordering.{match_ordering}
use Rattle.json.specs.Json as json
use Rattle.json.specs.Json.{Json}
use Rattle.json.specs.Print.{quoted}
use Rattle.json.specs.Tree.{HasNumbers}
use Rattle.serde_json.specs.Data.{Data, null, boolean, number, string, array, object, Members, no_members, member, put}
use Rattle.serde_json.specs.Find.{as_object}
use Rattle.serde_json.specs.Read.{number_of, of_json, of_items, of_members}
use Rattle.serde_json.specs.Written.{compact_text, members_text, outline, members_outline}
use Rattle.serde_json.proofs.Texts.{print-outline}
use Rattle.json_parts.specs.Stripping as values
use Rattle.json_parts.specs.Internal.Around as whole
use Rattle.json_parts.specs.Internal.Around.{name_text, surrounding}
use Rattle.json_parts.proofs.Readings.{Some_inj, mapped_some}
use Rattle.json_texts.specs.Whole.{written}
use Rattle.json_texts.specs.Around.{Named, named, members_of, put_text, set_texts, set_values, texts_before, after, texts_later, around}
use Rattle.json_texts.specs.declared.around.SetMember.{SetMember}
use Rattle.json_texts.proofs.Agree.{stripped_outline}

abbrev cmp : List ℕ → List ℕ → Ordering
cmp = slice_cmp nat_cmp

-- the members of a value, each with its text
abbrev texts : Members → Named
texts no_members = []
texts (member k d ms) = (k, compact_text d) ∷ texts ms

put_turn : (o : Ordering) (k l t s : List ℕ) (ms more : Named) (d e : Data) (ds later : Members)
    → (k, t) ∷ (l, s) ∷ ms ≡ texts (member k d (member l e ds)) → (l, t) ∷ ms ≡ texts (member l d ds) → (l, s) ∷ more ≡ texts (member l e later)
    → match_ordering o ((k, t) ∷ (l, s) ∷ ms) ((l, t) ∷ ms) ((l, s) ∷ more)
    ≡ texts (match_ordering o (member k d (member l e ds)) (member l d ds) (member l e later))
put_turn Less k l t s ms more d e ds later less same above = less
put_turn Equal k l t s ms more d e ds later less same above = same
put_turn Greater k l t s ms more d e ds later less same above = above

texts_put : (k : List ℕ) (d : Data) (ms : Members) → put_text k (compact_text d) (texts ms) ≡ texts (put k d ms)
texts_put k d no_members = refl
texts_put k d (member l e ms) =
    put_turn (cmp k l) k l (compact_text d) (compact_text e) (texts ms) (put_text k (compact_text d) (texts ms)) d e ms (put k d ms) refl refl
    (ap (λ ns. (l, compact_text e) ∷ ns) (texts_put k d ms))

head_is : (x y : List ℕ) (xs ys : List (List ℕ)) → x ∷ xs ≡ y ∷ ys → x ≡ y
head_is x y xs ys e = cc

tail_is : (x y : List ℕ) (xs ys : List (List ℕ)) → x ∷ xs ≡ y ∷ ys → xs ≡ ys
tail_is x y xs ys e = cc

-- members set to given JSON, and to the values of this JSON
set_alike : (set : List SetMember) (ds : List Data) (ms : Members) → map (λ s. s.text.now) set ≡ map compact_text ds
    → set_texts set (texts ms) ≡ texts (set_values set ds ms)
set_alike [] ds ms e = refl
set_alike (s ∷ set) [] ms e = cc
set_alike (s ∷ set) (d ∷ ds) ms e =
    ap (λ t. set_texts set (put_text s.name.now t (texts ms))) (head_is s.text.now (compact_text d) (map (λ s. s.text.now) set) (map compact_text ds) e)
    ∙ ap (set_texts set) (texts_put s.name.now d ms)
    ∙ set_alike set ds (put s.name.now d ms) (tail_is s.text.now (compact_text d) (map (λ s. s.text.now) set) (map compact_text ds) e)

before_alike : (name : List ℕ) (ms : Members) → texts_before name (texts ms) ≡ whole.texts_before name ms
before_alike name no_members = refl
before_alike name (member k d ms) =
    ap (λ s. match_ordering (cmp name k) [] [] (name_text k ++ (compact_text d ++ (44 ∷ s)))) (before_alike name ms)

after_turn : (o : Ordering) (k : List ℕ) (d : Data) (ms later : Members) (more : Named) → more ≡ texts later
    → match_ordering o ((k, compact_text d) ∷ texts ms) (texts ms) more ≡ texts (match_ordering o (member k d ms) ms later)
after_turn Less k d ms later more e = refl
after_turn Equal k d ms later more e = refl
after_turn Greater k d ms later more e = e

after_alike : (name : List ℕ) (ms : Members) → after name (texts ms) ≡ texts (whole.members_after name ms)
after_alike name no_members = refl
after_alike name (member k d ms) = after_turn (cmp name k) k d ms (whole.members_after name ms) (after name (texts ms)) (after_alike name ms)

later_alike : (ms : Members) → texts_later (texts ms) ≡ members_text true ms
later_alike no_members = refl
later_alike (member k d ms) =
    ap (λ s. 44 ∷ s) (append_assoc (quoted k) (58 ∷ []) (compact_text d ++ texts_later (texts ms))
    ∙ ap (λ s. quoted k ++ 58 ∷ (compact_text d ++ s)) (later_alike ms))

around_alike : (name : List ℕ) (ms : Members) → around name (texts ms) ≡ surrounding name ms
around_alike name ms =
    ap₂ (λ b a. record { before = 123 ∷ (b ++ name_text name); after = a }) (before_alike name ms)
    (ap texts_later (after_alike name ms) ∙ later_alike (whole.members_after name ms))

named_outline : (ms : Members) → named (members_outline ms) ≡ texts ms
named_outline no_members = refl
named_outline (member k d ms) = ap₂ (λ t ns. (k, t) ∷ ns) (print-outline d) (named_outline ms)

-- the members that stripping leaves
named_alike : (j : Json) (d : Data) → HasNumbers j → of_json j ≡ Some d
    → named (members_of (written false j)) ≡ texts (unwrap_or (as_object (values.stripped d)) no_members)
named_alike json.null d h e = ap (λ d. texts (unwrap_or (as_object (values.stripped d)) no_members)) (Some_inj null d e)
named_alike (json.boolean b) d h e = ap (λ d. texts (unwrap_or (as_object (values.stripped d)) no_members)) (Some_inj (boolean b) d e)
named_alike (json.number s) d h e =
    let n = mapped_some number (number_of s) d e in ap (λ d. texts (unwrap_or (as_object (values.stripped d)) no_members)) n.2
named_alike (json.string s) d h e = ap (λ d. texts (unwrap_or (as_object (values.stripped d)) no_members)) (Some_inj (string s) d e)
named_alike (json.array js) d h e =
    let ds = mapped_some array (of_items js) d e in ap (λ d. texts (unwrap_or (as_object (values.stripped d)) no_members)) ds.2
named_alike (json.object js) d h e =
    let ds = mapped_some object (of_members js no_members) d e in
    let none : values.is_fractional d ≡ false = ap values.is_fractional (sym ds.2) in
    ap (λ j. named (members_of j)) (stripped_outline (json.object js) d h e none ∙ ap (λ d. outline (values.stripped d)) (sym ds.2))
    ∙ named_outline (values.stripped_members ds.0) ∙ ap (λ d. texts (unwrap_or (as_object (values.stripped d)) no_members)) ds.2

pub around_stripped : (name : List ℕ) (set : List SetMember) (ds : List Data) (j : Json) (d : Data) → HasNumbers j → of_json j ≡ Some d
    → map (λ s. s.text.now) set ≡ map compact_text ds
    → around name (set_texts set (named (members_of (written false j))))
    ≡ surrounding name (set_values set ds (unwrap_or (as_object (values.stripped d)) no_members))
around_stripped name set ds j d h is e =
    let ms = unwrap_or (as_object (values.stripped d)) no_members in
    ap (λ ns. around name (set_texts set ns)) (named_alike j d h is) ∙ ap (around name) (set_alike set ds ms e) ∙ around_alike name (set_values set ds ms)
