-- A whole text, and the value that is read in it.
use Rattle.std.proofs.Common.{◌≡◌, ℕ, ◌≤◌, List, [], ◌∷◌, Option, Some, None, option_and_then, is_some, Bool, true, false, ◌&&◌, nat_le, true≢false, refl, sym, ap, ◌∙◌, arith}
use Rattle.std.specs.Prelude.{IsSome, IsUtf8}
use Rattle.std.specs.Str.{is_utf8}
use Rattle.std.proofs.lemmas.Bool.{and_parts}
use Rattle.std.proofs.lemmas.Str.{is_utf8-from_IsUtf8, IsUtf8-from_is_utf8}
use Rattle.json.specs.Token.{Token}
use Rattle.json.specs.Lex.{tokens}
use Rattle.json.specs.Json.{Json, value, if_last, document}
use Rattle.json.specs.Tree.{depth}
use Rattle.json.proofs.Nesting.{value-depth}
use Rattle.json.proofs.Numbered.{document-HasNumbers}
use Rattle.serde_json.specs.Read.{max_depth, of_json, read}
use Rattle.json_parts.specs.Indexed.{json_of, data_of, IsReadable}
use Rattle.json_parts.specs.Internal.Whole.{IsWhole}
use Rattle.json_parts.proofs.Deeper.{value_at}
use Rattle.json_parts.proofs.Readings.{not_found, Some_inj, found}
use Rattle.json_parts.proofs.Passing.{passes}

pub json_of_utf8 : (bytes : List ℕ) → IsUtf8 bytes → json_of bytes ≡ read bytes
json_of_utf8 bytes h = rw (is_utf8-from_IsUtf8 bytes h)

not_utf8 : (bytes : List ℕ) (b : Bool) → is_utf8 bytes ≡ b → (IsUtf8 bytes → ⊥) → json_of bytes ≡ None
not_utf8 bytes true e h = absurd (h (IsUtf8-from_is_utf8 bytes e))
not_utf8 bytes false e h = rw e

pub json_of_other : (bytes : List ℕ) → (IsUtf8 bytes → ⊥) → json_of bytes ≡ None
json_of_other bytes h = not_utf8 bytes _ refl h

abbrev whole : Option (Json × List Token) → Option Json
whole o = option_and_then (λ p. if_last p.0 p.1) o

last : (o : Option (Json × List Token)) (j : Json) → whole o ≡ Some j → o ≡ Some (j, [])
last None j e = not_found j e
last (Some (i, [])) j e = ap (λ x. Some (x, [])) (Some_inj i j e)
last (Some (i, t ∷ ts)) j e = not_found j e

unread_from : (text : List ℕ) (o : Option (Json × List Token)) → value max_depth (tokens text) ≡ o
    → ((j : Json) → value max_depth (tokens text) ≡ Some (j, []) → of_json j ≡ None) → option_and_then of_json (whole o) ≡ None
unread_from text None e h = refl
unread_from text (Some (j, [])) e h = h j e
unread_from text (Some (j, t ∷ ts)) e h = refl

pub no_document : (text : List ℕ) → document text ≡ None → read text ≡ None
no_document text none =
    unread_from text (value max_depth (tokens text)) refl
    (λ j e. not_found j (sym none
    ∙ ap whole (value_at max_depth 128 (tokens text) [] j e (let le = value-depth max_depth (tokens text) [] j e in omega (arith, le)))))

absent : {A : Type 0} (o : Option A) → is_some o ≡ false → o ≡ None
absent None e = refl
absent (Some a) e = absurd (true≢false e)

pub not_readable : (text : List ℕ) → ((j : Json) → IsWhole (tokens text) j → passes max_depth j ≡ false) → read text ≡ None
not_readable text h =
    unread_from text (value max_depth (tokens text)) refl
    (λ j e.
    let le = value-depth max_depth (tokens text) [] j e in
    let near : nat_le (depth j) max_depth ≡ true = grind (arith, le) in
    absent (of_json j) (ap (λ b. b && is_some (of_json j)) (sym near) ∙ h j (max_depth, e)))

present : {A : Type 0} (o : Option A) → is_some o ≡ true → (a : A) × (o ≡ Some a)
present None e = absurd (true≢false (sym e))
present (Some a) e = (a, refl)

readable_from : (text : List ℕ) (o : Option Json) → document text ≡ o → IsSome o
    → ((j : Json) → IsWhole (tokens text) j → passes max_depth j ≡ true)
    → IsReadable (tokens text) × (read text ≡ Some (data_of (tokens text)))
readable_from text None e some h = absurd (true≢false (sym some))
readable_from text (Some j) e some h =
    let at : value 128 (tokens text) ≡ Some (j, []) = last (value 128 (tokens text)) j e in
    let parts = and_parts (nat_le (depth j) max_depth) (is_some (of_json j)) (h j (128, at)) in
    let d = present (of_json j) parts.1 in
    let near = parts.0 in
    let le : depth j ≤ max_depth = grind (arith, near) in
    let r = found (tokens text) j d.0 (128, [], at) le d.1 (document-HasNumbers text j e) in
    let here = value_at 128 max_depth (tokens text) [] j at le in
    (r.0, ap (λ x. option_and_then of_json (whole x)) here ∙ d.1 ∙ ap Some (sym r.1))

pub readable_text : (text : List ℕ) → IsSome (document text) → ((j : Json) → IsWhole (tokens text) j → passes max_depth j ≡ true)
    → IsReadable (tokens text) × (read text ≡ Some (data_of (tokens text)))
readable_text text some h = readable_from text (document text) refl some h
