-- A value is read from its text, if the names of its objects rise and its numbers are integers in range.
use Rattle.std.proofs.Common.{◌≡◌, ℕ, ◌≤◌, true, false, pos, negsuc, List, [], ◌∷◌, ◌++◌, Some, option_map, option_and_then, refl, sym, ap, subst, ◌∙◌, append-nil, true≢false}
use Rattle.std.specs.Str.{IsUtf8, is_utf8}
use Rattle.std.proofs.lemmas.Bool.{or_parts}
use Rattle.std.proofs.lemmas.Str.{is_utf8-from_IsUtf8}
use Rattle.json.specs.Json as json
use Rattle.json.specs.Layout.{pretty, pretty_from}
use Rattle.json.specs.Lex.{tokens}
use Rattle.json.specs.Tree as tree
use Rattle.json.proofs.Printed.Decimals.{IsNumber-decimal, IsNumber-signed_decimal}
use Rattle.json.proofs.Printed.Trees.{ArePrintable-json_tokens, value-json_tokens}
use Rattle.serde_json.specs.Data.{unsigned, negative, float, Data, null, boolean, number, string, array, object, Items, no_items, item, Members, no_members, member, depth}
use Rattle.serde_json.specs.Read.{of_items, of_json, of_members, max_depth, read}
use Rattle.serde_json.specs.Written.{has_float, items_have_float, items_outline, members_have_float, members_outline, outline}
use Rattle.serde_json.proofs.Numbers.{number_of-decimal, number_of-negative}
use Rattle.json_parts.specs.Indexed.{json_of}
use Rattle.json_parts.specs.Mark.{without_mark}
use Rattle.json_parts.specs.Internal.Ordered.{AreItemsOrdered, AreMembersOrdered, IsOrdered}
use Rattle.sarif_accept.specs.NewFile.{file_text}
use Rattle.sarif_accept.proofs.Newline.{read_line}
use Rattle.sarif_known.proofs.Outlines.{AreBefore, join_next, join_none, joined, outline_depth, put_end, still_before}
use Rattle.sarif_laws.proofs.Printed.{pretty_tokens}
use Rattle.sarif_laws.proofs.Ranged.{AreItemsRanged, AreMembersRanged, IsRanged}

-- ---- its outline is the value again

mutual
  back : (d : Data) → IsOrdered d → IsRanged d → has_float d ≡ false → of_json (outline d) ≡ Some d
  back null rises fits whole = refl
  back (boolean b) rises fits whole = refl
  back (number (unsigned n)) rises fits whole = ap (option_map number) (number_of-decimal n fits)
  back (number (negative (pos n))) rises fits whole = absurd fits
  back (number (negative (negsuc n))) rises fits whole = ap (option_map number) (number_of-negative n fits)
  back (number (float x)) rises fits whole = absurd (true≢false whole)
  back (string s) rises fits whole = refl
  back (array ds) rises fits whole = ap (option_map array) (items_back ds rises fits whole)
  back (object ms) rises fits whole = ap (option_map object) (members_back ms no_members rises fits whole tt)

  items_back : (ds : Items) → AreItemsOrdered ds → AreItemsRanged ds → items_have_float ds ≡ false → of_items (items_outline ds) ≡ Some ds
  items_back no_items rises fits whole = refl
  items_back (item d ds) rises fits whole =
      let parts = or_parts (has_float d) (items_have_float ds) whole in
      rw (back d rises.0 fits.0 parts.0, items_back ds rises.1 fits.1 parts.1) refl

  members_back : (ms acc : Members) → AreMembersOrdered ms → AreMembersRanged ms → members_have_float ms ≡ false → AreBefore acc ms
      → of_members (members_outline ms) acc ≡ Some (joined acc ms)
  members_back no_members acc rises fits whole before = ap Some (join_none acc)
  members_back (member k d ms) acc rises fits whole before =
      let parts = or_parts (has_float d) (members_have_float ms) whole in
      rw (back d rises.1 fits.0 parts.0)
      (ap (of_members (members_outline ms)) (put_end k d acc ms before)
      ∙ members_back ms (joined acc (member k d no_members)) rises.2 fits.1 parts.1 (still_before k d acc ms before rises.0)
      ∙ ap Some (join_next k d acc ms))

-- ---- its numbers are numbers

mutual
  has_numbers : (d : Data) → IsRanged d → has_float d ≡ false → tree.HasNumbers (outline d)
  has_numbers null fits whole = tt
  has_numbers (boolean b) fits whole = tt
  has_numbers (number (unsigned n)) fits whole = IsNumber-decimal n fits
  has_numbers (number (negative (pos n))) fits whole = absurd fits
  has_numbers (number (negative (negsuc n))) fits whole = IsNumber-signed_decimal (negsuc n) fits
  has_numbers (number (float x)) fits whole = absurd (true≢false whole)
  has_numbers (string s) fits whole = tt
  has_numbers (array ds) fits whole = items_numbers ds fits whole
  has_numbers (object ms) fits whole = members_numbers ms fits whole

  items_numbers : (ds : Items) → AreItemsRanged ds → items_have_float ds ≡ false → tree.ItemsHaveNumbers (items_outline ds)
  items_numbers no_items fits whole = tt
  items_numbers (item d ds) fits whole =
      let parts = or_parts (has_float d) (items_have_float ds) whole in (has_numbers d fits.0 parts.0, items_numbers ds fits.1 parts.1)

  members_numbers : (ms : Members) → AreMembersRanged ms → members_have_float ms ≡ false → tree.MembersHaveNumbers (members_outline ms)
  members_numbers no_members fits whole = tt
  members_numbers (member k d ms) fits whole =
      let parts = or_parts (has_float d) (members_have_float ms) whole in (has_numbers d fits.0 parts.0, members_numbers ms fits.1 parts.1)

-- ---- its text

begins_brace : (ms : Members) → (rest : List ℕ) × (pretty (tree.json_tokens (outline (object ms))) ≡ 123 ∷ rest)
unfolding pretty_from
begins_brace ms = (_, refl)

without_brace : (text rest : List ℕ) → text ≡ 123 ∷ rest → without_mark (text ++ 10 ∷ []) ≡ text ++ 10 ∷ []
without_brace text rest is = rw is refl

pretty_read : (d : Data) → IsOrdered d → IsRanged d → has_float d ≡ false → depth d ≤ max_depth → read (pretty (tree.json_tokens (outline d))) ≡ Some d
pretty_read d rises fits whole shallow =
    let ts = tree.json_tokens (outline d) in
    let deep : tree.depth (outline d) ≤ max_depth = subst (λ n. n ≤ max_depth) (sym (outline_depth d)) shallow in
    let found : json.value max_depth (tokens (pretty ts)) ≡ Some (outline d, []) =
    ap (json.value max_depth) (pretty_tokens ts (ArePrintable-json_tokens (outline d) (has_numbers d fits whole)) ∙ sym (append-nil ts))
    ∙ value-json_tokens (outline d) max_depth [] deep in
    ap (λ o. option_and_then of_json (option_and_then (λ p. json.if_last p.0 p.1) o)) found ∙ back d rises fits whole

pub text_read : (d : Data) (ms : Members) → d ≡ object ms → IsOrdered d → IsRanged d → has_float d ≡ false → depth d ≤ max_depth → IsUtf8 (file_text d)
    → json_of (without_mark (file_text d)) ≡ Some d
text_read d ms is rises fits whole shallow utf8 =
    let text = pretty (tree.json_tokens (outline d)) in
    let begins = begins_brace ms in
    let valid : is_utf8 (text ++ 10 ∷ []) ≡ true = is_utf8-from_IsUtf8 (text ++ 10 ∷ []) utf8 in
    ap json_of (without_brace text begins.0 (ap (λ x. pretty (tree.json_tokens (outline x))) is ∙ begins.1))
    ∙ rw valid (read_line text ∙ pretty_read d rises fits whole shallow)
