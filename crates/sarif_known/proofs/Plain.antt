-- Values of strings and small integers, whose objects' names rise: their tokens are read as themselves.
use Rattle.std.proofs.Common.{◌≡◌, ℕ, ◌^◌, ◌<◌, ◌≤◌, false, List, [], Some, option_and_then, refl, sym, ap, ap₂, ◌∙◌, subst, append-nil}
use Rattle.std.specs.Prelude.{⊤, option_map}
use Rattle.json.specs.Json as json
use Rattle.json.specs.Tree as tree
use Rattle.json.proofs.Printed.Trees.{value-json_tokens}
use Rattle.json.specs.Lex.{tokens}
use Rattle.serde_json.specs.Data.{unsigned, negative, float, Data, null, boolean, number, string, array, object, Items, no_items, item, Members, no_members, member, depth}
use Rattle.serde_json.specs.Read.{of_json, of_items, of_members, max_depth, read}
use Rattle.serde_json.specs.Written.{outline, items_outline, members_outline}
use Rattle.serde_json.proofs.Numbers.{number_of-decimal}
use Rattle.json_parts.specs.Internal.Ordered.{IsBelow}
use Rattle.json_parts.specs.Stripping.{is_fractional, any_fractional, stripped, stripped_items, stripped_members}
use Rattle.sarif_known.proofs.Outlines.{AreBefore, join_next, join_none, joined, outline_depth, put_end, still_before}

abbrev mutual
  pub IsPlain : Data → Type 0
  IsPlain null = ⊤
  IsPlain (boolean b) = ⊤
  IsPlain (number (unsigned n)) = n < 2 ^ 64
  IsPlain (number (negative z)) = ⊥
  IsPlain (number (float x)) = ⊥
  IsPlain (string s) = ⊤
  IsPlain (array ds) = AreItemsPlain ds
  IsPlain (object ms) = AreMembersPlain ms

  pub AreItemsPlain : Items → Type 0
  AreItemsPlain no_items = ⊤
  AreItemsPlain (item d ds) = IsPlain d × AreItemsPlain ds

  pub AreMembersPlain : Members → Type 0
  AreMembersPlain no_members = ⊤
  AreMembersPlain (member k d ms) = IsBelow k ms × IsPlain d × AreMembersPlain ms

-- ---- its outline is the value again

mutual
  pub plain_back : (d : Data) → IsPlain d → of_json (outline d) ≡ Some d
  plain_back null plain = refl
  plain_back (boolean b) plain = refl
  plain_back (number (unsigned n)) plain = ap (option_map number) (number_of-decimal n plain)
  plain_back (number (negative z)) plain = absurd plain
  plain_back (number (float x)) plain = absurd plain
  plain_back (string s) plain = refl
  plain_back (array ds) plain = ap (option_map array) (items_back ds plain)
  plain_back (object ms) plain = ap (option_map object) (members_back ms no_members plain tt)

  items_back : (ds : Items) → AreItemsPlain ds → of_items (items_outline ds) ≡ Some ds
  items_back no_items plain = refl
  items_back (item d ds) plain = rw (plain_back d plain.0, items_back ds plain.1) refl

  members_back : (ms acc : Members) → AreMembersPlain ms → AreBefore acc ms → of_members (members_outline ms) acc ≡ Some (joined acc ms)
  members_back no_members acc plain before = ap Some (join_none acc)
  members_back (member k d ms) acc plain before =
      rw (plain_back d plain.1)
      (ap (of_members (members_outline ms)) (put_end k d acc ms before)
      ∙ members_back ms (joined acc (member k d no_members)) plain.2 (still_before k d acc ms before plain.0)
      ∙ ap Some (join_next k d acc ms))

-- ---- nothing in it is a fraction

mutual
  whole : (d : Data) → IsPlain d → is_fractional d ≡ false
  whole null plain = refl
  whole (boolean b) plain = refl
  whole (number (unsigned n)) plain = refl
  whole (number (negative z)) plain = absurd plain
  whole (number (float x)) plain = absurd plain
  whole (string s) plain = refl
  whole (array ds) plain = items_whole ds plain
  whole (object ms) plain = refl

  items_whole : (ds : Items) → AreItemsPlain ds → any_fractional ds ≡ false
  items_whole no_items plain = refl
  items_whole (item d ds) plain = rw (whole d plain.0) (items_whole ds plain.1)

mutual
  -- stripping leaves it as it is
  pub plain_stripped : (d : Data) → IsPlain d → stripped d ≡ d
  plain_stripped null plain = refl
  plain_stripped (boolean b) plain = refl
  plain_stripped (number n) plain = refl
  plain_stripped (string s) plain = refl
  plain_stripped (array ds) plain = ap array (items_stripped ds plain)
  plain_stripped (object ms) plain = ap object (members_stripped ms plain)

  items_stripped : (ds : Items) → AreItemsPlain ds → stripped_items ds ≡ ds
  items_stripped no_items plain = refl
  items_stripped (item d ds) plain = ap₂ item (plain_stripped d plain.0) (items_stripped ds plain.1)

  members_stripped : (ms : Members) → AreMembersPlain ms → stripped_members ms ≡ ms
  members_stripped no_members plain = refl
  members_stripped (member k d ms) plain = rw (whole d plain.1) (ap₂ (member k) (plain_stripped d plain.1) (members_stripped ms plain.2))

-- the JSON of its tokens is read as the value
pub plain_read : (d : Data) (text : List ℕ) → IsPlain d → depth d ≤ max_depth → tokens text ≡ tree.json_tokens (outline d) → read text ≡ Some d
plain_read d text plain shallow are =
    let deep : tree.depth (outline d) ≤ max_depth = subst (λ n. n ≤ max_depth) (sym (outline_depth d)) shallow in
    let found : json.value max_depth (tokens text) ≡ Some (outline d, []) =
    ap (json.value max_depth) (are ∙ sym (append-nil (tree.json_tokens (outline d)))) ∙ value-json_tokens (outline d) max_depth [] deep in
    ap (λ o. option_and_then of_json (option_and_then (λ p. json.if_last p.0 p.1) o)) found ∙ plain_back d plain
