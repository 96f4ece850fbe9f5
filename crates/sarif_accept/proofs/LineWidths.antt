-- A printed text is at least as long as the line breaks and the indentation in it.
use Rattle.std.proofs.Common.{◌≡◌, ℕ, ◌+◌, ◌-◌, ◌*◌, ◌<◌, ◌≤◌, true, List, [], ◌∷◌, ◌++◌, length, drop, slice_index_or, refl, ap, arith, append_assoc, append-nil, length-append}
use Rattle.std.specs.Prelude.{min, ◌^◌}
use Rattle.std.proofs.lemmas.List.{length-replicate}
use Rattle.json.specs.Token.{Token}
use Rattle.json.specs.Token as token
use Rattle.json.specs.Print.{begins, separator, token_text}
use Rattle.json.specs.Layout.{Last, nothing, bracket, name, value, gap, depth_at, is_value, piece, pretty, pretty_from}
use Rattle.json.specs.Tree.{json_tokens, items_tokens, members_tokens}
use Rattle.serde_json.specs.Data.{Data, null, boolean, number, string, array, object, Items, no_items, item, Members, no_members, member, depth, items_depth, members_depth}
use Rattle.serde_json.specs.Read.{max_depth}
use Rattle.serde_json.specs.View.{view, items_view}
use Rattle.serde_json.specs.declared.value.Value.{Value}
use Rattle.serde_json.specs.Written.{outline, items_outline, members_outline, number_text}
use Rattle.sarif_accept.specs.NewFile.{file_text}
use Rattle.sarif_accept.specs.Internal.Weighing.{lines_in, item_lines, member_lines}
use Rattle.sarif_accept.proofs.Flags.{left_of}

-- the bytes before a value or a member, without its comma
abbrev front : Last → ℕ → ℕ
front last n = length (gap last true n)

-- the bytes of these tokens after what was written last
abbrev rest : Last → ℕ → List Token → ℕ
rest last n ts = length (pretty_from (last, n) ts)

line_length : (n : ℕ) → front value n ≡ 2 * n + 1
line_length n = let space : ℕ = 32 in omega (arith, length-replicate (2 * n) space)

-- a token's piece has the bytes before it
in_front : (last : Last) (n : ℕ) (t : Token) → begins t ≡ true → front last n ≤ length (piece (last, n) t)
in_front last n t e =
    let space = gap last (begins t) (depth_at n t) in
    let same : length space ≡ front last n = rw e refl in
    omega (arith, same, length-append (separator (is_value last) t) (space ++ token_text t), length-append space (token_text t))

deeper : (n : ℕ) → n ≤ max_depth → min (n + 1) (2 ^ 64 - 1) ≡ n + 1
deeper n small = omega (arith, small)

back : (n : ℕ) → (n + 1) - 1 ≡ n
back n = omega arith

mutual
  unfolding pretty_from

  value_lines : (d : Data) (last : Last) (n width : ℕ) (ts : List Token) → width ≡ 2 * n + 1 → n + depth d ≤ max_depth
      → front last n + (lines_in width d + rest value n ts) ≤ rest last n (json_tokens (outline d) ++ ts)
  value_lines null last n width ts wide small =
      omega (arith, in_front last n token.null refl, length-append (piece (last, n) token.null) (pretty_from (value, n) ts))
  value_lines (boolean b) last n width ts wide small =
      omega (arith, in_front last n (token.boolean b) refl, length-append (piece (last, n) (token.boolean b)) (pretty_from (value, n) ts))
  value_lines (number x) last n width ts wide small =
      omega (
        arith,
        in_front last n (token.number (number_text x)) refl,
        length-append (piece (last, n) (token.number (number_text x))) (pretty_from (value, n) ts),
      )
  value_lines (string s) last n width ts wide small =
      omega (arith, in_front last n (token.string s) refl, length-append (piece (last, n) (token.string s)) (pretty_from (value, n) ts))
  value_lines (array ds) last n width ts wide small =
      let behind = items_tokens (items_outline ds) ++ ts in
      let more = items_lines ds bracket (n + 1) (width + 2) ts (omega (arith, wide)) (line_length (n + 1)) (omega (arith, small)) in
      let inside : rest bracket (min (n + 1) (2 ^ 64 - 1)) behind ≡ rest bracket (n + 1) behind =
      ap (λ m. rest bracket m behind) (deeper n (omega (arith, small))) in
      let outside : rest value ((n + 1) - 1) ts ≡ rest value n ts = ap (λ m. rest value m ts) (back n) in
      omega (
        arith,
        in_front last n token.begin_array refl,
        more,
        inside,
        outside,
        length-append (piece (last, n) token.begin_array) (pretty_from (bracket, min (n + 1) (2 ^ 64 - 1)) behind),
      )
  value_lines (object ms) last n width ts wide small =
      let behind = members_tokens (members_outline ms) ++ ts in
      let more = members_lines ms bracket (n + 1) (width + 2) ts (omega (arith, wide)) (line_length (n + 1)) (omega (arith, small)) in
      let inside : rest bracket (min (n + 1) (2 ^ 64 - 1)) behind ≡ rest bracket (n + 1) behind =
      ap (λ m. rest bracket m behind) (deeper n (omega (arith, small))) in
      let outside : rest value ((n + 1) - 1) ts ≡ rest value n ts = ap (λ m. rest value m ts) (back n) in
      omega (
        arith,
        in_front last n token.begin_object refl,
        more,
        inside,
        outside,
        length-append (piece (last, n) token.begin_object) (pretty_from (bracket, min (n + 1) (2 ^ 64 - 1)) behind),
      )

  items_lines : (ds : Items) (last : Last) (n width : ℕ) (ts : List Token) → width ≡ 2 * n + 1 → front last n ≡ 2 * n + 1 → n + items_depth ds ≤ max_depth
      → item_lines width ds + rest value (n - 1) ts ≤ rest last n (items_tokens (items_outline ds) ++ ts)
  items_lines no_items last n width ts wide apart small = omega (arith, length-append (piece (last, n) token.end_array) (pretty_from (value, n - 1) ts))
  items_lines (item d ds) last n width ts wide apart small =
      let own = json_tokens (outline d) in
      let others = items_tokens (items_outline ds) in
      let joined : rest last n ((own ++ others) ++ ts) ≡ rest last n (own ++ (others ++ ts)) = ap (λ us. rest last n us) (append_assoc own others ts) in
      let here = value_lines d last n width (others ++ ts) wide (omega (arith, small)) in
      let more = items_lines ds value n width ts wide (line_length n) (omega (arith, small)) in
      omega (arith, joined, here, more, apart, wide)

  members_lines : (ms : Members) (last : Last) (n width : ℕ) (ts : List Token) → width ≡ 2 * n + 1 → front last n ≡ 2 * n + 1 → n + members_depth ms ≤ max_depth
      → member_lines width ms + rest value (n - 1) ts ≤ rest last n (members_tokens (members_outline ms) ++ ts)
  members_lines no_members last n width ts wide apart small = omega (arith, length-append (piece (last, n) token.end_object) (pretty_from (value, n - 1) ts))
  members_lines (member k d ms) last n width ts wide apart small =
      let own = json_tokens (outline d) in
      let others = members_tokens (members_outline ms) in
      let joined : rest name n ((own ++ others) ++ ts) ≡ rest name n (own ++ (others ++ ts)) = ap (λ us. rest name n us) (append_assoc own others ts) in
      let here = value_lines d name n width (others ++ ts) wide (omega (arith, small)) in
      let more = members_lines ms value n width ts wide (line_length n) (omega (arith, small)) in
      omega (
        arith,
        joined,
        here,
        more,
        apart,
        wide,
        in_front last n (token.key k) refl,
        length-append (piece (last, n) (token.key k)) (pretty_from (name, n) ((own ++ others) ++ ts)),
      )

-- a file's text is as long as its lines
pub file_lines : (d : Data) → depth d ≤ max_depth → lines_in 1 d ≤ length (file_text d)
file_lines d small =
    let text = json_tokens (outline d) in
    let whole : rest nothing 0 (text ++ []) ≡ length (pretty text) = ap (λ us. rest nothing 0 us) (append-nil text) in
    omega (arith, value_lines d nothing 0 1 [] refl (omega (arith, small)), whole, length-append (pretty text) (10 ∷ []))

-- ---- going through the elements

pub item_lines_left : (width : ℕ) (xs : List Value) (n : ℕ) (x : Value) → n < length xs → x ≡ slice_index_or xs n x
    → item_lines width (items_view (drop n xs)) ≡ width + (lines_in width (view x) + item_lines width (items_view (drop (n + 1) xs)))
item_lines_left width xs n x within is = rw (left_of xs n x within is) refl
