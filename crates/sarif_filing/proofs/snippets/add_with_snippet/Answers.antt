use Rattle.std.proofs.Common.{rules, ◌≡◌, ◌++◌, [], List, ℕ, Option, Some, None, bytes_eq, refl}
use Rattle.std.proofs.lemmas.List.{append-nil}
use Rattle.std.specs.Cmp.Lexicographic.{pointwise}
use Rattle.std.specs.List.{flat_map}
use Rattle.std.specs.Option.{option_map_or}
use Rattle.indexmap.specs.IndexMap.{get}
use Rattle.sarif_entries.specs.Internal.Filing.{keys_beside}
use Rattle.sarif_evidence.specs.Seen.{packed}
use Rattle.sarif_filing.specs.Numbers.{NumbersBy, numbers_at}
use Rattle.sarif_filing.specs.Internal.Snippets.{Within, found_within}
use Rattle.sarif_filing.proofs.snippets.add_with_snippet.Goals as goal

module _ {S : Type 0} (table : Within S) (snippet : Option (List ℕ)) (text own : List ℕ) (keys : List (List (List ℕ))) (old : List ℕ) where
  -- no entry is filed under the snippet
  none_filed : snippet ≡ Some text → own ≡ packed text → get bytes_eq table own ≡ None
      → old ≡ old ++ option_map_or (λ t. found_within table (packed t) keys) snippet []
  none_filed there is none = rw (there, ← is, none, append-nil) refl

  -- the entries that are filed under the snippet have this table
  some_filed : (keyed : NumbersBy (List (List ℕ)) S) (new : List ℕ) → snippet ≡ Some text → own ≡ packed text
      → get bytes_eq table own ≡ Some keyed → new ≡ old ++ flat_map (numbers_at (pointwise bytes_eq) keyed) keys
      → new ≡ old ++ option_map_or (λ t. found_within table (packed t) keys) snippet []
  some_filed keyed new there is some added = rw (there, ← is, some) added

pub returns-in_default-get : goal.returns-in_default-get
returns-in_default-get g c =
    let there : c.args.record.now.snippet ≡ Some c.in-Some.snippet = search rules in
    let is : c.in_ok-snippet.snippet ≡ packed c.in-Some.snippet = search rules in
    let none : get bytes_eq c.args.table.now c.in_ok-snippet.snippet ≡ None = search rules in
    none_filed c.args.table.now c.args.record.now.snippet c.in-Some.snippet c.in_ok-snippet.snippet (keys_beside c.args.record.now)
    c.args.found.now.items there is none

pub returns : goal.returns
returns g c =
    let there : c.args.record.now.snippet ≡ Some c.in-Some.snippet = search rules in
    let is : c.in_ok-snippet.snippet ≡ packed c.in-Some.snippet = search rules in
    let some : get bytes_eq c.args.table.now c.in_ok-snippet.snippet ≡ Some c.in-Some-get.keyed.now = search rules in
    let added : c.add_with_keys.new.found.items ≡ c.args.found.now.items
    ++ flat_map (numbers_at (pointwise bytes_eq) c.in-Some-get.keyed.now) (keys_beside c.args.record.now) = search rules in
    some_filed c.args.table.now c.args.record.now.snippet c.in-Some.snippet c.in_ok-snippet.snippet (keys_beside c.args.record.now)
    c.args.found.now.items c.in-Some-get.keyed.now c.add_with_keys.new.found.items there is some added
