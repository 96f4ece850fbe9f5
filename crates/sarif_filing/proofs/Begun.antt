-- An entry that is filed under a prefix is found for each URI with that prefix.
use Rattle.std.proofs.Common.{◌≡◌, ℕ, zero, suc, ◌+◌, ◌-◌, ◌<◌, Bool, true, false, List, [], ◌∷◌, ◌++◌, map, length, take, Option, Some, None, nat_eq, refl, ap, ◌∙◌, arith, if◌then◌else◌}
use Rattle.std.proofs.lemmas.Option.{slice_get_within, same_Some}
use Rattle.std.proofs.lemmas.Bool.{or_left, or_right}
use Rattle.std.specs.List.{flat_map, list_any}
use Rattle.std.specs.Option.{option_map_or}
use Rattle.std.specs.Prelude.{slice_get}
use Rattle.std.proofs.Math.Seq.{take-append-add}
use Rattle.std.proofs.lemmas.Bool.Decides.{nat_tests}
use Rattle.std.proofs.lemmas.List.Folds.{flat_map-map, list_any-append}
use Rattle.sarif_entries.specs.declared.entry.Entry.{Entry}
use Rattle.sarif_filing.specs.declared.prefixes.PrefixTable.{PrefixTable}
use Rattle.sarif_entries.specs.Internal.Filing.{filed, prefix_key}
use Rattle.sarif_entries.specs.Condition.{begins}
use Rattle.sarif_filing.specs.Numbers.{numbers_at}
use Rattle.sarif_filing.specs.Internal.Prefixes.{beginnings, hash_of, is_listed, has_length, asks_for_hash, IsPrefixTable, found_under, found_for}
use Rattle.sarif_entries.proofs.Meaning.{begins_means}
use Rattle.sarif_filing.proofs.Numbered.{has, has_from}

self : (n : ℕ) → nat_eq n n ≡ true
self n = grind (arith, nat_tests)

-- what is filed under a string is found for each string that begins with it
under_beginning : (n : ℕ) (under : List ℕ → List ℕ) (prefix rest : List ℕ) → has n (under prefix) ≡ true
    → has n (flat_map under (beginnings (prefix ++ rest))) ≡ true
under_beginning n under [] [] found =
    list_any-append (λ m. nat_eq m n) (under []) [] ∙ or_left (has n (under [])) false found
under_beginning n under [] (b ∷ rest) found =
    list_any-append (λ m. nat_eq m n) (under []) (flat_map under (map (λ front. b ∷ front) (beginnings rest))) ∙ or_left (has n (under [])) _ found
under_beginning n under (b ∷ prefix) rest found =
    let later : has n (flat_map (λ front. under (b ∷ front)) (beginnings (prefix ++ rest))) ≡ true =
    under_beginning n (λ front. under (b ∷ front)) prefix rest found in
    list_any-append (λ m. nat_eq m n) (under []) (flat_map under (map (λ front. b ∷ front) (beginnings (prefix ++ rest))))
    ∙ or_right (has n (under [])) _ (ap (has n) (flat_map-map under (λ front. b ∷ front) (beginnings (prefix ++ rest))) ∙ later)

any_at : (test : Entry → Bool) (es : List Entry) (n : ℕ) (e : Entry) → slice_get es n ≡ Some e → test e ≡ true → list_any test es ≡ true
any_at test [] n e is t = let never : ⊥ = cc in absurd never
any_at test (x ∷ es) zero e is t = let same : x ≡ e = same_Some x e is in or_left (test x) (list_any test es) (ap test same ∙ t)
any_at test (x ∷ es) (suc n) e is t = or_right (test x) (list_any test es) (any_at test es n e is t)

-- a length that is marked is within the marks
listed_within : (lengths : List Bool) (n : ℕ) → is_listed lengths n ≡ true → n < length lengths
listed_within lengths n listed =
    elim (slice_get lengths n) as (λ o. slice_get lengths n ≡ o → option_map_or (λ listed. listed) o false ≡ true → n < length lengths) [
      | None ↦ λ _ no. let never : ⊥ = cc in absurd never
      | Some b ↦ λ is _. slice_get_within lengths n b is
    ] refl listed

module _ {S H : Type 0} (entries : List Entry) (table : PrefixTable S H) (n : ℕ) (e : Entry) (prefix : List ℕ) where
  -- the entry's length is marked, and its number is filed under its hash
  under_its_own : IsPrefixTable entries table → slice_get entries n ≡ Some e → filed e (prefix_key e.conditions) ≡ Some prefix
      → (is_listed table.lengths.items (length prefix) ≡ true) × (has n (found_under table prefix) ≡ true)
  under_its_own is at key =
      let hash : ℕ = hash_of table.base prefix in
      let has_its : has_length (length prefix) e ≡ true = rw key (self (length prefix)) in
      let listed : is_listed table.lengths.items (length prefix) ≡ true = is.lengths (length prefix)
      ∙ any_at (has_length (length prefix)) entries n e at has_its in
      let asks : asks_for_hash table.base hash e ≡ true = rw key (self hash) in
      let under : has n (numbers_at nat_eq table.by_hash hash) ≡ true = ap (has n) (is.hashes hash)
      ∙ has_from (asks_for_hash table.base hash) 0 n n entries e (omega arith) at ∙ asks in
      (listed, ap (λ b. has n (if b then numbers_at nat_eq table.by_hash hash else [])) listed ∙ under)

  cut : (rest : List ℕ) → length prefix < length table.lengths.items
      → take (length table.lengths.items) (prefix ++ rest) ≡ prefix ++ take (length table.lengths.items - length prefix) rest
  cut rest within =
      let sum : length table.lengths.items ≡ length prefix + (length table.lengths.items - length prefix) = omega (arith, within) in
      ap (λ k. take k (prefix ++ rest)) sum ∙ take-append-add prefix rest (length table.lengths.items - length prefix)

  pub found_begun : (uri : Option (List ℕ)) → IsPrefixTable entries table → slice_get entries n ≡ Some e
      → filed e (prefix_key e.conditions) ≡ Some prefix → begins prefix uri ≡ true → has n (option_map_or (found_for table) uri []) ≡ true
  found_begun uri is at key begun =
      let means : (rest : List ℕ) × (uri ≡ Some (prefix ++ rest)) = (begins_means prefix uri).0 begun in
      let own : (is_listed table.lengths.items (length prefix) ≡ true) × (has n (found_under table prefix) ≡ true) = under_its_own is at key in
      let within : length prefix < length table.lengths.items = listed_within table.lengths.items (length prefix) own.0 in
      ap (λ o. has n (option_map_or (found_for table) o [])) means.1
      ∙ ap (λ text. has n (flat_map (found_under table) (beginnings text))) (cut means.0 within)
      ∙ under_beginning n (found_under table) prefix (take (length table.lengths.items - length prefix) means.0) own.1
