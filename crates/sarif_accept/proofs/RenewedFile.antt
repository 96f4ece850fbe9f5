-- The JSON of a new suppression file is read again.
use Rattle.std.proofs.Common.{◌≡◌, ℕ, ◌<◌, ◌≤◌, Bool, true, false, List, [], ◌∷◌, ◌++◌, length, map, Bor, Option, Some, None, refl, sym, subst, inl, inr, ◌⊎◌, ◌||◌, ◌+◌, ap, ap₂, ◌∙◌, arith, length-append, if◌then◌else◌}
use Rattle.std.specs.List.{list_any}
use Rattle.std.specs.Prelude.{is_some, nat_lt, unwrap_or}
use Rattle.std.specs.Str.{is_utf8}
use Rattle.std.proofs.lemmas.List.{length-map}
use Rattle.std.proofs.lemmas.Bool.Decides.{nat_tests}
use Rattle.serde_json.specs.Data.{Data, object, no_members, depth}
use Rattle.serde_json.specs.Read.{max_depth, read}
use Rattle.serde_json.specs.Written.{has_float}
use Rattle.serde_json.proofs.Nesting.{depth-read}
use Rattle.json_parts.specs.Indexed.{json_of}
use Rattle.json_parts.specs.Mark.{without_mark}
use Rattle.sarif_options.specs.declared.upkeep.Renewal.{Renewal}
use Rattle.sarif_model.specs.Limits.{most_bytes, most_entries}
use Rattle.sarif_model.specs.declared.fault.Fault.TheVariants.{TooMany}
use Rattle.sarif_model.specs.declared.merge_fault.Cause.{Cause}
use Rattle.sarif_model.specs.declared.merge_fault.Cause.TheVariants.{Of, TooLong}
use Rattle.sarif_model.specs.declared.record.Record.{Record}
use Rattle.sarif_model.specs.declared.refusal.Refusal.{Refusal}
use Rattle.sarif_model.specs.declared.refusal.Refusal.TheVariants as refusal
use Rattle.sarif_entries.specs.declared.version.Version.{Version}
use Rattle.sarif_entries.specs.declared.version.Version.TheVariants.{Fourth, Fifth}
use Rattle.sarif_entries.specs.File.{is_fifth}
use Rattle.sarif_accept.specs.NewFile.{entries_in, file_object, file_text, has_snippet, version_after}
use Rattle.sarif_accept.specs.Entry.{entry_for}
use Rattle.sarif_accept.specs.Keeping.{chosen}
use Rattle.sarif_accept.specs.Renewed.{renewed_entries, renewed_file, renewal_cause}
use Rattle.sarif_accept.proofs.EntryRead.{has_its_snippet}
use Rattle.sarif_accept.proofs.NoFraction.{new_whole}
use Rattle.sarif_accept.specs.Internal.Weighing.{lines_in, weights_of}
use Rattle.sarif_accept.proofs.LineWidths.{file_lines}
use Rattle.sarif_accept.proofs.Shallow.{new_within}
use Rattle.sarif_accept.proofs.Weight.{file_weight}

json_depth : (bytes : List ℕ) (o : Option Data) → json_of bytes ≡ o → depth (unwrap_or o (object no_members)) ≤ max_depth
json_depth bytes None is = omega arith
json_depth bytes (Some d) is = by_utf8 (is_utf8 bytes) is
  where
    by_utf8 : (b : Bool) → (if b then read bytes else None) ≡ Some d → depth d ≤ max_depth
    by_utf8 true is = depth-read bytes d is
    by_utf8 false is = let never : ⊥ = cc in absurd never

object_depth : (given : Option (List ℕ)) → depth (file_object given) ≤ max_depth
object_depth None = omega arith
object_depth (Some bytes) = json_depth (without_mark bytes) (json_of (without_mark bytes)) refl

entries_made : (reason : Option (List ℕ)) (until : Option ℕ) (xs : List (Bor Record))
    → map (λ r. entry_for r.now reason until) xs ≡ map (λ r. entry_for r reason until) (map (λ r. r.now) xs)
entries_made reason until [] = refl
entries_made reason until (x ∷ xs) = ap (λ l. entry_for x.now reason until ∷ l) (entries_made reason until xs)

pub all_entries : (given : Option (List ℕ)) (kept : List Bool) (xs : List (Bor Record)) (renewal : Renewal) (old new : List Data)
    → old ≡ chosen kept (entries_in (file_object given))
    → new ≡ old ++ map (λ r. entry_for r.now renewal.reason renewal.until) xs → new ≡ renewed_entries given kept (map (λ r. r.now) xs) renewal
all_entries given kept xs renewal old new is more = more ∙ ap₂ (λ a b. a ++ b) is (entries_made renewal.reason renewal.until xs)

-- the version of the new file, by the results for which entries are added
any_snippet : (xs : List (Bor Record)) (reason : Option (List ℕ)) (until : Option ℕ)
    → list_any (λ r. is_some r.now.snippet) xs ≡ list_any has_snippet (map (λ r. entry_for r reason until) (map (λ r. r.now) xs))
any_snippet [] reason until = refl
any_snippet (x ∷ xs) reason until = ap₂ (λ a b. a || b) (sym (has_its_snippet x.now reason until)) (any_snippet xs reason until)

pub version_is : (fifth : Bool) (d : Data) (xs : List (Bor Record)) (renewal : Renewal) (version : Version) → fifth ≡ is_fifth d
    → version ≡ (if fifth || list_any (λ r. is_some r.now.snippet) xs then Fifth else Fourth)
    → version ≡ version_after d (map (λ r. entry_for r renewal.reason renewal.until) (map (λ r. r.now) xs))
version_is fifth d xs renewal version is chosen =
    chosen ∙ ap (λ b. if b || list_any (λ r. is_some r.now.snippet) xs then Fifth else Fourth) is
    ∙ ap (λ b. if is_fifth d || b then Fifth else Fourth) (any_snippet xs renewal.reason renewal.until)

-- as many entries as are kept and are added
pub counted : {A : Type 0} (f : A → Data) (items : List A) (xs : List (Bor Record)) (given : Option (List ℕ)) (kept : List Bool)
    (renewal : Renewal) → map f items ≡ chosen kept (entries_in (file_object given))
    → length (renewed_entries given kept (map (λ r. r.now) xs) renewal) ≡ length items + length xs
counted f items xs given kept renewal is =
    let same : length (map f items) ≡ length (chosen kept (entries_in (file_object given))) = ap length is in
    let rs = map (λ r. r.now) xs in
    omega (
      arith,
      length-append (chosen kept (entries_in (file_object given))) (map (λ r. entry_for r renewal.reason renewal.until) rs),
      length-map items f,
      length-map rs (λ r. entry_for r renewal.reason renewal.until),
      length-map xs (λ r. r.now),
      same,
    )

module _ (given : Option (List ℕ)) (kept : List Bool) (added : List Record) (renewal : Renewal) where
  pub is_shallow : (d : Data) → d ≡ renewed_file given kept added renewal → depth d ≤ max_depth
  is_shallow d is = rw is (new_within (file_object given) kept added renewal.reason renewal.until (object_depth given))

  pub is_whole : (d : Data) → d ≡ renewed_file given kept added renewal → has_float d ≡ false
  is_whole d is = rw is (new_whole (file_object given) kept added renewal.reason renewal.until)

  pub is_too_many : most_entries < length (renewed_entries given kept added renewal) → renewal_cause given kept added renewal ≡ Some (Of TooMany)
  is_too_many many =
      let test : nat_lt most_entries (length (renewed_entries given kept added renewal)) ≡ true = grind (arith, nat_tests) in
      rw test refl

  pub is_too_long : (length (renewed_entries given kept added renewal) ≤ most_entries)
      → most_bytes < length (file_text (renewed_file given kept added renewal)) → renewal_cause given kept added renewal ≡ Some TooLong
  is_too_long few long =
      let test : nat_lt most_entries (length (renewed_entries given kept added renewal)) ≡ false = grind (arith, nat_tests) in
      let size : nat_lt most_bytes (length (file_text (renewed_file given kept added renewal))) ≡ true = grind (arith, nat_tests) in
      rw (test, size) refl

  -- lines that are too long are found before the text is made
  pub is_too_indented : (d : Data) → d ≡ renewed_file given kept added renewal
      → (length (renewed_entries given kept added renewal) ≤ most_entries) → nat_lt most_bytes (lines_in 1 d) ≡ true
      → renewal_cause given kept added renewal ≡ Some TooLong
  is_too_indented d is few long =
      let whole : lines_in 1 d ≤ length (file_text (renewed_file given kept added renewal)) =
      subst (λ e. lines_in 1 d ≤ length (file_text e)) is (file_lines d (is_shallow d is)) in
      let over : most_bytes < lines_in 1 d = grind (arith, nat_tests) in
      is_too_long few (omega (arith, whole, over))

  pub is_accepted : (length (renewed_entries given kept added renewal) ≤ most_entries)
      → length (file_text (renewed_file given kept added renewal)) ≤ most_bytes → renewal_cause given kept added renewal ≡ None
  is_accepted few short =
      let test : nat_lt most_entries (length (renewed_entries given kept added renewal)) ≡ false = grind (arith, nat_tests) in
      let size : nat_lt most_bytes (length (file_text (renewed_file given kept added renewal))) ≡ false = grind (arith, nat_tests) in
      rw (test, size) refl

  -- what is found before entries are made is why there is no file
  pub room_cause : (kept_count added_count : ℕ) (cause fault : Cause) → length (renewed_entries given kept added renewal) ≡ kept_count + added_count
      → ◌≡◌ {A = Refusal Cause} (refusal.Fault cause) (refusal.Fault fault)
      → ((cause ≡ Of TooMany) × (most_entries < kept_count + added_count)) ⊎
      ((cause ≡ TooLong) × (kept_count + added_count ≤ most_entries) × (most_bytes < weights_of renewal added))
      → renewal_cause given kept added renewal ≡ Some fault
  room_cause kept_count added_count cause fault size same (inl many) =
      let one : cause ≡ fault = cc in
      is_too_many (omega (arith, size, many.1)) ∙ ap (λ c. Some c) (sym many.0 ∙ one)
  room_cause kept_count added_count cause fault size same (inr long) =
      let one : cause ≡ fault = cc in
      is_too_long (omega (arith, size, long.1)) (omega (arith, long.2, file_weight given kept added renewal)) ∙ ap (λ c. Some c) (sym long.0 ∙ one)
