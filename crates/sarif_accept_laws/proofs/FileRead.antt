-- The new file is read as it was meant.
use Rattle.std.proofs.Common.{◌≡◌, ℕ, ◌≤◌, true, List, [], ◌∷◌, ◌++◌, length, map, Option, Some, codes, refl, sym, ap, ◌∙◌, arith, true≢false}
use Rattle.std.specs.Prelude.{Ok, filter, nat_le}
use Rattle.std.specs.List.{AllByRecursion}
use Rattle.std.proofs.lemmas.Bool.Decides.{nat_tests}
use Rattle.std.proofs.lemmas.Slice.Eq.{bytes_eq-Decides}
use Rattle.serde_json.specs.Data.{Data, number, unsigned, array, Members, put}
use Rattle.serde_json.specs.Find.{get_member}
use Rattle.serde_json.specs.View.{items_of}
use Rattle.serde_json.proofs.Views.{get_member-put, get_member-put_other}
use Rattle.sarif_model.specs.Limits.{most_entries}
use Rattle.sarif_model.specs.declared.record.Record.{Record}
use Rattle.json_parts.specs.Indexed.{json_of}
use Rattle.json_parts.specs.Mark.{without_mark}
use Rattle.sarif_entries.specs.declared.entry.Entry.{Entry}
use Rattle.sarif_entries.specs.declared.version.Version.{Version}
use Rattle.sarif_entries.specs.declared.version.Version.TheVariants.{First, Second, Fourth, Fifth}
use Rattle.sarif_entries.specs.Numbering.{renumbered}
use Rattle.sarif_entries.specs.File.{File, entries_from, file_of, file_of_value, is_fifth, number_of, version_or}
use Rattle.sarif_accept.specs.Entry.{entry_for, version_for}
use Rattle.sarif_accept.specs.Keeping.{chosen, is_kept}
use Rattle.sarif_accept.specs.Adding.{How, entry_read}
use Rattle.sarif_accept.specs.Choosing.{file_adding}
use Rattle.sarif_accept.specs.NewFile.{file_with, version_after}
use Rattle.sarif_accept.specs.Until.{HasGuid, IsDated}
use Rattle.sarif_model.proofs.Elements.{items_back}
use Rattle.sarif_accept_laws.proofs.Kept.{all_numbered, kept_read, read_behind, made_read, new_fits}

pub apart : codes "version" ≡ codes "suppressions" → ⊥
apart same = true≢false (sym ((bytes_eq-Decides (codes "version") (codes "suppressions")).1 same))

version_back : (version : Version) → version_or (Some (number_of version)) ≡ Ok version
version_back First = refl
version_back Second = refl
version_back Fourth = refl
version_back Fifth = refl

value_read : (version : Version) (today : Option ℕ) (entries : List Data) (ms : Members) (es : List Entry) → length entries ≤ most_entries
    → entries_from version today 0 entries ≡ Ok es
    → file_of_value today (file_with version entries ms) ≡ Ok (record { entries = es; today = today })
unfolding file_of_value
value_read version today entries ms es few read =
    let its = number (unsigned (number_of version)) in
    let rest = put (codes "version") its ms in
    let list : get_member (codes "suppressions") (put (codes "suppressions") (array (items_of entries)) rest)
    ≡ Some (array (items_of entries)) = get_member-put (codes "suppressions") (array (items_of entries)) rest in
    let named : get_member (codes "version") (put (codes "suppressions") (array (items_of entries)) rest) ≡ Some its =
    get_member-put_other (codes "version") (codes "suppressions") (array (items_of entries)) rest apart
    ∙ get_member-put (codes "version") its ms in
    let count : nat_le (length entries) most_entries ≡ true = grind (arith, nat_tests) in
    rw (list, named, version_back version, items_back entries, count, read) refl

-- the new file of one that was read, on the same day: its entries have new numbers
pub file_read : (how : How) (file : File) (rs added : List Record) (version : Version)
    (d : Data) (values : List Data) (ms : Members) (text : List ℕ)
    → (version ≡ Fifth → is_fifth d ≡ true)
    → entries_from version file.today 0 values ≡ Ok file.entries
    → AllByRecursion HasGuid added → IsDated file.today how.renewal.until
    → length (chosen (map (is_kept how.renewal.prune how.heard file rs) file.entries) values
    ++ map (λ r. entry_for r how.renewal.reason how.renewal.until) added) ≤ most_entries
    → json_of (without_mark text)
    ≡ Some
    (file_with (version_after d (map (λ r. entry_for r how.renewal.reason how.renewal.until) added))
    (chosen (map (is_kept how.renewal.prune how.heard file rs) file.entries) values
    ++ map (λ r. entry_for r how.renewal.reason how.renewal.until) added) ms)
    → file_of text file.today ≡ Ok (renumbered (file_adding how file rs added))
unfolding file_of
file_read how file rs added version d values ms text fifth read fits until few is =
    let fit = new_fits d version added how.renewal.reason how.renewal.until fifth in
    let later = version_after d (map (λ r. entry_for r how.renewal.reason how.renewal.until) added) in
    rw is
    (value_read later file.today (chosen (map (is_kept how.renewal.prune how.heard file rs) file.entries) values
    ++ map (λ r. entry_for r how.renewal.reason how.renewal.until) added) ms
    (renumbered (file_adding how file rs added)).entries few
    (read_behind later file.today 0 _ _ _ _
    (kept_read version later fit.covers file.today (is_kept how.renewal.prune how.heard file rs) 0 0 values file.entries read)
    (λ m. made_read later added how.renewal.reason file.today how.renewal.until m fit.allowed fits until)
    ∙ ap Ok (all_numbered (filter (is_kept how.renewal.prune how.heard file rs) file.entries) added how.renewal.reason how.renewal.until)))

-- a file of the entry that accepts a result alone
pub alone_read : (r : Record) (reason : Option (List ℕ)) (today until : Option ℕ) (ms : Members) → HasGuid r → IsDated today until
    → file_of_value today (file_with (version_for r) (entry_for r reason until ∷ []) ms)
    ≡ Ok (record { entries = entry_read r reason until ∷ []; today = today })
alone_read r reason today until ms fits dated =
    value_read (version_for r) today (entry_for r reason until ∷ []) ms (entry_read r reason until ∷ []) (omega arith)
    (made_read (version_for r) (r ∷ []) reason today until 0 ((λ earlier has. has), tt) (fits, tt) dated)
