-- A new file is of version 5 if the old one is, where no entry with a snippet is added.
use Rattle.std.proofs.Common.{◌≡◌, ℕ, Bool, true, false, ◌||◌, List, [], ◌∷◌, ◌++◌, map, Option, Some, None, refl, ap, ap₂, ◌∙◌, codes, if◌then◌else◌}
use Rattle.std.specs.List.{AllByRecursion, list_any}
use Rattle.std.specs.Option.{option_map_or}
use Rattle.std.specs.Prelude.{is_some, nat_eq, option_and_then, unwrap_or}
use Rattle.serde_json.specs.Data.{Data, number, unsigned, array, object, no_members, Members, put}
use Rattle.serde_json.specs.Find.{as_number, as_u64, get_member}
use Rattle.serde_json.specs.View.{items_of}
use Rattle.serde_json.proofs.Views.{get_member-put, get_member-put_other}
use Rattle.json_parts.specs.Indexed.{json_of}
use Rattle.json_parts.specs.Mark.{without_mark}
use Rattle.sarif_evidence.specs.Seen.{as_matched}
use Rattle.sarif_evidence.specs.declared.version.MatchingVersion.{MatchingVersion}
use Rattle.sarif_evidence.specs.declared.version.MatchingVersion.TheVariants.{Two}
use Rattle.sarif_model.specs.declared.kinds.State.{State}
use Rattle.sarif_model.specs.declared.record.Record.{Record}
use Rattle.sarif_entries.specs.declared.version.Version.{Version}
use Rattle.sarif_entries.specs.declared.version.Version.TheVariants.{First, Second, Fourth, Fifth}
use Rattle.sarif_entries.specs.File.{File, is_fifth, looks_at_snippets, number_of}
use Rattle.sarif_accept.specs.Adding.{How, MayBeHit, accepted_among, added_for, is_said, once_each}
use Rattle.sarif_accept.specs.Entry.{entry_for}
use Rattle.sarif_accept.specs.NewFile.{entries_after, file_object, file_with, has_snippet, others_in, version_after}
use Rattle.sarif_accept.specs.Renewed.{renewed_file}
use Rattle.sarif_accept.proofs.EntryRead.{has_its_snippet}
use Rattle.sarif_accept_laws.proofs.FileRead.{apart}

-- ---- the version that is written

abbrev of_fifth : Version → Bool
of_fifth First = false
of_fifth Second = false
of_fifth Fourth = false
of_fifth Fifth = true

-- the value is the number of version 5
abbrev fifth_in : Option Data → Bool
fifth_in found = option_map_or (λ n. nat_eq n 5) (option_and_then as_u64 (option_and_then as_number found)) false

five : (version : Version) (found : Option Data) → found ≡ Some (number (unsigned (number_of version))) → fifth_in found ≡ of_fifth version
five First found is = rw is refl
five Second found is = rw is refl
five Fourth found is = rw is refl
five Fifth found is = rw is refl

written : (version : Version) (entries : List Data) (ms : Members) → is_fifth (file_with version entries ms) ≡ of_fifth version
written version entries ms =
    let its = number (unsigned (number_of version)) in
    let rest = put (codes "version") its ms in
    five version (get_member (codes "version") (put (codes "suppressions") (array (items_of entries)) rest))
    (get_member-put_other (codes "version") (codes "suppressions") (array (items_of entries)) rest apart
    ∙ get_member-put (codes "version") its ms)

version_same : (d : Data) (added : List Data) → list_any has_snippet added ≡ false → of_fifth (version_after d added) ≡ is_fifth d
version_same d added none = ap (λ b. of_fifth (if is_fifth d || b then Fifth else Fourth)) none ∙ by_test (is_fifth d)
  where
    by_test : (b : Bool) → of_fifth (if b || false then Fifth else Fourth) ≡ b
    by_test true = refl
    by_test false = refl

given_same : (given : Option (List ℕ)) → is_fifth (file_object given) ≡ looks_at_snippets given
given_same None = refl
given_same (Some bytes) = by_value (json_of (without_mark bytes))
  where
    by_value : (o : Option Data) → is_fifth (unwrap_or o (object no_members)) ≡ option_map_or is_fifth o false
    by_value None = refl
    by_value (Some d) = refl

-- ---- version 2 of matching adds no entry with a snippet

abbrev AreUnseen : List Record → Type 0
AreUnseen rs = AllByRecursion (λ r. r.snippet ≡ None) rs

none_seen : (rs : List Record) (reason : Option (List ℕ)) (until : Option ℕ) → AreUnseen rs
    → list_any has_snippet (map (λ r. entry_for r reason until) rs) ≡ false
none_seen [] reason until all = refl
none_seen (r ∷ rs) reason until all =
    ap₂ (λ a b. a || b) (has_its_snippet r reason until ∙ ap is_some all.0) (none_seen rs reason until all.1)

once_unseen : (before rs : List Record) → AreUnseen rs → AreUnseen (once_each before rs)
once_unseen before [] all = tt
once_unseen before (r ∷ rs) all =
    elim (list_any (is_said r) before) as (λ b. AreUnseen (if b then once_each before rs else r ∷ once_each (before ++ r ∷ []) rs))
    [ true ↦ once_unseen before rs all.1 | false ↦ (all.0, once_unseen (before ++ r ∷ []) rs all.1) ]

shown_unseen : (version : MatchingVersion) (rs : List Record) → version ≡ Two → AreUnseen (map (as_matched version) rs)
shown_unseen version [] is = tt
shown_unseen version (r ∷ rs) is = (ap (λ v. (as_matched v r).snippet) is, shown_unseen version rs is)

all_unseen : (accept : Bool) (version : MatchingVersion) (rs : List Record) → version ≡ Two
    → AreUnseen (if accept then once_each [] (map (as_matched version) rs) else [])
all_unseen true version rs is = once_unseen [] (map (as_matched version) rs) (shown_unseen version rs is)
all_unseen false version rs is = tt

-- ---- the law

pub same_version : (how : How) (counts : MayBeHit) (given : Option (List ℕ)) (file : File) (rs : List Record) (states : List State)
    (kept : List Bool) (text : List ℕ) → how.matching ≡ Two
    → json_of (without_mark text) ≡ Some (renewed_file given kept (added_for how counts file rs states) how.renewal)
    → looks_at_snippets (Some text) ≡ looks_at_snippets given
same_version how counts given file rs states kept text is reads =
    let added = added_for how counts file rs states in
    let values = map (λ r. entry_for r how.renewal.reason how.renewal.until) added in
    let unseen = all_unseen how.renewal.accept how.matching (accepted_among counts file rs states) is in
    ap (λ o. option_map_or is_fifth o false) reads
    ∙ written (version_after (file_object given) values) (entries_after (file_object given) kept values) (others_in (file_object given))
    ∙ version_same (file_object given) values (none_seen added how.renewal.reason how.renewal.until unseen)
    ∙ given_same given
