-- For the contracts between workers and the writing of the log. Internal: no public contract of the merge refers
-- to this module. A draft is a written result without its baseline state, which is known only after matching.
use Rattle.std.specs.Prelude.{false, List, [], ◌∷◌, codes, unwrap_or, ⊤}
use Rattle.std.specs.List.{AllByRecursion}
use Rattle.serde_json.specs.Data.{Data, null, boolean, number, string, array, object, Items, Members, no_members, put}
use Rattle.serde_json.specs.Find.{as_object}
use Rattle.serde_json.specs.View.{items_of}
use Rattle.json_parts.specs.Internal.Around.{surrounding}
use Rattle.sarif_counts.specs.CountOf.{suppresses}
use Rattle.sarif_model.specs.declared.kinds.Level.{Level}
use Rattle.sarif_model.specs.declared.record.Record.{Record}
use Rattle.sarif_model.specs.Level.{level_name}
use Rattle.sarif_model.specs.Members.{elements}
use Rattle.sarif_suppress.specs.declared.suppressions.Applied.{Applied}
use Rattle.sarif_entries.specs.File.{File}
use Rattle.sarif_suppress.specs.Suppressing.{matching_numbers, is_suppressed}
use Rattle.sarif_results.specs.declared.draft.Draft.{Draft}
use Rattle.sarif_results.specs.Annotated.{own_suppressions}
use Rattle.sarif_model.specs.Run.{results_of}

-- ---- a result

-- which suppressions are written for a result with that record and these own suppressions
abbrev pub Listing : Type 0
Listing = Record → List Data → List Data

-- the members of an object; a value that is not an object has none
abbrev pub members_in : Data → Members
members_in d = unwrap_or (as_object d) no_members

-- the value is an object
abbrev pub IsObject : Data → Type 0
IsObject null = ⊥
IsObject (boolean b) = ⊥
IsObject (number n) = ⊥
IsObject (string s) = ⊥
IsObject (array ds) = ⊥
IsObject (object ms) = ⊤

-- what the suppression file makes of a result
abbrev pub applied_of : File → Record → Applied
applied_of file r = record { entries = matching_numbers file r; suppressed = is_suppressed file r }

-- where no file is applied
abbrev pub unapplied : Record → Applied
unapplied r = record { entries = []; suppressed = false }

-- the suppressions that are written for a result with these members
abbrev pub listed_in : Listing → Record → Members → Items
listed_in listed r ms = items_of (listed r (elements (own_suppressions ms)))

-- its members with its level and these suppressions
abbrev pub drafted_members : Level → Items → Members → Members
drafted_members level list ms =
    put (codes "level") (string (level_name level)) (put (codes "suppressions") (array list) ms)

abbrev pub draft_by : Listing → (Record → Applied) → Record → Members → Draft
draft_by listed applied r ms = record {
  level = r.level;
  suppressed = suppresses (listed_in listed r ms);
  applied = applied r;
  text = surrounding (codes "baselineState") (drafted_members r.level (listed_in listed r ms) ms);
}

-- the drafts of results, each by its record
abbrev pub drafts_by : Listing → (Record → Applied) → List Record → List Data → List Draft
drafts_by listed applied [] ds = []
drafts_by listed applied (r ∷ rs) [] = []
drafts_by listed applied (r ∷ rs) (d ∷ ds) =
    draft_by listed applied r (members_in d) ∷ drafts_by listed applied rs ds

-- a run is an object, and so is each of its results
abbrev pub IsRun : Data → Type 0
IsRun run = IsObject run × AllByRecursion IsObject (results_of run)
