-- What entries with `max` change for the results that they admit: the numbers of these entries, and the drafts with them.
use Rattle.std.specs.Prelude.{◌≡◌, ℕ, List, [], ◌∷◌, Option, Some, None}
use Rattle.serde_json.specs.Data.{Data}
use Rattle.sarif_entries.specs.File.{File}
use Rattle.sarif_log.specs.LogBy.{listing_of}
use Rattle.sarif_model.specs.declared.record.Record.{Record}
use Rattle.sarif_prepare.specs.declared.changes.Changes.{Changes}
use Rattle.sarif_prepare.specs.Once.{with_each}
use Rattle.sarif_results.specs.Drafts.{applied_of, draft_by, drafts_by, members_in}
use Rattle.sarif_results.specs.declared.draft.Draft.{Draft}
use Rattle.sarif_suppress.specs.Limited.{with_admitted}

-- the draft of a current result with this record
abbrev pub draft_of : File → Record → Data → Draft
draft_of file r d = draft_by (listing_of file) (applied_of file) r (members_in d)

-- the drafts of current results with these records
abbrev pub drafts_of : File → List Record → List Data → List Draft
drafts_of file rs ds = drafts_by (listing_of file) (applied_of file) rs ds

-- ---- what changes

-- the draft of a result that these entries admit, if there are some
abbrev pub draft_again : File → Record → List ℕ → Data → Option Draft
draft_again file r [] d = None
draft_again file r (n ∷ ns) d = Some (draft_of file (with_admitted r (n ∷ ns)) d)

-- the drafts of results that entries with `max` admit, in order
abbrev pub drafts_again : File → List Record → List (List ℕ) → List Data → List (Option Draft)
drafts_again file [] lists ds = []
drafts_again file (r ∷ rs) [] ds = []
drafts_again file (r ∷ rs) (numbers ∷ lists) [] = []
drafts_again file (r ∷ rs) (numbers ∷ lists) (d ∷ ds) =
    draft_again file r numbers d ∷ drafts_again file rs lists ds

-- ---- the results after it; those past the end of the second list stay as they are

abbrev pub put_each : {X Y : Type 0} → (X → Y → X) → List X → List Y → List X
put_each put [] ys = []
put_each put (x ∷ xs) [] = x ∷ xs
put_each put (x ∷ xs) (y ∷ ys) = put x y ∷ put_each put xs ys

-- the records with the entries of these numbers
abbrev pub put_admitted : List Record → List (List ℕ) → List Record
put_admitted rs lists = put_each with_admitted rs lists

abbrev pub put_draft : Draft → Option Draft → Draft
put_draft draft None = draft
put_draft draft (Some again) = again

-- the drafts with those that are made again
abbrev pub put_drafts : List Draft → List (Option Draft) → List Draft
put_drafts drafts others = put_each put_draft drafts others

-- these drafts, where they are made again, are those of the results with the entries of these numbers
abbrev pub AreDraftsOf : File → List Record → List (List ℕ) → List Data → List (Option Draft)
    → Type 0
AreDraftsOf file rs lists ds drafts =
    put_drafts (drafts_of file rs ds) drafts ≡ drafts_of file (with_each rs lists) ds

-- these changes give these results the entries of these numbers
pub record AreChanges (file : File) (rs : List Record) (lists : List (List ℕ)) (ds : List Data)
    (changes : Changes) : Type 0 where
  pub records : put_admitted rs changes.admitted.items ≡ with_each rs lists
  pub drafts : AreDraftsOf file rs lists ds changes.drafts.items

-- the result without the entries that admit it
abbrev pub unadmitted : Record → Record
unadmitted r = with_admitted r []
