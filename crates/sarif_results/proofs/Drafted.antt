-- A draft, and a result's own suppressions.
use Rattle.std.proofs.Common.{◌≡◌, codes, refl, ap, ◌∙◌}
use Rattle.json_parts.specs.Internal.Around.{surrounding}
use Rattle.serde_json.specs.Data.{Data, null, boolean, number, string, array, object, Items, Members}
use Rattle.serde_json.specs.Find.{get}
use Rattle.sarif_counts.specs.CountOf.{items_in, suppresses}
use Rattle.sarif_model.specs.declared.kinds.Level.{Level}
use Rattle.sarif_model.specs.declared.record.Record.{Record}
use Rattle.sarif_suppress.specs.declared.suppressions.Applied.{Applied}
use Rattle.sarif_results.specs.declared.draft.Draft.{Draft}
use Rattle.sarif_results.specs.Annotated.{own_suppressions}
use Rattle.sarif_results.specs.Drafts.{draft_by, drafted_members, listed_in, members_in}
use Rattle.sarif_results.specs.Drafts.{Listing}

-- what `finish_draft` makes
abbrev pub finished : Level → Applied → Items → Members → Draft
finished level applied list ms = record {
  level = level;
  suppressed = suppresses list;
  applied = applied;
  text = surrounding (codes "baselineState") (drafted_members level list ms);
}

-- a draft of its parts
pub draft_is : (listed : Listing) (applied : Record → Applied) (r : Record) (ms : Members) (draft : Draft) (a : Applied) (list : Items)
    → draft ≡ finished r.level a list ms → a ≡ applied r → list ≡ listed_in listed r ms → draft ≡ draft_by listed applied r ms
draft_is listed applied r ms draft a list is applies lists =
    is ∙ ap (λ x. finished r.level x list ms) applies ∙ ap (λ x. finished r.level (applied r) x ms) lists

-- an object's own suppressions are found in it
pub own_in : (d : Data) → own_suppressions (members_in d) ≡ items_in (get (codes "suppressions") d)
own_in null = refl
own_in (boolean b) = refl
own_in (number n) = refl
own_in (string s) = refl
own_in (array ds) = refl
own_in (object ms) = refl
