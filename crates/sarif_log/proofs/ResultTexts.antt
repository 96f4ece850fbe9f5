-- The JSON of drafts is that of the written results.
use Rattle.std.proofs.Common.{◌≡◌, Bool, true, false, List, [], ◌∷◌, ◌++◌, Some, map, length, codes, refl, ap, ◌∙◌, append_assoc, arith}
use Rattle.std.specs.List.{AllByRecursion}
use Rattle.json_parts.proofs.Filled.{filled_is_put}
use Rattle.serde_json.specs.Data.{Data, null, boolean, number, string, array, object}
use Rattle.serde_json.specs.View.{items_of}
use Rattle.serde_json.specs.Written.{comma_if, compact_text, items_text}
use Rattle.sarif_model.specs.declared.kinds.State.{State}
use Rattle.sarif_model.specs.declared.kinds.State.TheVariants.{Absent}
use Rattle.sarif_model.specs.declared.record.Record.{Record}
use Rattle.sarif_model.specs.State.{state_name}
use Rattle.sarif_suppress.specs.declared.suppressions.Applied.{Applied}
use Rattle.sarif_results.specs.Drafts.{draft_by, drafted_members, drafts_by, listed_in, members_in, unapplied, IsObject}
use Rattle.sarif_log.specs.Internal.Texts.{joined, text_with, texts_of, unless_taken}
use Rattle.sarif_results.specs.Drafts.{Listing}
use Rattle.sarif_log.specs.MergedRuns.{unmatched, written, written_all}

-- an object's draft, with its state
pub draft_text : (listed : Listing) (applied : Record → Applied) (r : Record) (state : State) (d : Data) → IsObject d
    → text_with state (draft_by listed applied r (members_in d)) ≡ compact_text (written listed r state d)
draft_text listed applied r state (object ms) is =
    filled_is_put (codes "baselineState") (string (state_name state)) (drafted_members r.level (listed_in listed r ms) ms)
draft_text listed applied r state null is = absurd is
draft_text listed applied r state (boolean b) is = absurd is
draft_text listed applied r state (number n) is = absurd is
draft_text listed applied r state (string s) is = absurd is
draft_text listed applied r state (array ds) is = absurd is

pub texts_written : (listed : Listing) (applied : Record → Applied) (rs : List Record) (states : List State) (ds : List Data)
    → length rs ≡ length ds → length states ≡ length ds → AllByRecursion IsObject ds
    → texts_of (drafts_by listed applied rs ds) (map Some states) ≡ map compact_text (written_all listed rs states ds)
texts_written listed applied [] states [] same_r same_s objects = refl
texts_written listed applied [] states (d ∷ ds) same_r same_s objects = absurd (omega (arith, same_r))
texts_written listed applied (r ∷ rs) states [] same_r same_s objects = absurd (omega (arith, same_r))
texts_written listed applied (r ∷ rs) [] (d ∷ ds) same_r same_s objects = absurd (omega (arith, same_s))
texts_written listed applied (r ∷ rs) (state ∷ states) (d ∷ ds) same_r same_s objects =
    ap (λ t. t ∷ texts_of (drafts_by listed applied rs ds) (map Some states)) (draft_text listed applied r state d objects.0)
    ∙ ap (λ ts. compact_text (written listed r state d) ∷ ts)
    (texts_written listed applied rs states ds (omega (arith, same_r)) (omega (arith, same_s)) objects.1)

pub texts_unmatched : (rs : List Record) (taken : List Bool) (ds : List Data) → AllByRecursion IsObject ds
    → texts_of (drafts_by (λ _ own. own) unapplied rs ds) (map unless_taken taken) ≡ map compact_text (unmatched rs taken ds)
texts_unmatched [] taken ds objects = refl
texts_unmatched (r ∷ rs) [] [] objects = refl
texts_unmatched (r ∷ rs) [] (d ∷ ds) objects = refl
texts_unmatched (r ∷ rs) (t ∷ taken) [] objects = refl
texts_unmatched (r ∷ rs) (true ∷ taken) (d ∷ ds) objects = texts_unmatched rs taken ds objects.1
texts_unmatched (r ∷ rs) (false ∷ taken) (d ∷ ds) objects =
    ap (λ t. t ∷ texts_of (drafts_by (λ _ own. own) unapplied rs ds) (map unless_taken taken)) (draft_text (λ _ own. own) unapplied r Absent d objects.0)
    ∙ ap (λ ts. compact_text (written (λ _ own. own) r Absent d) ∷ ts) (texts_unmatched rs taken ds objects.1)

-- the JSON of values with commas between them, and the closing bracket
pub joined_items : (later : Bool) (ds : List Data) → joined later (map compact_text ds) ++ 93 ∷ [] ≡ items_text later (items_of ds)
joined_items later [] = refl
joined_items later (d ∷ ds) =
    append_assoc (comma_if later) (compact_text d ++ joined true (map compact_text ds)) (93 ∷ [])
    ∙ ap (λ t. comma_if later ++ t)
    (append_assoc (compact_text d) (joined true (map compact_text ds)) (93 ∷ []) ∙ ap (λ t. compact_text d ++ t) (joined_items true ds))
