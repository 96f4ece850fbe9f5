use Rattle.std.proofs.Common.{false, codes, sym, ap, ◌∙◌}
use Rattle.serde_json.specs.Find.{get}
use Rattle.serde_json.specs.View.{items_view}
use Rattle.serde_json.specs.Written.{items_have_float}
use Rattle.json_parts.specs.Indexed.{data_of}
use Rattle.json_parts.specs.Stripping.{stripped}
use Rattle.sarif_counts.specs.CountOf.{items_in}
use Rattle.sarif_model.proofs.PutAgain.{items_of_elements}
use Rattle.sarif_suppress.specs.declared.suppressions.Applied.{Applied}
use Rattle.sarif_results.specs.Annotated.{own_suppressions}
use Rattle.sarif_results.specs.Drafts.{members_in, unapplied}
use Rattle.sarif_results.proofs.Drafted.{draft_is, own_in}
use Rattle.sarif_results.proofs.WholeMembers.{get_whole, items_in_whole}
use Rattle.sarif_results.proofs.draft.draft_absent.Goals as goal

pub finish_draft-requires : goal.finish_draft-requires
finish_draft-requires c =
    let d = stripped (data_of c.args.node.now) in
    record {
      list =
          ap items_have_float c.own_of-own.ensures ∙ ap (λ o. items_have_float (items_in o)) c.requires.own
          ∙ items_in_whole (get (codes "suppressions") d) (get_whole (codes "suppressions") d c.requires.whole);
    }

pub returns : goal.returns
returns c =
    let d = stripped (data_of c.args.node.now) in
    let ms = members_in d in
    let own = items_view c.own_of-own.result.items in
    let applied : Applied = record { entries = c.new.result; suppressed = false } in
    draft_is (λ _ own. own) unapplied c.args.record.now ms c.in_ok-draft.draft applied own c.in_ok-draft.ensures
    (ap (λ es. record { entries = es; suppressed = false }) c.new.ensures)
    (c.own_of-own.ensures ∙ ap items_in c.requires.own ∙ sym (own_in d) ∙ sym (items_of_elements (own_suppressions ms)))
