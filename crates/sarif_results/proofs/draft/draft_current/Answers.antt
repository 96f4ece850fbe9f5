use Rattle.std.proofs.Common.{◌≡◌, false, codes, map, sym, ap, ◌∙◌}
use Rattle.std.specs.List.{list_any}
use Rattle.serde_json.specs.Find.{get}
use Rattle.serde_json.specs.View.{view, items_of, items_view}
use Rattle.serde_json.specs.Written.{has_float, items_have_float}
use Rattle.json_parts.specs.Indexed.{data_of}
use Rattle.json_parts.specs.Stripping.{stripped}
use Rattle.sarif_counts.specs.CountOf.{items_in}
use Rattle.sarif_model.specs.Members.{elements}
use Rattle.sarif_model.proofs.Elements.{items_back}
use Rattle.sarif_suppress.specs.Suppressing.{matching_numbers}
use Rattle.sarif_suppress.specs.Written.{suppressions_of}
use Rattle.sarif_results.specs.Annotated.{own_suppressions}
use Rattle.sarif_results.specs.Drafts.{members_in, applied_of}
use Rattle.sarif_results.proofs.Drafted.{draft_is, own_in}
use Rattle.sarif_results.proofs.WholeListing.{suppressions_whole, items_whole}
use Rattle.sarif_results.proofs.WholeMembers.{get_whole, items_in_whole}
use Rattle.sarif_results.proofs.draft.draft_current.Goals as goal

pub finish_draft-requires : goal.finish_draft-requires
finish_draft-requires c =
    let file = c.args.file.now in
    let r = c.args.record.now in
    let d = stripped (data_of c.args.node.now) in
    let own = map view c.own_of-own.result.items in
    let of_own : list_any has_float own ≡ false =
    sym (items_whole own) ∙ ap items_have_float c.own_of-own.ensures ∙ ap (λ o. items_have_float (items_in o)) c.requires.own
    ∙ items_in_whole (get (codes "suppressions") d) (get_whole (codes "suppressions") d c.requires.whole) in
    let listed = c.in_ok-list.ensures r c.in_ok-applied.ensures.entries in
    record {
      list =
          items_whole (map view c.in_ok-list.list.items) ∙ ap (list_any has_float) listed
          ∙ suppressions_whole c.written_passes_where_its_parts_do.ensures c.object_holds_no_fraction.ensures file r own of_own;
    }

pub returns : goal.returns
returns c =
    let file = c.args.file.now in
    let r = c.args.record.now in
    let d = stripped (data_of c.args.node.now) in
    let ms = members_in d in
    let own = map view c.own_of-own.result.items in
    let a = c.in_ok-applied.applied in
    let list = items_view c.in_ok-list.list.items in
    let listed = c.in_ok-list.ensures r c.in_ok-applied.ensures.entries in
    let owned : own ≡ elements (own_suppressions ms) =
    sym (items_back own) ∙ ap elements (c.own_of-own.ensures ∙ ap items_in c.requires.own ∙ sym (own_in d)) in
    draft_is (λ r own. suppressions_of own file r) (applied_of file) r ms c.in_ok-draft.draft a list c.in_ok-draft.ensures
    (ap (λ es. record { entries = es; suppressed = a.suppressed }) c.in_ok-applied.ensures.entries
    ∙ ap (λ b. record { entries = matching_numbers file r; suppressed = b }) c.in_ok-applied.ensures.verdict)
    (ap items_of listed ∙ ap (λ ds. items_of (suppressions_of ds file r)) owned)
