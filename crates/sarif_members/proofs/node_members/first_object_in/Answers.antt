use Rattle.std.proofs.Common.{◌≡◌, Err, Some, option_map, sym, ap, ◌∙◌, arith}
use Rattle.serde_json.specs.Find.{as_array}
use Rattle.sarif_read.specs.Internal.Listed.{value_at}
use Rattle.sarif_model.specs.Members as said
use Rattle.sarif_model.specs.Members.{◌>>=◌ as and_then, result_map}
use Rattle.sarif_members.proofs.NodeMembers.{then_first}
use Rattle.sarif_members.proofs.node_members.first_object_in.Goals as goal

pub returns-in_err-first_of_array : goal.returns-in_err-first_of_array
returns-in_err-first_of_array c =
    let fault = c.in_err-first_of_array.field-0.0 in
    let gone : c.from_residual.result ≡ Err fault = grind arith in
    ap (result_map (option_map value_at)) gone ∙ ap (λ o. and_then o (said.if_object c.args.wrong)) c.in_err-first_of_array.ensures
    ∙ sym (then_first c.args.wrong (said.elements_of (said.of_kind c.args.wrong as_array (Some (value_at c.in-Some.member)))))
    ∙ ap (λ m. and_then (said.elements_of (said.of_kind c.args.wrong as_array (option_map value_at m)))
    (λ ds. said.if_object c.args.wrong (said.first_of ds))) (sym c.in-Some.is)
