use Rattle.std.proofs.Common.{◌≡◌, string_bytes}
use Rattle.std.proofs.lemmas.Result.{IfOk-weaker}
use Rattle.sarif_request.specs.Names.{names_of}
use Rattle.sarif_request.specs.Sentences.{inputs_text}
use Rattle.sarif_request.proofs.Named.{input_here}
use Rattle.sarif_request.proofs.clash.inputs_told.Goals as goal

pub returns-then-replaces_input : goal.returns-then-replaces_input
returns-then-replaces_input c =
    let names = names_of c.args.request.now in
    IfOk-weaker c.input_told.result _ (λ s. string_bytes s ≡ inputs_text names)
    (λ s same. input_here names c.deref-wanted-items.result.now c.loop-wanted.wanted-index c.wanted-item.result (string_bytes s) c.deref-wanted-items.ensures.value c.loop-wanted-test.true c.wanted-item.is c.if-replaces_input.ensures c.loop-wanted.invariant same)
    c.input_told.ensures
