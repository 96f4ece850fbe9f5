use Rattle.std.proofs.Common.{rules, ◌≡◌, Some, None, Err, true, false, map, sym, ap, ◌∙◌, subst, arith}
use Rattle.std.specs.Prelude.{IfErr, IsUtf8}
use Rattle.json.specs.Tape.{node_token}
use Rattle.json.specs.Lex.{tokens}
use Rattle.json_parts.specs.Indexed.{json_of, data_of, IsReadable}
use Rattle.json_parts.specs.Internal.Whole.{IsWhole}
use Rattle.json_parts.specs.declared.indexing.IndexFault.TheVariants.{NotJson}
use Rattle.json_parts.proofs.Order.{readable_ordered}
use Rattle.json_parts.proofs.Texts.{json_of_utf8, json_of_other, no_document, not_readable, readable_text}
use Rattle.json_parts.proofs.indexing.index_text.Goals as goal

pub returns-in_default-clause-err : goal.returns-in_default-clause-err
returns-in_default-clause-err c e = json_of_other c.args.bytes.now c.in_default.ensures

pub returns-in_err-tape-clause-err : goal.returns-in_err-tape-clause-err
returns-in_err-tape-clause-err c =
    let text = c.in-Ok.text.now in
    let told : c.from_residual.result ≡ Err c.in_err-tape.field-0.0 = search rules in
    subst (λ r. IfErr r (λ e. e ≡ NotJson → json_of c.args.bytes.now ≡ None)) (sym told)
    (λ e. subst (λ b. json_of b ≡ None) c.in-Ok.ensures.0
    (json_of_utf8 text (subst IsUtf8 (sym c.in-Ok.ensures.0) c.in-Ok.ensures.1) ∙ no_document text (c.in_err-tape.ensures.err e)))

pub returns-then-not-is_readable-clause-err : goal.returns-then-not-is_readable-clause-err
returns-then-not-is_readable-clause-err c e =
    let text = c.in-Ok.text.now in
    let all : map node_token c.nodes.result.now ≡ tokens text = c.nodes.ensures ∙ c.in_ok-tape.ensures.ok.0 in
    let no : c.is_readable.result ≡ false = grind arith in
    subst (λ b. json_of b ≡ None) c.in-Ok.ensures.0
    (json_of_utf8 text (subst IsUtf8 (sym c.in-Ok.ensures.0) c.in-Ok.ensures.1)
    ∙ not_readable text (λ j b. sym (c.is_readable.ensures j (subst (λ ts. IsWhole ts j) (sym all) b)) ∙ no))

pub invariant_of-result : goal.invariant_of-result
invariant_of-result c =
    let text = c.in-Ok.text.now in
    let all : map node_token c.nodes.result.now ≡ tokens text = c.nodes.ensures ∙ c.in_ok-tape.ensures.ok.0 in
    let yes : c.is_readable.result ≡ true = grind arith in
    let read = readable_text text c.in_ok-tape.ensures.ok.1 (λ j b. sym (c.is_readable.ensures j (subst (λ ts. IsWhole ts j) (sym all) b)) ∙ yes) in
    subst IsReadable (sym c.in_ok-tape.ensures.ok.0) read.0

pub returns-clause-ok : goal.returns-clause-ok
returns-clause-ok c =
    let text = c.in-Ok.text.now in
    let all : map node_token c.nodes.result.now ≡ tokens text = c.nodes.ensures ∙ c.in_ok-tape.ensures.ok.0 in
    let yes : c.is_readable.result ≡ true = grind arith in
    let read = readable_text text c.in_ok-tape.ensures.ok.1 (λ j b. sym (c.is_readable.ensures j (subst (λ ts. IsWhole ts j) (sym all) b)) ∙ yes) in
    subst (λ b. json_of b ≡ Some (data_of c.in_ok-tape.tape)) c.in-Ok.ensures.0
    (json_of_utf8 text (subst IsUtf8 (sym c.in-Ok.ensures.0) c.in-Ok.ensures.1) ∙ read.1 ∙ ap (λ ts. Some (data_of ts)) (sym c.in_ok-tape.ensures.ok.0))

pub returns-clause-ordered : goal.returns-clause-ordered
returns-clause-ordered c =
    let text = c.in-Ok.text.now in
    let all : map node_token c.nodes.result.now ≡ tokens text = c.nodes.ensures ∙ c.in_ok-tape.ensures.ok.0 in
    let yes : c.is_readable.result ≡ true = grind arith in
    let read = readable_text text c.in_ok-tape.ensures.ok.1 (λ j b. sym (c.is_readable.ensures j (subst (λ ts. IsWhole ts j) (sym all) b)) ∙ yes) in
    readable_ordered c.in_ok-tape.tape (subst IsReadable (sym c.in_ok-tape.ensures.ok.0) read.0)
