use Rattle.std.proofs.Common.{rules, ◌≡◌, string_bytes, ap, ◌∙◌, subst}
use Rattle.json_parts.specs.Indexed.{IsReadable, json_at, data_of}
use Rattle.json_texts.specs.Whole.{written, text_of}
use Rattle.json_texts.proofs.Agree.{stripped_text}
use Rattle.json_texts.proofs.Standing.{known, readable, data_is}
use Rattle.json_texts.proofs.writing.node_text.Goals as goal

pub returns-clause-stripped : goal.returns-clause-stripped
returns-clause-stripped c keeps none =
    let ts = c.args.node.now in
    let read : IsReadable ts = subst IsReadable c.element-element.ensures.same c.element-element.ensures.read in
    let text : string_bytes c.into_text.result ≡ text_of (written c.args.keeps_numbers (json_at ts)) = search rules in
    text ∙ ap (λ b. text_of (written b (json_at ts))) keeps
    ∙ stripped_text (json_at ts) (data_of ts) (known ts (readable ts read)).numbers (data_is ts read) none
