use Rattle.std.proofs.Common.{◌++◌, ◌∷◌, [], ap, sym, ◌∙◌, string_bytes}
use Rattle.sarif_reports.proofs.GitlabMore.{joined_before, quoted_whole}
use Rattle.sarif_reports.proofs.quoted.push_whole.Goals as goal

pub returns : goal.returns
returns c =
    c.in_ok-push_str-3.ensures.bytes
    ∙ joined_before (string_bytes c.args.text.now) _ _ (34 ∷ []) c.args.plain.now (34 ∷ []) c.in_ok-push_str.ensures.bytes c.in_ok-push_str-2.ensures.bytes
    ∙ ap (λ t. string_bytes c.args.text.now ++ t) (sym (quoted_whole c.args.plain.now c.requires))
