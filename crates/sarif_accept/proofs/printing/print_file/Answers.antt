use Rattle.std.proofs.Common.{ap, sym, ◌∙◌, Some, string_bytes}
use Rattle.std.proofs.lemmas.Str.{IsUtf8-string_bytes}
use Rattle.json_parts.specs.Indexed.{json_of}
use Rattle.json_parts.specs.Mark.{without_mark}
use Rattle.sarif_accept.proofs.FileText.{text_reads}
use Rattle.sarif_accept.proofs.printing.print_file.Goals as goal

pub returns-clause-reads : goal.returns-clause-reads
returns-clause-reads c =
    let is = c.requires.object.1 in
    let read = text_reads (string_bytes c.in_ok-text.text) c.requires.object.0 c.in_ok-text.ensures.layout
    (rw is at c.in_ok-text.ensures.order) (IsUtf8-string_bytes c.in_ok-text.text)
    (c.in_ok-text.ensures.reads_back c.requires.shallow ∙ ap Some is) in
    ap (λ b. json_of (without_mark b)) c.in_ok-push_str.ensures.bytes ∙ read ∙ sym (ap Some is)
