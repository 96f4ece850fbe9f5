use Rattle.std.proofs.Common.{◌≡◌, Option, None, Err, subst, rules}
use Rattle.sarif_model.specs.Internal.Refusal.{IfFault}
use Rattle.sarif_diff.specs.Draft.{hunk_around}
use Rattle.sarif_diff.specs.Reading as said
use Rattle.sarif_diff.specs.Reading.{NumberedLine, numbered, trimmed_line}
use Rattle.sarif_diff.specs.declared.hunk.Hunk.{Hunk}
use Rattle.sarif_diff.proofs.reading.Reading.read_in_section.Goals as goal

pub returns-in-None-clause-err : goal.returns-in-None-clause-err
returns-in-None-clause-err c =
    let ByLine : NumberedLine → Type 0 =
    λ t. IfFault c.read_inner.result
    (λ fault. said.inner_line t c.args.self.now c.args.draft ≡ Err fault) in
    let ByHunk : Option Hunk
    → Type 0 = λ o. IfFault c.read_inner.result
    (λ fault. said.section_line (numbered c.args.line.now) c.args.self.now c.args.draft o ≡ Err fault) in
    let none : None ≡ hunk_around c.args.draft.hunk c.args.line.now.bytes.now = first_of (cc, search rules) in
    let cut : ByLine (trimmed_line (numbered c.args.line.now)) = subst ByLine c.trimmed.ensures c.read_inner.ensures.err in
    subst ByHunk none cut
