-- The code of each finding has the properties of a code.
use Rattle.std.proofs.Common.{codes}
use Rattle.std.specs.Prelude.{option_and_then}
use Rattle.std.specs.List.{AllByRecursion}
use Rattle.serde_json.specs.Data.{Data}
use Rattle.sarif_model.specs.declared.kinds.Level.{Level}
use Rattle.sarif_model.specs.declared.kinds.State.{State}
use Rattle.sarif_findings.specs.declared.reporting.Reporting.{Reporting}
use Rattle.sarif_findings.specs.CodeLaws.{HasCode}
use Rattle.sarif_findings.specs.Lookup.{context_number, position_number, snippet_in}
use Rattle.sarif_findings.specs.Reported.{finding_of, line_in, reported_of}
use Rattle.sarif_findings.proofs.CodeLawful.{code_lawful}
use Rattle.sarif_findings.proofs.EachFinding.{each_finding}

code_told : (reporting : Reporting) (run result : Data) (l : Level) (s : State) → HasCode (finding_of reporting run result l s)
unfolding finding_of
code_told reporting run result l s =
    code_lawful (snippet_in (codes "region") result) (snippet_in (codes "contextRegion") result)
    (option_and_then position_number (context_number result)) (line_in reporting run result)

pub codes_told : (reporting : Reporting) (log : Data) → AllByRecursion HasCode (reported_of reporting log)
codes_told reporting log = each_finding HasCode reporting (code_told reporting) log
