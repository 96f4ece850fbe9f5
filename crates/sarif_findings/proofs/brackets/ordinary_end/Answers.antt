use Rattle.std.proofs.Common.{◌-◌, drop, length, take}
use Rattle.sarif_findings.proofs.BracketsMore.{passes_from, rest_is}
use Rattle.sarif_findings.proofs.brackets.ordinary_end.Goals as goal

pub returns-clause-goes : goal.returns-clause-goes
returns-clause-goes c =
    let bytes = c.as_bytes-bytes.result.now in
    let rest = take (length bytes - c.args.from) (drop c.args.from bytes) in
    let same = rest_is bytes c.args.text.now c.args.from c.as_bytes-bytes.ensures.value in
    let held = c.ordinary_bytes.ensures in
    λ args. passes_from args c.args.text.now rest c.args.from c.ordinary_bytes.result c.utf8.text c.requires same held.within held.ordinary held.stops
