use Rattle.std.proofs.Common.{◌∙◌}
use Rattle.json_parts.specs.Indexed.{data_of}
use Rattle.json_parts.proofs.Readings.{known, kind, as_str_is}
use Rattle.sarif_members.proofs.passing.string_of.Goals as goal

pub returns : goal.returns
returns c =
    let ts = c.args.value.now in
    let k = known ts c.requires in
    c.as_str.ensures k.0 k.1 ∙ as_str_is k.0 (data_of ts) (kind k.0 (data_of ts) k.3)
