-- A run without the external property files that it names (SARIF 2.1.0, "externalPropertyFileReferences property").
use Rattle.std.specs.Prelude.{codes}
use Rattle.serde_json.specs.Data.{Data}
use Rattle.json_parts.specs.Without.{without_member}

abbrev pub without_files : Data → Data
without_files run = without_member (codes "externalPropertyFileReferences") run
