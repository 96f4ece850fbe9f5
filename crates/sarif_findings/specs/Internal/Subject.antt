-- A reported result.
use Rattle.std.specs.Prelude.{◌≡◌, option_map}
use Rattle.serde_json.specs.View.{view}
use Rattle.sarif_findings.specs.declared.subject.Subject.{Subject}
use Rattle.sarif_findings.specs.Located.{descriptor_at}

-- the descriptor that is given with the result is the result's
abbrev pub IsDescribed : Subject → Type 0
IsDescribed subject =
    option_map (λ rule. view rule.now) subject.descriptor
    ≡ descriptor_at (view subject.run.now) subject.told.now.rule
