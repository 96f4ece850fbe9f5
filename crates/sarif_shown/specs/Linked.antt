-- The address of the place of a result.
use Rattle.std.specs.Prelude.{ℕ, List, Option, None, option_and_then, if◌then◌else◌}
use Rattle.sarif_links.specs.Template.{place_address}
use Rattle.sarif_findings.specs.declared.finding.Finding.{Finding}

-- the address of the place, if places are linked by this template and the path is shown unchanged
abbrev pub address_by : List ℕ → Finding → Option (List ℕ)
address_by template finding = if finding.exact
    then option_and_then (λ path. place_address template path finding.line) finding.path else None

-- the address of the place of a result, if there is one
abbrev pub place_link : Option (List ℕ) → Finding → Option (List ℕ)
place_link link finding = option_and_then (λ template. address_by template finding) link
