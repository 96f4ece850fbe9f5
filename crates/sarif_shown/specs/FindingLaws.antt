-- Properties of messages and paths, for any strings of a log. A string is a list of characters here.
use Rattle.std.specs.Prelude.{◌≡◌, ℕ, Bool, true, false, ◌&&◌, ◌||◌, ◌==◌, List, [], ◌∷◌, chars, IfSome}
use Rattle.sarif_links.specs.Address.{is_address}
use Rattle.sarif_findings.specs.declared.finding.Finding.{Finding}
use Rattle.sarif_findings.specs.PathOf.{begins_here}
use Rattle.sarif_findings.specs.Placeholders.{first_is}

-- whether `](` occurs in a message
abbrev pub has_target : List ℕ → Bool
has_target [] = false
has_target (c ∷ cs) = (c == 93 && first_is 40 cs) || has_target cs

-- whether a path begins with `./`
abbrev pub starts_here : List ℕ → Bool
starts_here [] = false
starts_here (c ∷ cs) = begins_here c cs

-- the path of a finding, if there is one, does not
abbrev pub IsNamed : Finding → Type 0
IsNamed f = IfSome f.path (λ path. starts_here (chars path) ≡ false)

-- the page on the rule of a finding has an address, if there is one
abbrev pub HasAddress : Finding → Type 0
HasAddress finding = IfSome finding.help (λ help. is_address help ≡ true)
