use Rattle.std.specs.Prelude.{ℕ, List, Option, Some, None, codes, bytes_eq, if◌then◌else◌}
use Rattle.sarif_model.specs.declared.kinds.Kind.{Kind}
use Rattle.sarif_model.specs.declared.kinds.Kind.TheVariants.{Pass, Undecided, Informational, NotApplicable, Review, Fail}

-- the text of each (SARIF 2.1.0, "kind property")
abbrev pub kind_name : Kind → List ℕ
kind_name Pass = codes "pass"
kind_name Undecided = codes "open"
kind_name Informational = codes "informational"
kind_name NotApplicable = codes "notApplicable"
kind_name Review = codes "review"
kind_name Fail = codes "fail"

-- the one whose text this is, if there is one
abbrev pub kind_named : List ℕ → Option Kind
kind_named text =
    if bytes_eq text (kind_name Pass) then Some Pass else (
    if bytes_eq text (kind_name Undecided) then Some Undecided else (
    if bytes_eq text (kind_name Informational) then Some Informational else (
    if bytes_eq text (kind_name NotApplicable) then Some NotApplicable else (
    if bytes_eq text (kind_name Review) then Some Review else (
    if bytes_eq text (kind_name Fail) then Some Fail else (
    None))))))
