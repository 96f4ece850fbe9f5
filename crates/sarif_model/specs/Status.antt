use Rattle.std.specs.Prelude.{ℕ, Bool, true, false, List, Option, Some, None, codes, bytes_eq, if◌then◌else◌}
use Rattle.sarif_model.specs.declared.kinds.Status.{Status}
use Rattle.sarif_model.specs.declared.kinds.Status.TheVariants.{Accepted, UnderReview, Rejected}

-- the text of each (SARIF 2.1.0, suppression object, "status property")
abbrev pub status_name : Status → List ℕ
status_name Accepted = codes "accepted"
status_name UnderReview = codes "underReview"
status_name Rejected = codes "rejected"

-- the one whose text this is, if there is one
abbrev pub status_named : List ℕ → Option Status
status_named text =
    if bytes_eq text (status_name Accepted) then Some Accepted else (
    if bytes_eq text (status_name UnderReview) then Some UnderReview else (
    if bytes_eq text (status_name Rejected) then Some Rejected else (
    None)))

-- the status doesn't prevent a suppression
abbrev pub is_accepted : Status → Bool
is_accepted Accepted = true
is_accepted UnderReview = false
is_accepted Rejected = false
