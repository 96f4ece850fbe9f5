use Rattle.std.proofs.Common.{false, ap, ◌∙◌, option_map, unwrap_or}
use Rattle.sarif_read.specs.Reading.{has_no_members}
use Rattle.sarif_read.proofs.NoMembers.{has_no_members-entries}
use Rattle.sarif_read.proofs.reading.is_empty_object.Goals as goal

pub returns-in-Some : goal.returns-in-Some
returns-in-Some c =
    has_no_members-entries _ _ c.is_empty.ensures ∙ ap (λ o. unwrap_or (option_map has_no_members o) false) c.in-Some.ensures
