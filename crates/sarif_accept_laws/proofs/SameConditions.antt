-- The test of two lists of conditions decides whether they are the same.
use Rattle.std.proofs.Common.{◌≡◌, List, refl}
use Rattle.std.specs.Bool.{Decides}
use Rattle.std.proofs.lemmas.Slice.Eq.{slice_eq-Decides}
use Rattle.sarif_entries.specs.declared.condition.Condition.{Condition}
use Rattle.sarif_accept.specs.Adding.{same_conditions}
use Rattle.sarif_accept.proofs.EachCondition.{is_same-Decides}

pub same_conditions-Decides : (a b : List Condition) → Decides (same_conditions a b) (a ≡ b)
same_conditions-Decides a b = slice_eq-Decides is_same-Decides a b _ refl
