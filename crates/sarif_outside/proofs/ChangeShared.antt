-- A change, and what it says about artifacts, may be read in many threads.
use denote.Param.Send.{IsSync, sendable}
use denote.Ref.{NamedLft}
use Rattle.std.proofs.Crossing.{crosses}
use Rattle.sarif_model.proofs.place.Place.TheSendSync as place
use Rattle.sarif_model.proofs.sequence.Sequence.TheSendSync as sequence
use Rattle.sarif_model.proofs.text.Text.TheSendSync as text
use Rattle.sarif_diff.proofs.section.Section.TheSendSync as section
use Rattle.sarif_change.proofs.file.ChangedFile.TheSendSync as file
use Rattle.sarif_change.proofs.file.SharedPart.TheSendSync as part
use Rattle.sarif_change.proofs.lines.ChangedLines.TheSendSync as lines
use Rattle.sarif_change.proofs.tree.Tree.TheLaws.TheKnot as knot
use Rattle.sarif_change.specs.contracts.artifacts.KnownArtifacts as KnownArtifacts
use Rattle.sarif_change.specs.contracts.changed.Changed as Changed
use Rattle.sarif_change.specs.contracts.known.KnownPath as KnownPath
use Rattle.sarif_change.specs.contracts.tree.Tree as Tree
use Rattle.sarif_scope.specs.contracts.gated.GatedChange as GatedChange
use Rattle.sarif_outside.specs.contracts.scoped.ScopedChange as ScopedChange

tree_sync : IsSync Tree.the_row
tree_sync = search (knot.crosses, file.the_sync, part.the_sync, sendable, crosses) depth 60

changed_sync : IsSync Changed.the_row
changed_sync = search (tree_sync, section.the_sync, sequence.the_sync, sendable, crosses) depth 40

change_sync : IsSync GatedChange.the_row
change_sync = search (changed_sync, text.the_sync, sequence.the_sync, sendable, crosses) depth 40

pub scoped_sync : (κ : NamedLft) → IsSync (ScopedChange.the_field κ).row
scoped_sync κ = search (change_sync, sendable, crosses) depth 40

path_sync : (κ : NamedLft) → IsSync (KnownPath.the_row κ)
path_sync κ = search (lines.the_sync, sendable, crosses) depth 40

pub known_sync : (κ : NamedLft) → IsSync (KnownArtifacts.the_field κ).row
known_sync κ = search (changed_sync, path_sync, place.the_sync, text.the_sync, sequence.the_sync, sendable, crosses) depth 40
