use Rattle.std.proofs.Common.{ℕ, List, ap, ◌∙◌}
use Rattle.sarif_diff.specs.declared.section.Section.{Section}
use Rattle.sarif_model.specs.declared.place.Place.{Place}
use Rattle.sarif_model.specs.Run.{result_at}
use Rattle.serde_json.specs.Data.{Data}
use Rattle.sarif_change.specs.Outside.{is_outside}
use Rattle.sarif_change.specs.Places.{places_of}
use Rattle.sarif_change.specs.declared.spots.Scope.{Scope}
use Rattle.sarif_change.specs.declared.spots.Spots.{Spots}
use Rattle.sarif_outside.specs.Internal.Asked.{placed_looked, scoped}
use Rattle.sarif_outside.proofs.marking.is_outside_in.Goals as goal

pub returns : goal.returns
returns c =
    let looked = c.args.run.now in
    let known = looked.known in
    let change = scoped looked.change in
    let found = result_at (placed_looked looked).run c.args.seq in
    c.in_ok-outside.ensures.is
    ∙ ap (λ (s : Spots). is_outside known.changed.now known.roots.now known.scope s) (c.in_ok-places.ensures known.artifacts)
    ∙ ap (λ (d : Data). is_outside known.changed.now known.roots.now known.scope (places_of known.artifacts d)) c.node.ensures
    ∙ ap (λ (s : List Section). is_outside s known.roots.now known.scope (places_of known.artifacts found)) looked.changed_are
    ∙ ap (λ (r : List (List ℕ)). is_outside change.changed r known.scope (places_of known.artifacts found)) looked.roots_are
    ∙ ap (λ (s : Scope). is_outside change.changed change.roots s (places_of known.artifacts found)) looked.scope_is
    ∙ ap (λ (a : List Place). is_outside change.changed change.roots change.scope (places_of a found)) looked.artifacts_are
