use Rattle.std.proofs.Common.{sym, ◌∙◌, arith}
use Rattle.sarif_runs.specs.Overrides.{specifies}
use Rattle.sarif_runs.proofs.FirstPlaces.{found_at, level_at_place, no_level_at_place}
use Rattle.sarif_runs.proofs.invocation.Invocation.level_of.Goals as goal

pub index-requires : goal.index-requires
index-requires c =
    let os = c.self.inside.overrides.items in
    let found = sym (c.self.invariant c.args.descriptor) ∙ sym c.in-Some.ensures.value in
    omega (arith, (found_at (specifies c.args.descriptor) os c.in-Some.place.now found).0, c.self.inside.overrides.ok.0)

pub returns-in-Some : goal.returns-in-Some
returns-in-Some c =
    let os = c.self.inside.overrides.items in
    let found = sym (c.self.invariant c.args.descriptor) ∙ sym c.in-Some.ensures.value in
    rw (← c.self.view_is) (level_at_place c.args.descriptor os c.in-Some.place.now c.index.result.now found c.index.ensures)

pub returns-in-None : goal.returns-in-None
returns-in-None c =
    let os = c.self.inside.overrides.items in
    let missing = sym (c.self.invariant c.args.descriptor) ∙ sym c.in-None.ensures.value in
    rw (← c.self.view_is) (no_level_at_place c.args.descriptor os missing)
