use Rattle.std.proofs.Common.{◌∙◌, ap}
use Rattle.std.specs.List.{list_any}
use Rattle.sarif_change.specs.Parts.{pieces_of}
use Rattle.sarif_change.proofs.OnceMore.{any_moved, bytes}
use Rattle.sarif_change.proofs.once.parts_once.Goals as goal

pub returns : goal.returns
returns c = λ test.
    c.in_ok-once.ensures test
    ∙ (ap (λ l. list_any test (bytes l)) c.deref.ensures.value
    ∙ any_moved c.in_ok-parts.parts.items c.sort_by.new.self.items (pieces_of c.args.key.now) c.in_ok-parts.ensures
    c.in_ok-sort_by.ensures.permutation test)
