use Rattle.std.proofs.Common.{◌∙◌, ◌++◌, List, ℕ, ap, append_assoc, codes, string_bytes, sym}
use Rattle.sarif_explain.specs.Internal.Lines.{line_of}
use Rattle.sarif_explain.proofs.explaining.push_spot.Goals as goal

-- the place of the error and what was found there are before what is expected
pub returns-in_ok-push_mismatch-in-Ok : goal.returns-in_ok-push_mismatch-in-Ok
returns-in_ok-push_mismatch-in-Ok c =
    let told = c.in_ok-push_mismatch-in-Ok.ensures in
    let place = line_of (codes "where") (string_bytes c.in_ok-mismatch-in-Ok.mismatch.place.pointer) in
    let found = line_of (codes "found") told.0 in
    let wanted = line_of (codes "wanted") told.1 in
    (place ++ found, told.1, told.2 ∙ ap (λ (more : List ℕ). string_bytes c.args.lines.now ++ more) (sym (append_assoc place found wanted)))
