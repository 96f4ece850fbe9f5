-- The requested outputs among those gone through and the next one.
use Rattle.std.proofs.Common.{◌≡◌, ◌∙◌, ◌+◌, ◌<◌, ◌++◌, ℕ, List, [], get_or, length, sym, ap, take}
use Rattle.std.specs.List.{flat_map}
use Rattle.std.proofs.lemmas.List.{flat_map_more, take_more}
use Rattle.clap.specs.Words.{Text}
use Rattle.sarif_reports.specs.declared.report.Report.{Report}
use Rattle.sarif_request.specs.declared.wanted.RequestedOutput.{RequestedOutput}

pub wanted_more : (f : Report → List (RequestedOutput Text)) (all : List Report) (i : ℕ) (d : Report) → i < length all
    → flat_map f (take i all) ++ f (get_or all i d) ≡ flat_map f (take (i + 1) all)
wanted_more f all i d within =
    flat_map_more f [] (take i all) (get_or all i d) ∙ sym (ap (flat_map f) (take_more all i d within))
