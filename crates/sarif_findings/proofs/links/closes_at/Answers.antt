use Rattle.std.proofs.Common.{◌==◌, Some, None, false, ap}
use Rattle.std.specs.Option.{option_map_or}
use Rattle.std.proofs.lemmas.Iterator.{YieldsList-from_chars}
use Rattle.std.proofs.lemmas.Iterator.Consumers.{nth_from_yields_List}
use Rattle.sarif_findings.proofs.links.closes_at.Goals as goal

pub returns-in-Some : goal.returns-in-Some
returns-in-Some c =
    let at = nth_from_yields_List {s = c.chars.result} (Some c.in-Some.c) c.nth.new.self c.args.index c.in-Some.ensures.ran
    (YieldsList-from_chars c.args.text.now c.utf8.text cc) in
    ap (λ o. option_map_or (λ d. d == 41) o false) at

pub returns-in-None : goal.returns-in-None
returns-in-None c =
    let at = nth_from_yields_List {s = c.chars.result} None c.nth.new.self c.args.index c.in-None.ensures.ran
    (YieldsList-from_chars c.args.text.now c.utf8.text cc) in
    ap (λ o. option_map_or (λ d. d == 41) o false) at
