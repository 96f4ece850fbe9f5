use Rattle.std.proofs.Common.{rules, ◌≡◌, sym, ap, ◌∙◌, map}
use Rattle.indexmap.specs.IndexMap.{insert_entry}
use Rattle.sarif_reports.specs.Internal.Suites.{pointed, seen_suite}
use Rattle.sarif_reports.proofs.SuitesMore.{pointed_pushed, same_key, suite_added, suite_written}
use Rattle.sarif_reports.proofs.junit_suites.add_result.Goals as goal

pub returns-in-Some : goal.returns-in-Some
returns-in-Some c =
    ap (map seen_suite) ((c.get_mut.follows.holds c.push.new.self).0)
    ∙ suite_written c.args.finding.now c.args.tool.now c.args.suites.now.entries c.in-Some.results.now c.push.new.self c.requires
    (pointed_pushed c.in-Some.results.now.items c.push.new.self.items c.args.finding c.in_ok-push.ensures.items) (sym c.in-Some.ensures.value)

pub returns : goal.returns
returns c =
    let new = c.in_ok-results.results in
    let same : c.get_mut.follows.lender-at-none ≡ c.args.suites.now = search rules in
    ap (map seen_suite) c.in_ok-insert.ensures.entries
    ∙ ap (λ m. map seen_suite (insert_entry same_key m.entries c.args.tool new)) same
    ∙ suite_added c.args.finding.now c.args.suites.now.entries c.args.tool new c.requires (ap pointed c.in_ok-results.ensures.items)
    (sym c.in_default.ensures.value)
