use Rattle.std.proofs.Common.{rules, ◌≡◌, ◌+◌, Some, None, IsSome, bytes_eq, string_bytes, unwrap_or, if◌then◌else◌, refl, sym, ap, subst, ◌∙◌}
use Rattle.std.specs.HashMap.{get_by_text}
use Rattle.sarif_reports.specs.Internal.Suites.{counted}
use Rattle.sarif_reports.proofs.CasesMore.{count_updated}
use Rattle.sarif_reports.proofs.junit_names.count.Goals as goal

pub returns-in-Some-clause-counted : goal.returns-in-Some-clause-counted
returns-in-Some-clause-counted c = λ other.
    let m = c.args.counts.now in
    let plain = c.args.plain.now in
    let n = c.in-Some.number.now in
    let found : Some n ≡ get_by_text m plain = c.in-Some.ensures.value in
    let there : IsSome (get_by_text m plain) = subst IsSome found refl in
    count_updated m (c.get_mut.follows.lender (n + 1)) plain (n + 1) (ap (λ o. unwrap_or o 0 + 1) found) ((c.get_mut.follows.holds (n + 1)).3 there) other

pub returns-clause-counted : goal.returns-clause-counted
returns-clause-counted c = λ other.
    let m = c.args.counts.now in
    let plain = c.args.plain.now in
    let key = c.in_ok-from_str.field-0 in
    let key_is : string_bytes key ≡ plain = search rules in
    let same : c.get_mut.follows.lender-at-none ≡ m = search rules in
    let none : None ≡ get_by_text m plain = c.in_default.ensures.value in
    let none_there : None ≡ get_by_text m (string_bytes key) = none ∙ sym (ap (get_by_text m) key_is) in
    subst (λ bs. counted c.insert.new.self other ≡ counted m other + (if bytes_eq other bs then 1 else 0)) key_is
    (count_updated m c.insert.new.self (string_bytes key) 1 (ap (λ o. unwrap_or o 0 + 1) none_there) (rw same at c.in_ok-insert.ensures.updates) other)
