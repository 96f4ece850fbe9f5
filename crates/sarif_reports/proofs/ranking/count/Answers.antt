use Rattle.std.proofs.Common.{rules, ◌≡◌, ◌<◌, ◌^◌, Some, None, arith}
use Rattle.std.specs.BTreeMap as tree
use Rattle.sarif_reports.specs.GitlabParts.{key_cmp, counted}
use Rattle.sarif_reports.proofs.GitlabMore.{counted_first, counted_again, rank_some, same_keys}
use Rattle.sarif_reports.proofs.ranking.count.Goals as goal

pub overflow_add-rank : goal.overflow_add-rank
overflow_add-rank c =
    let key = c.in_ok-key_of.field-0 in
    let held = c.in_ok-key_of.ensures in
    let text = c.args.identity.now.text in
    let some : Some c.in-Some.rank ≡ tree.get key_cmp c.args.counts.now key = search rules in
    let rank : c.in-Some.rank ≡ counted c.args.counts.now text = rank_some c.args.counts.now key text c.in-Some.rank held.number held.text some in
    let room : counted c.args.counts.now text < 2 ^ 63 = c.requires.room in
    omega (arith, rank, room)

pub returns-in_default-clause-counted : goal.returns-in_default-clause-counted
returns-in_default-clause-counted c = λ other.
    let key = c.in_ok-key_of.field-0 in
    let held = c.in_ok-key_of.ensures in
    let none : None ≡ tree.get key_cmp c.args.counts.now key = search rules in
    counted_first c.args.counts.now c.insert.new.self key c.args.identity.now.text other held.number held.text none c.in_ok-rank.ensures.updates.0

pub returns-clause-counted : goal.returns-clause-counted
returns-clause-counted c = λ other.
    let key = c.in_ok-key_of.field-0 in
    let again = c.in_ok-key_of-2.field-0 in
    let held = c.in_ok-key_of.ensures in
    let more = c.in_ok-key_of-2.ensures in
    let text = c.args.identity.now.text in
    let some : Some c.in-Some.rank ≡ tree.get key_cmp c.args.counts.now key = search rules in
    counted_again c.args.counts.now c.insert.new.self c.insert-2.new.self key again text other c.in-Some.rank held.number held.text
    (same_keys key again text held.number more.number held.text more.text) some c.in_ok-rank.ensures.updates.0 c.in_ok-insert.ensures.updates.0
