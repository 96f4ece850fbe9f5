use Rattle.std.proofs.Common.{rules, ◌≡◌, cond, Some, bytes_eq, ap, ◌∙◌, arith}
use Rattle.std.specs.BTreeMap.{get_by}
use Rattle.std.specs.Ordering.{nat_cmp}
use Rattle.std.specs.Cmp.Lexicographic.{slice_cmp}
use Rattle.std.proofs.lemmas.Map.Text.{text_keys}
use Rattle.std.proofs.lemmas.Slice.Eq.{bytes_eq-Decides}
use Rattle.serde_json.specs.View.{view}
use Rattle.sarif_findings.specs.Lookup.{has_id}
use Rattle.sarif_findings.proofs.RulesMore.{none_if}
use Rattle.sarif_ratings.proofs.FirstNumbers.{put_number}
use Rattle.sarif_ratings.proofs.rules.add_first.Goals as goal

pub returns-in_ok-insert : goal.returns-in_ok-insert
returns-in_ok-insert c = λ id.
    let key = c.in-Some.id in
    let had = get_by (λ k. slice_cmp nat_cmp id k.now) c.args.first.now in
    let has = get_by (λ k. slice_cmp nat_cmp id k.now) c.insert.new.self in
    let said : has_id id (view c.args.rule.now) ≡ bytes_eq id key.now = search rules in
    let put : has ≡ cond (bytes_eq id key.now) (Some c.args.number) had = grind (arith, text_keys) in
    put_number (bytes_eq id key.now) had has c.args.number _ said put
    (λ e. ap (λ q. get_by (λ k. slice_cmp nat_cmp q k.now) c.args.first.now) ((bytes_eq-Decides id key.now).0 e) ∙ none_if _ (search rules))
