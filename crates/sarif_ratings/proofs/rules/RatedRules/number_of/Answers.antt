use Rattle.std.proofs.Common.{rules, ◌≡◌, ◌∙◌, ap, sym, map, find, List, ℕ, slice_get, option_and_then}
use Rattle.serde_json.specs.View.{view}
use Rattle.sarif_findings.specs.Located.{own_id_at}
use Rattle.sarif_findings.specs.Lookup.{has_id, rule_by}
use Rattle.sarif_ratings.specs.Internal.Tables.{first_number, number_at}
use Rattle.sarif_ratings.proofs.FirstNumbers.{first_led}
use Rattle.sarif_ratings.proofs.rules.RatedRules.number_of.Goals as goal

pub returns-in_ok-reference-in-None : goal.returns-in_ok-reference-in-None
returns-in_ok-reference-in-None c =
    let all = map view c.args.self.now in
    let id : List ℕ = c.in_ok-reference-in-None.field-0.now in
    let has : number_at c.self.inside.first id ≡ first_number id 0 all = search rules in
    let found : c.copied.result ≡ number_at c.self.inside.first id = search rules in
    let named : rule_by c.args.reference.now.index (own_id_at c.args.reference.now) all ≡ find (has_id id) all = search rules in
    ap (option_and_then (slice_get all)) (found ∙ has) ∙ first_led id all ∙ sym named
