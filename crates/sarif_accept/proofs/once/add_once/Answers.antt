use Rattle.std.proofs.Common.{rules, ◌≡◌, ◌≤◌, ap, ◌∙◌, map, length, Bor, true, false, [], ◌∷◌, ◌++◌, arith}
use Rattle.std.proofs.lemmas.List.{map-append, length-map}
use Rattle.indexmap.specs.IndexSet.{contains}
use Rattle.sarif_model.specs.Limits.{most_entries}
use Rattle.sarif_model.specs.declared.record.Record.{Record}
use Rattle.sarif_accept.specs.Adding.{same_conditions}
use Rattle.sarif_accept.proofs.AskedOnce.{one_more, said_there, same_where_said, same_where_new, long_where_new}
use Rattle.sarif_accept.proofs.once.add_once.Goals as goal

pub returns-clause-asked : goal.returns-clause-asked
returns-clause-asked g c = λ _.
    let more = one_more c.args.asked.now c.insert.new.self c.in_ok-conditions_for.field-0 c.args.record.now
    (map (λ r. r.now) c.args.added.now.items) c.in_ok-conditions_for.ensures c.in_ok-insert.ensures.updates c.requires in
    let whole : map (λ r. r.now) c.push.new.self.items ≡ map (λ r. r.now) c.args.added.now.items ++ c.args.record.now ∷ [] =
    ap (map (λ r. r.now)) c.in_ok-push.ensures.items ∙ map-append (λ r. r.now) c.args.added.now.items (c.args.record ∷ []) in
    rw whole more

pub returns-then-not-branch-clause-told : goal.returns-then-not-branch-clause-told
returns-then-not-branch-clause-told g c = λ _ rest.
    let there : contains same_conditions c.args.asked.now c.in_ok-conditions_for.field-0 ≡ true = search rules in
    same_where_said (map (λ r. r.now) c.args.added.now.items) rest c.args.record.now
    (said_there c.args.asked.now c.in_ok-conditions_for.field-0 c.args.record.now
    (map (λ r. r.now) c.args.added.now.items) true c.in_ok-conditions_for.ensures c.requires there)

pub returns-then-len-ge-MOST_ENTRIES-clause-full : goal.returns-then-len-ge-MOST_ENTRIES-clause-full
returns-then-len-ge-MOST_ENTRIES-clause-full g c = λ _ rest.
    let there : contains same_conditions c.args.asked.now c.in_ok-conditions_for.field-0 ≡ false = search rules in
    let many : most_entries ≤ length c.args.added.now.items = search rules in
    let mapped : length (map (λ r. r.now) c.args.added.now.items) ≡ length c.args.added.now.items =
    length-map c.args.added.now.items (λ (r : Bor Record). r.now) in
    long_where_new (map (λ r. r.now) c.args.added.now.items) rest c.args.record.now (omega (arith, many, mapped))
    (said_there c.args.asked.now c.in_ok-conditions_for.field-0 c.args.record.now
    (map (λ r. r.now) c.args.added.now.items) false c.in_ok-conditions_for.ensures c.requires there)

pub returns-clause-told : goal.returns-clause-told
returns-clause-told g c = λ _ rest.
    let there : contains same_conditions c.args.asked.now c.in_ok-conditions_for.field-0 ≡ false = search rules in
    let whole : map (λ r. r.now) c.push.new.self.items ≡ map (λ r. r.now) c.args.added.now.items ++ c.args.record.now ∷ [] =
    ap (map (λ r. r.now)) c.in_ok-push.ensures.items ∙ map-append (λ r. r.now) c.args.added.now.items (c.args.record ∷ []) in
    rw whole (same_where_new (map (λ r. r.now) c.args.added.now.items) rest c.args.record.now
    (said_there c.args.asked.now c.in_ok-conditions_for.field-0 c.args.record.now
    (map (λ r. r.now) c.args.added.now.items) false c.in_ok-conditions_for.ensures c.requires there))
