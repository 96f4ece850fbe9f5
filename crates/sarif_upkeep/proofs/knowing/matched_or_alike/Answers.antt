use Rattle.std.proofs.Common.{◌≡◌, ◌+◌, ◌++◌, ◌||◌, [], ◌∷◌, List, Bool, false, drop, get_or, length, length-append, map, ap, ◌∙◌}
use Rattle.sarif_model.specs.declared.record.Record.{Record}
use Rattle.sarif_copies.specs.Copies.{has_alike}
use Rattle.sarif_known.specs.Chosen.{all_chosen}
use Rattle.sarif_upkeep.specs.Known.{matched_or_alike, records_among}
use Rattle.sarif_upkeep.proofs.Taken.{one_marked}
use Rattle.sarif_upkeep.proofs.knowing.matched_or_alike.Goals as goal

pub loop-number-preserved : goal.loop-number-preserved
loop-number-preserved c =
    let now : List Record = records_among (all_chosen c.args.now.now) in
    let rs : List Record = c.args.before.now.records.now in
    let taken : List Bool = c.args.before.now.taken.now in
    let n = c.loop-number.number in
    let alike_is : c.in_ok-alike.alike.items ≡ map (has_alike now) rs =
    c.in_ok-alike.ensures ∙ ap (λ l. map (has_alike (map (λ r. r.now) l)) rs) c.deref.ensures.value
    ∙ ap (λ others. map (has_alike others) rs) c.in_ok-others.ensures in
    let items = c.in_ok-push.ensures.items in record {
      gone = ap (λ l. l ++ matched_or_alike now (drop (n + 1) rs) (drop (n + 1) taken)) items
          ∙ one_marked now rs taken c.in_ok-alike.alike.items c.loop-number.gone.items n false c.index.result.now c.is_gone.result
          c.loop-number-test.true c.requires alike_is (c.is_gone.ensures ∙ ap (λ b. get_or taken n false || b) c.index.ensures)
          ∙ c.loop-number.invariant.gone;
      count = ap length items ∙ length-append c.loop-number.gone.items (_ ∷ []) ∙ ap (λ k. k + 1) c.loop-number.invariant.count;
    }
