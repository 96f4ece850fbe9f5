use Rattle.std.proofs.Common.{◌≡◌, ◌∙◌, ◌++◌, List, map, sym, ap}
use Rattle.std.proofs.lemmas.List.{append-nil, at_drop_all, take_all}
use Rattle.sarif_policy.specs.Condition.{any_matches}
use Rattle.sarif_suppress.specs.Internal.Marks.{marks_of}
use Rattle.sarif_conditions.specs.Decided.{currents}
use Rattle.sarif_conditions.specs.Internal.Tried.{passing}
use Rattle.sarif_conditions.specs.Judged.{judged_of}
use Rattle.sarif_conditions.specs.declared.judged.JudgedResult.{JudgedResult}
use Rattle.sarif_conditions.proofs.TryingMore.{unused_filed}
use Rattle.sarif_conditions.proofs.trying.try_filed.Goals as goal

pub returns : goal.returns
returns g c =
    let file = c.args.filed.now in
    let results = c.args.results.now in
    let i = c.loop-found.found-index in
    let test = any_matches file.entries in
    let matched = c.loop-found.matched.items in
    let told : matched ≡ passing test (map judged_of results) =
    sym (append-nil matched)
    ∙ sym (at_drop_all (λ (rs : List JudgedResult). matched ++ passing test (map judged_of rs)) results i c.loop-found-test.false)
    ∙ c.loop-found.invariant.told in
    let marked : c.loop-found.marks ≡ marks_of file (currents (map judged_of results)) =
    c.loop-found.invariant.marked
    ∙ ap (λ (rs : List JudgedResult). marks_of file (currents (map judged_of rs))) (take_all i results c.loop-found-test.false) in
    record {
      matched = told;
      unused = unused_filed file (map judged_of results) c.unused.result c.requires (c.unused.ensures.unused file (currents (map judged_of results)) marked);
    }
