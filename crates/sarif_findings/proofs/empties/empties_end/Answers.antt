use Rattle.std.proofs.Common.{rules, ◌≡◌, ◌<◌, ◌+◌, length, map, get_or, ap, refl, arith}
use Rattle.std.proofs.lemmas.Str.{IsCharBoundary-start}
use Rattle.serde_json.specs.View.{view}
use Rattle.sarif_findings.specs.Internal.Unlinked.{IsEmptied}
use Rattle.sarif_findings.proofs.EmptiesPassed.{cut_behind, passes_one}
use Rattle.sarif_findings.proofs.empties.empties_end.Goals as goal

pub loop-end-init : goal.loop-end-init
loop-end-init c = record {
  cut = IsCharBoundary-start c.args.text.now c.utf8.text;
  same = λ others. refl;
}

pub loop-end-preserved : goal.loop-end-preserved
loop-end-preserved c =
    let held = c.loop-end.invariant in
    let text = c.args.text.now in
    let i = c.loop-end.end in
    let bytes : c.as_bytes-bytes.result.now ≡ c.args.text.now = search rules in
    let within : c.loop-end.end + 2 < length c.args.text.now = omega (arith, c.loop-end-test.true, ap length bytes) in
    let here : IsEmptied (map view c.args.args.now) (get_or c.args.text.now c.loop-end.end 0)
    (get_or c.args.text.now (c.loop-end.end + 1) 0) (get_or c.args.text.now (c.loop-end.end + 2) 0) = search rules in
    record {
      cut = cut_behind text (i + 2) (i + 3) c.utf8.text within (omega (arith, here.1.0)) (omega arith);
      same = passes_one (map view c.args.args.now) text i within here held.same;
    }
