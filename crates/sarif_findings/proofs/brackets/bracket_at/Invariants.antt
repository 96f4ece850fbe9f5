use Rattle.std.proofs.Common.{◌≡◌, ◌<◌, ◌-◌, List, false, length, drop, get_or, chars}
use Rattle.std.specs.Str.{IsCharBoundary}
use Rattle.serde_json.specs.Data.{Data}
use Rattle.sarif_findings.specs.Internal.Brackets.{is_ordinary}
use Rattle.sarif_findings.specs.Links.{ends_link}
use Rattle.sarif_findings.proofs.brackets.bracket_at.Given as goal

abbrev pub decreases-loop-at : goal.decreases-loop-at
decreases-loop-at l = length l.fn.text - l.at

abbrev pub invariant-loop-at : goal.invariant-loop-at
invariant-loop-at l = record {
  cut : IsCharBoundary l.fn.text l.at;
  goes : (args : List Data) → ends_link args false (chars l.fn.text) ≡ ends_link args false (chars (drop l.at l.fn.text));
  stops : l.at < length l.fn.text → is_ordinary (get_or l.fn.text l.at 0) ≡ false;
}
