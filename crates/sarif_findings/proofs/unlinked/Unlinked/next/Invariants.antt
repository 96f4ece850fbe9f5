use Rattle.std.proofs.Common.{◌≡◌, IsUtf8, ◌≤◌, length, map, chars}
use Rattle.std.specs.Str.Iter.{chars_rest}
use Rattle.serde_json.specs.View.{view}
use Rattle.sarif_findings.specs.Links.{unlinked_from}
use Rattle.sarif_findings.specs.Internal.Unlinked.{left}
use Rattle.sarif_findings.proofs.unlinked.Unlinked.next.Given as goal

abbrev pub invariant-loop-c : goal.invariant-loop-c
invariant-loop-c l = record {
  utf8 : IsUtf8 (chars_rest l.rest);
  same : l.self ≡ l.fn.self;
  told : left l.fn.self ≡ unlinked_from (map view l.fn.self.args.now) l.part (chars (chars_rest l.rest));
  shorter : length (chars_rest l.rest) ≤ length l.fn.self.rest.now;
}
