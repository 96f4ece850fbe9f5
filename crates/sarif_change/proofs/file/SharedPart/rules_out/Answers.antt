use Rattle.std.proofs.Common.{rules, ◌≡◌, true, length}
use Rattle.sarif_change.specs.Internal.Keys.{opens}
use Rattle.sarif_change.specs.Internal.NextBytes.{next_at, leaves_out}
use Rattle.sarif_change.proofs.NextMore.{none_goes_on}
use Rattle.sarif_change.proofs.file.SharedPart.rules_out.Goals as goal

pub returns-then-next-gt0 : goal.returns-then-next-gt0
returns-then-next-gt0 c holds differs files right lines =
    let shared = c.args.self.now in
    let next = c.next_at-next.result in
    let opened : opens c.args.key.now shared.beginning.items ≡ true = search rules in
    let is : next ≡ next_at (length shared.beginning.items) c.args.key.now = search rules in
    let out : leaves_out shared.next next ≡ true = search rules in
    none_goes_on shared c.args.key.now next opened is (search rules) out files right lines
