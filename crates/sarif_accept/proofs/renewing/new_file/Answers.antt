use Rattle.std.proofs.Common.{rules, ◌≡◌, true, Some, map, option_map, ap, ◌∙◌}
use Rattle.std.specs.Prelude.{nat_lt}
use Rattle.serde_json.specs.View.{view}
use Rattle.sarif_model.specs.Limits.{most_bytes}
use Rattle.sarif_model.specs.declared.merge_fault.Cause.TheVariants.{TooLong}
use Rattle.sarif_accept.specs.Internal.Weighing.{lines_in}
use Rattle.sarif_accept.proofs.RenewedFile.{is_shallow, is_too_indented, is_whole}
use Rattle.sarif_accept.proofs.renewing.new_file.Goals as goal

pub print_file-requires-clause-shallow : goal.print_file-requires-clause-shallow
print_file-requires-clause-shallow c =
    is_shallow (option_map (λ b. b.now) c.args.bytes) c.args.kept.now (map (λ r. r.now) c.args.added.now) c.args.renewal.now _ c.in_ok-file.ensures.value

pub print_file-requires-clause-whole : goal.print_file-requires-clause-whole
print_file-requires-clause-whole c =
    is_whole (option_map (λ b. b.now) c.args.bytes) c.args.kept.now (map (λ r. r.now) c.args.added.now) c.args.renewal.now _ c.in_ok-file.ensures.value

pub returns-then-is_too_indented-clause-err : goal.returns-then-is_too_indented-clause-err
returns-then-is_too_indented-clause-err c = λ fault same.
    let long : nat_lt most_bytes (lines_in 1 (view c.in_ok-file.file)) ≡ true = search rules in
    let one : TooLong ≡ fault = cc in
    is_too_indented (option_map (λ b. b.now) c.args.bytes) c.args.kept.now
    (map (λ r. r.now) c.args.added.now) c.args.renewal.now _ c.in_ok-file.ensures.value c.in_ok-file.ensures.few long ∙ ap (λ c. Some c) one
