use Rattle.std.proofs.Common.{rules, ◌≡◌, ◌≤◌, ◌+◌, map, length, arith, option_map, Some, Err, refl, sym, subst, ap, ap₂, ◌∙◌}
use Rattle.serde_json.specs.View.{view, members_view}
use Rattle.sarif_model.specs.Limits.{most_entries}
use Rattle.sarif_model.specs.Internal.Refusal.{IfFault}
use Rattle.sarif_accept.specs.Keeping.{chosen}
use Rattle.sarif_entries.specs.File.{is_fifth}
use Rattle.sarif_accept.specs.Entry.{entry_for}
use Rattle.sarif_accept.specs.NewFile.{entries_in, others_in, file_object, file_with, version_after}
use Rattle.sarif_accept.specs.Renewed.{renewal_cause}
use Rattle.sarif_accept.proofs.RenewedFile.{all_entries, counted, room_cause, version_is}
use Rattle.sarif_accept.proofs.renewing.renewed_file.Goals as goal

pub returns-clause-value : goal.returns-clause-value
returns-clause-value c =
    let old : map view c.in_ok-entries.field-0.entries.items
    ≡ chosen c.args.kept.now (entries_in (file_object (option_map (λ b. b.now) c.args.bytes))) = search rules in
    let others : members_view c.in_ok-entries.field-0.others.entries ≡ others_in (file_object (option_map (λ b. b.now) c.args.bytes)) = search rules in
    let entries = all_entries (option_map (λ b. b.now) c.args.bytes) c.args.kept.now c.args.added.now c.args.renewal.now
    (map view c.in_ok-entries.field-0.entries.items) (map view c.add_entries.new.entries.items) old c.in_ok-add_entries.ensures in
    let given = file_object (option_map (λ b. b.now) c.args.bytes) in
    let reason = c.args.renewal.now.reason in
    let until = c.args.renewal.now.until in
    let later = version_after given (map (λ r. entry_for r reason until) (map (λ r. r.now) c.args.added.now)) in
    let fifth : c.in_ok-entries.field-0.is_fifth ≡ is_fifth given = search rules in
    let version : c.version_after.result ≡ later = version_is c.in_ok-entries.field-0.is_fifth given c.args.added.now c.args.renewal.now _ fifth
    c.version_after.ensures in
    c.in_ok-file_with.ensures
    ∙ ap (λ v. file_with v (map view c.add_entries.new.entries.items) (members_view c.in_ok-entries.field-0.others.entries)) version
    ∙ ap₂ (file_with later) entries others

pub returns-clause-few : goal.returns-clause-few
returns-clause-few c =
    let old : map view c.in_ok-entries.field-0.entries.items
    ≡ chosen c.args.kept.now (entries_in (file_object (option_map (λ b. b.now) c.args.bytes))) = search rules in
    let size = counted view c.in_ok-entries.field-0.entries.items c.args.added.now
    (option_map (λ b. b.now) c.args.bytes) c.args.kept.now c.args.renewal.now old in
    let room : length c.in_ok-entries.field-0.entries.items + length c.args.added.now ≤ most_entries = search rules in
    omega (arith, size, room)

pub returns-in_err-check_room-clause-err : goal.returns-in_err-check_room-clause-err
returns-in_err-check_room-clause-err c =
    let told : c.from_residual-in_err-check_room.result ≡ Err c.in_err-check_room.field-0.0 = search rules in
    let old : map view c.in_ok-entries.field-0.entries.items
    ≡ chosen c.args.kept.now (entries_in (file_object (option_map (λ b. b.now) c.args.bytes))) = search rules in
    let size = counted view c.in_ok-entries.field-0.entries.items c.args.added.now
    (option_map (λ b. b.now) c.args.bytes) c.args.kept.now c.args.renewal.now old in
    let here : c.len.result ≡ length c.in_ok-entries.field-0.entries.items = search rules in
    subst
    (λ r. IfFault r
    (λ cause. renewal_cause (option_map (λ b. b.now) c.args.bytes) c.args.kept.now (map (λ r. r.now) c.args.added.now) c.args.renewal.now
    ≡ Some cause)) (sym told)
    (λ fault same. room_cause (option_map (λ b. b.now) c.args.bytes) c.args.kept.now
    (map (λ r. r.now) c.args.added.now) c.args.renewal.now c.len.result (length c.args.added.now) fault fault
    (omega (arith, size, here)) refl (c.in_err-check_room.ensures.err fault same))
