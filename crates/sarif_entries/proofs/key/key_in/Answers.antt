use Rattle.std.proofs.Common.{rules, ◌≡◌, None, Some, codes, true, false}
use Rattle.sarif_model.specs.Members.{text_in}
use Rattle.serde_json.specs.View.{view}
use Rattle.sarif_entries.specs.Internal.Keys.{justification_of, has_key, status_in}
use Rattle.sarif_entries.specs.declared.key.EntryKey.{EntryKey}
use Rattle.sarif_entries.proofs.Keyed.{told_by, no_status, no_other}
use Rattle.sarif_entries.proofs.key.key_in.Goals as goal

pub returns-in_err-status_at : goal.returns-in_err-status_at
returns-in_err-status_at c = λ q.
    let none : status_in (view c.args.value.now) ≡ None = search rules in
    let found : c.from_residual.result ≡ None = search rules in
    rw found (no_status q _ none)

pub returns-then-is_object_with : goal.returns-then-is_object_with
returns-then-is_object_with c = λ q.
    let key : EntryKey = record { status = c.in_ok-status_at.field-0; justification = c.text_at.result } in
    let has : has_key key (view c.args.value.now) ≡ true = search rules in
    told_by key q _ has

pub returns-else-is_object_with : goal.returns-else-is_object_with
returns-else-is_object_with c = λ q.
    let key : EntryKey = record { status = c.in_ok-status_at.field-0; justification = c.text_at.result } in
    let status : status_in (view c.args.value.now) ≡ Some key.status = search rules in
    let text : text_in (codes "justification") (view c.args.value.now) ≡ justification_of key = search rules in
    let unlike : has_key key (view c.args.value.now) ≡ false = search rules in
    no_other key q _ status text unlike
