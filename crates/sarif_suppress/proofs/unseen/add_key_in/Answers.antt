use Rattle.std.proofs.Common.{rules, ◌≡◌, None, false}
use Rattle.serde_json.specs.View.{view}
use Rattle.sarif_entries.specs.Internal.Keys.{has_key}
use Rattle.sarif_entries.specs.declared.key.EntryKey.{EntryKey}
use Rattle.sarif_suppress.proofs.KeySet.{without_key}
use Rattle.sarif_suppress.proofs.unseen.add_key_in.Goals as goal

pub returns-in_default : goal.returns-in_default
returns-in_default g c = λ values has.
    let none : c.key_in.result ≡ None = search rules in
    let without : (q : EntryKey) → has_key q (view c.args.value.now) ≡ false = rw none at c.key_in.ensures in
    without_key c.args.keys.now values _ without has
