use Rattle.std.proofs.Common.{◌≡◌, drop}
use Rattle.std.specs.List.{list_any}
use Rattle.std.specs.Prelude.{is_some}
use Rattle.sarif_accept.proofs.renewing.look_at_snippets.Given as goal

-- the return value is that for the results that are left
abbrev pub invariant-loop-record : goal.invariant-loop-record
invariant-loop-record l = list_any (λ r. is_some r.now.snippet) (drop l.record-index l.added) ≡ list_any (λ r. is_some r.now.snippet) l.added
