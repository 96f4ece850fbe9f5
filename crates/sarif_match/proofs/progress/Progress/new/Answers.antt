use Rattle.std.proofs.Common.{◌≡◌, None, false, replicate, rules}
use Rattle.sarif_match.proofs.PutLemmas.{IsSound-new}
use Rattle.sarif_match.proofs.progress.Progress.new.Goals as goal

pub returns-clause-sound : goal.returns-clause-sound
returns-clause-sound c =
    let partners : c.in_ok-vec.field-0.items ≡ replicate c.args.current None = search rules in
    let paired : c.in_ok-vec-2.field-0.items ≡ replicate c.args.current false = search rules in
    let taken : c.in_ok-vec-3.field-0.items ≡ replicate c.args.baseline false = search rules in
    IsSound-new c.args.current c.args.baseline _ partners paired taken
