use Rattle.std.proofs.Common.{rules, ◌≡◌, List, ℕ, [], length, sym, ap, ◌∙◌, subst}
use Rattle.sarif_match.specs.Internal.Fits.{Fits}
use Rattle.sarif_match.specs.Internal.Named.{with_parts, unmarked}
use Rattle.sarif_match.specs.Pairing.{pairs_from}
use Rattle.sarif_match.specs.Partners.{keyed_from, put_all}
use Rattle.sarif_match.specs.Internal.Queues.{same_key}
use Rattle.sarif_match.proofs.FitsLemmas.{Fits-pairs_at, pairs_at-told}
use Rattle.sarif_match.proofs.matching.match_tier.Goals as goal

pub put_pairs-requires-clause-fits : goal.put_pairs-requires-clause-fits
put_pairs-requires-clause-fits g c =
    let current = c.args.current.now.findings.now in
    let baseline = c.args.baseline.now.findings.now in
    let progress = c.args.progress.now in
    let left : with_parts c.in_ok-left.left.items ≡ unmarked progress.paired.items (keyed_from c.args.tier.now 0 current) = search rules in
    let free : with_parts c.in_ok-free.free.items ≡ unmarked progress.taken.items (keyed_from c.args.tier.now 0 baseline) = search rules in
    let pairs : c.deref-5.result.now ≡ pairs_from same_key [] c.in_ok-left.left.items c.in_ok-free.free.items = search rules in
    let told = pairs_at-told current baseline _ _ progress c.args.tier.now _ _ _ c.requires.sound left free pairs in
    subst (λ (m : ℕ). Fits m progress.partners.items c.deref-5.result.now) (sym c.requires.sound.taken_count)
    (subst (λ (ps : List (ℕ × ℕ)). Fits (length baseline) progress.partners.items ps) (sym told)
    (Fits-pairs_at current baseline progress.partners.items c.args.tier.now c.requires.sound.partner_count))

pub returns-clause-paired : goal.returns-clause-paired
returns-clause-paired g c =
    let current = c.args.current.now.findings.now in
    let baseline = c.args.baseline.now.findings.now in
    let progress = c.args.progress.now in
    let left : with_parts c.in_ok-left.left.items ≡ unmarked progress.paired.items (keyed_from c.args.tier.now 0 current) = search rules in
    let free : with_parts c.in_ok-free.free.items ≡ unmarked progress.taken.items (keyed_from c.args.tier.now 0 baseline) = search rules in
    let pairs : c.deref-5.result.now ≡ pairs_from same_key [] c.in_ok-left.left.items c.in_ok-free.free.items = search rules in
    c.put_pairs.ensures.put ∙ ap (put_all progress.partners.items)
    (pairs_at-told current baseline _ _ progress c.args.tier.now _ _ _ c.requires.sound left free pairs)
