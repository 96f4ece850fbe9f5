use Rattle.std.proofs.Common.{◌≡◌, ◌∙◌, ◌∷◌, ap, sym, map, take, drop, length, ◌-◌, arith}
use Rattle.std.proofs.lemmas.List.{drop_more, take_rest}
use Rattle.sarif_change.specs.Internal.Files.{any_changed}
use Rattle.sarif_change.specs.Internal.Sought.{seen}
use Rattle.sarif_change.proofs.AnyChanged.{path_after}
use Rattle.sarif_change.proofs.changed.Changed.+find_paths.Goals as goal

pub returns-in_ok-find_paths-in-len1-up : goal.returns-in_ok-find_paths-in-len1-up
returns-in_ok-find_paths-in-len1-up t c = λ lines sought clean same.
    let rest = take (length c.args.paths.now - 1) (drop 1 c.args.paths.now) in
    let whole : c.args.paths.now ≡ c.first-item.result ∷ rest =
    drop_more c.args.paths.now 0 c.first-item.result (omega (arith, c.in-len1-up.len_at_least))
    ∙ (ap (λ x. x ∷ drop 1 c.args.paths.now) (sym c.first-item.is) ∙ ap (λ xs. c.first-item.result ∷ xs) (sym (take_rest c.args.paths.now 1))) in
    path_after c.args.self.now lines c.first-item.result rest (any_changed lines c.args.found.now.items)
    (any_changed lines c.find_path.new.found.items) (any_changed lines c.find_paths.new.found.items)
    (c.in_ok-find_path-in-len1-up.ensures lines) (c.in_ok-find_paths-in-len1-up.ensures lines) sought clean
    (ap (λ paths. map seen paths) (sym whole) ∙ same)
