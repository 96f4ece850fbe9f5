use Rattle.std.proofs.Common.{rules, ◌≡◌, true, is_some}
use Rattle.std.specs.HashMap.{get}
use Rattle.sarif_scope.specs.Internal.NamesMet.{same_bytes}
use Rattle.sarif_scope.proofs.FilesMore.{met_again, met_new}
use Rattle.sarif_scope.proofs.files.note.Goals as goal

pub returns-then-is_some-clause-met : goal.returns-then-is_some-clause-met
returns-then-is_some-clause-met g c = λ before table.
    let seen : is_some (get same_bytes c.args.names.now c.as_slice-name.result) ≡ true = search rules in
    met_again before c.args.section.now (get same_bytes c.args.names.now) c.as_slice-name.result c.as_slice-name.ensures seen table

pub returns-clause-met : goal.returns-clause-met
returns-clause-met g c = λ before table.
    met_new before c.args.section.now (get same_bytes c.args.names.now) (get same_bytes c.insert.new.self)
    c.as_slice-name.result c.as_slice-name.ensures table (λ q. search rules)
