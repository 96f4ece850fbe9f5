use Rattle.std.proofs.Common.{rules, ◌≡◌, ◌<◌, ◌∙◌, ◌++◌, ◌∷◌, [], List, true, length, ap, arith}
use Rattle.std.proofs.lemmas.Grind.{common_steps}
use Rattle.std.specs.List.{list_any}
use Rattle.sarif_change.specs.Internal.Files.{found_at}
use Rattle.sarif_change.specs.Internal.Keys.{joined}
use Rattle.sarif_change.specs.Parts.{parts_of}
use Rattle.sarif_change.specs.declared.file.ChangedFile.{ChangedFile}
use Rattle.sarif_change.proofs.IndexMore.{link_added}
use Rattle.sarif_change.proofs.JoinedMore.{parts_clean}
use Rattle.sarif_change.proofs.index.push_link.Goals as goal

pub returns : goal.returns
returns c = λ sections have part lines clean.
    let file : ChangedFile = record { key = c.in_ok-key-2.key; changed = c.in_ok-changed.changed } in
    let key : c.in_ok-key.key.items ≡ joined (parts_of c.args.section.now.name) = search rules in
    let link : c.args.section.now.link ≡ true = search rules in
    let some : 0 < length c.in_ok-key.key.items = grind (arith, common_steps) in
    let pushed : c.push.new.self.items ≡ c.args.links.now.items ++ file ∷ [] = search rules in
    ap (λ (fs : List ChangedFile). list_any (found_at (part ++ 47 ∷ []) lines) fs) pushed
    ∙ link_added c.args.links.now.items file c.args.section.now sections c.in_ok-key.key.items key some
    (c.in_ok-key-2.ensures.items ∙ c.first_part.ensures (parts_of c.args.section.now.name) (parts_clean c.args.section.now.name) (c.deref.ensures.value ∙ key))
    c.in_ok-changed.ensures link have part lines clean
