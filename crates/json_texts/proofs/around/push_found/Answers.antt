use Rattle.std.proofs.Common.{◌≡◌, ◌||◌, not, true, false, ◌∷◌, ◌++◌, sym, ap, ◌∙◌, subst}
use Rattle.json_parts.specs.Indexed.{json_at}
use Rattle.json_texts.specs.Whole.{is_fractional, written, text_of}
use Rattle.json_texts.specs.Around.{named}
use Rattle.json_texts.specs.Internal.Walking.{IsWritable, written_members}
use Rattle.json_texts.specs.Internal.Parts.{AreParts, named_at}
use Rattle.json_texts.specs.declared.around.Part.{Part}
use Rattle.json_texts.specs.declared.around.Part.TheVariants.{Found}
use Rattle.json_texts.proofs.Parts.{named_kept, named_left_out, named_pushed, parts_pushed}
use Rattle.json_texts.proofs.around.push_found.Goals as goal

pub returns-then-not-is_written-clause-named : goal.returns-then-not-is_written-clause-named
returns-then-not-is_written-clause-named c ms =
    let m = c.args.found.now in
    let no : (c.args.keeps_numbers || not (is_fractional (json_at m.value))) ≡ false = sym c.is_written.ensures ∙ c.if-not-is_written.true in
    ap (λ ns. named_at c.args.keeps_numbers c.args.list.now.items ++ ns) (sym (named_left_out c.args.keeps_numbers m.name.now (json_at m.value) ms no))

pub returns-clause-named : goal.returns-clause-named
returns-clause-named c ms =
    let keeps = c.args.keeps_numbers in
    let m = c.args.found.now in
    let ps = c.args.list.now.items in
    let rest = named (written_members keeps ms) in
    let yes : (keeps || not (is_fractional (json_at m.value))) ≡ true = sym c.is_written.ensures ∙ c.if-not-is_written.false in
    let p : Part = Found (record { name = m.name; value = c.again-value.result }) in
    ap (λ xs. named_at keeps xs ++ rest) c.in_ok-push.ensures.items ∙ named_pushed keeps ps p rest
    ∙ ap (λ v. named_at keeps ps ++ (m.name.now, text_of (written keeps (json_at v))) ∷ rest) c.again-value.ensures
    ∙ ap (λ ns. named_at keeps ps ++ ns) (sym (named_kept keeps m.name.now (json_at m.value) ms yes))

pub returns-clause-writable : goal.returns-clause-writable
returns-clause-writable c =
    let m = c.args.found.now in
    let p : Part = Found (record { name = m.name; value = c.again-value.result }) in
    subst AreParts (sym c.in_ok-push.ensures.items) (parts_pushed c.args.list.now.items p c.requires.1 (subst IsWritable (sym c.again-value.ensures) c.requires.0))
