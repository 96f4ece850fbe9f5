use Rattle.std.proofs.Common.{rules, ◌≡◌, ◌∙◌, sym, ap, not, false, None, Some}
use Rattle.std.specs.Prelude.{bytes_eq}
use Rattle.std.specs.HashMap.{get}
use Rattle.sarif_change.specs.Internal.NamesSeen.{same_bytes}
use Rattle.sarif_change.proofs.SharedMore.{after_one, after_same, after_two, equal, unequal}
use Rattle.sarif_change.proofs.joining.note_names.Goals as goal

pub returns-in_ok-note_name-2 : goal.returns-in_ok-note_name-2
returns-in_ok-note_name-2 g c = λ before table.
    let s = c.args.section.now in
    let is : s.old ≡ Some c.as_slice-then-ne.result.now = search rules in
    let apart : bytes_eq s.name c.as_slice-then-ne.result.now ≡ false =
    unequal s.name c.as_slice-then-ne.result.now (c.if-ne.ensures ∙ ap not (ap (λ n. bytes_eq n c.as_slice-name.result.now) (c.as_slice.ensures ∙ sym c.as_slice-then-ne.ensures) ∙ ap (bytes_eq c.as_slice-then-ne.result.now) c.as_slice-name.ensures)) in
    after_two (get same_bytes c.args.names.now) (get same_bytes c.note_name.new.names) before s c.as_slice-name.result c.as_slice-name.ensures table
    c.in_ok-note_name.ensures (get same_bytes c.note_name-then-ne.new.names) c.as_slice-then-ne.result is apart c.in_ok-note_name-2.ensures

pub returns-else-ne : goal.returns-else-ne
returns-else-ne g c = λ before table.
    let s = c.args.section.now in
    let same : s.old ≡ Some s.name =
    c.in-Some.is ∙ ap (λ n. Some n) (sym c.as_slice.ensures ∙ equal c.as_slice.result.now c.as_slice-name.result.now c.if-ne.ensures ∙ c.as_slice-name.ensures) in
    after_same (get same_bytes c.args.names.now) (get same_bytes c.note_name.new.names) before s c.as_slice-name.result c.as_slice-name.ensures table
    c.in_ok-note_name.ensures same

pub returns-in_default : goal.returns-in_default
returns-in_default g c = λ before table.
    let s = c.args.section.now in
    let none : s.old ≡ None = search rules in
    after_one (get same_bytes c.args.names.now) (get same_bytes c.note_name.new.names) before s c.as_slice-name.result c.as_slice-name.ensures table
    c.in_ok-note_name.ensures none
