use Rattle.std.proofs.Common.{rules, ◌≡◌, ◌<◌, ◌+◌, true, false, get_or, length, refl, arith}
use Rattle.sarif_findings.specs.Internal.Brackets.{is_ordinary}
use Rattle.sarif_findings.proofs.BracketsMore.{special_low, pair_passes, alone_passes}
use Rattle.sarif_findings.proofs.EmptiesPassed.{cut_behind}
use Rattle.sarif_findings.proofs.brackets.pair_end.Goals as goal

pub returns-then-is_special_at-clause-cut : goal.returns-then-is_special_at-clause-cut
returns-then-is_special_at-clause-cut c =
    let there : c.args.at + 1 < length c.args.text.now = search rules in
    let special : is_ordinary (get_or c.args.text.now (c.args.at + 1) 0) ≡ false = search rules in
    cut_behind c.args.text.now (c.args.at + 1) (c.args.at + 2) c.utf8.text there (special_low _ special) (omega arith)

pub returns-then-is_special_at-clause-goes : goal.returns-then-is_special_at-clause-goes
returns-then-is_special_at-clause-goes c =
    let there : c.args.at + 1 < length c.args.text.now = search rules in
    let special : is_ordinary (get_or c.args.text.now (c.args.at + 1) 0) ≡ false = search rules in
    λ args. pair_passes args c.args.text.now c.args.at there c.requires.here special

pub returns-clause-cut : goal.returns-clause-cut
returns-clause-cut c =
    cut_behind c.args.text.now c.args.at (c.args.at + 1) c.utf8.text c.requires.within (omega (arith, c.requires.here)) refl

pub returns-clause-goes : goal.returns-clause-goes
returns-clause-goes c =
    let ordinary : is_ordinary (get_or c.args.text.now (c.args.at + 1) 0) ≡ true = search rules in
    let cut = cut_behind c.args.text.now c.args.at (c.args.at + 1) c.utf8.text c.requires.within (omega (arith, c.requires.here)) refl in
    λ args. alone_passes args c.args.text.now c.args.at c.utf8.text c.requires.within cut c.requires.here ordinary
