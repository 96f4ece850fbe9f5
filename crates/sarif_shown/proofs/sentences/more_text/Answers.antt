use Rattle.std.proofs.Common.{◌≡◌, ◌==◌, true, false, eq-eqb}
use Rattle.std.proofs.lemmas.Bool.{ne_eqb}
use Rattle.sarif_shown.proofs.sentences.more_text.Goals as goal

pub returns-then-hits-number : goal.returns-then-hits-number
returns-then-hits-number c =
    let all : (c.args.hits == c.args.number) ≡ true = eq-eqb c.args.hits c.args.number c.if-hits-number.true in
    rw all c.count_text.ensures

pub returns-then-hits-eq0 : goal.returns-then-hits-eq0
returns-then-hits-eq0 c =
    let some : (c.args.hits == c.args.number) ≡ false = ne_eqb c.args.hits c.args.number c.if-hits-number.false in
    let none : (c.args.hits == 0) ≡ true = eq-eqb c.args.hits 0 c.if-hits-eq0.true in
    rw (some, none) c.count_text-then-hits-eq0.ensures
