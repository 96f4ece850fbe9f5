use Rattle.std.proofs.Common.{rules, ◌≡◌, ◌++◌, ◌&&◌, ◌∷◌, [], List, ℕ, Bool, true, false, Option, Some, None, bytes_eq, refl, sym, ap, ◌∙◌, cond, if◌then◌else◌}
use Rattle.std.proofs.lemmas.List.{append-nil}
use Rattle.std.proofs.lemmas.Slice.Eq.{bytes_eq-Decides}
use Rattle.std.specs.Cmp.Lexicographic.{pointwise}
use Rattle.std.specs.Option.{option_map_or}
use Rattle.indexmap.specs.IndexMap.{get}
use Rattle.sarif_filing.specs.Numbers.{NumbersBy, numbers_at}
use Rattle.sarif_filing.proofs.snippets.add_within.Goals as goal

-- a table of one number at a snippet that had none
one_within : {S : Type 0} (is here : Bool) (old now : Option (NumbersBy (List (List ℕ)) S)) (keyed : NumbersBy (List (List ℕ)) S)
    (q : List (List ℕ)) (n : ℕ) → now ≡ cond is (Some keyed) old → numbers_at (pointwise bytes_eq) keyed q ≡ (if here then n ∷ [] else [])
    → (is ≡ true → old ≡ None)
    → option_map_or (λ k. numbers_at (pointwise bytes_eq) k q) now []
    ≡ option_map_or (λ k. numbers_at (pointwise bytes_eq) k q) old [] ++ (if is && here then n ∷ [] else [])
one_within true here old now keyed q n new one none = rw (new, one, none refl) refl
one_within false here old now keyed q n new one none = rw (new, append-nil) refl

pub returns : goal.returns
returns g c = λ text q.
    let none : get bytes_eq c.args.table.now c.args.snippet ≡ None = search rules in
    let same : c.get_mut.follows.lender-at-none ≡ c.args.table.now = search rules in
    let new = rw same at (c.in_ok-insert.ensures.updates.0 text) in
    let fresh : numbers_at (pointwise bytes_eq) c.with_hasher-keyed.result q ≡ [] = search rules in
    let one : numbers_at (pointwise bytes_eq) c.add_number-2.new.table q ≡ (if pointwise bytes_eq c.args.key q then c.args.number ∷ [] else []) =
    c.in_ok-add_number-2.ensures q ∙ ap (λ ns. ns ++ (if pointwise bytes_eq c.args.key q then c.args.number ∷ [] else [])) fresh in
    one_within (bytes_eq c.args.snippet text) (pointwise bytes_eq c.args.key q) (get bytes_eq c.args.table.now text)
    (get bytes_eq c.insert.new.self text) c.add_number-2.new.table q c.args.number new one
    (λ t. ap (λ own. get bytes_eq c.args.table.now own) (sym ((bytes_eq-Decides c.args.snippet text).0 t)) ∙ none)
