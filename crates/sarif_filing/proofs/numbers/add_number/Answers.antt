use Rattle.std.proofs.Common.{rules, ◌≡◌, ◌++◌, ◌∷◌, [], ℕ, Bool, true, false, Option, Some, None, refl, sym, ◌∙◌, cond, if◌then◌else◌}
use Rattle.std.proofs.lemmas.List.{append-nil}
use Rattle.std.specs.Option.{option_map_or}
use Rattle.std.specs.HashMap.{get}
use Rattle.std.specs.HashMap.Eq.{lookup_congr}
use Rattle.std.specs.declared.alloc.Global.{Global}
use Rattle.std.specs.declared.vec.Vec.{Vec}
use Rattle.sarif_filing.proofs.numbers.add_number.Goals as goal

-- a list of one number at a key that had none
one_added : (is : Bool) (old now : Option (Vec ℕ Global)) (numbers : Vec ℕ Global) (n : ℕ) → now ≡ cond is (Some numbers) old
    → numbers.items ≡ n ∷ [] → (is ≡ true → old ≡ None)
    → option_map_or (λ v. v.items) now [] ≡ option_map_or (λ v. v.items) old [] ++ (if is then n ∷ [] else [])
one_added true old now numbers n new one none = rw (new, one, none refl) refl
one_added false old now numbers n new one none = rw (new, append-nil) refl

pub returns : goal.returns
returns g c = λ q.
    let none : get g.K.PartialEq.eq c.args.table.now c.args.key ≡ None = search rules in
    let same : c.get_mut.follows.lender-at-none ≡ c.args.table.now = search rules in
    let new = rw same at (c.in_ok-insert.ensures.updates.0 q) in
    let one : c.push-2.new.self.items ≡ c.args.number ∷ [] = search rules in
    one_added (g.K.PartialEq.eq c.args.key q) (get g.K.PartialEq.eq c.args.table.now q)
    (get g.K.PartialEq.eq c.insert.new.self q) c.push-2.new.self c.args.number new one
    (λ t. sym (lookup_congr g.K.PartialEq.eq g.met.K.Eq.laws.congr c.args.table.now.entries c.args.key q t) ∙ none)
