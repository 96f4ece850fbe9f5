use Rattle.std.proofs.Common.{rules, ◌≡◌, [], ap, List, ℕ, None, Some, ◌∙◌, sym, IsSome, Option}
use Rattle.std.specs.Borrow.{Bor}
use Rattle.std.specs.declared.alloc.Global.{Global}
use Rattle.std.specs.declared.vec.Vec.{Vec}
use Rattle.std.specs.HashMap.{get}
use Rattle.std.specs.Cmp.Lexicographic.{on_texts_equal}
use Rattle.sarif_match.specs.declared.tier_key.Key.{Key}
use Rattle.sarif_match.specs.Internal.Named.{group_of, put_once}
use Rattle.sarif_match.proofs.NamedLemmas.{same_name}
use Rattle.sarif_match.proofs.TableLemmas.{read-updated}
use Rattle.sarif_match.proofs.named.add_key.Goals as goal

pub returns-in-Some : goal.returns-in-Some
returns-in-Some g c = λ q.
    let query : Bor (List ℕ) = record { ref_ptr = (0, 0); now = q } in
    let put = λ (xs : List (ℕ × Key)). put_once c.args.number c.args.key xs in
    let found : get same_name c.args.named.now c.args.name ≡ Some c.in-Some.group.now = search rules in
    let there : IsSome (get same_name c.args.named.now c.args.name) = search rules in
    let written : c.put_last.new.group.items ≡ put c.in-Some.group.now.items = search rules in
    read-updated (on_texts_equal (λ (name : Bor (List ℕ)). name.now)) group_of put c.args.named.now
    (c.get_mut.follows.lender c.put_last.new.group) c.args.name query c.put_last.new.group
    (((c.get_mut.follows.holds c.put_last.new.group).3 there).0 query)
    (written ∙ sym (ap (λ (o : Option (Vec (ℕ × Key) Global)). put (group_of o)) found))

pub returns : goal.returns
returns g c = λ q.
    let query : Bor (List ℕ) = record { ref_ptr = (0, 0); now = q } in
    let put = λ (xs : List (ℕ × Key)). put_once c.args.number c.args.key xs in
    let same : c.get_mut.follows.lender-at-none ≡ c.args.named.now = search rules in
    let none : get same_name c.args.named.now c.args.name ≡ None = search rules in
    let items : c.in_ok-group.group.items ≡ put [] = search rules in
    read-updated (on_texts_equal (λ (name : Bor (List ℕ)). name.now)) group_of put c.args.named.now c.insert.new.self c.args.name query
    c.in_ok-group.group (rw same at (c.in_ok-insert.ensures.updates.0 query))
    (items ∙ sym (ap (λ (o : Option (Vec (ℕ × Key) Global)). put (group_of o)) none))
