use Rattle.std.proofs.Common.{rules, ◌≡◌, [], ◌∷◌, ◌++◌, ap, List, ℕ, None, Some, ◌∙◌, Option, cond, refl, unwrap_or}
use Rattle.std.specs.declared.alloc.Global.{Global}
use Rattle.std.specs.declared.collections.VecDeque.{VecDeque}
use Rattle.std.specs.HashMap.{get}
use Rattle.sarif_match.specs.contracts.tier_key.KeyEq.TheImpl.Laws.{laws-law}
use Rattle.sarif_match.specs.Internal.Queues.{items_of, same_key}
use Rattle.sarif_match.proofs.TableLemmas.{read-written}
use Rattle.sarif_match.proofs.queues.add_last.Goals as goal

-- the queue there; if there is none, an empty one
items_found : (o : Option (VecDeque ℕ Global)) (empty : VecDeque ℕ Global) → empty.items ≡ [] → (unwrap_or o empty).items ≡ items_of o
items_found None empty is = is
items_found (Some x) empty is = refl

pub returns : goal.returns
returns g c = λ q.
    let add = λ (xs : List ℕ). xs ++ (c.args.number ∷ []) in
    let found : c.or_insert-queue.result.now.items ≡ items_of (get same_key c.args.queues.now c.args.key) =
    ap (λ (d : VecDeque ℕ Global). d.items)
    (c.or_insert-queue.ensures.value ∙ ap (λ o. unwrap_or o c.new.result) c.in_ok-queues.ensures.value)
    ∙ items_found (get same_key c.args.queues.now c.args.key) c.new.result (search rules) in
    let written = λ (o : Option (VecDeque ℕ Global)) (e : o ≡ cond (same_key c.args.key q) (Some c.push_back.new.self) (get same_key c.args.queues.now q)).
    read-written laws-law items_of add c.args.queues.now c.args.queues.now c.args.key q o c.push_back.new.self e
    (c.in_ok-push_back.ensures.items ∙ ap add found) in
    search (rules, written)
