use Rattle.std.proofs.Common.{rules, ◌≡◌, ap, ℕ, Some, drop, ◌∙◌, sym, IsSome, Option}
use Rattle.std.specs.declared.alloc.Global.{Global}
use Rattle.std.specs.declared.collections.VecDeque.{VecDeque}
use Rattle.std.specs.HashMap.{get}
use Rattle.sarif_match.specs.contracts.tier_key.KeyEq.TheImpl.Laws.{laws-law}
use Rattle.sarif_match.specs.Internal.Queues.{items_of, same_key}
use Rattle.sarif_match.proofs.TableLemmas.{read-updated, read-kept}
use Rattle.sarif_match.proofs.queues.take_first.Goals as goal

pub returns-in_err-queue-clause-rest : goal.returns-in_err-queue-clause-rest
returns-in_err-queue-clause-rest g c = λ q.
    read-kept laws-law items_of (drop 1) c.args.queues.now c.get_mut.follows.lender-at-none c.args.key.now q c.get_mut.follows.holds-at-none (search rules)

pub returns-clause-rest : goal.returns-clause-rest
returns-clause-rest g c = λ q.
    let found : get same_key c.args.queues.now c.args.key.now ≡ Some c.in_ok-queue.queue.now = search rules in
    let there : IsSome (get same_key c.args.queues.now c.args.key.now) = search rules in
    read-updated laws-law items_of (drop 1) c.args.queues.now
    (c.get_mut.follows.lender c.pop_front.new.self) c.args.key.now q c.pop_front.new.self
    (((c.get_mut.follows.holds c.pop_front.new.self).3 there).0 q)
    (c.pop_front.ensures.rest ∙ sym (ap (λ (o : Option (VecDeque ℕ Global)). drop 1 (items_of o)) found))
