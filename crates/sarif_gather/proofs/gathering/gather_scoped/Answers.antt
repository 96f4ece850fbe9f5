-- The scope's closure may be called: what the function requires, and that its work's types may cross threads.
use mir.Syntax.{of_param}
use denote.Exit.{unseen}
use denote.Param.Send.{sendable, Quiet-if}
use Rattle.sarif_gather.proofs.gathering.gather_scoped.Goals as goal

pub scoped-requires : goal.scoped-requires
scoped-requires g c =
    let b = c.type_bounds in
    let r = c.requires in
    record {
      at = λ a. (
        r,
        (
          record { owned = b.send-W-Head.owned; leaving = λ k. Quiet-if (k (of_param 3)) unseen unseen (λ x w. tt) (λ x w. tt) },
          record { owned = b.send-W-Item.owned; leaving = λ k. Quiet-if (k (of_param 4)) unseen unseen (λ x w. tt) (λ x w. tt) },
          record { owned = b.send-W-Tail.owned; leaving = λ k. Quiet-if (k (of_param 5)) unseen unseen (λ x w. tt) (λ x w. tt) },
          search (sendable, b.sync-W),
          search (sendable, b.sync-G),
          search (sendable, b.sync-R),
        ),
      );
    }
