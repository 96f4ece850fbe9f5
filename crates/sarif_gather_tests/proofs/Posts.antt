-- All posts of a mailbox, in a list.
use Rattle.std.proofs.Common.{◌≡◌, ℕ, ◌<◌, List, length, ap, ◌∙◌, subst, arith}
use Rattle.std.specs.Prelude.{slice_index_or}
use Rattle.std.proofs.lemmas.Option.{slice_get_within, get_or_from_slice_get, slice_get-get_or}
use Rattle.sarif_dispatch.specs.declared.mailbox.Mailbox.{Mailbox}
use Rattle.sarif_dispatch.specs.declared.mailbox.ends.Post.{Post}
use Rattle.sarif_dispatch.specs.declared.mailbox.ends.Desk.{Desk}
use Rattle.sarif_dispatch.specs.Ends.{IsPostOf, AreNew, AreAllPosts, number_of}
use Rattle.sarif_dispatch.proofs.Places.{at_below}

module _ {P : Type 0} (mailbox : Mailbox P) where
  pub new_posts : (room senders : ℕ) (posts : List (Post P)) (desk : Desk P) → AreNew room senders mailbox posts desk → AreAllPosts mailbox posts
  new_posts room senders posts desk fresh = record {
    each = λ i post at. (fresh.each i post at).post;
    all = λ k lt. let b = at_below posts k
        (let n = fresh.count in let m = fresh.senders_are in omega (arith, n, m)) in (k, b.0, b.1, (fresh.each k b.0 b.1).number);
  }

  pub posts_kept : (old new : List (Post P)) → length new ≡ length old
      → ((i : ℕ) (d : Post P) → i < length old
      → IsPostOf mailbox (slice_index_or new i d) × (number_of (slice_index_or new i d) ≡ number_of (slice_index_or old i d)))
      → AreAllPosts mailbox old → AreAllPosts mailbox new
  posts_kept old new len each all = record {
    each = λ i post at. let within =
        slice_get_within new i post at in subst (IsPostOf mailbox) (get_or_from_slice_get new i post post at)
        (each i post (omega (arith, within, len))).0;
    all = λ k lt.
        let a = all.all k lt in
        let low = slice_get_within old a.0 a.1 a.2 in (
          a.0,
          slice_index_or new a.0 a.1,
          slice_get-get_or new a.0 a.1 (omega (arith, low, len)),
          (each a.0 a.1 low).1
              ∙ ap number_of (get_or_from_slice_get old a.0 a.1 a.1 a.2) ∙ a.3,
        );
  }
