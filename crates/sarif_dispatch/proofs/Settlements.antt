-- What the desk knows once all posts are back.
use Rattle.std.proofs.Common.{◌≡◌, ℕ, zero, suc, ◌<◌, List, [], ◌∷◌, map, Some, sym, ap, ◌∙◌, subst, append-nil}
use Rattle.std.specs.Prelude.{slice_get}
use Rattle.std.proofs.lemmas.List.{nil_from_length}
use mathlib.Core.Option.{some}
use lib.ListN.{get_elem?}
use Rattle.crossbeam_queue.specs.Fifo.{Held}
use Rattle.sarif_dispatch.specs.declared.mailbox.Mailbox.{Mailbox}
use Rattle.sarif_dispatch.specs.declared.mailbox.ends.Post.{Post}
use Rattle.sarif_dispatch.specs.declared.mailbox.rule.View.{View}
use Rattle.sarif_dispatch.specs.declared.mailbox.rule.View.TheVariants.{Taker}
use Rattle.sarif_dispatch.specs.Senders.{of_sender}
use Rattle.sarif_dispatch.specs.Delivery.{Settles, taken_in, made_in, settled_in}
use Rattle.sarif_dispatch.specs.Ends.{AreAllPosts, AreWhole, returned, sent_by, number_of}

elem_of : {A B : Type 0} (f : A → B) (xs : List A) (i : ℕ) (x : A) → slice_get xs i ≡ Some x → get_elem? (map f xs) i ≡ some (f x)
elem_of f [] i x at = absurd (cc)
elem_of f (y ∷ ys) zero x at = ap (λ z. some (f z)) (cc)
elem_of f (y ∷ ys) (suc i) x at = elem_of f ys i x at

module _ {P : Type 0} where
  -- each sender's post came back
  pub covers : (mailbox : Mailbox P) (posts : List (Post P)) → AreAllPosts mailbox posts → (k : ℕ) → k < mailbox.senders
      → (i : ℕ) × (l : List P) × (get_elem? (map returned posts) i ≡ some (k, l))
  covers mailbox posts all k lt = let at = all.all k lt in (at.0, sent_by at.1, elem_of returned posts at.0 at.1 at.2 ∙ ap (λ n. some (n, sent_by at.1)) at.3)

  pub settles_at : (v : View P) (t : List (ℕ × P)) (m : ℕ) (s : List (ℕ × List P)) (items : List (ℕ × P)) → v ≡ Taker t m s
      → Settles (taken_in v) (made_in v) (settled_in v) items → Settles t m s items
  settles_at v t m s items is h = let F : View P → Type 0 = λ w. Settles (taken_in w) (made_in w) (settled_in w) items in subst F is h

  pub settles_at_none : (v : View P) (t : List (ℕ × P)) (m : ℕ) (s : List (ℕ × List P)) → v ≡ Taker t m s
      → Held 0 (Settles (taken_in v) (made_in v) (settled_in v)) → Settles t m s []
  settles_at_none v t m s is h = settles_at v t m s [] is (subst (λ items. Settles (taken_in v) (made_in v) (settled_in v) items) (nil_from_length h.0 h.1) h.2)

  -- if nothing is left, what arrived is complete
  pub whole : (mailbox : Mailbox P) (posts : List (Post P)) (arrived : List (ℕ × P))
      → Settles arrived mailbox.senders (map returned posts) [] → AreWhole mailbox posts arrived
  whole mailbox posts arrived h = record {
    each = λ i post at. ap (of_sender (number_of post)) (sym (append-nil arrived))
        ∙ sym (h.past i (number_of post) (sent_by post) (elem_of returned posts i post at));
    strangers = λ k le. ap (of_sender k) (sym (append-nil arrived)) ∙ h.strangers k le;
  }
