-- Everything that was received is everything that was sent, so the collector has each run completely.
use Rattle.std.proofs.Common.{◌≡◌, ℕ, ◌+◌, ◌<◌, ◌≤◌, true, List, [], ◌∷◌, ◌++◌, map, replicate, Some, refl, sym, ap, ◌∙◌, subst, arith, append-nil}
use Rattle.std.specs.Prelude.{slice_get}
use Rattle.std.proofs.lemmas.Bool.{OnFalse_at}
use Rattle.std.proofs.lemmas.List.{length-map}
use Rattle.sarif_collect.specs.declared.piece.Parcel.{Parcel}
use Rattle.sarif_dispatch.specs.declared.mailbox.Mailbox.{Mailbox}
use Rattle.sarif_dispatch.specs.declared.mailbox.ends.Post.{Post}
use Rattle.sarif_dispatch.specs.declared.deal.hand.Hand.{Hand}
use Rattle.sarif_dispatch.specs.declared.deal.state.Deal.{Deal}
use Rattle.sarif_gather.specs.declared.gathering.Gathered.{Gathered}
use Rattle.sarif_gather.specs.declared.gathering.worker.Back.{Back}
use Rattle.sarif_dispatch.specs.Claims.{times, total, once_below}
use Rattle.sarif_dispatch.specs.Ends.{AreWhole, AreAllPosts, IsPostOf, sent_by, taken_by}
use Rattle.sarif_gather.specs.Internal.Gathered.{IsGathered}
use Rattle.sarif_dispatch.specs.Hands.{drawn_by, is_marked, hands_of, IsHandOf, AreAllHands}
use Rattle.sarif_collect.specs.Honest.{AreHonest}
use Rattle.sarif_collect.specs.Held.{Held, empty_run, closed_run}
use Rattle.sarif_collect.specs.Pieces.{pieces_of_runs, parcels_of, lists_of}
use Rattle.sarif_dispatch.specs.Senders.{of_sender}
use Rattle.sarif_gather.proofs.Endings.{all_taken}
use Rattle.sarif_collect.proofs.Honesty.{held_whole}
use Rattle.sarif_dispatch.proofs.Places.{at_below, from_mapped, into_mapped}

module _ {A : Type 0} where
  pub total-map : {B : Type 0} (f : B → ℕ) (g : A → B) (xs : List A) → total f (map g xs) ≡ total (λ x. f (g x)) xs
  total-map f g [] = refl
  total-map f g (x ∷ xs) = ap (λ n. f (g x) + n) (total-map f g xs)

pub gathered_at : {T C : Type 0} (count : ℕ → ℕ) (item : ℕ → ℕ → T) (end : ℕ → C) (mailbox : Mailbox (Parcel T C)) (deal : Deal)
    (before : List (Held T C)) (n runs workers : ℕ) (g : Gathered T C)
    → IsGathered count item end mailbox deal before n g → before ≡ replicate runs empty_run → n ≡ workers
    → IsGathered count item end mailbox deal (replicate runs empty_run) workers g
gathered_at {T} {C} count item end mailbox deal before n runs workers g h e f =
    let F : List (Held T C) → ℕ → Type 0 = λ b m. IsGathered count item end mailbox deal b m g in
    subst (λ b. F b workers) e (subst (λ m. F before m) f h)

-- The calling thread's facts once all is settled
module _ {T C : Type 0} (count : ℕ → ℕ) (item : ℕ → ℕ → T) (end : ℕ → C) (runs workers : ℕ) (mailbox : Mailbox (Parcel T C)) (deal : Deal)
    (g : Gathered T C) (gathered : IsGathered count item end mailbox deal (replicate runs empty_run) workers g) where
  -- all posts and all hands came back
  pub all_posts : mailbox.senders ≡ workers → AreAllPosts mailbox (map (λ b. b.post) g.backs.items)
  all_posts senders = record {
    each = λ i post at. let b =
        from_mapped (λ (b : Back (Parcel T C)). b.post) g.backs.items i post at in subst (λ p. IsPostOf mailbox p) b.2
        (gathered.each i b.0 b.1).0.post_of;
    all = λ k lt. let b = at_below g.backs.items k
        (let n = gathered.backs in omega arith) in (
          k,
          b.0.post,
          into_mapped (λ (b : Back (Parcel T C)). b.post) g.backs.items k b.0 b.1,
          (gathered.each k b.0 b.1).0.number,
        );
  }

  pub all_hands : hands_of deal ≡ workers → AreAllHands deal (map (λ b. b.hand) g.backs.items)
  all_hands hands = record {
    each = λ i hand at. let b =
        from_mapped (λ (b : Back (Parcel T C)). b.hand) g.backs.items i hand at in subst (λ h. IsHandOf deal h) b.2
        (gathered.each i b.0 b.1).0.hand_of;
    count = length-map g.backs.items (λ b. b.hand) ∙ gathered.backs ∙ sym hands;
  }

  -- what each worker sent, and that it found no run left
  sent : (k : ℕ) (b : Back (Parcel T C)) → slice_get g.backs.items k ≡ Some b
      → (is_marked b.hand ≡ true) × (sent_by b.post ≡ parcels_of count item end (drawn_by b.hand))
  sent k b at = let e = gathered.each k b at in OnFalse_at e.1 e.0.all

  -- some hand is marked
  marked : 0 < workers → (b : Back (Parcel T C)) × (slice_get (map (λ b. b.hand) g.backs.items) 0 ≡ Some b.hand) × (is_marked b.hand ≡ true)
  marked some = let b = at_below g.backs.items 0
      (let n = gathered.backs in omega arith) in (
        b.0,
        into_mapped (λ (b : Back (Parcel T C)). b.hand) g.backs.items 0 b.0 b.1,
        (sent 0 b.0 b.1).0,
      )

  module _ (left : List (ℕ × Parcel T C)) (senders : mailbox.senders ≡ workers)
      (arrived : AreWhole mailbox (map (λ b. b.post) g.backs.items) (taken_by g.desk ++ left))
      (dealt : (run : ℕ) → total (λ h. times run (drawn_by h)) (map (λ b. b.hand) g.backs.items) ≡ once_below run runs) where
    of_worker : (k : ℕ) (b : Back (Parcel T C)) → slice_get g.backs.items k ≡ Some b
        → of_sender k (taken_by g.desk ++ left) ≡ parcels_of count item end (drawn_by b.hand)
    of_worker k b at =
        let e = (gathered.each k b at).0 in
        ap (λ n. of_sender n (taken_by g.desk ++ left)) (sym e.number)
        ∙ arrived.each k b.post (into_mapped (λ (b : Back (Parcel T C)). b.post) g.backs.items k b at) ∙ (sent k b at).1

    of_stranger : (k : ℕ) → workers ≤ k → of_sender k (taken_by g.desk ++ left) ≡ []
    of_stranger k le = arrived.strangers k (omega arith)

    none_left : left ≡ []
    none_left = all_taken workers (taken_by g.desk) left
        (λ k lt. let b = at_below g.backs.items k
        (let n = gathered.backs in omega arith) in (pieces_of_runs count item end (drawn_by b.0.hand), of_worker k b.0 b.1))
        of_stranger gathered.ends

    taken_of : (k : ℕ) → of_sender k (taken_by g.desk) ≡ of_sender k (taken_by g.desk ++ left)
    taken_of k = ap (of_sender k) (sym (append-nil (taken_by g.desk))) ∙ ap (λ l. of_sender k (taken_by g.desk ++ l)) (sym none_left)

    -- what was received is what the workers of the work sent
    honest : AreHonest count item end runs (map (λ b. drawn_by b.hand) g.backs.items) (taken_by g.desk)
    honest = record {
      shared = λ run. total-map (times run) (λ (b : Back (Parcel T C)). drawn_by b.hand) g.backs.items
          ∙ sym (total-map (λ h. times run (drawn_by h)) (λ (b : Back (Parcel T C)). b.hand) g.backs.items) ∙ dealt run;
      each = λ k share at. let b = from_mapped (λ (b : Back (Parcel T C)). drawn_by b.hand) g.backs.items k share at in
          taken_of k ∙ of_worker k b.0 b.1 ∙ ap (parcels_of count item end) b.2;
      strangers = λ k le. taken_of k ∙ of_stranger k (let m = length-map g.backs.items (λ b. drawn_by b.hand) in let n = gathered.backs in omega (arith, m, n));
    }

    -- so the collector has each run closed, with its items and its tail
    collected : g.collector ≡ map closed_run (lists_of count item end runs)
    collected = gathered.collected ∙ held_whole count item end runs (map (λ b. drawn_by b.hand) g.backs.items) (taken_by g.desk) honest

  -- the collector once the mailbox and the deal are settled
  pub all_collected : (left : List (ℕ × Parcel T C)) (posts : List (Post (Parcel T C))) (hands : List Hand) (dealt : ℕ)
      → 0 < workers → mailbox.senders ≡ workers → posts ≡ map (λ b. b.post) g.backs.items → hands ≡ map (λ b. b.hand) g.backs.items
      → AreWhole mailbox posts (taken_by g.desk ++ left)
      → ((i : ℕ) (hand : Hand) → slice_get hands i ≡ Some hand → is_marked hand ≡ true → dealt ≡ runs)
      → ((run : ℕ) → total (λ h. times run (drawn_by h)) hands ≡ once_below run dealt)
      → g.collector ≡ map closed_run (lists_of count item end runs)
  all_collected left posts hands dealt some senders posts_are hands_are whole full drawn =
      let one = marked some in
      let all : dealt ≡ runs = full 0 one.0.hand (ap (λ l. slice_get l 0) hands_are ∙ one.1) one.2 in
      collected left senders (subst (λ (l : List (Post (Parcel T C))). AreWhole mailbox l (taken_by g.desk ++ left)) posts_are whole)
      (λ run. ap (total (λ h. times run (drawn_by h))) (sym hands_are) ∙ drawn run ∙ ap (once_below run) all)
