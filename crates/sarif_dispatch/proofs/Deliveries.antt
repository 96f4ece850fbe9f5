-- Each step of a mailbox keeps the delivery core.
use Rattle.std.proofs.Common.{◌≡◌, ◌≢◌, ℕ, zero, suc, ◌+◌, ◌<◌, ◌≤◌, ◌⊎◌, cond, List, [], ◌∷◌, ◌++◌, map, length, set, eqb, refl, sym, ap, ◌∙◌, subst, inl, inr, ⊎_elim, arith, append_assoc, append-nil, length-append, length-set, eq-eqb, ne_eqb}
use Rattle.std.specs.Prelude.{filter}
use Rattle.std.proofs.lemmas.Bool.{cases_eq}
use mathlib.Core.Option.{some, some-injective, some-ne-none}
use lib.ListN.{get_elem?}
use Rattle.crossbeam_queue.specs.Fifo.{Pushes, Pops, Forks, Merges, Learns}
use Rattle.crossbeam_queue.proofs.Lists.{at_set, at_snoc, set_here, set_else, at_longer}
use Rattle.sarif_dispatch.specs.declared.mailbox.rule.View.{View}
use Rattle.sarif_dispatch.specs.declared.mailbox.rule.View.TheVariants.{Taker, Sender, Gone}
use Rattle.sarif_dispatch.specs.Senders.{of_sender}
use Rattle.sarif_dispatch.specs.Delivery.{FitsSender, Settles, Delivers, taken_in, made_in, settled_in, number_in, sent_in}

pub within : {A : Type 0} (l : List A) (i : ℕ) (a : A) → get_elem? l i ≡ some a → i < length l
within [] i a e = absurd (some-ne-none a (sym e))
within (x ∷ xs) zero a e = omega arith
within (x ∷ xs) (suc i) a e = let h = within xs i a e in omega arith

module _ {P : Type 0} where
  pub of-append : (k : ℕ) (a b : List (ℕ × P)) → of_sender k (a ++ b) ≡ of_sender k a ++ of_sender k b
  of-append k [] b = refl
  of-append k (x ∷ a) b = ⊎_elim
      (λ (h : x.0 ≡ k). let t = eq-eqb x.0 k h in
      ap (λ c. map (λ e. e.1) (cond c (x ∷ filter (λ e. eqb e.0 k) (a ++ b)) (filter (λ e. eqb e.0 k) (a ++ b)))) t
      ∙ ap (λ l. x.1 ∷ l) (of-append k a b)
      ∙ sym (ap (λ c. map (λ e. e.1) (cond c (x ∷ filter (λ e. eqb e.0 k) a) (filter (λ e. eqb e.0 k) a)) ++ of_sender k b) t))
      (λ (h : x.0 ≡ k → ⊥). let t = ne_eqb x.0 k h in
      ap (λ c. map (λ e. e.1) (cond c (x ∷ filter (λ e. eqb e.0 k) (a ++ b)) (filter (λ e. eqb e.0 k) (a ++ b)))) t
      ∙ of-append k a b
      ∙ sym (ap (λ c. map (λ e. e.1) (cond c (x ∷ filter (λ e. eqb e.0 k) a) (filter (λ e. eqb e.0 k) a)) ++ of_sender k b) t))
      (cases_eq x.0 k)

  pub of_same : (k : ℕ) (x : P) (h : List (ℕ × P)) → of_sender k ((k, x) ∷ h) ≡ x ∷ of_sender k h
  of_same k x h = ap (λ c. map (λ e. e.1) (cond c ((k, x) ∷ filter (λ e. eqb e.0 k) h) (filter (λ e. eqb e.0 k) h))) (eq-eqb k k refl)

  pub of_other : (j k : ℕ) (x : P) (h : List (ℕ × P)) → j ≢ k → of_sender k ((j, x) ∷ h) ≡ of_sender k h
  of_other j k x h n = ap (λ c. map (λ e. e.1) (cond c ((j, x) ∷ filter (λ e. eqb e.0 k) h) (filter (λ e. eqb e.0 k) h))) (ne_eqb j k n)

  push_same : (k : ℕ) (x : P) (taken items : List (ℕ × P)) → of_sender k (taken ++ (items ++ (k, x) ∷ [])) ≡ of_sender k (taken ++ items) ++ x ∷ []
  push_same k x taken items = ap (of_sender k) (sym (append_assoc taken items ((k, x) ∷ []))) ∙ of-append k (taken ++ items) ((k, x) ∷ [])
      ∙ ap (λ l. of_sender k (taken ++ items) ++ l) (of_same k x [])

  push_other : (j k : ℕ) (x : P) (taken items : List (ℕ × P)) → j ≢ k → of_sender k (taken ++ (items ++ (j, x) ∷ [])) ≡ of_sender k (taken ++ items)
  push_other j k x taken items n =
      ap (of_sender k) (sym (append_assoc taken items ((j, x) ∷ []))) ∙ of-append k (taken ++ items) ((j, x) ∷ [])
      ∙ ap (λ l. of_sender k (taken ++ items) ++ l) (of_other j k x [] n) ∙ append-nil (of_sender k (taken ++ items))

  at_end : (l : List (View P)) (a b : View P) (i : ℕ) → get_elem? (l ++ a ∷ []) i ≡ some b → (get_elem? l i ≡ some b) ⊎ ((i ≡ length l) × (a ≡ b))
  at_end [] a b zero e = inr (refl, some-injective a b e)
  at_end [] a b (suc i) e = absurd (some-ne-none b (sym e))
  at_end (x ∷ xs) a b zero e = inl e
  at_end (x ∷ xs) a b (suc i) e = ⊎_elim (λ h. inl h) (λ h. inr (ap suc h.0, h.1)) (at_end xs a b i e)

  -- the delivery core, of a taker's view that is known
  record Known (taken : List (ℕ × P)) (made : ℕ) (settled : List (ℕ × List P)) (items : List (ℕ × P)) (views : List (View P)) : Type 0 where
    taker : get_elem? views 0 ≡ some (Taker taken made settled)
    count : length views ≡ made + 1
    senders : (k : ℕ) (v : View P) → get_elem? views (suc k) ≡ some v → FitsSender (of_sender k (taken ++ items)) k v
    strangers : (k : ℕ) → made ≤ k → of_sender k (taken ++ items) ≡ []
    past : (i k : ℕ) (s : List P) → get_elem? settled i ≡ some (k, s) → (s ≡ of_sender k (taken ++ items)) × (get_elem? views (suc k) ≡ some Gone)

  -- the taker has end 0
  taker_at : (views : List (View P)) (port : ℕ) (t : List (ℕ × P)) (m : ℕ) (s : List (ℕ × List P)) (items : List (ℕ × P))
      → Delivers items views → get_elem? views port ≡ some (Taker t m s) → port ≡ 0
  taker_at views zero t m s items h at = refl
  taker_at views (suc k) t m s items h at = absurd (h.senders k (Taker t m s) at)

  known : (views : List (View P)) (port : ℕ) (t : List (ℕ × P)) (m : ℕ) (s : List (ℕ × List P)) (items : List (ℕ × P))
      → Delivers items views → get_elem? views port ≡ some (Taker t m s) → Known t m s items views
  known views port t m s items h at =
      let is : Taker h.taken h.made h.settled ≡ Taker t m s =
      some-injective _ _ (sym h.taker ∙ ap (get_elem? views) (sym (taker_at views port t m s items h at)) ∙ at) in
      let F : View P → Type 0 = λ v. Known (taken_in v) (made_in v) (settled_in v) items views in
      let here : F (Taker h.taken h.made h.settled) =
      record { taker = h.taker; count = h.count; senders = h.senders; strangers = h.strangers; past = h.past } in
      subst F is here

  pub begins : Delivers {P = P} [] (Taker [] 0 [] ∷ [])
  begins = record {
    taken = [];
    made = 0;
    settled = [];
    taker = refl;
    count = refl;
    senders = λ k v at. absurd (some-ne-none v (sym at));
    strangers = λ k h. refl;
    past = λ i k s at. absurd (some-ne-none (k, s) (sym at));
  }

  pub pushes : (n port k : ℕ) (s : List P) (x : P) → Pushes Delivers n port (Sender k s) (k, x) (λ w. w ≡ Sender k (s ++ x ∷ []))
  pushes n zero k s x items views room h at = let e : Taker h.taken h.made h.settled ≡ Sender k s = some-injective _ _ (sym h.taker ∙ at) in cc
  pushes n (suc j) k s x items views room h at =
      let mine = h.senders j (Sender k s) at in
      let w : View P = Sender k (s ++ x ∷ []) in
      let low = within views (suc j) (Sender k s) at in (
        w,
        record {
          taken = h.taken;
          made = h.made;
          settled = h.settled;
          taker = set_else views (suc j) 0 w (λ e. omega arith) ∙ h.taker;
          count = length-set views (suc j) w ∙ h.count;
          senders = λ k' v at'. ⊎_elim
              (λ e. let same : j ≡ k' = omega arith in let F : View P → Type 0 = λ u. FitsSender (of_sender k' (h.taken ++ (items ++ (k, x) ∷ []))) k' u in
              subst F e.1 (
                mine.0 ∙ same,
                ap (λ l. l ++ x ∷ []) mine.1 ∙ ap (λ i. of_sender i (h.taken ++ items) ++ x ∷ []) (sym mine.0)
                    ∙ sym (push_same k x h.taken items) ∙ ap (λ i. of_sender i (h.taken ++ (items ++ (k, x) ∷ []))) (mine.0 ∙ same),
              ))
              (λ e. let other : k ≢ k' = λ q. e.0 (ap suc (sym q ∙ mine.0)) in
              subst (λ l. FitsSender l k' v) (sym (push_other k k' x h.taken items other)) (h.senders k' v e.1))
              (at_set views (suc j) (suc k') w v at');
          strangers = λ k' le. push_other k k' x h.taken items (λ q. let c = h.count in let mine' = mine.0 in omega arith) ∙ h.strangers k' le;
          past = λ i k' s' at'.
              let p = h.past i k' s' at' in
              let other : k' ≢ j = λ q. let e : Sender k s ≡ Gone = some-injective _ _ (sym at ∙ ap (λ a. get_elem? views (suc a)) (sym q) ∙ p.1) in cc in
              (p.0 ∙ sym (push_other k k' x h.taken items (λ q. other (sym q ∙ mine.0))), set_else views (suc j) (suc k') w (λ q. other (omega arith)) ∙ p.1);
        },
        refl,
      )

  pub pops : (port : ℕ) (t : List (ℕ × P)) (m : ℕ) (s : List (ℕ × List P)) → Pops Delivers port (Taker t m s) (λ x w. w ≡ Taker (t ++ x ∷ []) m s)
  pops zero t m s x items views h at =
      let k = known views 0 t m s (x ∷ items) h at in
      let w : View P = Taker (t ++ x ∷ []) m s in
      let moved : (n : ℕ) → of_sender n (t ++ x ∷ items) ≡ of_sender n ((t ++ x ∷ []) ++ items) =
      λ n. ap (of_sender n) (sym (append_assoc t (x ∷ []) items)) in (
        w,
        record {
          taken = t ++ x ∷ [];
          made = m;
          settled = s;
          taker = set_here views 0 w (within views 0 (Taker t m s) at);
          count = length-set views 0 w ∙ k.count;
          senders = λ j v at'. subst (λ l. FitsSender l j v) (moved j) (k.senders j v (sym (set_else views 0 (suc j) w (λ e. omega arith)) ∙ at'));
          strangers = λ j le. sym (moved j) ∙ k.strangers j le;
          past = λ i j s' at'. let p = k.past i j s' at' in (p.0 ∙ moved j, set_else views 0 (suc j) w (λ e. omega arith) ∙ p.1);
        },
        refl,
      )
  pops (suc k) t m s x items views h at = absurd (h.senders k (Taker t m s) at)

  pub forks : (port : ℕ) (t : List (ℕ × P)) (m : ℕ) (s : List (ℕ × List P)) → Forks Delivers port (Taker t m s) (Taker t (m + 1) s) (Sender m [])
  forks zero t m s items views h at =
      let k = known views 0 t m s items h at in
      let l : View P = Taker t (m + 1) s in
      let r : View P = Sender m [] in
      let vs = set views 0 l in
      record {
        taken = t;
        made = m + 1;
        settled = s;
        taker = at_longer vs (r ∷ []) 0 l (set_here views 0 l (within views 0 (Taker t m s) at));
        count = length-append vs (r ∷ []) ∙ ap (λ n. n + 1) (length-set views 0 l ∙ k.count);
        senders = λ j v at'. ⊎_elim
            (λ e. k.senders j v (sym (set_else views 0 (suc j) l (λ q. omega arith)) ∙ e))
            (λ (e : (suc j ≡ length vs) × (r ≡ v)). let same : m ≡ j = (let c = k.count in let d = length-set views 0 l in omega (arith, e.0)) in
            let F : View P → Type 0 =
            λ u. FitsSender (of_sender j (t ++ items)) j u in subst F e.1
            (same, sym (ap (λ i. of_sender i (t ++ items)) (sym same) ∙ k.strangers m (omega arith))))
            (at_end vs r v (suc j) at');
        strangers = λ j le. k.strangers j (omega arith);
        past = λ i j s' at'. let p = k.past i j s' at' in (p.0, at_longer vs (r ∷ []) (suc j) Gone (set_else views 0 (suc j) l (λ q. omega arith) ∙ p.1));
      }
  forks (suc k) t m s items views h at = absurd (h.senders k (Taker t m s) at)

  pub merges : (port : ℕ) (t : List (ℕ × P)) (m : ℕ) (s : List (ℕ × List P)) (other k : ℕ) (sent : List P)
      → Merges Delivers port (Taker t m s) other (Sender k sent) (Taker t m (s ++ (k, sent) ∷ [])) Gone
  merges zero t m s zero k sent items views h at apart at' = absurd (apart refl)
  merges zero t m s (suc j) k sent items views h at apart at' =
      let kn = known views 0 t m s items h at in
      let both : View P = Taker t m (s ++ (k, sent) ∷ []) in
      let vs = set views 0 both in
      let was : get_elem? views (suc j) ≡ some (Sender k sent) = sym (set_else views 0 (suc j) both (λ q. omega arith)) ∙ at' in
      let mine = kn.senders j (Sender k sent) was in
      let gone : get_elem? (set vs (suc j) Gone) (suc j) ≡ some Gone = set_here vs (suc j) Gone (within vs (suc j) (Sender k sent) at') in
      record {
        taken = t;
        made = m;
        settled = s ++ (k, sent) ∷ [];
        taker = set_else vs (suc j) 0 Gone (λ q. omega arith) ∙ set_here views 0 both (within views 0 (Taker t m s) at);
        count = length-set vs (suc j) Gone ∙ length-set views 0 both ∙ kn.count;
        senders = λ i v at''. ⊎_elim
            (λ e. let F : View P → Type 0 = λ u. FitsSender (of_sender i (t ++ items)) i u in subst F e.1 tt)
            (λ e. kn.senders i v (sym (set_else views 0 (suc i) both (λ q. omega arith)) ∙ e.1))
            (at_set vs (suc j) (suc i) Gone v at'');
        strangers = kn.strangers;
        past = λ i n s' at''. ⊎_elim
            (λ e. let p = kn.past i n s' e in (
              p.0,
              ⊎_elim (λ (q : n ≡ j). ap (λ a. get_elem? (set vs (suc j) Gone) (suc a)) q ∙ gone)
                  (λ (q : n ≡ j → ⊥). set_else vs (suc j) (suc n) Gone (λ b. q (omega arith))
                  ∙ set_else views 0 (suc n) both (λ b. omega arith) ∙ p.1) (cases_eq n j),
            ))
            (λ (e : (k, sent) ≡ (n, s')). let number : k ≡ n = ap (λ x. x.0) e in let list : sent ≡ s' = ap (λ x. x.1) e in (
              sym list ∙ mine.1 ∙ ap (λ a. of_sender a (t ++ items)) (sym mine.0 ∙ number),
              ap (λ a. get_elem? (set vs (suc j) Gone) (suc a)) (sym number ∙ mine.0) ∙ gone,
            ))
            (at_snoc s (k, sent) (n, s') i at'');
      }
  merges (suc p) t m s other k sent items views h at apart at' = absurd (h.senders p (Taker t m s) at)

  pub learns : (port : ℕ) (t : List (ℕ × P)) (m : ℕ) (s : List (ℕ × List P)) → Learns Delivers port (Taker t m s) (Settles t m s)
  learns port t m s items views h at = let k =
      known views port t m s items h at in record { strangers = k.strangers; past = λ i j s' at'. (k.past i j s' at').0 }

  -- the rules for a view that is known to have this form
  pub sends : (n port k : ℕ) (s : List P) (x : P) (v : View P) → v ≡ Sender k s
      → Pushes Delivers n port v (k, x) (λ w. w ≡ Sender (number_in v) (sent_in v ++ x ∷ []))
  sends n port k s x v is = let F : View P
      → Type 0 = λ v. Pushes Delivers n port v (k, x) (λ w. w ≡ Sender (number_in v) (sent_in v ++ x ∷ [])) in subst F
      (sym is) (pushes n port k s x)

  pub takes : (port m : ℕ) (t : List (ℕ × P)) (s : List (ℕ × List P)) (v : View P) → v ≡ Taker t m s
      → Pops Delivers port v (λ x w. w ≡ Taker (taken_in v ++ x ∷ []) (made_in v) (settled_in v))
      × Learns Delivers port v (Settles (taken_in v) (made_in v) (settled_in v))
  takes port m t s v is =
      let F : View P → Type 0 =
      λ v. Pops Delivers port v (λ x w. w ≡ Taker (taken_in v ++ x ∷ []) (made_in v) (settled_in v))
      × Learns Delivers port v (Settles (taken_in v) (made_in v) (settled_in v)) in
      subst F (sym is) (pops port t m s, learns port t m s)

  pub enlists : (port m : ℕ) (t : List (ℕ × P)) (s : List (ℕ × List P)) (v : View P) → v ≡ Taker t m s
      → Forks Delivers port v (Taker (taken_in v) (made_in v + 1) (settled_in v)) (Sender (made_in v) [])
  enlists port m t s v is = let F : View P
      → Type 0 = λ v. Forks Delivers port v (Taker (taken_in v) (made_in v + 1) (settled_in v)) (Sender (made_in v) []) in subst F
      (sym is) (forks port t m s)

  pub returns : (port m : ℕ) (t : List (ℕ × P)) (s : List (ℕ × List P)) (v : View P) (other k : ℕ) (sent : List P) (w : View P)
      → v ≡ Taker t m s → w ≡ Sender k sent
      → Merges Delivers port v other w (Taker (taken_in v) (made_in v) (settled_in v ++ (number_in w, sent_in w) ∷ [])) Gone
  returns port m t s v other k sent w is is' =
      let F : View P → View P → Type 0 =
      λ v w. Merges Delivers port v other w (Taker (taken_in v) (made_in v) (settled_in v ++ (number_in w, sent_in w) ∷ [])) Gone in
      subst (λ v. F v w) (sym is) (subst (λ w. F (Taker t m s) w) (sym is') (merges port t m s other k sent))
