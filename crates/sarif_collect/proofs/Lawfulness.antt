-- One run: its pieces are accepted, and close it, if and only if they are lawful; the run is then what they
-- assemble to.
use Rattle.std.proofs.Common.{◌≡◌, ◌≢◌, ℕ, zero, suc, ◌+◌, ◌<◌, ◌≤◌, cond, ltb, Bool, true, false, List, [], ◌∷◌, ◌++◌, map, length, Option, Some, None, refl, sym, ap, ◌∙◌, subst, ⊎_elim, arith, append-nil, append_assoc, zero-add}
use Rattle.std.specs.Prelude.{is_none}
use Rattle.std.specs.List.{range_with_len, enumerate_from}
use Rattle.std.specs.Ordering.{nat_cmp}
use Rattle.std.specs.BTreeMap.{insert_entry}
use Rattle.std.proofs.lemmas.Bool.{true≢false, cases_lt, lt-ltb, le-ltb}
use Rattle.std.proofs.lemmas.List.FromFn.{length-map-range_with_len}
use Rattle.sarif_collect.specs.declared.piece.Piece.{Piece}
use Rattle.sarif_collect.specs.declared.piece.Piece.TheVariants.{Item, Close}
use Rattle.sarif_collect.specs.declared.piece.Why.{Why}
use Rattle.sarif_collect.specs.declared.piece.Why.TheVariants.{Double, Short}
use Rattle.sarif_collect.specs.Collecting.{refusal_at, step_at, run_after}
use Rattle.sarif_collect.specs.Held.{Held, Whole, empty_run, closed_run}
use Rattle.sarif_collect.specs.Lawful.{bodies_at, in_order, bodies_in, tails_in, IsLawfulRun, assembled_run}
use Rattle.sarif_collect.specs.Numbers.{has_number, counts_up}
use Rattle.sarif_collect.specs.Piece.{run_in}
use Rattle.sarif_collect.specs.Pieces.{pieces_of}
use Rattle.sarif_collect.proofs.Bodies.{absent, Tells, tells_more, Rising, rising-insert, counts, row_in, row_above, in_order_row, length-enumerate, counts_length}
use Rattle.sarif_dispatch.proofs.Deliveries.{of_same, of-append}
use Rattle.sarif_collect.proofs.Numbering.{counted}

not_double : (b : Bool) (w : Why) → cond b (Some w) None ≡ None → b ≡ false
not_double true w e = absurd (cc)
not_double false w e = refl

not_short : (b : Bool) (w : Why) → cond b None (Some w) ≡ None → b ≡ true
not_short true w e = refl
not_short false w e = absurd (cc)

short : {A : Type 0} (xs : List A) (y : A) (ys : List A) → length (xs ++ y ∷ ys) ≤ 1 → xs ≡ []
short [] y ys le = refl
short (x ∷ []) y ys le = absurd (omega arith)
short (x ∷ x' ∷ xs) y ys le = absurd (omega arith)

numbered_from : {T : Type 0} (item : ℕ → T) (a n : ℕ) → map (λ s. (s, item s)) (range_with_len a n) ≡ enumerate_from a (map item (range_with_len a n))
numbered_from item a zero = refl
numbered_from item a (suc n) = ap (λ l. (a, item a) ∷ l) (numbered_from item (a + 1) n)

module _ {T C : Type 0} where
  -- no piece of the run is rejected
  abbrev pub Accepted : Held T C → List (Piece T C) → Type 0
  Accepted h [] = Unit {0}
  Accepted h (p ∷ ps) = (refusal_at h p ≡ None) × Accepted (step_at h p) ps

  abbrev pub open_with : List (ℕ × T) → Held T C
  open_with es = record { bodies = es; tail = None }

  -- after the close nothing is accepted
  after_close : (bodies : List (ℕ × T)) (tail : C) (ps : List (Piece T C)) → Accepted (record { bodies = bodies; tail = Some tail }) ps → ps ≡ []
  after_close bodies tail [] ok = refl
  after_close bodies tail (p ∷ ps) ok = absurd (let e = ok.0 in cc)

  -- pieces that are accepted and close the run leave it whole
  pub whole_after : (es : List (ℕ × T)) (ps : List (Piece T C)) → Accepted (open_with es) ps
      → is_none (run_after (open_with es) ps).tail ≡ false → (w : Whole T C) × (run_after (open_with es) ps ≡ closed_run w)
  whole_after es [] ok closed = absurd (true≢false closed)
  whole_after es (Item r s b ∷ ps) ok closed = whole_after (insert_entry nat_cmp es s b) ps ok.1 closed
  whole_after es (Close r c t ∷ ps) ok closed =
      let w : Whole T C = record { items = map (λ e. e.1) es; tail = t } in
      let none : ps ≡ [] = after_close es t ps ok.1 in
      let row : es ≡ enumerate_from 0 (map (λ e. e.1) es) = counted 0 c es (not_short (counts_up 0 c es) Short ok.0) in
      (w, ap (run_after (record { bodies = es; tail = Some t })) none ∙ ap (λ l. record { bodies = l; tail = Some t }) row)

  -- all these pieces are of the run
  abbrev pub AreOf : ℕ → List (Piece T C) → Type 0
  AreOf run [] = Unit {0}
  AreOf run (p ∷ ps) = (run_in p ≡ run) × AreOf run ps

  -- what is known about a run's pieces once it is closed, if these bodies came before them
  pub record Ends (run : ℕ) (bodies : List (ℕ × T)) (ps : List (Piece T C)) (w : Whole T C) : Type 0 where
    pub more : List (ℕ × T)
    pub order : ps ≡ map (λ b. Item run b.0 b.1) more ++ Close run (length (bodies ++ more)) w.tail ∷ []
    pub tells : Tells (enumerate_from 0 w.items) (bodies ++ more)

  pub ends : (run : ℕ) (es bodies : List (ℕ × T)) (ps : List (Piece T C)) (w : Whole T C) → Tells es bodies → AreOf run ps → Accepted (open_with es) ps
      → run_after (open_with es) ps ≡ closed_run w → Ends run bodies ps w
  ends run es bodies [] w t mine ok is = absurd (let e : None ≡ Some w.tail = ap (λ h. h.tail) is in cc)
  ends run es bodies (Item r s b ∷ ps) w t mine ok is =
      let fresh = not_double (has_number s es) Double ok.0 in
      let later = ends run (insert_entry nat_cmp es s b) (bodies ++ (s, b) ∷ []) ps w (tells_more s b es bodies fresh t) mine.1 ok.1 is in
      record {
        more = (s, b) ∷ later.more;
        order = (λ i. Item (mine.0 i) s b ∷ later.order i)
            ∙ ap (λ (l : List (ℕ × T)). map (λ c. Item run c.0 c.1) ((s, b) ∷ later.more) ++ Close run (length l) w.tail ∷ [])
            (append_assoc bodies ((s, b) ∷ []) later.more);
        tells = subst (Tells (enumerate_from 0 w.items)) (append_assoc bodies ((s, b) ∷ []) later.more) later.tells;
      }
  ends run es bodies (Close r c t' ∷ ps) w t mine ok is =
      let all = not_short (counts_up 0 c es) Short ok.0 in
      let none : ps ≡ [] = after_close es t' ps ok.1 in
      let end : ◌≡◌ {A = Held T C} (record { bodies = es; tail = Some t' }) (closed_run w) =
      sym (ap (run_after (record { bodies = es; tail = Some t' })) none) ∙ is in
      let same_tail : Some t' ≡ Some w.tail = ap (λ h. h.tail) end in
      let tail : t' ≡ w.tail = cc in
      let count : c ≡ length (bodies ++ []) = counts_length 0 c es all ∙ zero-add (length es) ∙ t.len ∙ ap length (sym (append-nil bodies)) in
      record {
        more = [];
        order = λ i. Close (mine.0 i) (count i) (tail i) ∷ none i;
        tells = subst (Tells (enumerate_from 0 w.items)) (sym (append-nil bodies)) (subst (λ l. Tells l bodies) (ap (λ h. h.bodies) end) t);
      }

  -- so they are lawful
  pub lawful_run : (run : ℕ) (ps : List (Piece T C)) (w : Whole T C) → Ends run [] ps w → IsLawfulRun run ps
  lawful_run run ps w e =
      let len : length w.items ≡ length e.more = sym (length-enumerate 0 w.items) ∙ e.tells.len in
      record {
        bodies = e.more;
        tail = w.tail;
        order = e.order;
        numbers = λ k. ⊎_elim
            (λ (h : k < length e.more). ap length (sym (e.tells.at k)) ∙ row_in 0 k w.items (omega arith) (omega (arith, len))
            ∙ sym (ap (λ b. cond {A = ℕ} b 1 0) (lt-ltb k (length e.more) h)))
            (λ (h : length e.more ≤ k). ap length (sym (e.tells.at k)) ∙ ap length (row_above 0 k w.items (omega (arith, len)))
            ∙ sym (ap (λ b. cond {A = ℕ} b 1 0) (le-ltb k (length e.more) h)))
            (cases_lt k (length e.more));
      }

  -- and assemble to what the run is
  bodies_of : (run : ℕ) (bodies : List (ℕ × T)) (count : ℕ) (tail : C) → bodies_in (map (λ b. Item run b.0 b.1) bodies ++ Close run count tail ∷ []) ≡ bodies
  bodies_of run [] count tail = refl
  bodies_of run (b ∷ bodies) count tail = ap (λ l. b ∷ l) (bodies_of run bodies count tail)

  tails_of : (run : ℕ) (bodies : List (ℕ × T)) (count : ℕ) (tail : C) → tails_in (map (λ b. Item run b.0 b.1) bodies ++ Close run count tail ∷ []) ≡ tail ∷ []
  tails_of run [] count tail = refl
  tails_of run (b ∷ bodies) count tail = tails_of run bodies count tail

  pub assembles : (run : ℕ) (ps : List (Piece T C)) (w : Whole T C) → Ends run [] ps w → assembled_run ps ≡ w ∷ []
  assembles run ps w e =
      let bodies : bodies_in ps ≡ e.more = ap bodies_in e.order ∙ bodies_of run e.more (length e.more) w.tail in
      let tails : tails_in ps ≡ w.tail ∷ [] = ap tails_in e.order ∙ tails_of run e.more (length e.more) w.tail in
      let items : in_order (bodies_in ps) ≡ w.items = ap in_order bodies ∙ in_order_row w.items e.more e.tells in
      λ i. map (λ tail. record { items = items i; tail = tail }) (tails i)

  -- lawful pieces are accepted, and close the run
  module _ (run count : ℕ) (tail : C) (all : List (ℕ × T)) (len : count ≡ length all)
      (numbers : (k : ℕ) → length (bodies_at k all) ≡ cond (ltb k (length all)) 1 0) where
    at_most_one : (k : ℕ) → length (bodies_at k all) ≤ 1
    at_most_one k = ⊎_elim
        (λ (h : k < length all). let e = numbers k ∙ ap (λ b. cond {A = ℕ} b 1 0) (lt-ltb k (length all) h) in omega (arith, e))
        (λ (h : length all ≤ k). let e = numbers k ∙ ap (λ b. cond {A = ℕ} b 1 0) (le-ltb k (length all) h) in omega (arith, e))
        (cases_lt k (length all))

    there : (k : ℕ) → k < length all → bodies_at k all ≢ []
    there k lt none = let one = numbers k
        ∙ ap (λ b. cond {A = ℕ} b 1 0) (lt-ltb k (length all) lt) in let zero_here : length (bodies_at k all) ≡ 0 =
        ap length none in omega (arith, one, zero_here)

    none_before : (done more : List (ℕ × T)) (b : ℕ × T) → all ≡ done ++ b ∷ more → bodies_at b.0 done ≡ []
    none_before done more b is =
        let parts : bodies_at b.0 all ≡ bodies_at b.0 done ++ b.1 ∷ bodies_at b.0 more = ap (bodies_at b.0) is
        ∙ of-append b.0 done (b ∷ more) ∙ ap (λ l. bodies_at b.0 done ++ l) (of_same b.0 b.1 more) in
        short (bodies_at b.0 done) b.1 (bodies_at b.0 more) (subst (λ l. length l ≤ 1) parts (at_most_one b.0))

    pub closes : (es done more : List (ℕ × T)) → all ≡ done ++ more → Rising 0 es → Tells es done
        → Accepted (open_with es) (map (λ b. Item run b.0 b.1) more ++ Close run count tail ∷ [])
        × (is_none (run_after (open_with es) (map (λ b. Item run b.0 b.1) more ++ Close run count tail ∷ [])).tail ≡ false)
    closes es done [] is up t =
        let same : all ≡ done = is ∙ append-nil done in
        let total_length : length es ≡ count = t.len ∙ ap length (sym same) ∙ sym len in
        let up_to : counts_up 0 count es ≡ true =
        counts 0 count es up (omega (arith, total_length))
        (λ k low high none. there k (omega (arith, len)) (ap (bodies_at k) same ∙ sym (t.at k) ∙ none)) in
        ((ap (λ b. cond {A = Option Why} b None (Some Short)) up_to, tt), refl)
    closes es done (b ∷ more) is up t =
        let fresh : has_number b.0 es ≡ false = absent b.0 es (t.at b.0 ∙ none_before done more b is) in
        let later = closes (insert_entry nat_cmp es b.0 b.1) (done ++ b ∷ []) more (is ∙ sym (append_assoc done (b ∷ []) more))
        (rising-insert 0 b.0 b.1 es fresh (omega arith) up) (tells_more b.0 b.1 es done fresh t) in
        ((ap (λ c. cond {A = Option Why} c (Some Double) None) fresh, later.0), later.1)

  pub accepts_lawful : (run : ℕ) (ps : List (Piece T C)) → IsLawfulRun run ps → Accepted empty_run ps × (is_none (run_after empty_run ps).tail ≡ false)
  accepts_lawful run ps l =
      let F : List (Piece T C) → Type 0 = λ q. Accepted empty_run q × (is_none (run_after empty_run q).tail ≡ false) in
      subst F (sym l.order) (closes run (length l.bodies) l.tail l.bodies refl l.numbers [] [] l.bodies refl tt (record { len = refl; at = λ k. refl }))

  -- a work's own pieces of a run are lawful
  items_numbered : (run : ℕ) (item : ℕ → T) (l : List ℕ)
      → ◌≡◌ {A = List (Piece T C)} (map (λ s. Item run s (item s)) l) (map (λ (b : ℕ × T). Item run b.0 b.1) (map (λ s. (s, item s)) l))
  items_numbered run item [] = refl
  items_numbered run item (s ∷ l) = ap (λ r. Item run s (item s) ∷ r) (items_numbered run item l)

  pub lawful_pieces : (run : ℕ) (item : ℕ → T) (count : ℕ) (end : C) → IsLawfulRun run (pieces_of run item count end)
  lawful_pieces run item count end =
      let bodies : List (ℕ × T) = map (λ s. (s, item s)) (range_with_len 0 count) in
      let xs : List T = map item (range_with_len 0 count) in
      let len_xs : length xs ≡ count = length-map-range_with_len item 0 count in
      let row : bodies ≡ enumerate_from 0 xs = numbered_from item 0 count in
      let len : length bodies ≡ count = ap length row ∙ length-enumerate 0 xs ∙ len_xs in
      record {
        bodies = bodies;
        tail = end;
        order = λ i. items_numbered run item (range_with_len 0 count) i ++ Close run (sym len i) end ∷ [];
        numbers = λ k. ⊎_elim
            (λ (h : k < length bodies). ap (λ l. length (bodies_at k l)) row ∙ row_in 0 k xs (omega arith) (omega (arith, len, len_xs))
            ∙ sym (ap (λ b. cond {A = ℕ} b 1 0) (lt-ltb k (length bodies) h)))
            (λ (h : length bodies ≤ k). ap (λ l. length (bodies_at k l)) row ∙ ap length (row_above 0 k xs (omega (arith, len, len_xs)))
            ∙ sym (ap (λ b. cond {A = ℕ} b 1 0) (le-ltb k (length bodies) h)))
            (cases_lt k (length bodies));
      }
