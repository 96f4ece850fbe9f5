-- One more of the results that are walked over.
use Rattle.std.proofs.Common.{◌≡◌, ◌<◌, ◌≤◌, ◌+◌, ◌++◌, ◌&&◌, ℕ, suc, Bool, true, false, not, List, [], ◌∷◌, Some, map, drop, length, get_or, append_assoc, refl, sym, ap, ◌∙◌, arith, if◌then◌else◌}
use Rattle.std.proofs.lemmas.List.{append-nil, drop_all, drop_more, get_or-map}
use Rattle.std.specs.Prelude.{IfSome}
use Rattle.sarif_model.specs.declared.kinds.State.{State}
use Rattle.sarif_model.specs.declared.kinds.State.TheVariants.{Absent}
use Rattle.sarif_model.specs.declared.record.Record.{Record}
use Rattle.sarif_counts.specs.Hits.{count_if}
use Rattle.sarif_suppress.specs.declared.suppressions.Applied.{Applied}
use Rattle.sarif_entries.specs.File.{File}
use Rattle.sarif_results.specs.declared.draft.Draft.{Draft}
use Rattle.sarif_results.specs.Drafts.{applied_of}
use Rattle.sarif_entries.specs.declared.entry.Entry.{Entry}
use Rattle.sarif_accept.specs.Adding.{accepted_among, is_hit, stays, MayBeHit}
use Rattle.sarif_accept.specs.Choosing.{accepted_by, alike_among, is_alike, is_other, others_among, Marks}
use Rattle.sarif_upkeep.specs.Internal.Hiding.{is_hidden_at, marks_left}
use Rattle.sarif_upkeep.specs.Merge.{shown_by}
use Rattle.sarif_upkeep.specs.Renewed.{absent_hits, no_entries, staying_among}
use Rattle.sarif_upkeep.proofs.WithoutHidden.{shown_first, shown_past, shown_skip}

-- the first of what is left of a list
pub first_left : {X : Type 0} (xs : List X) (n : ℕ) (x d : X) → n < length xs → x ≡ get_or xs n d → drop n xs ≡ x ∷ drop (n + 1) xs
first_left xs n x d within is = drop_more xs n d within ∙ ap (λ y. y ∷ drop (n + 1) xs) (sym is)

-- what the file makes of a result, by its draft
pub applied_at : (file : File) (rs : List Record) (drafts : List Draft) (n : ℕ) (r dr : Record) (draft dd : Draft)
    → n < length rs → n < length drafts → r ≡ get_or rs n dr → draft ≡ get_or drafts n dd
    → map (λ draft. draft.applied) drafts ≡ map (applied_of file) rs → draft.applied ≡ applied_of file r
applied_at file rs drafts n r dr draft dd in_rs in_drafts r_is draft_is same =
    let none : Applied = draft.applied in
    ap (λ d. d.applied) draft_is
    ∙ sym (get_or-map (λ (d : Draft). d.applied) drafts n dd none in_drafts)
    ∙ ap (λ l. get_or l n none) same
    ∙ get_or-map (applied_of file) rs n dr none in_rs
    ∙ ap (applied_of file) (sym r_is)

module _ (counts : MayBeHit) (file : File) where
  abbrev is_taken : Record → State → Bool
  is_taken r state = is_hit counts file r state && not (stays file r)

  one_accepted : (b : Bool) (r : Record) (old rest : List Record) → (if b then old ++ r ∷ [] else old) ++ rest ≡ old ++ (if b then r ∷ rest else rest)
  one_accepted true r old rest = append_assoc old (r ∷ []) rest
  one_accepted false r old rest = refl

  pub accepted_next : (rs : List Record) (states : List State) (n : ℕ) (r dr : Record) (state ds : State) (old new whole : List Record)
      → n < length rs → n < length states → r ≡ get_or rs n dr → state ≡ get_or states n ds
      → new ≡ (if is_hit counts file r state && not (stays file r) then old ++ r ∷ [] else old)
      → old ++ accepted_among counts file (drop n rs) (drop n states) ≡ whole
      → new ++ accepted_among counts file (drop (n + 1) rs) (drop (n + 1) states) ≡ whole
  accepted_next rs states n r dr state ds old new whole in_rs in_states r_is state_is pushed held =
      let rest = accepted_among counts file (drop (n + 1) rs) (drop (n + 1) states) in
      let opened : accepted_among counts file (drop n rs) (drop n states) ≡ (if is_taken r state then r ∷ rest else rest) =
      ap (λ l. accepted_among counts file l (drop n states)) (first_left rs n r dr in_rs r_is)
      ∙ ap (λ l. accepted_among counts file (r ∷ drop (n + 1) rs) l) (first_left states n state ds in_states state_is) in
      ap (λ l. l ++ rest) pushed ∙ one_accepted (is_taken r state) r old rest ∙ ap (λ l. old ++ l) (sym opened) ∙ held

  -- one more result, by its mark
  pub marked_next : (marks : List Bool) (rs : List Record) (states : List State) (n : ℕ) (mark dm : Bool) (r dr : Record) (state ds : State)
      (old new whole : List Record)
      → n < length marks → n < length rs → n < length states → mark ≡ get_or marks n dm → r ≡ get_or rs n dr → state ≡ get_or states n ds
      → new ≡ (if mark then (if is_hit counts file r state && not (stays file r) then old ++ r ∷ [] else old) else old)
      → old ++ accepted_by (Some (drop n marks)) counts file (drop n rs) (drop n states) ≡ whole
      → new ++ accepted_by (Some (drop (n + 1) marks)) counts file (drop (n + 1) rs) (drop (n + 1) states) ≡ whole
  marked_next marks rs states n mark dm r dr state ds old new whole in_marks in_rs in_states mark_is r_is state_is pushed held =
      let more = drop (n + 1) marks in
      let later = drop (n + 1) rs in
      let after = drop (n + 1) states in
      let rest = accepted_by (Some more) counts file later after in
      let opened : accepted_by (Some (drop n marks)) counts file (drop n rs) (drop n states)
      ≡ accepted_by (Some (mark ∷ more)) counts file (r ∷ later) (state ∷ after) =
      ap (λ l. accepted_by (Some l) counts file (drop n rs) (drop n states)) (first_left marks n mark dm in_marks mark_is)
      ∙ ap (λ l. accepted_by (Some (mark ∷ more)) counts file l (drop n states)) (first_left rs n r dr in_rs r_is)
      ∙ ap (λ l. accepted_by (Some (mark ∷ more)) counts file (r ∷ later) l) (first_left states n state ds in_states state_is) in
      ap (λ l. l ++ rest) pushed ∙ by_mark mark more r later state after old ∙ ap (λ l. old ++ l) (sym opened) ∙ held
    where
      by_mark : (mark : Bool) (marks : List Bool) (r : Record) (rs : List Record) (state : State) (states : List State) (old : List Record)
          → (if mark then (if is_hit counts file r state && not (stays file r) then old ++ r ∷ [] else old) else old)
          ++ accepted_by (Some marks) counts file rs states
          ≡ old ++ accepted_by (Some (mark ∷ marks)) counts file (r ∷ rs) (state ∷ states)
      by_mark true marks r rs state states old = one_accepted (is_taken r state) r old (accepted_by (Some marks) counts file rs states)
      by_mark false marks r rs state states old = refl

  pub marked_end : (marks : List Bool) (rs : List Record) (states : List State) (n : ℕ) (all whole : List Record) → length marks ≤ n
      → all ++ accepted_by (Some (drop n marks)) counts file (drop n rs) (drop n states) ≡ whole → all ≡ whole
  marked_end marks rs states n all whole past held =
      sym (append-nil all)
      ∙ ap (λ l. all ++ accepted_by (Some l) counts file (drop n rs) (drop n states)) (sym (drop_all n marks past))
      ∙ held

  -- what is left of the hits with suppressions after the first n results, without the hidden ones
  abbrev staying_left : Marks → List Record → List State → ℕ → ℕ
  staying_left hidden rs states n =
      staying_among counts file (shown_by (marks_left n hidden) (drop n rs)) (shown_by (marks_left n hidden) (drop n states))

  pub staying_next : (hidden : Marks) (rs : List Record) (states : List State) (n : ℕ) (r dr : Record) (state ds : State) (old one whole : ℕ)
      → n < length rs → n < length states → IfSome hidden (λ hs. n < length hs) → r ≡ get_or rs n dr → state ≡ get_or states n ds
      → is_hidden_at hidden n ≡ false
      → one ≡ count_if (is_hit counts file r state && stays file r) 1
      → old + staying_left hidden rs states n ≡ whole → (old + one) + staying_left hidden rs states (n + 1) ≡ whole
  staying_next hidden rs states n r dr state ds old one whole in_rs in_states in_marks r_is state_is seen counted held =
      let later = shown_by (marks_left (n + 1) hidden) (drop (n + 1) rs) in
      let rest = staying_left hidden rs states (n + 1) in
      let opened : staying_left hidden rs states n ≡ count_if (is_hit counts file r state && stays file r) 1 + rest =
      ap (λ l. staying_among counts file l (shown_by (marks_left n hidden) (drop n states))) (shown_first hidden rs n r dr in_rs in_marks r_is seen)
      ∙ ap (λ l. staying_among counts file (r ∷ later) l) (shown_first hidden states n state ds in_states in_marks state_is seen) in
      omega (arith, counted, opened, held)

  pub staying_skip : (hidden : Marks) (rs : List Record) (states : List State) (n : ℕ) (dr : Record) (ds : State) (old whole : ℕ)
      → n < length rs → n < length states → IfSome hidden (λ hs. n < length hs) → is_hidden_at hidden n ≡ true
      → old + staying_left hidden rs states n ≡ whole → old + staying_left hidden rs states (n + 1) ≡ whole
  staying_skip hidden rs states n dr ds old whole in_rs in_states in_marks hides held =
      let later = shown_by (marks_left (n + 1) hidden) (drop (n + 1) rs) in
      let opened : staying_left hidden rs states n ≡ staying_left hidden rs states (n + 1) =
      ap (λ l. staying_among counts file l (shown_by (marks_left n hidden) (drop n states))) (shown_skip hidden rs n dr in_rs in_marks hides)
      ∙ ap (λ l. staying_among counts file later l) (shown_skip hidden states n ds in_states in_marks hides) in
      omega (arith, opened, held)

  pub staying_end : (hidden : Marks) (rs : List Record) (states : List State) (n all whole : ℕ) → length rs ≤ n
      → all + staying_left hidden rs states n ≡ whole → all ≡ whole
  staying_end hidden rs states n all whole past held =
      let none = ap (λ l. staying_among counts file l (shown_by (marks_left n hidden) (drop n states))) (shown_past hidden rs n past) in
      omega (arith, none, held)

  pub absent_next : (rs : List Record) (taken : List Bool) (n : ℕ) (r dr : Record) (t : Bool) (dt : Bool) (old one whole : ℕ)
      → n < length rs → n < length taken → r ≡ get_or rs n dr → t ≡ get_or taken n dt
      → one ≡ count_if (not t && is_hit counts (no_entries file) r Absent) 1
      → old + absent_hits counts file (drop n rs) (drop n taken) ≡ whole
      → (old + one) + absent_hits counts file (drop (n + 1) rs) (drop (n + 1) taken) ≡ whole
  absent_next rs taken n r dr t dt old one whole in_rs in_taken r_is t_is counted held =
      let rest = absent_hits counts file (drop (n + 1) rs) (drop (n + 1) taken) in
      let opened : absent_hits counts file (drop n rs) (drop n taken) ≡ count_if (not t && is_hit counts (no_entries file) r Absent) 1 + rest =
      ap (λ l. absent_hits counts file l (drop n taken)) (first_left rs n r dr in_rs r_is)
      ∙ ap (λ l. absent_hits counts file (r ∷ drop (n + 1) rs) l) (first_left taken n t dt in_taken t_is) in
      omega (arith, counted, opened, held)

module _ (counts : MayBeHit) (file : File) (es : List Entry) where
  from_zero : (n : ℕ) → n ≡ 0 + n
  from_zero n = omega arith

  one_more : (n : ℕ) → suc n ≡ 1 + n
  one_more n = omega arith

  one_long : (b : Bool) (r : Record) (rs : List Record) → length (if b then r ∷ rs else rs) ≡ count_if b 1 + length rs
  one_long true r rs = one_more (length rs)
  one_long false r rs = from_zero (length rs)

  module _ (hidden : Marks) (marks : List Bool) (rs : List Record) (states : List State) (n : ℕ) where
    -- what is left of these lists after the first n elements, without the hidden ones
    abbrev marks_after : ℕ → List Bool
    marks_after k = shown_by (marks_left k hidden) (drop k marks)

    abbrev records_after : ℕ → List Record
    records_after k = shown_by (marks_left k hidden) (drop k rs)

    abbrev states_after : ℕ → List State
    states_after k = shown_by (marks_left k hidden) (drop k states)

    pub alike_next : (mark dm : Bool) (r dr : Record) (state ds : State) (old one whole : ℕ)
        → n < length marks → n < length rs → n < length states → IfSome hidden (λ hs. n < length hs)
        → mark ≡ get_or marks n dm → r ≡ get_or rs n dr → state ≡ get_or states n ds → is_hidden_at hidden n ≡ false
        → one ≡ count_if (is_alike counts file es mark r state) 1
        → old + length (alike_among counts file es (marks_after n) (records_after n) (states_after n)) ≡ whole
        → (old + one) + length (alike_among counts file es (marks_after (n + 1)) (records_after (n + 1)) (states_after (n + 1))) ≡ whole
    alike_next mark dm r dr state ds old one whole in_marks in_rs in_states in_hidden mark_is r_is state_is seen counted held =
        let rest = alike_among counts file es (marks_after (n + 1)) (records_after (n + 1)) (states_after (n + 1)) in
        let opened : length (alike_among counts file es (marks_after n) (records_after n) (states_after n))
        ≡ count_if (is_alike counts file es mark r state) 1 + length rest =
        ap (λ l. length (alike_among counts file es l (records_after n) (states_after n)))
        (shown_first hidden marks n mark dm in_marks in_hidden mark_is seen)
        ∙ ap (λ l. length (alike_among counts file es (mark ∷ marks_after (n + 1)) l (states_after n)))
        (shown_first hidden rs n r dr in_rs in_hidden r_is seen)
        ∙ ap (λ l. length (alike_among counts file es (mark ∷ marks_after (n + 1)) (r ∷ records_after (n + 1)) l))
        (shown_first hidden states n state ds in_states in_hidden state_is seen)
        ∙ one_long (is_alike counts file es mark r state) r rest in
        omega (arith, counted, opened, held)

    pub others_next : (mark dm : Bool) (r dr : Record) (state ds : State) (old one whole : ℕ)
        → n < length marks → n < length rs → n < length states → IfSome hidden (λ hs. n < length hs)
        → mark ≡ get_or marks n dm → r ≡ get_or rs n dr → state ≡ get_or states n ds → is_hidden_at hidden n ≡ false
        → one ≡ count_if (is_other counts file es mark r state) 1
        → old + length (others_among counts file es (marks_after n) (records_after n) (states_after n)) ≡ whole
        → (old + one) + length (others_among counts file es (marks_after (n + 1)) (records_after (n + 1)) (states_after (n + 1))) ≡ whole
    others_next mark dm r dr state ds old one whole in_marks in_rs in_states in_hidden mark_is r_is state_is seen counted held =
        let rest = others_among counts file es (marks_after (n + 1)) (records_after (n + 1)) (states_after (n + 1)) in
        let opened : length (others_among counts file es (marks_after n) (records_after n) (states_after n))
        ≡ count_if (is_other counts file es mark r state) 1 + length rest =
        ap (λ l. length (others_among counts file es l (records_after n) (states_after n)))
        (shown_first hidden marks n mark dm in_marks in_hidden mark_is seen)
        ∙ ap (λ l. length (others_among counts file es (mark ∷ marks_after (n + 1)) l (states_after n)))
        (shown_first hidden rs n r dr in_rs in_hidden r_is seen)
        ∙ ap (λ l. length (others_among counts file es (mark ∷ marks_after (n + 1)) (r ∷ records_after (n + 1)) l))
        (shown_first hidden states n state ds in_states in_hidden state_is seen)
        ∙ one_long (is_other counts file es mark r state) r rest in
        omega (arith, counted, opened, held)

    pub alike_skip : (dm : Bool) (dr : Record) (ds : State) (old whole : ℕ)
        → n < length marks → n < length rs → n < length states → IfSome hidden (λ hs. n < length hs) → is_hidden_at hidden n ≡ true
        → old + length (alike_among counts file es (marks_after n) (records_after n) (states_after n)) ≡ whole
        → old + length (alike_among counts file es (marks_after (n + 1)) (records_after (n + 1)) (states_after (n + 1))) ≡ whole
    alike_skip dm dr ds old whole in_marks in_rs in_states in_hidden hides held =
        ap (λ l. old + length l)
        (sym (ap (λ l. alike_among counts file es l (records_after n) (states_after n)) (shown_skip hidden marks n dm in_marks in_hidden hides)
        ∙ ap (λ l. alike_among counts file es (marks_after (n + 1)) l (states_after n)) (shown_skip hidden rs n dr in_rs in_hidden hides)
        ∙ ap (λ l. alike_among counts file es (marks_after (n + 1)) (records_after (n + 1)) l) (shown_skip hidden states n ds in_states in_hidden hides)))
        ∙ held

    pub others_skip : (dm : Bool) (dr : Record) (ds : State) (old whole : ℕ)
        → n < length marks → n < length rs → n < length states → IfSome hidden (λ hs. n < length hs) → is_hidden_at hidden n ≡ true
        → old + length (others_among counts file es (marks_after n) (records_after n) (states_after n)) ≡ whole
        → old + length (others_among counts file es (marks_after (n + 1)) (records_after (n + 1)) (states_after (n + 1))) ≡ whole
    others_skip dm dr ds old whole in_marks in_rs in_states in_hidden hides held =
        ap (λ l. old + length l)
        (sym (ap (λ l. others_among counts file es l (records_after n) (states_after n)) (shown_skip hidden marks n dm in_marks in_hidden hides)
        ∙ ap (λ l. others_among counts file es (marks_after (n + 1)) l (states_after n)) (shown_skip hidden rs n dr in_rs in_hidden hides)
        ∙ ap (λ l. others_among counts file es (marks_after (n + 1)) (records_after (n + 1)) l) (shown_skip hidden states n ds in_states in_hidden hides)))
        ∙ held

    pub alike_end : (all whole : ℕ) → length marks ≤ n
        → all + length (alike_among counts file es (marks_after n) (records_after n) (states_after n)) ≡ whole → all ≡ whole
    alike_end all whole past held =
        let none = ap (λ l. length (alike_among counts file es l (records_after n) (states_after n))) (shown_past hidden marks n past) in
        omega (arith, none, held)

    pub others_end : (all whole : ℕ) → length marks ≤ n
        → all + length (others_among counts file es (marks_after n) (records_after n) (states_after n)) ≡ whole → all ≡ whole
    others_end all whole past held =
        let none = ap (λ l. length (others_among counts file es l (records_after n) (states_after n))) (shown_past hidden marks n past) in
        omega (arith, none, held)
