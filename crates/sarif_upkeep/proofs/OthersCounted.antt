-- How many hits are alike and how many stay, and which are accepted, as a matched merge has them.
use Rattle.std.proofs.Common.{◌≡◌, ℕ, Bool, true, false, List, [], ◌∷◌, Bor, Option, Some, None, map, length, refl, sym, ap, ◌∙◌, ◌+◌, subst}
use Rattle.std.specs.Prelude.{◌≤◌, option_map, unwrap_or, IfSome}
use Rattle.sarif_counts.specs.Hits.{count_if}
use Rattle.sarif_entries.specs.declared.entry.Entry.{Entry}
use Rattle.sarif_model.specs.declared.kinds.State.{State}
use Rattle.sarif_model.specs.declared.record.Record.{Record}
use Rattle.sarif_options.specs.declared.policy.Policy.{Policy}
use Rattle.sarif_options.specs.declared.upkeep.Renewal.{Renewal}
use Rattle.sarif_accept.specs.Adding.{accepted_among, entry_read, may_hit}
use Rattle.sarif_accept.specs.Choosing.{accepted_by, alike_among, others_among, Marks}
use Rattle.sarif_upkeep.specs.Hiding.{looked_at}
use Rattle.sarif_upkeep.specs.Internal.Hiding.{lent}
use Rattle.sarif_upkeep.specs.Internal.IsMatched.{IsMatched}
use Rattle.sarif_upkeep.specs.Merge.{chosen_shown, marks_by, records_shown, shown_by, states_shown, Merge}
use Rattle.sarif_upkeep.specs.declared.matched.Matched.{Matched}
use Rattle.sarif_upkeep.specs.Renewed.{absent_by, absent_hits, absent_stay, accepted_in, alike_in, alike_told, current_stay, entries_added, stay_in, staying_among}
use Rattle.sarif_upkeep.proofs.WithoutHidden.{looked_long}
use Rattle.sarif_upkeep.proofs.Inside.{accepted_shown, none_absent}

-- ---- the numbers of a merge

-- the added entries of lent results are those of their values
pub entries_lent : (reason : Option (List ℕ)) (until : Option ℕ) (added : List (Bor Record))
    → map (λ r. entry_read r.now reason until) added ≡ map (λ r. entry_read r reason until) (map (λ r. r.now) added)
entries_lent reason until [] = refl
entries_lent reason until (x ∷ xs) = ap (λ l. entry_read x.now reason until ∷ l) (entries_lent reason until xs)

module _ (m : Merge) (renewal : Renewal) (policy : Policy) (es : List Entry) (hidden : Marks) (marks : List Bool) (rs : List Record) (states : List State)
    (policy_is : policy ≡ m.policy) (es_are : es ≡ entries_added m renewal) (hidden_is : hidden ≡ m.hidden) (rs_are : rs ≡ m.records)
    (states_are : states ≡ m.states) where
  pub alike_same : length (alike_among (may_hit policy) m.file es (shown_by hidden marks) (shown_by hidden rs) (shown_by hidden states))
      ≡ alike_in m renewal (shown_by m.hidden marks)
  alike_same =
      ap (λ p. length (alike_among (may_hit p) m.file es (shown_by hidden marks) (shown_by hidden rs) (shown_by hidden states))) policy_is
      ∙ ap (λ l. length (alike_among (may_hit m.policy) m.file l (shown_by hidden marks) (shown_by hidden rs) (shown_by hidden states))) es_are
      ∙ ap (λ h. length (alike_among (may_hit m.policy) m.file (entries_added m renewal) (shown_by h marks) (shown_by h rs) (shown_by h states))) hidden_is
      ∙ ap (λ l. length (alike_among (may_hit m.policy) m.file (entries_added m renewal) (shown_by m.hidden marks) (shown_by m.hidden l)
      (shown_by m.hidden states))) rs_are
      ∙ ap (λ l. length (alike_among (may_hit m.policy) m.file (entries_added m renewal) (shown_by m.hidden marks) (records_shown m)
      (shown_by m.hidden l))) states_are

  pub others_same : length (others_among (may_hit policy) m.file es (shown_by hidden marks) (shown_by hidden rs) (shown_by hidden states))
      ≡ current_stay m renewal (Some (shown_by m.hidden marks))
  others_same =
      ap (λ p. length (others_among (may_hit p) m.file es (shown_by hidden marks) (shown_by hidden rs) (shown_by hidden states))) policy_is
      ∙ ap (λ l. length (others_among (may_hit m.policy) m.file l (shown_by hidden marks) (shown_by hidden rs) (shown_by hidden states))) es_are
      ∙ ap (λ h. length (others_among (may_hit m.policy) m.file (entries_added m renewal) (shown_by h marks) (shown_by h rs) (shown_by h states))) hidden_is
      ∙ ap (λ l. length (others_among (may_hit m.policy) m.file (entries_added m renewal) (shown_by m.hidden marks) (shown_by m.hidden l)
      (shown_by m.hidden states))) rs_are
      ∙ ap (λ l. length (others_among (may_hit m.policy) m.file (entries_added m renewal) (shown_by m.hidden marks) (records_shown m)
      (shown_by m.hidden l))) states_are

-- the marks of what isn't hidden
marks_none : (hidden : Marks) → marks_by hidden None ≡ None
marks_none None = refl
marks_none (Some hs) = refl

marks_some : (hidden : Marks) (marks : List Bool) → marks_by hidden (Some marks) ≡ Some (shown_by hidden marks)
marks_some None marks = refl
marks_some (Some hs) marks = refl

module _ (m : Merge) (renewal : Renewal) where
  -- the number of those that are alike, by the marks of a choice
  abbrev told : List Bool → ℕ
  told marks = count_if renewal.accept (alike_in m renewal marks)

  -- where nothing is accepted none is alike
  pub none_alike : (chosen : Option (Bor (List Bool))) → option_map (λ marks. marks.now) chosen ≡ m.chosen
      → renewal.accept ≡ false → option_map (λ _. 0) chosen ≡ alike_told m renewal
  none_alike chosen is refuses = by_choice m.hidden chosen ∙ ap (λ o. option_map told (marks_by m.hidden o)) is
    where
      by_choice : (hidden : Marks) (chosen : Option (Bor (List Bool)))
          → option_map (λ _. 0) chosen ≡ option_map told (marks_by hidden (option_map (λ marks. marks.now) chosen))
      by_choice hidden None = ap (option_map told) (sym (marks_none hidden))
      by_choice hidden (Some marks) =
          ap (λ b. Some (count_if b (alike_in m renewal (shown_by hidden marks.now)))) (sym refuses)
          ∙ ap (option_map told) (sym (marks_some hidden marks.now))

  -- where hits are accepted
  pub some_alike : (chosen : Option (Bor (List Bool))) (marks : Bor (List Bool)) (n : ℕ)
      → option_map (λ marks. marks.now) chosen ≡ m.chosen → chosen ≡ Some marks → renewal.accept ≡ true
      → n ≡ alike_in m renewal (shown_by m.hidden marks.now) → Some n ≡ alike_told m renewal
  some_alike chosen marks n is some accepts count =
      ap Some count ∙ ap (λ b. Some (count_if b (alike_in m renewal (shown_by m.hidden marks.now)))) (sym accepts)
      ∙ ap (option_map told) (sym (marks_some m.hidden marks.now))
      ∙ ap (λ o. option_map told (marks_by m.hidden (option_map (λ marks. marks.now) o))) (sym some)
      ∙ ap (λ o. option_map told (marks_by m.hidden o)) is

  pub none_told : (chosen : Option (Bor (List Bool))) → option_map (λ marks. marks.now) chosen ≡ m.chosen
      → chosen ≡ None → None ≡ alike_told m renewal
  none_told chosen is none =
      ap (option_map told) (sym (marks_none m.hidden))
      ∙ ap (λ o. option_map told (marks_by m.hidden (option_map (λ marks. marks.now) o))) (sym none)
      ∙ ap (λ o. option_map told (marks_by m.hidden o)) is

  -- how many stay, where hits are accepted
  pub stay_told : (chosen : Option (Bor (List Bool))) (here absent : ℕ)
      → option_map (λ marks. marks.now) chosen ≡ m.chosen → renewal.accept ≡ true
      → here ≡ current_stay m renewal (marks_by m.hidden (option_map (λ marks. marks.now) chosen))
      → absent ≡ absent_stay m → here + absent ≡ count_if renewal.accept (stay_in m renewal)
  stay_told chosen here absent is accepts here_is absent_is =
      ap (λ n. n + absent) (here_is ∙ ap (λ o. current_stay m renewal (marks_by m.hidden o)) is)
      ∙ ap (λ n. current_stay m renewal (chosen_shown m) + n) absent_is
      ∙ ap (λ b. count_if b (stay_in m renewal)) (sym accepts)

  -- the number of current hits that stay, if all hits are chosen and if only the marked ones are
  pub stay_of_all : (chosen : Option (Bor (List Bool))) (n : ℕ) → chosen ≡ None
      → n ≡ current_stay m renewal None → n ≡ current_stay m renewal (marks_by m.hidden (option_map (λ marks. marks.now) chosen))
  stay_of_all chosen n none count =
      count ∙ ap (current_stay m renewal) (sym (marks_none m.hidden))
      ∙ ap (λ o. current_stay m renewal (marks_by m.hidden (option_map (λ marks. marks.now) o))) (sym none)

  pub stay_of_marked : (chosen : Option (Bor (List Bool))) (marks : Bor (List Bool)) (n : ℕ) → chosen ≡ Some marks
      → n ≡ current_stay m renewal (Some (shown_by m.hidden marks.now))
      → n ≡ current_stay m renewal (marks_by m.hidden (option_map (λ marks. marks.now) chosen))
  stay_of_marked chosen marks n some count =
      count ∙ ap (current_stay m renewal) (sym (marks_some m.hidden marks.now))
      ∙ ap (λ o. current_stay m renewal (marks_by m.hidden (option_map (λ marks. marks.now) o))) (sym some)

-- ---- the choice of a matched merge

module _ (m : Merge) (matched : Matched) (is : IsMatched m matched) where
  chosen_none : matched.chosen ≡ None → m.chosen ≡ None
  chosen_none none = sym is.chosen ∙ ap (option_map (λ marks. marks.now)) none

  chosen_some : (marks : Bor (List Bool)) → matched.chosen ≡ Some marks → m.chosen ≡ Some marks.now
  chosen_some marks some = sym is.chosen ∙ ap (option_map (λ marks. marks.now)) some

  pub marks_long : (marks : Bor (List Bool)) → matched.chosen ≡ Some marks → length marks.now ≡ length matched.current.records.now
  marks_long marks some =
      subst (λ o. IfSome o (λ ms. length ms ≡ length m.records)) (chosen_some marks some) is.chosen_long ∙ sym (ap length is.current.records)

  -- what is hidden
  pub hidden_none : matched.hidden ≡ None → m.hidden ≡ None
  hidden_none none = sym is.hidden ∙ ap (option_map (λ marks. marks.now)) none

  pub hidden_some : (hidden : Bor (List Bool)) → matched.hidden ≡ Some hidden → m.hidden ≡ Some hidden.now
  hidden_some hidden some = sym is.hidden ∙ ap (option_map (λ marks. marks.now)) some

  pub hidden_long : IfSome (lent matched.hidden) (λ hs. length hs ≡ length matched.current.records.now)
  hidden_long =
      subst (λ o. IfSome o (λ hs. length hs ≡ length matched.current.records.now)) (sym is.hidden)
      (subst (λ (k : ℕ). IfSome m.hidden (λ hs. length hs ≡ k)) (sym (ap length is.current.records)) is.hidden_long)

  hidden_as_records : (hidden : List Bool) → m.hidden ≡ Some hidden → length hidden ≡ length m.records
  hidden_as_records hidden some = subst (λ o. IfSome o (λ hs. length hs ≡ length m.records)) some is.hidden_long

  pub hidden_as_chosen : (hidden : List Bool) → m.hidden ≡ Some hidden → IfSome (lent matched.chosen) (λ ms. length ms ≡ length hidden)
  hidden_as_chosen hidden some =
      subst (λ o. IfSome o (λ ms. length ms ≡ length hidden)) (sym is.chosen)
      (subst (λ (k : ℕ). IfSome m.chosen (λ ms. length ms ≡ k)) (sym (hidden_as_records hidden some)) is.chosen_long)

  pub looked_as_records : (hidden : List Bool) → m.hidden ≡ Some hidden
      → length (looked_at hidden (lent matched.chosen)) ≡ length matched.current.records.now
  looked_as_records hidden some =
      looked_long hidden (lent matched.chosen) (hidden_as_chosen hidden some) ∙ hidden_as_records hidden some ∙ sym (ap length is.current.records)

  same_accepted : (chosen : Marks)
      → accepted_by chosen (may_hit matched.policy) m.file matched.current.records.now matched.current.states.now
      ≡ accepted_by chosen (may_hit m.policy) m.file m.records m.states
  same_accepted chosen =
      ap (λ p. accepted_by chosen (may_hit p) m.file matched.current.records.now matched.current.states.now) is.policy
      ∙ ap (λ l. accepted_by chosen (may_hit m.policy) m.file l matched.current.states.now) is.current.records
      ∙ ap (λ l. accepted_by chosen (may_hit m.policy) m.file m.records l) is.current.states

  of_all_results : m.hidden ≡ None → accepted_by m.chosen (may_hit m.policy) m.file m.records m.states ≡ accepted_in m
  of_all_results none =
      sym (ap (λ h. accepted_by (marks_by h m.chosen) (may_hit m.policy) m.file (shown_by h m.records) (shown_by h m.states)) none)

  -- all hits are chosen
  pub accepted_all : m.hidden ≡ None → matched.chosen ≡ None
      → accepted_among (may_hit matched.policy) m.file matched.current.records.now matched.current.states.now ≡ accepted_in m
  accepted_all shown none =
      same_accepted None ∙ ap (λ o. accepted_by o (may_hit m.policy) m.file m.records m.states) (sym (chosen_none none)) ∙ of_all_results shown

  -- the marked ones are
  pub accepted_some : m.hidden ≡ None → (marks : Bor (List Bool)) → matched.chosen ≡ Some marks
      → accepted_by (Some marks.now) (may_hit matched.policy) m.file matched.current.records.now matched.current.states.now ≡ accepted_in m
  accepted_some shown marks some =
      same_accepted (Some marks.now) ∙ ap (λ o. accepted_by o (may_hit m.policy) m.file m.records m.states) (sym (chosen_some marks some))
      ∙ of_all_results shown

  -- with hidden results, the accepted hits are the chosen ones that aren't hidden
  pub accepted_unless : (hidden : List Bool) → m.hidden ≡ Some hidden
      → accepted_by (Some (looked_at hidden (lent matched.chosen))) (may_hit matched.policy) m.file matched.current.records.now matched.current.states.now
      ≡ accepted_in m
  accepted_unless hidden some =
      same_accepted (Some (looked_at hidden (lent matched.chosen)))
      ∙ ap (λ o. accepted_by (Some (looked_at hidden o)) (may_hit m.policy) m.file m.records m.states) is.chosen
      ∙ sym (accepted_shown m hidden some (hidden_as_records hidden some) is.current.states_long)

  pub staying_same : staying_among (may_hit matched.policy) m.file (shown_by (lent matched.hidden) matched.current.records.now)
      (shown_by (lent matched.hidden) matched.current.states.now)
      ≡ staying_among (may_hit m.policy) m.file (records_shown m) (states_shown m)
  staying_same =
      let rs = matched.current.records.now in
      let states = matched.current.states.now in
      ap (λ p. staying_among (may_hit p) m.file (shown_by (lent matched.hidden) rs) (shown_by (lent matched.hidden) states)) is.policy
      ∙ ap (λ h. staying_among (may_hit m.policy) m.file (shown_by h rs) (shown_by h states)) is.hidden
      ∙ ap (λ l. staying_among (may_hit m.policy) m.file (shown_by m.hidden l) (shown_by m.hidden states)) is.current.records
      ∙ ap (λ l. staying_among (may_hit m.policy) m.file (records_shown m) (shown_by m.hidden l)) is.current.states

  pub absent_same : absent_hits (may_hit matched.policy) m.file matched.before.records.now matched.before.taken.now
      ≡ absent_hits (may_hit m.policy) m.file m.known m.taken
  absent_same =
      ap (λ p. absent_hits (may_hit p) m.file matched.before.records.now matched.before.taken.now) is.policy
      ∙ ap (λ l. absent_hits (may_hit m.policy) m.file l matched.before.taken.now) is.before.records
      ∙ ap (λ l. absent_hits (may_hit m.policy) m.file m.known l) is.before.taken

  -- how many absent results are hits by the options
  abbrev by_options : ℕ
  by_options = absent_by m.hidden (absent_hits (may_hit m.policy) m.file m.known m.taken)

  pub absent_of_all : matched.hidden ≡ None
      → absent_hits (may_hit matched.policy) m.file matched.before.records.now matched.before.taken.now ≡ by_options
  absent_of_all none =
      absent_same ∙ sym (ap (λ h. absent_by h (absent_hits (may_hit m.policy) m.file m.known m.taken)) (hidden_none none))

  pub absent_of_none : (hidden : Bor (List Bool)) → matched.hidden ≡ Some hidden → 0 ≡ by_options
  absent_of_none hidden some = sym (none_absent m hidden.now (hidden_some hidden some))

  pub absent_unruled : matched.absent ≡ None → by_options ≡ absent_stay m
  absent_unruled none = ap (λ o. unwrap_or o by_options) (sym (sym is.absent ∙ none))

  -- with conditions of a policy
  pub absent_ruled : (hits : ℕ) → matched.absent ≡ Some hits → hits ≡ absent_stay m
  absent_ruled hits some = ap (λ o. unwrap_or o by_options) (sym some ∙ is.absent)

  pub absent_fewer : (hits : ℕ) → matched.absent ≡ Some hits → hits ≤ length matched.before.records.now
  absent_fewer hits some =
      subst (λ k. hits ≤ k) (sym (ap length is.before.records)) (subst (λ o. IfSome o (λ n. n ≤ length m.known)) (sym is.absent ∙ some) is.absent_few)
