-- Accepting with a change is choosing what isn't hidden.
use Rattle.std.proofs.Common.{◌≡◌, Bool, List, [], Some, None, map, length, sym, ap, ap₂, ◌∙◌, arith, if◌then◌else◌}
use Rattle.std.specs.Prelude.{unwrap_or}
use Rattle.sarif_evidence.specs.Seen.{as_matched}
use Rattle.sarif_options.specs.declared.upkeep.Renewal.{Renewal}
use Rattle.sarif_accept.specs.Adding.{accepted_among, may_hit, once_each}
use Rattle.sarif_accept.specs.Choosing.{accepted_by}
use Rattle.sarif_accept.specs.Entry.{entry_for}
use Rattle.sarif_accept.specs.NewFile.{entries_after, file_object, new_file}
use Rattle.sarif_upkeep.specs.Hiding.{choosing_shown}
use Rattle.sarif_upkeep.specs.Merge.{marks_by, shown_by, Merge}
use Rattle.sarif_upkeep.specs.Renewed.{absent_by, absent_hits, absent_stay, accepted_in, added_in, kept_in, renewal_faults, rules_after, text_faults}
use Rattle.sarif_upkeep.proofs.WithoutHidden.{chosen_looked_at}

module _ (m : Merge) (hidden : List Bool) where
  pub none_absent : m.hidden ≡ Some hidden → absent_by m.hidden (absent_hits (may_hit m.policy) m.file m.known m.taken) ≡ 0
  none_absent some = ap (λ h. absent_by h (absent_hits (may_hit m.policy) m.file m.known m.taken)) some

  pub none_stay : m.hidden ≡ Some hidden → m.absent ≡ None → absent_stay m ≡ 0
  none_stay some none =
      ap (λ o. unwrap_or o (absent_by m.hidden (absent_hits (may_hit m.policy) m.file m.known m.taken))) none ∙ none_absent some

  pub accepted_shown : m.hidden ≡ Some hidden → length hidden ≡ length m.records → length m.states ≡ length m.records
      → accepted_in m ≡ accepted_in (choosing_shown hidden m)
  accepted_shown some many same =
      ap (λ h. accepted_by (marks_by h m.chosen) (may_hit m.policy) m.file (shown_by h m.records) (shown_by h m.states)) some
      ∙ ap₂ (accepted_among (may_hit m.policy) m.file) (sym (chosen_looked_at hidden m.chosen m.records many))
      (sym (chosen_looked_at hidden m.chosen m.states (omega (arith, many, same))))

module _ (m : Merge) (hidden : List Bool) (renewal : Renewal) (some : m.hidden ≡ Some hidden) (many : length hidden ≡ length m.records)
    (same : length m.states ≡ length m.records) where
  pub added_shown : added_in m renewal ≡ added_in (choosing_shown hidden m) renewal
  added_shown = ap (λ rs. if renewal.accept then once_each [] (map (as_matched m.matching) rs) else []) (accepted_shown m hidden some many same)

  pub file_shown : rules_after m renewal ≡ rules_after (choosing_shown hidden m) renewal
  file_shown =
      ap (λ rs. new_file (file_object m.bytes) (kept_in m renewal) (map (λ r. entry_for r renewal.reason renewal.until) rs)) added_shown

  pub faults_shown : renewal_faults m renewal ≡ renewal_faults (choosing_shown hidden m) renewal
  faults_shown =
      ap (λ rs. text_faults (length (entries_after (file_object m.bytes) (kept_in m renewal) (map (λ r. entry_for r renewal.reason renewal.until) rs)))
      (new_file (file_object m.bytes) (kept_in m renewal) (map (λ r. entry_for r renewal.reason renewal.until) rs))) added_shown
