-- The numbers of accepting add up to the number of hits that the gate checks.
use Rattle.std.proofs.Common.{◌≡◌, ◌+◌, ◌&&◌, ℕ, suc, Bool, true, false, not, List, [], ◌∷◌, Some, None, length, refl, ap, arith, if◌then◌else◌}
use Rattle.std.specs.Prelude.{option_map, unwrap_or, IfSome}
use Rattle.sarif_counts.specs.Hits.{count_if}
use Rattle.sarif_model.specs.declared.kinds.State.{State}
use Rattle.sarif_model.specs.declared.record.Record.{Record}
use Rattle.sarif_options.specs.declared.upkeep.Renewal.{Renewal}
use Rattle.sarif_entries.specs.File.{File}
use Rattle.sarif_read.specs.Unmarked.{unmarked}
use Rattle.sarif_accept.specs.Adding.{accepted_among, is_hit, may_hit, stays, MayBeHit}
use Rattle.sarif_accept.specs.Choosing.{accepted_by, passing, Marks}
use Rattle.sarif_accept_laws.proofs.ChosenCounted.{all_counted}
use Rattle.sarif_upkeep.specs.Merge.{chosen_shown, marks_by, records_shown, shown_by, states_shown, Merge}
use Rattle.sarif_upkeep.specs.Renewed.{accepted_in, alike_in, current_stay, entries_added, renewed, stay_in, staying_among}
use Rattle.sarif_laws.specs.LookedAt.{hits_looked_at}

-- ---- lists without what is hidden

unmarked_many : {X Y : Type 0} (hidden : List Bool) (xs : List X) (ys : List Y) → length xs ≡ length ys
    → length (unmarked hidden xs) ≡ length (unmarked hidden ys)
unmarked_many [] xs ys same = refl
unmarked_many (h ∷ hs) [] [] same = refl
unmarked_many (h ∷ hs) [] (y ∷ ys) same = absurd (omega (arith, same))
unmarked_many (h ∷ hs) (x ∷ xs) [] same = absurd (omega (arith, same))
unmarked_many (true ∷ hs) (x ∷ xs) (y ∷ ys) same = unmarked_many hs xs ys (omega (arith, same))
unmarked_many (false ∷ hs) (x ∷ xs) (y ∷ ys) same = ap suc (unmarked_many hs xs ys (omega (arith, same)))

shown_many : {X Y : Type 0} (hidden : Marks) (xs : List X) (ys : List Y) → length xs ≡ length ys
    → length (shown_by hidden xs) ≡ length (shown_by hidden ys)
shown_many None xs ys same = same
shown_many (Some hs) xs ys same = unmarked_many hs xs ys same

marks_many : {X : Type 0} (hidden chosen : Marks) (xs : List X) → IfSome chosen (λ marks. length marks ≡ length xs)
    → IfSome (marks_by hidden chosen) (λ marks. length marks ≡ length (shown_by hidden xs))
marks_many None chosen xs same = same
marks_many (Some hs) None xs same = same
marks_many (Some hs) (Some marks) xs same = unmarked_many hs marks xs same

-- ---- the hits among current results

module _ (counts : MayBeHit) (file : File) where
  one_of : (hit stay : Bool) (r : Record) (passed accepted : List Record) (staying : ℕ) → length passed ≡ length accepted + staying
      → length (if hit then r ∷ passed else passed)
      ≡ length (if hit && not stay then r ∷ accepted else accepted) + (count_if (hit && stay) 1 + staying)
  one_of true true r passed accepted staying same = omega (arith, same)
  one_of true false r passed accepted staying same = omega (arith, same)
  one_of false stay r passed accepted staying same = omega (arith, same)

  accepted_or_stay : (rs : List Record) (states : List State)
      → length (passing (is_hit counts file) rs states) ≡ length (accepted_among counts file rs states) + staying_among counts file rs states
  accepted_or_stay [] states = omega arith
  accepted_or_stay (r ∷ rs) [] = omega arith
  accepted_or_stay (r ∷ rs) (state ∷ states) =
      one_of (is_hit counts file r state) (stays file r) r (passing (is_hit counts file) rs states) (accepted_among counts file rs states)
      (staying_among counts file rs states) (accepted_or_stay rs states)

module _ (m : Merge) (renewal : Renewal) (accepts : renewal.accept ≡ true) where
  told : (n : ℕ) → count_if renewal.accept n ≡ n
  told n = ap (λ b. count_if b n) accepts

  current_told : (marks : Marks) → length (states_shown m) ≡ length (records_shown m)
      → IfSome marks (λ chosen. length chosen ≡ length (records_shown m))
      → length (passing (is_hit (may_hit m.policy) m.file) (records_shown m) (states_shown m))
      ≡ length (accepted_by marks (may_hit m.policy) m.file (records_shown m) (states_shown m))
      + (unwrap_or (option_map (λ chosen. count_if renewal.accept (alike_in m renewal chosen)) marks) 0 + current_stay m renewal marks)
  current_told None states long =
      let here = accepted_or_stay (may_hit m.policy) m.file (records_shown m) (states_shown m) in
      omega (arith, here)
  current_told (Some marks) states long =
      let here = all_counted (may_hit m.policy) m.file (entries_added m renewal) marks (records_shown m) (states_shown m) long states in
      let alike = told (alike_in m renewal marks) in
      omega (arith, here, alike)

pub hits_told : (m : Merge) (renewal : Renewal) → renewal.accept ≡ true → length m.states ≡ length m.records
    → IfSome m.chosen (λ marks. length marks ≡ length m.records)
    → hits_looked_at m ≡ (renewed m renewal).accepted + (unwrap_or (renewed m renewal).alike 0 + (renewed m renewal).stay)
hits_told m renewal accepts states marks =
    let here = current_told m renewal accepts (chosen_shown m) (shown_many m.hidden m.states m.records states)
    (marks_many m.hidden m.chosen m.records marks) in
    let accepted = told m renewal accepts (length (accepted_in m)) in
    let stay = told m renewal accepts (stay_in m renewal) in
    omega (arith, here, accepted, stay)
