-- Each hit is accepted, alike or left.
use Rattle.std.proofs.Common.{◌≡◌, ℕ, ◌+◌, ◌<◌, suc, Bool, true, false, ◌&&◌, ◌||◌, not, List, [], ◌∷◌, length, get_or, Some, refl, sym, ap, ◌∙◌, arith, if◌then◌else◌, true≢false}
use Rattle.sarif_model.specs.declared.kinds.State.{State}
use Rattle.sarif_model.specs.declared.record.Record.{Record}
use Rattle.sarif_entries.specs.declared.entry.Entry.{Entry}
use Rattle.sarif_entries.specs.File.{File}
use Rattle.sarif_accept.specs.Adding.{How, MayBeHit, accepted_among, is_hit, stays}
use Rattle.sarif_accept.specs.Choosing.{accepted_by, added_by, alike_among, entries_read, is_acceptable, is_left, is_met, is_other, others_among, passing}
use Rattle.sarif_accept.specs.Keeping.{chosen}
use Rattle.sarif_accept.specs.Until.{IsUntil}
use Rattle.sarif_accept_laws.proofs.AfterChosen.{added_meet}

-- how long a list with a result more is, if it has it
long_if : (b : Bool) (r : Record) (rs : List Record) → length (if b then r ∷ rs else rs) ≡ (if b then suc (length rs) else length rs)
long_if true r rs = refl
long_if false r rs = refl

-- a result that is chosen
step_chosen : (hit stay met : Bool) (h a b c : ℕ) → ((hit && not stay) ≡ true → met ≡ true) → h ≡ a + (b + c)
    → (if hit then suc h else h) ≡ (if hit && not stay then suc a else a) + (b + (if hit && (stay || not met) then suc c else c))
step_chosen false stay met h a b c so is = is
step_chosen true true met h a b c so is = omega (arith, is)
step_chosen true false true h a b c so is = omega (arith, is)
step_chosen true false false h a b c so is = absurd (true≢false (sym (so refl)))

-- a result that isn't
step_other : (hit stay met : Bool) (h a b c : ℕ) → h ≡ a + (b + c)
    → (if hit then suc h else h)
    ≡ a + ((if (hit && not stay) && met then suc b else b) + (if hit && (stay || not met) then suc c else c))
step_other false stay met h a b c is = is
step_other true true met h a b c is = omega (arith, is)
step_other true false true h a b c is = omega (arith, is)
step_other true false false h a b c is = omega (arith, is)

module _ (counts : MayBeHit) (file : File) (es : List Entry) where
  -- each chosen hit that can be accepted is matched by one of the entries
  abbrev AreMet : List Bool → List Record → List State → Type 0
  AreMet marks rs states = (i : ℕ) (r : Record) (state : State) → i < length rs → get_or marks i false ≡ true
      → get_or rs i r ≡ r → get_or states i state ≡ state → is_acceptable counts file r state ≡ true → is_met file es r ≡ true

  met_after : (mark : Bool) (marks : List Bool) (r : Record) (rs : List Record) (state : State) (states : List State)
      → AreMet (mark ∷ marks) (r ∷ rs) (state ∷ states) → AreMet marks rs states
  met_after mark marks r rs state states met = λ i x s within chosen is at can. met (suc i) x s (omega (arith, within)) chosen is at can

  each_counted : (marks : List Bool) (rs : List Record) (states : List State) → length marks ≡ length rs → length states ≡ length rs
      → AreMet marks rs states
      → length (passing (is_hit counts file) rs states)
      ≡ length (accepted_among counts file (chosen marks rs) (chosen marks states))
      + (length (alike_among counts file es marks rs states) + length (passing (is_left counts file es) rs states))
  each_counted [] [] states long even met = refl
  each_counted [] (r ∷ rs) states long even met = absurd (omega (arith, long))
  each_counted (mark ∷ marks) [] states long even met = absurd (omega (arith, long))
  each_counted (mark ∷ marks) (r ∷ rs) [] long even met = absurd (omega (arith, even))
  each_counted (true ∷ marks) (r ∷ rs) (state ∷ states) long even met =
      let rest = each_counted marks rs states (omega (arith, long)) (omega (arith, even)) (met_after true marks r rs state states met) in
      let hit = is_hit counts file r state in
      let left = is_left counts file es r state in
      let others = alike_among counts file es marks rs states in
      long_if hit r (passing (is_hit counts file) rs states)
      ∙ step_chosen hit (stays file r) (is_met file es r) (length (passing (is_hit counts file) rs states))
      (length (accepted_among counts file (chosen marks rs) (chosen marks states))) (length others)
      (length (passing (is_left counts file es) rs states))
      (λ can. met 0 r state (omega arith) refl refl refl can) rest
      ∙ ap (λ n. n + (length others + (if left then suc (length (passing (is_left counts file es) rs states))
      else length (passing (is_left counts file es) rs states))))
      (sym (long_if (is_acceptable counts file r state) r (accepted_among counts file (chosen marks rs) (chosen marks states))))
      ∙ ap (λ n. length (accepted_among counts file (chosen (true ∷ marks) (r ∷ rs)) (chosen (true ∷ marks) (state ∷ states))) + (length others + n))
      (sym (long_if left r (passing (is_left counts file es) rs states)))
  each_counted (false ∷ marks) (r ∷ rs) (state ∷ states) long even met =
      let rest = each_counted marks rs states (omega (arith, long)) (omega (arith, even)) (met_after false marks r rs state states met) in
      let hit = is_hit counts file r state in
      let left = is_left counts file es r state in
      let alike = is_acceptable counts file r state && is_met file es r in
      let others = alike_among counts file es marks rs states in
      let accepted = length (accepted_among counts file (chosen marks rs) (chosen marks states)) in
      let over = passing (is_left counts file es) rs states in
      long_if hit r (passing (is_hit counts file) rs states)
      ∙ step_other hit (stays file r) (is_met file es r) (length (passing (is_hit counts file) rs states)) accepted (length others) (length over) rest
      ∙ ap (λ n. accepted + (n + (if left then suc (length over) else length over))) (sym (long_if alike r others))
      ∙ ap (λ n. accepted + (length (if alike then r ∷ others else others) + n)) (sym (long_if left r over))

-- ---- with any entries

-- a result that is chosen
step_kept : (hit stay : Bool) (h a b c : ℕ) → h ≡ a + (b + c)
    → (if hit then suc h else h) ≡ (if hit && not stay then suc a else a) + (b + (if hit && (stay || false) then suc c else c))
step_kept false stay h a b c is = is
step_kept true true h a b c is = omega (arith, is)
step_kept true false h a b c is = omega (arith, is)

module _ (counts : MayBeHit) (file : File) (es : List Entry) where
  pub all_counted : (marks : List Bool) (rs : List Record) (states : List State) → length marks ≡ length rs → length states ≡ length rs
      → length (passing (is_hit counts file) rs states)
      ≡ length (accepted_among counts file (chosen marks rs) (chosen marks states))
      + (length (alike_among counts file es marks rs states) + length (others_among counts file es marks rs states))
  all_counted [] [] states long even = refl
  all_counted [] (r ∷ rs) states long even = absurd (omega (arith, long))
  all_counted (mark ∷ marks) [] states long even = absurd (omega (arith, long))
  all_counted (mark ∷ marks) (r ∷ rs) [] long even = absurd (omega (arith, even))
  all_counted (true ∷ marks) (r ∷ rs) (state ∷ states) long even =
      let rest = all_counted marks rs states (omega (arith, long)) (omega (arith, even)) in
      let hit = is_hit counts file r state in
      let other = is_other counts file es true r state in
      let alike = alike_among counts file es marks rs states in
      let others = others_among counts file es marks rs states in
      let accepted = accepted_among counts file (chosen marks rs) (chosen marks states) in
      let all = passing (is_hit counts file) rs states in
      long_if hit r all
      ∙ step_kept hit (stays file r) (length all) (length accepted) (length alike) (length others) rest
      ∙ ap (λ n. n + (length alike + (if other then suc (length others) else length others)))
      (sym (long_if (is_acceptable counts file r state) r accepted))
      ∙ ap (λ n. length (accepted_among counts file (chosen (true ∷ marks) (r ∷ rs)) (chosen (true ∷ marks) (state ∷ states))) + (length alike + n))
      (sym (long_if other r others))
  all_counted (false ∷ marks) (r ∷ rs) (state ∷ states) long even =
      let rest = all_counted marks rs states (omega (arith, long)) (omega (arith, even)) in
      let hit = is_hit counts file r state in
      let is_one = is_acceptable counts file r state && is_met file es r in
      let other = is_other counts file es false r state in
      let alike = alike_among counts file es marks rs states in
      let others = others_among counts file es marks rs states in
      let accepted = length (accepted_among counts file (chosen marks rs) (chosen marks states)) in
      let all = passing (is_hit counts file) rs states in
      long_if hit r all
      ∙ step_other hit (stays file r) (is_met file es r) (length all) accepted (length alike) (length others) rest
      ∙ ap (λ n. accepted + (n + (if other then suc (length others) else length others))) (sym (long_if is_one r alike))
      ∙ ap (λ n. accepted + (length (if is_one then r ∷ alike else alike) + n)) (sym (long_if other r others))

-- ---- with the entries that are added for the chosen hits

pub hits_counted : (how : How) (marks : List Bool) (counts : MayBeHit) (file : File) (rs : List Record) (states : List State)
    → length marks ≡ length rs → length states ≡ length rs → how.renewal.accept ≡ true → IsUntil file.today how.renewal.until
    → length (passing (is_hit counts file) rs states)
    ≡ length (accepted_by (Some marks) counts file rs states)
    + (length (alike_among counts file (entries_read how (added_by how (Some marks) counts file rs states)) marks rs states)
    + length (passing (is_left counts file (entries_read how (added_by how (Some marks) counts file rs states))) rs states))
hits_counted how marks counts file rs states long even accepts until =
    each_counted counts file (entries_read how (added_by how (Some marks) counts file rs states)) marks rs states long even
    (λ i r state within mark there at can. added_meet how (Some marks) counts file rs states r state i within (omega (arith, even, within))
    there at mark accepts until can)

-- as many are neither accepted nor alike as are left
pub others_left : (how : How) (marks : List Bool) (counts : MayBeHit) (file : File) (rs : List Record) (states : List State)
    → length marks ≡ length rs → length states ≡ length rs → how.renewal.accept ≡ true → IsUntil file.today how.renewal.until
    → length (others_among counts file (entries_read how (added_by how (Some marks) counts file rs states)) marks rs states)
    ≡ length (passing (is_left counts file (entries_read how (added_by how (Some marks) counts file rs states))) rs states)
others_left how marks counts file rs states long even accepts until =
    let es = entries_read how (added_by how (Some marks) counts file rs states) in
    let one = all_counted counts file es marks rs states long even in
    let two = hits_counted how marks counts file rs states long even accepts until in
    omega (arith, one, two)
