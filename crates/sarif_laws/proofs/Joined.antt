-- The runs of two merges in turn, whose results match apart, are written as in the two merges.
use Rattle.std.proofs.Common.{◌≡◌, ◌+◌, ◌≤◌, ◌++◌, ℕ, zero, suc, Bool, List, [], ◌∷◌, map, length, take, drop, Option, None, slice_index_or, refl, sym, ap, ap₂, ◌∙◌, arith}
use Rattle.std.specs.List.{range_with_len}
use Rattle.std.proofs.lemmas.List.{drop-append-le, length-append, length-drop, take-append-le}
use Rattle.serde_json.specs.Data.{Data}
use Rattle.sarif_model.specs.declared.kinds.State.{State}
use Rattle.sarif_model.specs.declared.record.Record.{Record}
use Rattle.sarif_model.specs.Run.{present, results_of, results_total}
use Rattle.sarif_evidence.specs.declared.version.MatchingVersion.{MatchingVersion}
use Rattle.sarif_evidence.specs.Evidence.{state_in}
use Rattle.sarif_match.specs.Partners.{is_taken, partners_in}
use Rattle.sarif_match_laws.specs.SameFinding.{match_in}
use Rattle.sarif_match_laws.specs.ByTool.{IsMatchedApart}
use Rattle.sarif_results.specs.Drafts.{Listing}
use Rattle.sarif_log.specs.Internal.Texts.{present_results}
use Rattle.sarif_log.specs.LogBy.{partner_in, states_from, states_of, taken_of}
use Rattle.sarif_log.specs.MergedRuns.{absent_runs, if_any, merged_run, merged_runs, unmatched}

no_more : {X : Type 0} (xs : List X) → length xs ≡ 0 → xs ≡ []
no_more [] long = refl
no_more (x ∷ xs) long = absurd (omega (arith, long))

-- ---- input runs

module _ (listed : Listing) where
  pub merged_joined : (rs more : List Record) (ss others : List State) (runs next : List Data) → length rs ≡ results_total runs → length ss ≡ results_total runs
      → merged_runs listed (rs ++ more) (ss ++ others) (runs ++ next) ≡ merged_runs listed rs ss runs ++ merged_runs listed more others next
  merged_joined rs more ss others [] next long states =
      ap₂ (λ l m. merged_runs listed (l ++ more) (m ++ others) next) (no_more rs long) (no_more ss states)
  merged_joined rs more ss others (run ∷ runs) next long states =
      let n = length (results_of run) in
      ap₂ (λ l m. merged_run listed l m run ∷ merged_runs listed (drop n (rs ++ more)) (drop n (ss ++ others)) (runs ++ next))
      (take-append-le n rs more (omega (arith, long))) (take-append-le n ss others (omega (arith, states)))
      ∙ ap (λ l. merged_run listed (take n rs) (take n ss) run ∷ l)
      (ap₂ (λ l m. merged_runs listed l m (runs ++ next)) (drop-append-le n rs more (omega (arith, long))) (drop-append-le n ss others (omega (arith, states)))
      ∙ merged_joined (drop n rs) more (drop n ss) others runs next (omega (arith, long, length-drop n rs)) (omega (arith, states, length-drop n ss)))

-- ---- absent results

if_any_joined : (ds : List Data) (run : Data) (xs ys : List Data) → if_any ds run (xs ++ ys) ≡ if_any ds run xs ++ ys
if_any_joined [] run xs ys = refl
if_any_joined (d ∷ ds) run xs ys = refl

pub absent_joined : (rs more : List Record) (ts others : List Bool) (runs next : List Data)
    → length rs ≡ length (present_results runs) → length ts ≡ length (present_results runs)
    → absent_runs (rs ++ more) (ts ++ others) (runs ++ next) ≡ absent_runs rs ts runs ++ absent_runs more others next
absent_joined rs more ts others [] next long marks =
    ap₂ (λ l m. absent_runs (l ++ more) (m ++ others) next) (no_more rs long) (no_more ts marks)
absent_joined rs more ts others (run ∷ runs) next long marks =
    let ds = present (results_of run) in
    let n = length ds in
    let all = length-append ds (present_results runs) in
    let own = unmatched (take n rs) (take n ts) ds in
    ap₂ (λ l m. if_any (unmatched l m ds) run (absent_runs (drop n (rs ++ more)) (drop n (ts ++ others)) (runs ++ next)))
    (take-append-le n rs more (omega (arith, long, all))) (take-append-le n ts others (omega (arith, marks, all)))
    ∙ ap (if_any own run)
    (ap₂ (λ l m. absent_runs l m (runs ++ next)) (drop-append-le n rs more (omega (arith, long, all))) (drop-append-le n ts others (omega (arith, marks, all)))
    ∙ absent_joined (drop n rs) more (drop n ts) others runs next (omega (arith, long, all, length-drop n rs)) (omega (arith, marks, all, length-drop n ts)))
    ∙ if_any_joined own run (absent_runs (drop n rs) (drop n ts) runs) (absent_runs more others next)

-- ---- states and marks

map_range : (f : ℕ → Bool) (a m n : ℕ) → map f (range_with_len a (m + n)) ≡ map f (range_with_len a m) ++ map f (range_with_len (a + m) n)
map_range f a zero n =
    let here : a ≡ a + 0 = omega arith in
    let many : 0 + n ≡ n = omega arith in
    ap₂ (λ k l. map f (range_with_len k l)) here many
map_range f a (suc m) n =
    let many : suc m + n ≡ suc (m + n) = omega arith in
    let next : (a + 1) + m ≡ a + suc m = omega arith in
    ap (λ k. map f (range_with_len a k)) many
    ∙ ap (λ l. f a ∷ l) (map_range f (a + 1) m n ∙ ap (λ k. map f (range_with_len (a + 1) m) ++ map f (range_with_len k n)) next)

module _ (v : MatchingVersion) (bs : List Record) (ps : List (Option ℕ)) where
  states_append : (rs more : List Record) (n m : ℕ) → n + length rs ≡ m → states_from v bs ps n (rs ++ more) ≡ states_from v bs ps n rs ++ states_from v bs ps m more
  states_append [] more n m is =
      let here : n ≡ m = omega (arith, is) in
      ap (λ k. states_from v bs ps k more) here
  states_append (r ∷ rs) more n m is =
      ap (λ ss. state_in v r (partner_in bs (slice_index_or ps n None)) ∷ ss) (states_append rs more (n + 1) m (omega (arith, is)))

module _ (v : MatchingVersion) (cs bs more others : List Record) (apart : IsMatchedApart v cs bs more others) where
  abbrev whole : List (Option ℕ)
  whole = partners_in v (cs ++ more) (bs ++ others)

  first_states : (rs : List Record) (n : ℕ) → n + length rs ≤ length cs → states_from v (bs ++ others) whole n rs ≡ states_from v bs (partners_in v cs bs) n rs
  first_states [] n within = refl
  first_states (r ∷ rs) n within =
      ap₂ (λ s ss. s ∷ ss) (ap (state_in v r) (apart.first n (omega (arith, within)))) (first_states rs (n + 1) (omega (arith, within)))

  second_states : (rs : List Record) (n m : ℕ) → length cs + n ≡ m → states_from v (bs ++ others) whole m rs ≡ states_from v others (partners_in v more others) n rs
  second_states [] n m is = refl
  second_states (r ∷ rs) n m is =
      ap₂ (λ s ss. s ∷ ss) (ap (state_in v r) (ap (λ k. match_in v (cs ++ more) (bs ++ others) k) (sym is) ∙ apart.second n))
      (second_states rs (n + 1) (m + 1) (omega (arith, is)))

  pub states_both : states_of v (cs ++ more) (bs ++ others) ≡ states_of v cs bs ++ states_of v more others
  states_both =
      states_append v (bs ++ others) whole cs more 0 (length cs) (omega arith)
      ∙ ap₂ (λ l m. l ++ m) (first_states cs 0 (omega arith)) (second_states more 0 (length cs) (omega arith))

  first_marks : (a n : ℕ) → a + n ≤ length bs → map (is_taken whole) (range_with_len a n) ≡ map (is_taken (partners_in v cs bs)) (range_with_len a n)
  first_marks a zero within = refl
  first_marks a (suc n) within = ap₂ (λ t ts. t ∷ ts) (apart.first_taken a (omega (arith, within))) (first_marks (a + 1) n (omega (arith, within)))

  second_marks : (a b n : ℕ) → length bs + a ≡ b → map (is_taken whole) (range_with_len b n) ≡ map (is_taken (partners_in v more others)) (range_with_len a n)
  second_marks a b zero is = refl
  second_marks a b (suc n) is =
      ap₂ (λ t ts. t ∷ ts) (ap (is_taken whole) (sym is) ∙ apart.second_taken a) (second_marks (a + 1) (b + 1) n (omega (arith, is)))

  pub marks_both : taken_of v (cs ++ more) (bs ++ others) ≡ taken_of v cs bs ++ taken_of v more others
  marks_both =
      let start : 0 + length bs ≡ length bs = omega arith in
      ap (λ k. map (is_taken whole) (range_with_len 0 k)) (length-append bs others)
      ∙ map_range (is_taken whole) 0 (length bs) (length others)
      ∙ ap (λ k. map (is_taken whole) (range_with_len 0 (length bs)) ++ map (is_taken whole) (range_with_len k (length others))) start
      ∙ ap₂ (λ l m. l ++ m) (first_marks 0 (length bs) (omega arith)) (second_marks 0 (length bs) (length others) (omega arith))
