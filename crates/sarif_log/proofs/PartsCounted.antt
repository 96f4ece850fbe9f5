-- The counts of the parts of some results, together, are the counts of all.
use Rattle.std.proofs.Common.{◌≡◌, ◌≤◌, ◌+◌, ℕ, Bool, List, [], ◌∷◌, ◌++◌, Option, length, length-append, take, drop, refl, sym, ap, ◌∙◌, arith}
use Rattle.std.specs.Prelude.{sum_by}
use Rattle.std.specs.List.{flat_map}
use Rattle.std.proofs.Math.Seq.{take-append_seam, drop-append_seam}
use Rattle.std.proofs.lemmas.List.{drop-drop}
use Rattle.std.proofs.lemmas.List.Sums.{sum_by-cons}
use denote.Ref.{Bor}
use denote.Param.Members.{Shared}
use Rattle.sarif_share.specs.Sharing.{GivesInParts, GivesPart, GivesParts}
use Rattle.sarif_model.specs.declared.kinds.Level.{Level}
use Rattle.sarif_model.specs.declared.kinds.State.{State}
use Rattle.sarif_counts.specs.Counts.{count_at, total_of}
use Rattle.sarif_counts.specs.declared.counts.Counts.{Counts}
use Rattle.sarif_results.specs.declared.draft.Draft.{Draft}
use Rattle.sarif_log.specs.Internal.Texts.{tallied}
use Rattle.sarif_log.specs.Internal.Written.{AreCounted}
use Rattle.sarif_log.proofs.RunCounts.{tallied_split}

-- the first of these results, and the others
cut_tallied : (ds es : List Draft) (ss : List (Option State)) (s : State) (l : Level) (b : Bool)
    → tallied (ds ++ es) ss s l b ≡ tallied ds (take (length ds) ss) s l b + tallied es (drop (length ds) ss) s l b
cut_tallied ds es ss s l b =
    tallied_split (length ds) (ds ++ es) ss s l b
    ∙ ap (λ xs. tallied xs (take (length ds) ss) s l b + tallied (drop (length ds) (ds ++ es)) (drop (length ds) ss) s l b) (take-append_seam ds es)
    ∙ ap (λ xs. tallied ds (take (length ds) ss) s l b + tallied xs (drop (length ds) ss) s l b) (drop-append_seam ds es)

module _ {F : Type 0} (g : Shared F (ℕ × (Bor (List Draft) × Unit {0})) Counts) (f : F) (states : List (Option State))
    (each : (start : ℕ) (p : List Draft) (c : Counts) → GivesPart g f start p c → AreCounted p (take (length p) (drop start states)) c) where
  each_counted : (start : ℕ) (ps : List (List Draft)) (cs : List Counts) (s : State) (l : Level) (b : Bool) → GivesParts g f start ps cs
      → sum_by (λ c. count_at c s l b) cs ≡ tallied (flat_map (λ p. p) ps) (drop start states) s l b
  each_counted start [] [] s l b given = refl
  each_counted start [] (c ∷ cs) s l b given = absurd given
  each_counted start (p ∷ ps) [] s l b given = absurd given
  each_counted start (p ∷ ps) (c ∷ cs) s l b given =
      let rest = flat_map (λ q. q) ps in
      let here = drop start states in
      sum_by-cons (λ x. count_at x s l b) c cs
      ∙ ap (λ n. n + sum_by (λ x. count_at x s l b) cs) ((each start p c given.0).each s l b)
      ∙ ap (λ n. tallied p (take (length p) here) s l b + n) (each_counted (start + length p) ps cs s l b given.1)
      ∙ ap (λ ss. tallied p (take (length p) here) s l b + tallied rest ss s l b) (sym (drop-drop (length p) start states))
      ∙ sym (cut_tallied p rest here s l b)

  pub few_counted : (start : ℕ) (ps : List (List Draft)) (cs : List Counts) → GivesParts g f start ps cs
      → sum_by total_of cs ≤ length (flat_map (λ p. p) ps)
  few_counted start [] [] given = omega arith
  few_counted start [] (c ∷ cs) given = absurd given
  few_counted start (p ∷ ps) [] given = absurd given
  few_counted start (p ∷ ps) (c ∷ cs) given =
      omega (
        arith,
        sum_by-cons total_of c cs,
        (each start p c given.0).few,
        few_counted (start + length p) ps cs given.1,
        length-append p
            (flat_map (λ q. q) ps),
      )

  -- counts that are the sum of those of all parts
  pub parts_counted : (drafts : List Draft) (cs : List Counts) (all : Counts) → GivesInParts g f drafts cs
      → ((s : State) (l : Level) (b : Bool) → count_at all s l b ≡ sum_by (λ c. count_at c s l b) cs) → total_of all ≡ sum_by total_of cs
      → AreCounted drafts states all
  parts_counted drafts cs all made added total = record {
    each = λ s l b. added s l b ∙ each_counted 0 made.parts cs s l b made.given ∙ ap (λ ds. tallied ds states s l b) made.whole;
    few = omega (arith, total, few_counted 0 made.parts cs made.given, ap length made.whole);
  }
