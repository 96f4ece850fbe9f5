-- The claim core: a word that counts claims, and what each hand drew.
use Rattle.std.specs.Prelude.{◌≡◌, ℕ, ◌+◌, ◌≤◌, ◌<◌, ◌^◌, ◌==◌, nat_lt, min, if◌then◌else◌, List, [], ◌∷◌, ◌++◌, length, slice_index}
use mathlib.Core.Option.{some}
use lib.ListN.{get_elem?}
use Rattle.atomic_table.specs.Table.{State}
use Rattle.sarif_dispatch.specs.declared.deal.rule.Terms.{Terms}
use Rattle.sarif_dispatch.specs.declared.deal.rule.HandView.{HandView}

-- how often x occurs in the list
abbrev pub times : ℕ → List ℕ → ℕ
times x [] = 0
times x (y ∷ ys) = (if y == x then 1 else 0) + times x ys

abbrev pub total : {A : Type 0} → (A → ℕ) → List A → ℕ
total f [] = 0
total f (v ∷ vs) = f v + total f vs

-- 1 for each number below n, and otherwise 0
abbrev pub once_below : ℕ → ℕ → ℕ
once_below x n = if nat_lt x n then 1 else 0

abbrev pub hand_view : ℕ → ℕ → ℕ → ℕ → List ℕ → HandView
hand_view runs hands parts marks drawn =
    record { runs = runs; hands = hands; parts = parts; marks = marks; drawn = drawn }

-- after a draw that found this word: the run was drawn, or none was left
abbrev pub drew : ℕ → HandView → HandView
drew found v =
    if nat_lt found v.runs
    then (hand_view v.runs v.hands v.parts v.marks (v.drawn ++ found ∷ []))
    else (hand_view v.runs v.hands v.parts (v.marks + 1) v.drawn)

-- a hand's knowledge agrees with the word: if it found no run, all were claimed. An unused view has no part, and
-- has drawn nothing
pub record Fits (k : Terms) (word : ℕ) (v : HandView) : Type 0 where
  pub marks : v.marks ≤ v.parts
  pub spent : 0 < v.marks → k.runs ≤ word
  pub terms : 0 < v.parts → (v.runs ≡ k.runs) × (v.hands ≡ k.hands)
  pub behind : v.parts ≡ 0 → v.drawn ≡ []

-- each run below the word is drawn once, by one hand, and no other; the word passes the runs by no more than the marks
pub record Dealt (k : Terms) (s : State (Unit {0}) HandView) : Type 0 where
  pub words : 0 < length s.words
  pub small : (k.runs < 2 ^ 32) × (k.hands < 2 ^ 32)
  pub parts : total (λ v. v.parts) s.views ≡ k.hands
  pub word : slice_index s.words 0 ≤ k.runs + total (λ v. v.marks) s.views
  pub each : (j : ℕ) (v : HandView) → get_elem? s.views j ≡ some v
      → Fits k (slice_index s.words 0) v
  pub drawn : (x : ℕ)
      → total (λ v. times x v.drawn) s.views ≡ once_below x (min (slice_index s.words 0) k.runs)

-- what a look at the word shows: if a hand that it represents found no run, all are claimed; if it represents all
-- hands, they have drawn the first runs, each once
pub record Learns (v : HandView) (word : ℕ) : Type 0 where
  pub spent : 0 < v.marks → v.runs ≤ word
  pub drawn : v.parts ≡ v.hands → 0 < v.parts
      → (x : ℕ) → times x v.drawn ≡ once_below x (min word v.runs)
