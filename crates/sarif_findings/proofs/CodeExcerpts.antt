-- The lines of a snippet that its code has.
use Rattle.std.proofs.Common.{◌≡◌, ◌<◌, ◌≤◌, ◌+◌, ◌-◌, ℕ, List, Some, length, map, take, drop, refl, sym, ap, ◌∙◌, inl, inr, arith}
use Rattle.std.specs.Prelude.{min, option_map, option_and_then}
use Rattle.std.specs.Str.Lines as of_text
use Rattle.std.proofs.Math.Nat.{min-eq_right}
use Rattle.std.proofs.lemmas.Bool.{lt-ltb, le-leb, cases_lt}
use Rattle.std.proofs.lemmas.List.{length-map, length-take, length-drop}
use Rattle.sarif_findings.specs.declared.code_excerpt.Excerpt.{Excerpt}
use Rattle.sarif_findings.specs.Code.{index_among, with_hit, taken_lines}
use Rattle.sarif_findings.specs.Internal.CodeParts.{excerpt_of}

-- ---- the index of a line

index_in : (first n : ℕ) → first ≤ n → index_among first n ≡ Some (n - first)
index_in first n h = rw (le-leb first n h) refl

-- ---- how many lines a code has

length_taken : (ls : List (List ℕ)) (n : ℕ) → length (take 5 (drop n ls)) ≡ min 5 (length ls - n)
length_taken ls n = length-take 5 (drop n ls) ∙ ap (min 5) (length-drop n ls)

-- a code has the line with that index exactly if the snippet has it
many_by : (n most : ℕ) → n ≤ 2 → n < min 5 most → n < most
many_by n most small h =
    elim (cases_lt most 5) as (λ _. n < most) [
      | inl less ↦ let e : min 5 most ≡ most = min-eq_right (omega (arith, less)) in omega (arith, e, h)
      | inr more ↦ omega (arith, more, small)
    ]

many_lines : (ls : List (List ℕ)) (hit : ℕ) → hit - (hit - 2) < length (take 5 (drop (hit - 2) ls)) → hit < length ls
many_lines ls hit h =
    let small : hit - (hit - 2) ≤ 2 = omega arith in
    let e : length (take 5 (drop (hit - 2) ls)) ≡ min 5 (length ls - (hit - 2)) = length_taken ls (hit - 2) in
    let many : hit - (hit - 2) < length ls - (hit - 2) = many_by (hit - (hit - 2)) (length ls - (hit - 2)) small (omega (arith, e, h)) in
    omega (arith, many)

-- ---- the lines around a hit line

hit_there : (context : List ℕ) (first hit : ℕ) → hit < length (of_text.lines context)
    → with_hit context first hit ≡ Some (record { lines = of_text.lines context; first_number = Some first; hit_line = Some hit })
hit_there context first hit h = rw (lt-ltb hit (length (of_text.lines context)) h) refl

taken_around : (ls : List (List ℕ)) (first hit : ℕ)
    → taken_lines (record { lines = ls; first_number = Some first; hit_line = Some hit })
    ≡ record { lines = take 5 (drop (hit - 2) ls); first_number = Some (first + (hit - 2)); hit_line = Some (hit - (hit - 2)) }
taken_around ls first hit = rw (le-leb (hit - 2) hit (omega arith), lt-ltb (hit - (hit - 2)) 5 (omega arith)) refl

around_by : (context : List ℕ) (first n : ℕ) (found : Excerpt) → first ≤ n
    → map (λ line. line.now) found.lines.items ≡ take 5 (drop (n - first - 2) (of_text.lines context))
    → found.first_number ≡ Some (first + (n - first - 2)) → found.hit_line ≡ Some (n - first - (n - first - 2))
    → n - first - (n - first - 2) < length (map (λ line. line.now) found.lines.items)
    → Some (excerpt_of found) ≡ option_map taken_lines (option_and_then (with_hit context first) (index_among first n))
around_by context first n found within is number hit many =
    let ls : List (List ℕ) = of_text.lines context in
    let there : n - first < length ls = many_lines ls (n - first) (rw (← is) many) in
    let same : excerpt_of found ≡ taken_lines (record { lines = ls; first_number = Some first; hit_line = Some (n - first) })
    = rw (is, number, hit) (sym (taken_around ls first (n - first))) in
    ap Some same
    ∙ sym (ap (λ index. option_map taken_lines (option_and_then (with_hit context first) index)) (index_in first n within)
    ∙ ap (option_map taken_lines) (hit_there context first (n - first) there))

pub around_there : (context : List ℕ) (first n from : ℕ) (found : Excerpt) → first ≤ n → from ≡ n - first - 2
    → map (λ line. line.now) found.lines.items ≡ take 5 (drop from (of_text.lines context))
    → found.first_number ≡ Some (first + from) → found.hit_line ≡ Some (n - first - from)
    → n - first - from < length found.lines.items
    → Some (excerpt_of found) ≡ option_map taken_lines (option_and_then (with_hit context first) (index_among first n))
around_there context first n from found within e is number hit many =
    let same : length (map (λ line. line.now) found.lines.items) ≡ length found.lines.items = length-map found.lines.items (λ line. line.now) in
    around_by context first n found within (is ∙ ap (λ k. take 5 (drop k (of_text.lines context))) e)
    (number ∙ ap (λ k. Some (first + k)) e) (hit ∙ ap (λ k. Some (n - first - k)) e) (omega (arith, many, e, same))
