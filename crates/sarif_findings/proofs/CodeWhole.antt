-- A code that is made from the lines of an excerpt.
use Rattle.std.proofs.Common.{◌≡◌, ◌<◌, ◌≤◌, ◌+◌, ◌-◌, ℕ, List, Some, None, length, map, take, drop, sym, ap, ◌∙◌, arith, if◌then◌else◌}
use Rattle.std.specs.Prelude.{option_map, option_and_then}
use Rattle.std.specs.List.{prefix_len, suffix_len}
use Rattle.std.proofs.lemmas.Bool.{eq-eqb, ne_eqb}
use Rattle.std.proofs.lemmas.List.{length-map, length-take-le, length-drop, take-map, drop-map}
use Rattle.sarif_findings.specs.declared.code.Code.{Code}
use Rattle.sarif_findings.specs.declared.code_indented.Indented.{Indented}
use Rattle.sarif_findings.specs.Code.{before_blank_lines, before_line, blank_lines_first, common_indent, cut_lines, from_line, if_before, index_among, is_blank, spread_line, spread_lines, trimmed_lines, unless_empty}
use Rattle.sarif_findings.specs.Internal.CodeParts.{cut_of, line_of}
use Rattle.sarif_findings.proofs.CodeLines.{blank_first, blank_last, cuts_same}

-- from the first line that isn't blank up to the last
abbrev written_of : List Indented → ℕ → ℕ → List Indented
written_of lines first last = drop first (take last lines)

abbrev trimmed_as : Code → List Indented → ℕ → ℕ → Code
trimmed_as code lines first last = record {
  lines = map line_of (written_of lines first last);
  first_number = option_map (λ n. n + first) code.first_number;
  hit_line = option_and_then (index_among first) (option_and_then (if_before last) code.hit_line);
}

module _ (code : Code) (lines : List Indented) (first last : ℕ)
    (read : map line_of lines ≡ map spread_line code.lines)
    (begins : first ≡ prefix_len (λ line. line.blank) lines)
    (ends : last ≡ length lines - suffix_len (λ line. line.blank) lines) where
  first_same : first ≡ blank_lines_first (spread_lines code)
  first_same = begins ∙ blank_first lines ∙ ap (prefix_len is_blank) read

  length_same : length lines ≡ length (map spread_line code.lines)
  length_same = sym (length-map lines line_of) ∙ ap length read

  last_same : last ≡ before_blank_lines (spread_lines code)
  last_same =
      ends ∙ ap (λ n. n - suffix_len (λ line. line.blank) lines) length_same
      ∙ ap (λ n. length (map spread_line code.lines) - n) (blank_last lines ∙ ap (suffix_len is_blank) read)

  lines_same : map line_of (written_of lines first last) ≡ drop first (take last (map spread_line code.lines))
  lines_same =
      sym (drop-map line_of first (take last lines)) ∙ ap (drop first) (sym (take-map line_of last lines))
      ∙ ap (λ ls. drop first (take last ls)) read

  abbrev with_lines : List (List ℕ) → Code
  with_lines ls = record {
    lines = ls;
    first_number = option_map (λ n. n + first) code.first_number;
    hit_line = option_and_then (index_among first) (option_and_then (if_before last) code.hit_line);
  }

  trimmed_same : trimmed_as code lines first last ≡ trimmed_lines (spread_lines code)
  trimmed_same =
      ap with_lines lines_same
      ∙ ap (λ n. from_line n (before_line last (spread_lines code))) first_same
      ∙ ap (λ n. from_line (blank_lines_first (spread_lines code)) (before_line n (spread_lines code))) last_same

  abbrev cut_as : Code
  cut_as = record {
    lines = map (cut_of (common_indent (map line_of (written_of lines first last)))) (written_of lines first last);
    first_number = option_map (λ n. n + first) code.first_number;
    hit_line = option_and_then (index_among first) (option_and_then (if_before last) code.hit_line);
  }

  cut_same : cut_as ≡ cut_lines (trimmed_lines (spread_lines code))
  cut_same = ap with_lines (cuts_same (written_of lines first last)) ∙ ap cut_lines trimmed_same

  within : last ≤ length lines
  within = omega (arith, ends)

  length_written : length (written_of lines first last) ≡ last - first
  length_written = length-drop first (take last lines) ∙ ap (λ n. n - first) (length-take-le last lines within)

  length_cut : length cut_as.lines ≡ last - first
  length_cut = length-map (written_of lines first last) (cut_of (common_indent (map line_of (written_of lines first last)))) ∙ length_written

  made_same : (made : Code) → made.lines ≡ map (cut_of (common_indent (map line_of (written_of lines first last)))) (written_of lines first last)
      → made.first_number ≡ option_map (λ n. n + first) code.first_number
      → made.hit_line ≡ option_and_then (index_among first) (option_and_then (if_before last) code.hit_line)
      → made ≡ cut_as
  made_same made is number hit = λ i. record { lines = is i; first_number = number i; hit_line = hit i }

  -- all lines are blank
  pub none_whole : last ≤ first → None ≡ unless_empty (cut_lines (trimmed_lines (spread_lines code)))
  none_whole less =
      let none : length cut_as.lines ≡ 0 = let e : length cut_as.lines ≡ last - first = length_cut in omega (arith, e, less) in
      sym (ap (λ b. if b then None else Some cut_as) (eq-eqb (length cut_as.lines) 0 none)) ∙ ap unless_empty cut_same

  -- some aren't
  pub some_whole : (made : Code) → first < last → made.lines ≡ map (cut_of (common_indent (map line_of (written_of lines first last)))) (written_of lines first last)
      → made.first_number ≡ option_map (λ n. n + first) code.first_number
      → made.hit_line ≡ option_and_then (index_among first) (option_and_then (if_before last) code.hit_line)
      → Some made ≡ unless_empty (cut_lines (trimmed_lines (spread_lines code)))
  some_whole made less is number hit =
      let some : length cut_as.lines ≡ 0 → ⊥ = λ none. let e : length cut_as.lines ≡ last - first = length_cut in omega (arith, e, less, none) in
      let same : made ≡ cut_as = made_same made is number hit in
      ap Some same
      ∙ sym (ap (λ b. if b then None else Some cut_as) (ne_eqb (length cut_as.lines) 0 some)) ∙ ap unless_empty cut_same
