use Rattle.std.proofs.Common.{◌∙◌, ◌-◌, ap, drop, length, map, take}
use Rattle.std.specs.List.{prefix_len, suffix_len}
use Rattle.sarif_findings.specs.Code.{common_indent, spread_line}
use Rattle.sarif_findings.specs.Internal.CodeParts.{cut_of, excerpt_of, line_of}
use Rattle.sarif_findings.proofs.CodeWhole.{none_whole, some_whole}
use Rattle.sarif_findings.proofs.code_lines.code_from.Goals as goal

pub returns-then-end-first : goal.returns-then-end-first
returns-then-end-first c =
    let read = c.in_ok-all.ensures ∙ ap (λ lines. map spread_line (map (λ line. line.now) lines)) c.as_slice.ensures.value in
    let begins = c.blank_lines_first-first.ensures ∙ ap (prefix_len (λ line. line.blank)) c.as_slice-all.ensures.value in
    let ends = c.before_blank_lines-end.ensures
    ∙ ap (λ lines. length lines - suffix_len (λ line. line.blank) lines) c.as_slice-all.ensures.value in
    none_whole (excerpt_of c.args.excerpt) c.in_ok-all.all.items c.blank_lines_first-first.result c.before_blank_lines-end.result
    read begins ends c.if-end-first.true

pub returns : goal.returns
returns c =
    let first = c.blank_lines_first-first.result in
    let last = c.before_blank_lines-end.result in
    let lines = c.in_ok-all.all.items in
    let read = c.in_ok-all.ensures ∙ ap (λ lines. map spread_line (map (λ line. line.now) lines)) c.as_slice.ensures.value in
    let begins = c.blank_lines_first-first.ensures ∙ ap (prefix_len (λ line. line.blank)) c.as_slice-all.ensures.value in
    let ends = c.before_blank_lines-end.ensures
    ∙ ap (λ lines. length lines - suffix_len (λ line. line.blank) lines) c.as_slice-all.ensures.value in
    let written = c.lines_between-written.ensures ∙ ap (λ lines. drop first (take last lines)) c.as_slice-all.ensures.value in
    let indent = c.common_indent.ensures ∙ ap (λ lines. common_indent (map line_of lines)) written in
    let is = c.in_ok-lines.ensures ∙ ap (λ n. map (cut_of n) c.lines_between-written.result.now) indent
    ∙ ap (map (cut_of (common_indent (map line_of (drop first (take last lines)))))) written in
    some_whole (excerpt_of c.args.excerpt) lines first last read begins ends
    (record { lines = c.in_ok-lines.lines; first_number = c.number_after.result; hit_line = c.hit_within.result })
    c.if-end-first.false is c.number_after.ensures c.hit_within.ensures
