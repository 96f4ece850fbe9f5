use Rattle.std.proofs.Common.{rules, append_assoc, ◌≡◌, ◌∙◌, ◌≤◌, ◌<◌, ◌^◌, ◌++◌, List, ℕ, length, string_bytes, ap, ap₂, sym, subst, arith}
use Rattle.sarif_shown.specs.Facts.{Facts, facts_of}
use Rattle.sarif_shown.specs.Ruled.{gate_ending, gate_hits, gate_verdict, most_of_ending, noted_in, unshown_results}
use Rattle.sarif_shown.specs.declared.noted.Noted.{Noted}
use Rattle.sarif_reports.specs.MarkdownReport.{conditions_table, counts_table, heading, last_lines, markdown_of, notes, paragraph, results_table, room_for}
use Rattle.sarif_reports.specs.MarkdownLaws.{most_of}
use Rattle.sarif_reports.proofs.MarkdownShort.{AreFew, count_few, short_report}
use Rattle.sarif_reports.proofs.markdown_table.markdown_report.Goals as goal
use Rattle.sarif_reports.proofs.markdown_table.markdown_report.Goals.{In_ok-push_last}

regrouped : (a b c d e f : List ℕ) → ((((a ++ b) ++ c) ++ d) ++ e) ++ f ≡ a ++ (b ++ (c ++ (d ++ (e ++ f))))
regrouped a b c d e f = simp append_assoc

-- the ending, which the heading has
ended : (c : In_ok-push_last) → string_bytes c.in_ok-ending.ending ≡ gate_ending (facts_of c.args.told.now)
ended c = c.in_ok-ending.ensures.text

-- the whole report, after its last lines
written : (c : In_ok-push_last) → string_bytes c.push_last.new.text ≡ markdown_of (facts_of c.args.told.now)
written c =
    let facts : Facts = facts_of c.args.told.now in
    let top : List ℕ = heading (gate_verdict facts) (gate_ending facts) in
    let counts : List ℕ = counts_table facts.count in
    let said : List ℕ = paragraph (notes (noted_in facts)) in
    let conditions : List ℕ = conditions_table facts.ruling in
    let results : List ℕ = results_table facts.link (room_for facts.ruling) facts.findings in
    let first : string_bytes c.in_ok-text.text ≡ top =
    c.in_ok-text.ensures ∙ ap₂ (λ v (t : List ℕ). heading v t) c.gate_verdict-verdict.ensures (c.as_str.ensures.value ∙ ended c) in
    let second : string_bytes c.push_counts.new.text ≡ top ++ counts = c.in_ok-push_counts.ensures ∙ ap (λ (t : List ℕ). t ++ counts) first in
    let third : string_bytes c.push_notes.new.text ≡ (top ++ counts) ++ said =
    c.in_ok-push_notes.ensures ∙ ap (λ (n : Noted). string_bytes c.push_counts.new.text ++ paragraph (notes n)) c.noted_in-numbers.ensures
    ∙ ap (λ (t : List ℕ). t ++ said) second in
    let fourth : string_bytes c.push_conditions.new.text ≡ ((top ++ counts) ++ said) ++ conditions =
    c.in_ok-room.ensures.table ∙ ap (λ (t : List ℕ). t ++ conditions) third in
    let fifth : string_bytes c.push_results.new.text ≡ (((top ++ counts) ++ said) ++ conditions) ++ results =
    c.in_ok-push_results.ensures
    ∙ ap (λ n. string_bytes c.push_conditions.new.text ++ results_table facts.link n facts.findings) c.in_ok-room.ensures.room
    ∙ ap (λ (t : List ℕ). t ++ results) fourth in
    c.in_ok-push_last.ensures
    ∙ ap₂ (λ m n. string_bytes c.push_results.new.text ++ last_lines m n) c.unshown_results-unshown.ensures c.gate_hits-hits.ensures
    ∙ ap (λ (t : List ℕ). t ++ last_lines (unshown_results facts) (gate_hits facts)) fifth
    ∙ regrouped top counts said conditions results (last_lines (unshown_results facts) (gate_hits facts))

pub returns-clause-text : goal.returns-clause-text
returns-clause-text c = written (goal.at.returns-clause-text c).In_ok-push_last

few_noted : (n m : Noted) → n ≡ m → AreFew n → AreFew m
few_noted n m same few = subst AreFew same few

pub returns-clause-short : goal.returns-clause-short
returns-clause-short c =
    let facts : Facts = facts_of c.args.told.now in
    let numbers : Noted = c.noted_in-numbers.result in
    let without : numbers.without < 2 ^ 32 = search rules in
    let unused : numbers.unused < 2 ^ 32 = search rules in
    let filters : numbers.filters < 2 ^ 32 = search rules in
    let outside : numbers.outside < 2 ^ 32 = search rules in
    let unchecked : numbers.unchecked < 2 ^ 32 = search rules in
    let unshown : c.unshown_results-unshown.result < 2 ^ 32 = search rules in
    let same : c.unshown_results-unshown.result ≡ unshown_results facts = c.unshown_results-unshown.ensures in
    let findings : length facts.findings < 2 ^ 64 = search rules in
    subst (λ (t : List ℕ). length t ≤ most_of facts) (sym (written (goal.at.returns-clause-short c).In_ok-push_last))
    (short_report facts (record {
      counts = count_few c.args.told.now.counts.now;
      ending = subst (λ (t : List ℕ). length t ≤ most_of_ending facts.ruling) c.in_ok-ending.ensures.text c.in_ok-ending.ensures.few;
      few =
          few_noted numbers (noted_in facts) c.noted_in-numbers.ensures
          (record { without = without; unused = unused; filters = filters; outside = outside; unchecked = unchecked });
      unshown = omega (arith, unshown, same);
      findings = findings;
    }))
