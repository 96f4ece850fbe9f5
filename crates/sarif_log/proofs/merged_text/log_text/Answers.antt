use Rattle.std.proofs.Common.{rules, ◌≡◌, ◌==◌, ◌++◌, codes, false, not, ap, ◌∙◌, append_assoc, string_bytes}
use Rattle.serde_json.specs.View.{view}
use Rattle.serde_json.specs.Written.{compact_text}
use Rattle.sarif_log.specs.Internal.Texts.{joined}
use Rattle.sarif_log.specs.Internal.Side.{texts_of_runs, texts_of_left}
use Rattle.sarif_log.proofs.LogText.{joined_both, log_parts}
use Rattle.sarif_log.proofs.merged_text.log_text.Goals as goal

pub returns : goal.returns
returns c = λ runs same.
    let gate = view c.args.gate.now in
    let ts = texts_of_runs c.args.current in
    let us = texts_of_left c.args.baseline in
    let front = (codes "{\"properties\":{\"gate\":" ++ compact_text gate) ++ codes "},\"runs\":[" in
    let begun : string_bytes c.push_str-2.new.self ≡ front = search rules in
    let both : string_bytes c.push_left_runs.new.text
    ≡ (string_bytes c.push_str-2.new.self ++ joined false ts) ++ joined (not c.is_empty-later.result) us = search rules in
    let ended : string_bytes c.push_str-3.new.self ≡ string_bytes c.push_left_runs.new.text ++ codes "],\"version\":\"2.1.0\"}" = search rules in
    let none = c.is_empty-later.ensures ∙ ap (λ n. n == 0) c.args.current.runs.ok.0 in
    let whole = joined_both c.args.current.runs.items c.args.current.drafts.items c.args.current.states.items c.is_empty-later.result us none in
    ended
    ∙ ap (λ t. t ++ codes "],\"version\":\"2.1.0\"}")
    (both ∙ append_assoc (string_bytes c.push_str-2.new.self) (joined false ts) (joined (not c.is_empty-later.result) us)
    ∙ ap (λ t. string_bytes c.push_str-2.new.self ++ t) whole ∙ ap (λ t. t ++ joined false (ts ++ us)) begun)
    ∙ log_parts gate runs (ts ++ us) same
