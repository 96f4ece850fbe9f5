use Rattle.std.proofs.Common.{◌≡◌, ◌∙◌, ◌++◌, ◌∷◌, [], List, ℕ, ap, map, subst, string_bytes}
use Rattle.std.specs.Str.{IsUtf8}
use Rattle.std.proofs.lemmas.Str.{IsUtf8-had}
use Rattle.json_parts.specs.Indexed.{json_of}
use Rattle.json_parts.specs.Mark.{without_mark}
use Rattle.sarif_known.specs.Chosen.{Chosen, all_chosen, run_as}
use Rattle.sarif_known.specs.KnownLog.{known_log, pretty_text}
use Rattle.sarif_known.specs.Order.{known_runs}
use Rattle.sarif_known.specs.Internal.Tokens.{data_tokens}
use Rattle.sarif_known.proofs.LogBack.{text_read}
use Rattle.sarif_known.proofs.known_log.known_text.Goals as goal

pub returns-clause-reads : goal.returns-clause-reads
returns-clause-reads c = λ options can.
    let runs : List Chosen = map (run_as c.args.regions) (known_runs c.args.version (all_chosen c.args.current.items) (all_chosen c.args.baseline.items)) in
    let all : map (run_as c.args.regions) (all_chosen c.deref.result.now) ≡ runs =
    ap (map (run_as c.args.regions)) (ap all_chosen c.deref.ensures.value ∙ c.in_ok-runs.ensures) in
    let text : List ℕ = string_bytes c.in_ok-text.text in
    let bytes : string_bytes c.push_str.new.self ≡ text ++ 10 ∷ [] = c.in_ok-push_str.ensures.bytes in
    let utf8 : IsUtf8 (text ++ 10 ∷ []) = subst IsUtf8 bytes (IsUtf8-had (string_bytes c.push_str.new.self) c.push_str.new.self.ok) in
    ap (λ b. json_of (without_mark b)) bytes
    ∙ text_read options runs text can (c.in_ok-text.ensures.text ∙ ap (λ r. pretty_text (known_log r)) all)
    (c.in_ok-text.ensures.tokens ∙ ap (λ r. data_tokens (known_log r)) all) utf8
