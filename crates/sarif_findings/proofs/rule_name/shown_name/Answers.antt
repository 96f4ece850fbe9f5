use Rattle.std.proofs.Common.{◌≡◌, ◌∙◌, ◌++◌, ℕ, List, [], false, ap, append-nil, chars, map, string_bytes, sym}
use Rattle.std.specs.Prelude.{encode_utf8_all}
use Rattle.std.proofs.lemmas.Result.{IfOk-weaker}
use Rattle.sarif_findings.specs.declared.shown_text.ShownText.{ShownText}
use Rattle.sarif_findings.specs.Internal.ShownSoFar.{TakesCharacters, shown_with}
use Rattle.sarif_findings.specs.RuleName.{most_of_name, shown_name}
use Rattle.sarif_findings.specs.Shown.{kept, parted_signs, plain}
use Rattle.sarif_findings.proofs.rule_name.shown_name.Goals as goal

-- a name that was read completely
name_whole : (first last : ShownText) (cs bytes : List ℕ)
    → ((xs : List ℕ) → shown_with first xs ≡ encode_utf8_all (kept most_of_name (parted_signs false (map plain xs))))
    → TakesCharacters first last cs → bytes ≡ shown_with last [] → bytes ≡ encode_utf8_all (kept most_of_name (parted_signs false (map plain cs)))
name_whole first last cs bytes begins takes ends =
    ends ∙ sym (takes []) ∙ begins (cs ++ [])
    ∙ ap (λ (xs : List ℕ). encode_utf8_all (kept most_of_name (parted_signs false (map plain xs)))) (append-nil cs)

pub returns : goal.returns
returns c =
    let same : string_bytes c.finish.result ≡ shown_name c.args.name.now =
    name_whole c.in_ok-so_far.so_far c.push_str.new.self (chars c.args.name.now) (string_bytes c.finish.result) c.in_ok-so_far.ensures.shown
    c.in_ok-push_str.ensures c.finish.ensures in
    IfOk-weaker c.from_string.result _ (λ shown. shown ≡ shown_name c.args.name.now) (λ text is. is ∙ same) c.from_string.ensures
