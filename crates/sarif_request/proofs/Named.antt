-- Outputs with the names of their options and files, and the sentence about the first of them that clashes.
use Rattle.std.proofs.Common.{◌≡◌, ◌++◌, ◌∷◌, ◌+◌, ◌<◌, ◌≤◌, [], ℕ, List, Some, None, true, length, drop, find, map, codes, get_or, ap, sym, ◌∙◌, if◌then◌else◌}
use Rattle.std.specs.Option.{option_map_or}
use Rattle.std.proofs.lemmas.List.{drop_all, drop_more, map-append}
use Rattle.clap.specs.Words.{Text}
use Rattle.sarif_request.specs.declared.clash.Output.{Output}
use Rattle.sarif_request.specs.declared.wanted.RequestedOutput.{RequestedOutput}
use Rattle.sarif_request.specs.Names.{Names, replaces_input}
use Rattle.sarif_request.specs.Sentences.{input_text, inputs_text, named, outputs_text, share_file, two_outputs_text}

pub named_more : (outputs : List Output) (output : Output) → map named (outputs ++ (output ∷ [])) ≡ map named outputs ++ (named output ∷ [])
named_more outputs output = map-append named outputs (output ∷ [])

rest_of : {A : Type 0} (xs : List A) (i : ℕ) (x : A) → i < length xs → x ≡ get_or xs i x → x ∷ drop (i + 1) xs ≡ drop i xs
rest_of xs i x within is = ap (λ y. y ∷ drop (i + 1) xs) is ∙ sym (drop_more xs i x within)

-- the output at i shares its file with another one, and none before it does
pub told_here : (outputs : List Output) (i : ℕ) (first second : Output) (told : Text)
    → i < length outputs → first ≡ get_or outputs i first
    → Some (named second) ≡ find (share_file (named first)) (map named outputs)
    → outputs_text (map named outputs) (map named (drop i outputs)) ≡ outputs_text (map named outputs) (map named outputs)
    → told ≡ two_outputs_text (named first) (named second)
    → told ≡ outputs_text (map named outputs) (map named outputs)
told_here outputs i first second told within is found held same =
    let all = map named outputs in
    same
    ∙ ap (λ o. option_map_or (two_outputs_text (named first)) o (outputs_text all (map named (drop (i + 1) outputs)))) found
    ∙ ap (λ l. outputs_text all (map named l)) (rest_of outputs i first within is)
    ∙ held

-- the output at i shares its file with none
pub told_later : (outputs : List Output) (i : ℕ) (first : Output)
    → i < length outputs → first ≡ get_or outputs i first
    → None ≡ find (share_file (named first)) (map named outputs)
    → outputs_text (map named outputs) (map named (drop i outputs)) ≡ outputs_text (map named outputs) (map named outputs)
    → outputs_text (map named outputs) (map named (drop (i + 1) outputs)) ≡ outputs_text (map named outputs) (map named outputs)
told_later outputs i first within is found held =
    let all = map named outputs in
    ap (λ o. option_map_or (two_outputs_text (named first)) o (outputs_text all (map named (drop (i + 1) outputs)))) found
    ∙ ap (λ l. outputs_text all (map named l)) (rest_of outputs i first within is)
    ∙ held

-- no output shares its file with another one
pub told_nowhere : (outputs : List Output) (i : ℕ) → length outputs ≤ i
    → outputs_text (map named outputs) (map named (drop i outputs)) ≡ outputs_text (map named outputs) (map named outputs)
    → codes "two outputs have the same name" ≡ outputs_text (map named outputs) (map named outputs)
told_nowhere outputs i past held =
    ap (λ l. outputs_text (map named outputs) (map named l)) (sym (drop_all i outputs past)) ∙ held

-- the output at i would overwrite an input, and none before it would
pub input_here : (names : Names) (outputs : List (RequestedOutput Text)) (i : ℕ) (wanted : RequestedOutput Text) (told : Text)
    → outputs ≡ names.reports → i < length outputs → wanted ≡ get_or outputs i wanted → true ≡ replaces_input names wanted
    → find (replaces_input names) (drop i names.reports) ≡ find (replaces_input names) names.reports
    → told ≡ input_text names wanted → told ≡ inputs_text names
input_here names outputs i wanted told listed within is replaces held same =
    let later = find (replaces_input names) (drop (i + 1) outputs) in
    let found : Some wanted ≡ find (replaces_input names) names.reports =
    ap (λ b. if b then Some wanted else later) replaces
    ∙ ap (find (replaces_input names)) (rest_of outputs i wanted within is ∙ ap (drop i) listed) ∙ held in
    same ∙ ap (λ o. option_map_or (input_text names) o (codes "an output would overwrite a log or a baseline")) found
