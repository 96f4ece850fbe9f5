-- The JSON of a log from the JSON of its runs.
use Rattle.std.proofs.Common.{◌≡◌, ◌==◌, ℕ, suc, Bool, true, false, not, List, [], ◌∷◌, ◌++◌, Option, map, take, drop, length, codes, refl, sym, ap, ◌∙◌, append_assoc, arith}
use Rattle.std.proofs.lemmas.Bool.Decides.{nat_tests}
use Rattle.serde_json.proofs.OnLiterals.{serde_json_on_literals}
use Rattle.serde_json.specs.Data.{Data}
use Rattle.serde_json.specs.View.{items_of}
use Rattle.serde_json.specs.Written.{compact_text, items_text}
use Rattle.sarif_model.specs.declared.kinds.State.{State}
use Rattle.sarif_results.specs.declared.draft.Draft.{Draft}
use Rattle.sarif_log.specs.declared.run_parts.RunParts.{RunParts}
use Rattle.sarif_log.specs.Internal.Texts.{count_in_parts, joined, parts_text, runs_texts}
use Rattle.sarif_log.specs.Log.{log_with}
use Rattle.sarif_log.proofs.ResultTexts.{joined_items}

joined_on : (ts us : List (List ℕ)) → joined true ts ++ joined true us ≡ joined true (ts ++ us)
joined_on [] us = refl
joined_on (t ∷ ts) us = ap (λ x. 44 ∷ x) (append_assoc t (joined true ts) (joined true us) ∙ ap (λ x. t ++ x) (joined_on ts us))

nonempty : (n : ℕ) → (suc n == 0) ≡ false
nonempty n = grind (arith, nat_tests)

-- the JSON of runs, followed by other strings
pub joined_both : (all : List RunParts) (ds : List Draft) (ss : List (Option State)) (none : Bool) (us : List (List ℕ))
    → none ≡ (length all == 0)
    → joined false (runs_texts all ds ss) ++ joined (not none) us ≡ joined false (runs_texts all ds ss ++ us)
joined_both [] ds ss none us empty = ap (λ b. joined (not b) us) empty
joined_both (p ∷ all) ds ss none us empty =
    ap (λ b. joined false (runs_texts (p ∷ all) ds ss) ++ joined (not b) us) (empty ∙ nonempty (length all))
    ∙ (let n = count_in_parts p in
    let t = parts_text p (take n ds) (take n ss) in
    let rest = runs_texts all (drop n ds) (drop n ss) in
    append_assoc t (joined true rest) (joined true us) ∙ ap (λ x. t ++ x) (joined_on rest us))

-- the parts of a log's text, from the left
pub log_parts : (gate : Data) (runs : List Data) (ts : List (List ℕ)) → map compact_text runs ≡ ts
    → (((codes "{\"properties\":{\"gate\":" ++ compact_text gate) ++ codes "},\"runs\":[") ++ joined false ts) ++ codes "],\"version\":\"2.1.0\"}"
    ≡ compact_text (log_with gate runs)
unfolding serde_json_on_literals
log_parts gate runs ts same =
    let g = compact_text gate in
    let j = joined false ts in
    let first = codes "{\"properties\":{\"gate\":" in
    let next = codes "},\"runs\":[" in
    let tail = codes ",\"version\":\"2.1.0\"}" in
    let items = items_text false (items_of runs) in
    let ended : j ++ (93 ∷ tail) ≡ items ++ tail =
    sym (append_assoc j (93 ∷ []) tail) ∙ ap (λ t. t ++ tail) (ap (λ xs. joined false xs ++ 93 ∷ []) (sym same) ∙ joined_items false runs) in
    append_assoc ((first ++ g) ++ next) j (93 ∷ tail)
    ∙ append_assoc (first ++ g) next (j ++ (93 ∷ tail))
    ∙ append_assoc first g (next ++ (j ++ (93 ∷ tail)))
    ∙ ap (λ t. first ++ (g ++ (next ++ t))) ended
    ∙ ap (λ t. first ++ t) (sym (append_assoc g (125 ∷ []) (codes ",\"runs\":[" ++ (items ++ tail))))
