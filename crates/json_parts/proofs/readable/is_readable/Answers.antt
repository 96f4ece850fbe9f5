use Rattle.std.proofs.Common.{◌≡◌, ◌≤◌, ◌<◌, ◌+◌, ◌⊎◌, inl, inr, ◌&&◌, ◌∷◌, ℕ, List, false, is_some, length, map, drop, get_or, sym, ap, ◌∙◌, arith}
use Rattle.std.proofs.lemmas.List.{drop_all, drop_more}
use Rattle.json.specs.Token.{Token}
use Rattle.json.specs.declared.tape.Node.{Node}
use Rattle.json.specs.Tape.{node_token}
use Rattle.json.specs.declared.tape.Node.TheVariants.{Object, Array}
use Rattle.serde_json.specs.Read.{number_of}
use Rattle.serde_json.specs.View.{number_view}
use Rattle.json_parts.proofs.Passing.{is_some-map}
use Rattle.json_parts.proofs.Scanned.{deeper, scan, whole_scanned}
use Rattle.json_parts.proofs.readable.is_readable.Goals as goal

none_left : (token : Node) (levels : ℕ) (ts : List Token) → ((end : ℕ) × (token ≡ Object end)) ⊎ ((end : ℕ) × (token ≡ Array end))
    → levels ≡ 0 → scan levels (node_token token ∷ ts) ≡ false
none_left token levels ts (inl (end, is)) none = ap (λ t. scan levels (node_token t ∷ ts)) is ∙ ap (λ n. deeper n (λ m. scan m ts)) none
none_left token levels ts (inr (end, is)) none = ap (λ t. scan levels (node_token t ∷ ts)) is ∙ ap (λ n. deeper n (λ m. scan m ts)) none

pub returns-then-is_none : goal.returns-then-is_none
returns-then-is_none c = λ j whole.
    let l = c.loop-token in
    let tokens = c.args.tokens.now in
    let later = drop (l.token-index + 1) tokens in
    let below : l.token-index < length tokens = omega arith in
    let left = drop_more tokens l.token-index (Object 0) below ∙ ap (λ token. token ∷ later) c.in-Number.is in
    let none : is_some c.parse_number.result ≡ false = grind arith in
    let far : is_some (number_of c.in-Number.text.now) ≡ false = sym (ap is_some c.parse_number.ensures)
    ∙ is_some-map number_view c.parse_number.result ∙ none in
    sym
    (sym (whole_scanned c.args.depth (map node_token tokens) j whole)
    ∙ l.invariant.same
    ∙ ap (λ ts. scan l.levels (map node_token ts)) left
    ∙ ap (λ b. b && scan l.levels (map node_token later)) far)

pub returns-then-levels-eq0 : goal.returns-then-levels-eq0
returns-then-levels-eq0 c = λ j whole.
    let l = c.loop-token in
    let tokens = c.args.tokens.now in
    let later = drop (l.token-index + 1) tokens in
    let below : l.token-index < length tokens = omega arith in
    let none : l.levels ≡ 0 = omega arith in
    sym
    (sym (whole_scanned c.args.depth (map node_token tokens) j whole)
    ∙ l.invariant.same
    ∙ ap (λ ts. scan l.levels (map node_token ts)) (drop_more tokens l.token-index (Object 0) below)
    ∙ none_left (get_or tokens l.token-index (Object 0)) l.levels (map node_token later) c.in-Object.is none)

pub returns : goal.returns
returns c = λ j whole.
    let l = c.loop-token in
    let tokens = c.args.tokens.now in
    let past : length tokens ≤ l.token-index = omega arith in
    sym (ap (λ ts. scan l.levels (map node_token ts)) (drop_all l.token-index tokens past))
    ∙ sym l.invariant.same
    ∙ whole_scanned c.args.depth (map node_token tokens) j whole
