use Rattle.std.proofs.Common.{◌≡◌, ◌==◌, ◌∙◌, ◌∷◌, [], List, ℕ, length, map, string_bytes, true, false, true≢false, sym, ap, subst, arith}
use Rattle.std.specs.Prelude.{Err}
use Rattle.sarif_request.specs.declared.terminal.TerminalFacts.{TerminalFacts}
use Rattle.sarif_request.specs.declared.words.WordsFault.TheVariants.{OutOfMemory}
use Rattle.sarif_request.specs.Terminal.{no_terminal}
use Rattle.sarif_request.specs.Words.{plain_words}
use Rattle.sarif_gate.specs.Served.{AreServed, AreServedAt}
use Rattle.sarif_gate.proofs.run.Goals as goal

some : {A : Type 0} (x : A) (xs : List A) → (length (x ∷ xs) == 0) ≡ true → ⊥
some x xs none = grind (arith, none)

module _ {A : Type 0} (f : A → List ℕ) (facts : TerminalFacts) (status : ℕ) where
  given : (xs : List A) → (length xs == 0) ≡ false → AreServedAt facts (map f xs) status → AreServed facts (map f xs) status
  given [] none served = absurd (true≢false none)
  given (x ∷ xs) _ served = served

  plain : (xs : List A) → (length xs == 0) ≡ true → AreServedAt no_terminal plain_words status → AreServed facts (map f xs) status
  plain [] _ served = served
  plain (x ∷ xs) none served = absurd (some x xs none)

pub returns-then-not-is_empty : goal.returns-then-not-is_empty
returns-then-not-is_empty g c =
    let words = c.args.words.now in
    let any : (length words == 0) ≡ false = sym c.is_empty.ensures ∙ c.if-not-is_empty.true in
    given string_bytes c.args.facts c.run_words.result words any c.run_words.ensures

pub returns-in-Ok : goal.returns-in-Ok
returns-in-Ok g c =
    let words = c.args.words.now in
    let none : (length words == 0) ≡ true = sym c.is_empty.ensures ∙ c.if-not-is_empty.false in
    let read : map string_bytes c.as_slice.result.now ≡ plain_words =
    ap (map string_bytes) c.as_slice.ensures.value ∙ c.in-Ok.ensures in
    plain string_bytes c.args.facts c.run_words-in-Ok.result words none
    (subst (λ (ws : List (List ℕ)). AreServedAt no_terminal ws c.run_words-in-Ok.result) read c.run_words-in-Ok.ensures)

pub returns-in-Err : goal.returns-in-Err
returns-in-Err g c =
    let words = c.args.words.now in
    let none : (length words == 0) ≡ true = sym c.is_empty.ensures ∙ c.if-not-is_empty.false in
    plain string_bytes c.args.facts c.tell_unmade.result words none (Err OutOfMemory, tt, c.tell_unmade.ensures)
