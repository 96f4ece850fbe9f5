-- What a string holds after a formatter wrote to it, and what a writer holds after a line was written to it.
use Rattle.std.proofs.Common.{◌≡◌, ◌∙◌, ℕ, ◌++◌, List, [], ◌∷◌, Option, Some, None, length, take, take_all, append_assoc, sym, ap, subst, arith}
use Rattle.std.proofs.lemmas.List.{append-nil}
use Rattle.std.specs.Prelude.{Result, Ok, Err, OnOk, IfErr, is_err}
use Rattle.std.specs.Io.KnownBytes.{Appends}
use Rattle.std.specs.List.{FoldsTo, concat}
use Rattle.std.specs.Fmt.{WritesInCalls}
use Rattle.sarif_streams.specs.Counted.{RisesIf}

parts_append : {P : Type 0} (bytes : P → List ℕ) (parts : List (List ℕ)) (s t : P) → FoldsTo (λ old part new. bytes new ≡ bytes old ++ part) s parts t
    → bytes t ≡ bytes s ++ concat parts
parts_append bytes [] s t all = ap bytes (sym all) ∙ sym (append-nil (bytes s))
parts_append bytes (part ∷ parts) s t all =
    parts_append bytes parts all.0 t all.2 ∙ (ap (λ front. front ++ concat parts) all.1 ∙ append_assoc (bytes s) part (concat parts))

-- calls that each append their part append the whole
pub composed : {P : Type 0} (bytes : P → List ℕ) (text : List ℕ) (s t : P) → bytes s ≡ []
    → WritesInCalls (λ old part new. bytes new ≡ bytes old ++ part) s text t → bytes t ≡ text
composed bytes text s t none wrote =
    parts_append bytes wrote.parts s t wrote.calls ∙ (ap (λ front. front ++ concat wrote.parts) none ∙ wrote.whole)

-- a prefix of the line was written
pub told : (line : List ℕ) (result : Result (Unit {0}) ℕ) (old new : Option (List ℕ)) → OnOk result (Appends old new line)
    → IfErr result (λ n. Appends old new (take n line)) → (n : ℕ) × Appends old new (take n line)
told line (Ok done) old new whole part = (length line, subst (λ text. Appends old new text) (sym (take_all (length line) line (omega arith))) whole)
told line (Err n) old new whole part = (n, part)

-- nothing was
pub untold : (line : List ℕ) (old : Option (List ℕ)) → (n : ℕ) × Appends old old (take n line)
untold line None = (0, tt)
untold line (Some held) = (0, sym (append-nil held))

-- a write that didn't fail wrote all of it
pub whole : (line : List ℕ) (result : Result (Unit {0}) ℕ) (before after : ℕ) (old new : Option (List ℕ)) → OnOk result (Appends old new line)
    → RisesIf (is_err result) before after → after ≡ before → Appends old new line
whole line (Ok done) before after old new all counted same = all
whole line (Err n) before after old new all counted same = absurd (omega (arith, counted, same))
