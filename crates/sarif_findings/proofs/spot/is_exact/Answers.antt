use Rattle.std.proofs.Common.{◌≡◌, ◌==◌, ◌&&◌, ◌∙◌, ℕ, List, IsUtf8, ap, chars, length, not, sym}
use Rattle.std.specs.Prelude.{bytes_eq}
use Rattle.std.proofs.lemmas.Str.{encodes-chars}
use Rattle.sarif_findings.specs.Reported.{is_exact}
use Rattle.sarif_findings.specs.Shown.{shown as text_shown}
use Rattle.sarif_findings.proofs.spot.is_exact.Goals as goal

-- the bytes of a path are those of its characters
exact_by : (shown path : List ℕ) → IsUtf8 path → shown ≡ text_shown (chars path)
    → (not (length shown == 0) && bytes_eq shown path) ≡ is_exact (chars path)
exact_by shown path utf8 is =
    ap (λ (text : List ℕ). not (length text == 0) && bytes_eq text path) is
    ∙ ap (λ (bytes : List ℕ). not (length (text_shown (chars path)) == 0) && bytes_eq (text_shown (chars path)) bytes) (sym (encodes-chars path utf8))

pub returns : goal.returns
returns c = c.is_same.ensures ∙ exact_by c.args.shown.now c.args.path.now c.utf8.path c.requires
