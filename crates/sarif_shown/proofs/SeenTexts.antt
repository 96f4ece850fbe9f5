-- Strings of visible characters, and their escaped forms.
use Rattle.std.proofs.Common.{◌≡◌, ◌<◌, ◌^◌, ◌==◌, ◌++◌, ℕ, Bool, true, false, not, ◌&&◌, List, [], ◌∷◌, Option, Some, None, IfSome, codes, chars, decimal, flat_map, if◌then◌else◌, refl, sym, ap, ap₂, ◌∙◌}
use Rattle.std.specs.Prelude.{encode_utf8_all, nat_lt}
use Rattle.std.specs.List.{list_all}
use Rattle.std.proofs.lemmas.Bool.{and_parts, and_from}
use Rattle.std.proofs.lemmas.Str.{encodes-append}
use Rattle.sarif_shown.specs.declared.escaping.Escaping.{Escaping}
use Rattle.sarif_findings.specs.declared.finding.Finding.{Finding}
use Rattle.sarif_shown.specs.Escaped.{escaped, escaped_char}
use Rattle.sarif_findings.specs.Finding.{spot_text, place, place_path, numbered, begins_with_colon}
use Rattle.sarif_findings.specs.Shown.{shown_chars}
use Rattle.sarif_findings.specs.ShownLaws.{is_seen, are_seen}
use Rattle.sarif_findings.proofs.SeenMore.{shown_seen}
use Rattle.sarif_findings.proofs.CharsBack.{chars_back}
use Rattle.sarif_shown.proofs.TextApart.{is_plain, plain_bytes, decimal_plain}
use Rattle.sarif_findings.proofs.ToldFindings.{IsShown, IsPath, IsTold}

abbrev pub IsSeenText : List ℕ → Type 0
IsSeenText text = (cs : List ℕ) × (encode_utf8_all cs ≡ text) × (are_seen cs ≡ true)

seen_append : (xs ys : List ℕ) → are_seen xs ≡ true → are_seen ys ≡ true → are_seen (xs ++ ys) ≡ true
seen_append [] ys h rest = rest
seen_append (x ∷ xs) ys h rest =
    let parts = and_parts (is_seen x) (are_seen xs) h in
    and_from (is_seen x) (are_seen (xs ++ ys)) parts.0 (seen_append xs ys parts.1 rest)

pub two_texts : (a b : List ℕ) → IsSeenText a → IsSeenText b → IsSeenText (a ++ b)
two_texts a b first second =
    (first.0 ++ second.0, encodes-append first.0 second.0 ∙ ap₂ (λ x y. x ++ y) first.1 second.1, seen_append first.0 second.0 first.2 second.2)

plains_seen : (ws : List ℕ) → list_all is_plain ws ≡ true → are_seen ws ≡ true
plains_seen [] h = refl
plains_seen (w ∷ ws) h =
    let parts = and_parts (is_plain w) (list_all is_plain ws) h in
    and_from (is_seen w) (are_seen ws) (and_parts (is_seen w) (not (w == 35) && nat_lt w 128) parts.0).0 (plains_seen ws parts.1)

pub plain_text : (ws : List ℕ) → list_all is_plain ws ≡ true → IsSeenText ws
plain_text ws h = (ws, plain_bytes ws h, plains_seen ws h)

pub shown_text : (text : List ℕ) → IsShown text → IsSeenText text
shown_text text is = (shown_chars is.0, sym is.1, shown_seen is.0)

numbered_text : (o : Option ℕ) → IfSome o (λ k. k < 2 ^ 64) → IsSeenText (numbered o)
numbered_text None h = plain_text [] refl
numbered_text (Some k) h = plain_text (codes ":" ++ decimal k) (decimal_plain k h)

path_text : (b : Bool) (path : List ℕ) → IsShown path → IsSeenText (if b then codes "./" ++ path else path)
path_text true path is = two_texts (codes "./") path (plain_text (codes "./") refl) (shown_text path is)
path_text false path is = shown_text path is

place_text : (path : Option (List ℕ)) (line column : Option ℕ) → IfSome path IsPath → IfSome line (λ k. k < 2 ^ 64) → IfSome column (λ k. k < 2 ^ 64)
    → IsSeenText (place path line column)
place_text None line column p l c = plain_text (codes "-") refl
place_text (Some path) line column p l c =
    two_texts (place_path path) (numbered line ++ numbered column) (path_text (begins_with_colon path) path p.shown)
    (two_texts (numbered line) (numbered column) (numbered_text line l) (numbered_text column c))

pub place_seen : (f : Finding) → IsTold f → IsSeenText (spot_text f)
place_seen f told = place_text f.path f.line f.column told.path told.line told.column

-- the escaped form of such a string is the escaped form of its characters
pub escaped_chars : (way : Escaping) (text : List ℕ) (is : IsSeenText text) → escaped way text ≡ flat_map (escaped_char way) is.0
unfolding escaped
escaped_chars way text is = ap (λ t. flat_map (escaped_char way) (chars t)) (sym is.1) ∙ ap (flat_map (escaped_char way)) (chars_back is.0)
