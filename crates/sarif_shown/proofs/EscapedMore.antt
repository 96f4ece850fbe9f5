-- Escaping a string, byte by byte.
use Rattle.std.proofs.Common.{◌≡◌, ◌<◌, ◌≤◌, ◌==◌, ◌||◌, ◌+◌, ℕ, Bool, true, false, List, [], ◌∷◌, ◌++◌, length, drop, get_or, codes, encode_utf8, chars, IsUtf8, refl, sym, ap, ◌∙◌, append-nil, append_assoc, flat_map, if◌then◌else◌, arith}
use Rattle.std.specs.Prelude.{encode_utf8_all}
use Rattle.std.specs.List.{list_any, slice_range}
use Rattle.std.proofs.lemmas.Bool.Decides.{nat_tests}
use Rattle.std.proofs.lemmas.List.{drop_all, drop_more}
use Rattle.std.proofs.lemmas.List.Edits.{between_more, between_none}
use Rattle.std.proofs.lemmas.List.Folds.{drop_split}
use Rattle.std.proofs.lemmas.Str.{encode_ascii, encodes-chars}
use Rattle.std.proofs.lemmas.Bool.{or_parts}
use Rattle.sarif_shown.specs.declared.escaping.Escaping.{Escaping}
use Rattle.sarif_shown.specs.declared.escaping.Escaping.TheVariants.{Message, Property, Markdown, Page, IssueMessage, IssueProperty}
use Rattle.sarif_shown.specs.Escaped.{escaped, escaped_char}
use Rattle.sarif_shown.specs.Internal.EscapedBytes.{escapes, escaped_byte}
use Rattle.sarif_findings.proofs.HighBytes.{char_kept}

-- ---- which bytes are written in another way

pub escapes_low : (way : Escaping) (b : ℕ) → escapes way b ≡ true → b < 128
escapes_low Message b h = grind (arith, nat_tests, h)
escapes_low Property b h = grind (arith, nat_tests, h)
escapes_low Markdown b h = grind (arith, nat_tests, h)
escapes_low Page b h = grind (arith, nat_tests, h)
escapes_low IssueMessage b h = grind (arith, nat_tests, h)
escapes_low IssueProperty b h = grind (arith, nat_tests, h)

no_high : (way : Escaping) (b : ℕ) → 128 ≤ b → escapes way b ≡ false
no_high Message b high = grind (arith, nat_tests, high)
no_high Property b high = grind (arith, nat_tests, high)
no_high Markdown b high = grind (arith, nat_tests, high)
no_high Page b high = grind (arith, nat_tests, high)
no_high IssueMessage b high = grind (arith, nat_tests, high)
no_high IssueProperty b high = grind (arith, nat_tests, high)

three_ways : (a b d : Bool) (p q r x : List ℕ) → (a || (b || d)) ≡ false
    → (if a then p else (if b then q else (if d then r else x))) ≡ x
three_ways true b d p q r x h = cc
three_ways false true d p q r x h = cc
three_ways false false true p q r x h = cc
three_ways false false false p q r x h = refl

five_ways : (a b d e f : Bool) (p q r s t x : List ℕ) → (a || (b || (d || (e || f)))) ≡ false
    → (if a then p else (if b then q else (if d then r else (if e then s else (if f then t else x))))) ≡ x
five_ways true b d e f p q r s t x h = cc
five_ways false true d e f p q r s t x h = cc
five_ways false false d e f p q r s t x h = three_ways d e f r s t x h

-- the other characters are unchanged
as_it_stands : (way : Escaping) (c : ℕ) → escapes way c ≡ false → escaped_char way c ≡ encode_utf8 c
as_it_stands Message c h = rw h refl
as_it_stands Property c h = three_ways (c == 37) (c == 58) (c == 44) (codes "%25") (codes "%3A") (codes "%2C") (encode_utf8 c) h
as_it_stands Markdown c h = rw h refl
as_it_stands Page c h =
    five_ways (c == 38) (c == 60) (c == 62) (c == 34) (c == 39) (codes "&amp;") (codes "&lt;") (codes "&gt;") (codes "&quot;") (codes "&#39;") (encode_utf8 c) h
as_it_stands IssueMessage c h = rw h refl
as_it_stands IssueProperty c h = three_ways (c == 37) (c == 59) (c == 93) (codes "%AZP25") (codes "%3B") (codes "%5D") (encode_utf8 c) h

-- ---- a string by its bytes

byte_stands : (way : Escaping) (b : ℕ) (rest : List ℕ) → escapes way b ≡ false
    → flat_map (escaped_byte way) (b ∷ rest) ≡ b ∷ flat_map (escaped_byte way) rest
byte_stands way b rest h = rw h refl

stand_step : (way : Escaping) (b : ℕ) (bs : List ℕ) → escapes way b ≡ false
    → ((rest : List ℕ) → flat_map (escaped_byte way) (bs ++ rest) ≡ bs ++ flat_map (escaped_byte way) rest)
    → (rest : List ℕ) → flat_map (escaped_byte way) ((b ∷ bs) ++ rest) ≡ (b ∷ bs) ++ flat_map (escaped_byte way) rest
stand_step way b bs h stand rest = byte_stands way b (bs ++ rest) h ∙ ap (λ t. b ∷ t) (stand rest)

bytes_stand : (way : Escaping) (c : ℕ) → escapes way c ≡ false
    → (rest : List ℕ) → flat_map (escaped_byte way) ((encode_utf8 c ++ []) ++ rest) ≡ (encode_utf8 c ++ []) ++ flat_map (escaped_byte way) rest
bytes_stand way c h =
    char_kept (λ bs. (rest : List ℕ) → flat_map (escaped_byte way) (bs ++ rest) ≡ bs ++ flat_map (escaped_byte way) rest)
    (λ b bs high stand. stand_step way b bs (no_high way b high) stand) c [] (λ low stand. stand_step way c [] h stand) (λ rest. refl)

pub byte_escaped : (way : Escaping) (b : ℕ) (rest : List ℕ) → escapes way b ≡ true
    → flat_map (escaped_byte way) (b ∷ rest) ≡ escaped_char way b ++ flat_map (escaped_byte way) rest
byte_escaped way b rest h = rw h refl

char_bytes : (way : Escaping) (c : ℕ) (rest : List ℕ) (b : Bool) → escapes way c ≡ b
    → flat_map (escaped_byte way) (encode_utf8 c ++ rest) ≡ escaped_char way c ++ flat_map (escaped_byte way) rest
char_bytes way c rest true h =
    ap (λ bs. flat_map (escaped_byte way) (bs ++ rest)) (encode_ascii c (escapes_low way c h)) ∙ byte_escaped way c rest h
char_bytes way c rest false h =
    let whole : encode_utf8 c ++ [] ≡ encode_utf8 c = append-nil (encode_utf8 c) in
    ap (λ bs. flat_map (escaped_byte way) (bs ++ rest)) (sym whole) ∙ bytes_stand way c h rest
    ∙ ap (λ bs. bs ++ flat_map (escaped_byte way) rest) (whole ∙ sym (as_it_stands way c h))

text_bytes : (way : Escaping) (cs : List ℕ) → flat_map (escaped_char way) cs ≡ flat_map (escaped_byte way) (encode_utf8_all cs)
text_bytes way [] = refl
text_bytes way (c ∷ cs) =
    ap (λ t. escaped_char way c ++ t) (text_bytes way cs) ∙ sym (char_bytes way c (encode_utf8_all cs) (escapes way c) refl)

pub escaped_bytes : (way : Escaping) (text : List ℕ) → IsUtf8 text → escaped way text ≡ flat_map (escaped_byte way) text
unfolding escaped
escaped_bytes way text utf8 = text_bytes way (chars text) ∙ ap (flat_map (escaped_byte way)) (encodes-chars text utf8)

-- ---- a partly escaped string, whose bytes from `added` to `i` are unchanged

pub stands_step : (way : Escaping) (bs : List ℕ) (added i : ℕ) (text whole : List ℕ) → added ≤ i → i < length bs
    → escapes way (get_or bs i 0) ≡ false
    → text ++ (slice_range bs added i ++ flat_map (escaped_byte way) (drop i bs)) ≡ whole
    → text ++ (slice_range bs added (i + 1) ++ flat_map (escaped_byte way) (drop (i + 1) bs)) ≡ whole
stands_step way bs added i text whole front within h held =
    let rest : List ℕ = flat_map (escaped_byte way) (drop (i + 1) bs) in
    let left : flat_map (escaped_byte way) (drop i bs) ≡ get_or bs i 0 ∷ rest =
    ap (flat_map (escaped_byte way)) (drop_more bs i 0 within) ∙ byte_stands way (get_or bs i 0) (drop (i + 1) bs) h in
    ap (λ t. text ++ (t ++ rest)) (between_more bs added i 0 front within)
    ∙ ap (λ t. text ++ t) (append_assoc (slice_range bs added i) (get_or bs i 0 ∷ []) rest)
    ∙ ap (λ t. text ++ (slice_range bs added i ++ t)) (sym left) ∙ held

pub escaped_step : (way : Escaping) (bs : List ℕ) (added i : ℕ) (text mid new whole : List ℕ) → i < length bs
    → escapes way (get_or bs i 0) ≡ true
    → text ++ (slice_range bs added i ++ flat_map (escaped_byte way) (drop i bs)) ≡ whole
    → mid ≡ text ++ slice_range bs added i → new ≡ mid ++ escaped_char way (get_or bs i 0)
    → new ++ (slice_range bs (i + 1) (i + 1) ++ flat_map (escaped_byte way) (drop (i + 1) bs)) ≡ whole
escaped_step way bs added i text mid new whole within h held p q =
    let rest : List ℕ = flat_map (escaped_byte way) (drop (i + 1) bs) in
    let char : List ℕ = escaped_char way (get_or bs i 0) in
    let left : flat_map (escaped_byte way) (drop i bs) ≡ char ++ rest =
    ap (flat_map (escaped_byte way)) (drop_more bs i 0 within) ∙ byte_escaped way (get_or bs i 0) (drop (i + 1) bs) h in
    ap (λ t. new ++ (t ++ rest)) (between_none bs (i + 1)) ∙ ap (λ t. t ++ rest) (q ∙ ap (λ t. t ++ char) p)
    ∙ append_assoc (text ++ slice_range bs added i) char rest ∙ append_assoc text (slice_range bs added i) (char ++ rest)
    ∙ ap (λ t. text ++ (slice_range bs added i ++ t)) (sym left) ∙ held

pub all_added : (way : Escaping) (bs : List ℕ) (added i : ℕ) (old text new : List ℕ) → added ≤ i → length bs ≤ i → IsUtf8 bs
    → text ++ (slice_range bs added i ++ flat_map (escaped_byte way) (drop i bs)) ≡ old ++ flat_map (escaped_byte way) bs
    → new ≡ text ++ drop added bs → new ≡ old ++ escaped way bs
all_added way bs added i old text new front end utf8 held e =
    let none : drop i bs ≡ [] = drop_all i bs end in
    e ∙ ap (λ t. text ++ t) (drop_split bs added i front)
    ∙ ap (λ t. text ++ (slice_range bs added i ++ t)) (none ∙ sym (ap (flat_map (escaped_byte way)) none)) ∙ held
    ∙ ap (λ t. old ++ t) (sym (escaped_bytes way bs utf8))

-- ---- a string in which nothing is replaced

none_here : (way : Escaping) (b : ℕ) (bs : List ℕ) → (escapes way b || list_any (escapes way) bs) ≡ false
    → (escapes way b ≡ false) × (list_any (escapes way) bs ≡ false)
none_here way b bs none = or_parts (escapes way b) (list_any (escapes way) bs) none

none_in : (way : Escaping) (bs : List ℕ) → list_any (escapes way) bs ≡ false → flat_map (escaped_byte way) bs ≡ bs
none_in way [] none = refl
none_in way (b ∷ bs) none =
    let here = none_here way b bs none in
    byte_stands way b bs here.0 ∙ ap (λ t. b ∷ t) (none_in way bs here.1)

pub none_replaced : (way : Escaping) (text : List ℕ) → IsUtf8 text → list_any (escapes way) text ≡ false → escaped way text ≡ text
none_replaced way text utf8 none = escaped_bytes way text utf8 ∙ none_in way text none
