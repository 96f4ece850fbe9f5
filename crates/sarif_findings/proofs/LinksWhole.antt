-- A message without links.
use Rattle.std.proofs.Common.{◌≡◌, ◌<◌, ◌==◌, ℕ, Bool, true, false, List, [], ◌∷◌, chars, IsUtf8, refl, sym, ap, ◌∙◌, arith}
use Rattle.std.specs.Prelude.{encode_utf8_all}
use Rattle.std.specs.Bool.{OnTrue}
use Rattle.std.specs.List.{list_all}
use Rattle.std.proofs.lemmas.Bool.Decides.{nat_tests}
use Rattle.std.proofs.lemmas.Str.{encodes-chars}
use Rattle.serde_json.specs.Data.{Data}
use Rattle.sarif_findings.specs.declared.links.Part.{Part}
use Rattle.sarif_findings.specs.declared.links.Part.TheVariants.{Outside, OutsidePair}
use Rattle.sarif_findings.specs.Links.{begins_link, begins_pair, is_unbracketed, part_after, stays_between, unlinked, unlinked_from}
use Rattle.sarif_findings.proofs.BytesOf.{first_passes}
use Rattle.sarif_findings.proofs.LinksMore.{char_stays}

-- ---- if no link begins, all characters stay

-- no link begins at any of these characters
abbrev pub NoneBegins : List Data → List ℕ → Type 0
NoneBegins args [] = Unit {0}
NoneBegins args (c ∷ cs) = (begins_link args c cs ≡ false) × NoneBegins args cs

abbrev part_of : Bool → Part
part_of true = OutsidePair
part_of false = Outside

next_is : (args : List Data) (b : Bool) (c : ℕ) (cs : List ℕ) → begins_pair c cs ≡ b → begins_link args c cs ≡ false
    → part_of b ≡ part_after args Outside c cs
next_is args true c cs pair none = rw pair refl
next_is args false c cs pair none = rw (pair, none) refl

stays_outside : (b : Bool) → stays_between Outside (part_of b) ≡ true
stays_outside true = refl
stays_outside false = refl

none_begins : (args : List Data) (paired : Bool) (cs : List ℕ) → NoneBegins args cs → unlinked_from args (part_of paired) cs ≡ cs
none_begins args paired [] h = refl
none_begins args true (c ∷ cs) h = ap (λ ds. c ∷ ds) (none_begins args false cs h.1)
none_begins args false (c ∷ cs) h =
    let b : Bool = begins_pair c cs in
    char_stays args Outside (part_of b) c cs (next_is args b c cs refl h.0) (stays_outside b)
    ∙ ap (λ ds. c ∷ ds) (none_begins args b cs h.1)

pub all_stay : (args : List Data) (cs : List ℕ) → NoneBegins args cs → unlinked args cs ≡ cs
all_stay args cs h = none_begins args false cs h

-- ---- a message without `[`

bracket_low : (c : ℕ) → is_unbracketed c ≡ false → c < 128
bracket_low c h = grind (arith, nat_tests, h)

not_opening : (c : ℕ) → is_unbracketed c ≡ true → (c == 91) ≡ false
not_opening c h = grind (arith, nat_tests, h)

opens_none : (args : List Data) (c : ℕ) (cs : List ℕ) → is_unbracketed c ≡ true → begins_link args c cs ≡ false
opens_none args c cs h = rw (not_opening c h) refl

chars_unbracketed : (args : List Data) (cs : List ℕ) → list_all is_unbracketed (encode_utf8_all cs) ≡ true → NoneBegins args cs
chars_unbracketed args [] h = tt
chars_unbracketed args (c ∷ cs) h =
    let parts = first_passes is_unbracketed bracket_low c cs h in
    (opens_none args c cs parts.0, chars_unbracketed args cs parts.1)

pub no_link_if : (b : Bool) (text : List ℕ) → IsUtf8 text → b ≡ list_all is_unbracketed text
    → OnTrue b ((args : List Data) → unlinked args (chars text) ≡ chars text)
no_link_if true text utf8 e = λ args.
    all_stay args (chars text) (chars_unbracketed args (chars text) (ap (list_all is_unbracketed) (encodes-chars text utf8) ∙ sym e))
no_link_if false text utf8 e = tt
