-- A message in which no target begins has no link.
use Rattle.std.proofs.Common.{◌≡◌, ◌==◌, ◌&&◌, ℕ, Bool, true, false, List, [], ◌∷◌, refl, ap, ◌∙◌, if◌then◌else◌}
use mathlib.Core.Bool.{and-false}
use Rattle.std.proofs.lemmas.Bool.{or_parts}
use Rattle.serde_json.specs.Data.{Data}
use Rattle.sarif_findings.specs.Links.{begins_pair, begins_target, ends_link, ends_target, unlinked}
use Rattle.sarif_findings.specs.Placeholders.{first_is}
use Rattle.sarif_findings.proofs.LinksWhole.{NoneBegins, all_stay}
use Rattle.sarif_shown.specs.FindingLaws.{has_target}

no_target : (args : List Data) (cs : List ℕ) → first_is 40 cs ≡ false → begins_target args cs ≡ false
no_target args [] h = refl
no_target args (c ∷ cs) h = ap (λ b. b && ends_target args cs) h

-- by what the first character is
ends_by : (pair opening closing : Bool) (args : List Data) (cs : List ℕ) → (closing && first_is 40 cs) ≡ false
    → ends_link args true cs ≡ false → ends_link args false cs ≡ false
    → (if pair then ends_link args true cs else (if opening then false else (if closing then begins_target args cs else ends_link args false cs))) ≡ false
ends_by true opening closing args cs h paired other = paired
ends_by false true closing args cs h paired other = refl
ends_by false false true args cs h paired other = no_target args cs h
ends_by false false false args cs h paired other = other

no_end : (args : List Data) (paired : Bool) (cs : List ℕ) → has_target cs ≡ false → ends_link args paired cs ≡ false
no_end args true [] h = refl
no_end args false [] h = refl
no_end args true (c ∷ cs) h = no_end args false cs (or_parts (c == 93 && first_is 40 cs) (has_target cs) h).1
no_end args false (c ∷ cs) h =
    let parts = or_parts (c == 93 && first_is 40 cs) (has_target cs) h in
    ends_by (begins_pair c cs) (c == 91) (c == 93) args cs parts.0 (no_end args true cs parts.1) (no_end args false cs parts.1)

none_begins : (args : List Data) (cs : List ℕ) → has_target cs ≡ false → NoneBegins args cs
none_begins args [] h = tt
none_begins args (c ∷ cs) h =
    let parts = or_parts (c == 93 && first_is 40 cs) (has_target cs) h in
    (ap (λ b. c == 91 && b) (no_end args false cs parts.1) ∙ and-false (c == 91), none_begins args cs parts.1)

pub texts_stay : (args : List Data) (cs : List ℕ) → has_target cs ≡ false → unlinked args cs ≡ cs
texts_stay args cs h = all_stay args cs (none_begins args cs h)
