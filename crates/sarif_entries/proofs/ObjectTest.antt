-- What the test of a value against an entry's object means.
use Rattle.std.proofs.Common.{◌≡◌, ℕ, Bool, true, false, ◌&&◌, List, [], ◌∷◌, Some, None, codes, refl, sym, ap}
use Rattle.std.specs.Bool.{Decides}
use Rattle.std.specs.Option.{option_map_or}
use Rattle.std.proofs.lemmas.Bool.{false≢true}
use Rattle.std.proofs.lemmas.Slice.Eq.{bytes_eq-Decides}
use Rattle.serde_json.specs.Data.{Data, null, boolean, number, string, array, object, Members, no_members, member}
use Rattle.sarif_entries.specs.declared.entry.Entry.{Entry}
use Rattle.serde_json.specs.Find.{as_object}
use Rattle.serde_json.specs.Written.{has_float, members_have_float}
use Rattle.sarif_model.specs.Status.{status_name}
use Rattle.sarif_entries.specs.Entries.{with_pair}
use Rattle.sarif_model.specs.Written.{text_members}
use Rattle.sarif_entries.specs.Object.{texts_of, object_of, is_string, are_just, is_object_of}

string_means : (text : List ℕ) (d : Data) → Decides (is_string text d) (d ≡ string text)
string_means text null = (λ t. absurd (false≢true t), λ e. cc)
string_means text (boolean b) = (λ t. absurd (false≢true t), λ e. cc)
string_means text (number n) = (λ t. absurd (false≢true t), λ e. cc)
string_means text (string s) = (λ t. ap string (sym ((bytes_eq-Decides text s).0 t)), λ e. (bytes_eq-Decides text s).1 cc)
string_means text (array ds) = (λ t. absurd (false≢true t), λ e. cc)
string_means text (object ms) = (λ t. absurd (false≢true t), λ e. cc)

and_all : {A B C : Type 0} (a b c : Bool) → Decides a A → Decides b B → Decides c C → Decides (a && (b && c)) (A × B × C)
and_all true true c first second third = (λ t. (first.0 refl, second.0 refl, third.0 t), λ p. third.1 p.2)
and_all true false c first second third = (λ t. absurd (false≢true t), λ p. second.1 p.1)
and_all false b c first second third = (λ t. absurd (false≢true t), λ p. first.1 p.0)

just_means : (ps : List (List ℕ × List ℕ)) (ms : Members) → Decides (are_just ps ms) (ms ≡ text_members ps)
just_means [] no_members = (λ _. refl, λ _. refl)
just_means [] (member name d ms) = (λ t. absurd (false≢true t), λ e. cc)
just_means (p ∷ ps) no_members = (λ t. absurd (false≢true t), λ e. cc)
just_means (p ∷ ps) (member name d ms) =
    let each : Decides (are_just (p ∷ ps) (member name d ms)) ((p.0 ≡ name) × (d ≡ string p.1) × (ms ≡ text_members ps)) =
    and_all _ _ _ (bytes_eq-Decides p.0 name) (string_means p.1 d) (just_means ps ms) in
    (λ t. let h : (p.0 ≡ name) × (d ≡ string p.1) × (ms ≡ text_members ps) = each.0 t in cc, λ e. each.1 (cc, cc, cc))

-- a value is tested for exactly these strings
pub texts_mean : (ps : List (List ℕ × List ℕ)) (d : Data) → Decides (option_map_or (are_just ps) (as_object d) false) (d ≡ object (text_members ps))
texts_mean ps null = (λ t. absurd (false≢true t), λ is. cc)
texts_mean ps (boolean b) = (λ t. absurd (false≢true t), λ is. cc)
texts_mean ps (number n) = (λ t. absurd (false≢true t), λ is. cc)
texts_mean ps (string s) = (λ t. absurd (false≢true t), λ is. cc)
texts_mean ps (array ds) = (λ t. absurd (false≢true t), λ is. cc)
texts_mean ps (object ms) = (λ t. ap object ((just_means ps ms).0 t), λ is. (just_means ps ms).1 cc)

-- a value passes the test of an entry if and only if it is the entry's object
pub object_means : (e : Entry) (d : Data) → Decides (is_object_of e d) (d ≡ object_of e)
object_means e d = texts_mean (texts_of e) d

-- the object of an entry holds no number with a fraction
pub object_float : (e : Entry) → has_float (object_of e) ≡ false
object_float e = elim e.justification as
    (λ j. members_have_float
    (text_members (with_pair (codes "justification") j ((codes "kind", codes "external") ∷ (codes "status", status_name e.status) ∷ [])))
    ≡ false) [ None ↦ refl | Some text ↦ refl ]
