-- Whether a value is fractional, as its kind says.
use Rattle.std.proofs.Common.{◌≡◌, ℕ, List, Option, Some, None, Bool, false, refl, sym, ap, ◌∙◌}
use Rattle.json.specs.Token.{Token}
use Rattle.json.specs.Json as json
use Rattle.json.specs.Json.{Json}
use Rattle.json.specs.Find as look
use Rattle.json.specs.Find.{BeginsWith}
use Rattle.serde_json.specs.Data.{Num, Data, null, boolean, number, string, array, object}
use Rattle.serde_json.specs.Find.{as_array, as_bool, as_number, is_float}
use Rattle.serde_json.specs.Read.{number_of}
use Rattle.json_parts.specs.Indexed.{data_of, IsReadable}
use Rattle.json_parts.specs.Stripping.{is_fractional}
use Rattle.json_parts.proofs.Readings.{not_found, Some_inj, known, Kind, kind}

number_is : (j : Json) (d : Data) (s : List ℕ) → Kind j d → Some s ≡ look.as_number j → number_of s ≡ as_number d
number_is json.null d s k e = not_found s (sym e)
number_is (json.boolean b) d s k e = not_found s (sym e)
number_is (json.number t) d s k e = ap number_of (Some_inj s t e) ∙ k.1 ∙ ap as_number k.2
number_is (json.string t) d s k e = not_found s (sym e)
number_is (json.array js) d s k e = not_found s (sym e)
number_is (json.object ms) d s k e = not_found s (sym e)

-- the number that the tokens begin with
pub number_at : (ts : List Token) → IsReadable ts → (s : List ℕ) → ((j : Json) → BeginsWith ts j → Some s ≡ look.as_number j)
    → number_of s ≡ as_number (data_of ts)
number_at ts read s h = let k = known ts read in number_is k.0 (data_of ts) s (kind k.0 (data_of ts) k.3) (h k.0 k.1)

no_number : (j : Json) (d : Data) → Kind j d → None ≡ look.as_number j → None ≡ as_number d
no_number json.null d k e = ap as_number k
no_number (json.boolean b) d k e = ap as_number k
no_number (json.number t) d k e = not_found t e
no_number (json.string t) d k e = ap as_number k
no_number (json.array js) d k e = ap as_number k.2
no_number (json.object ms) d k e = ap as_number k.2

pub no_number_at : (ts : List Token) → IsReadable ts → ((j : Json) → BeginsWith ts j → None ≡ look.as_number j) → None ≡ as_number (data_of ts)
no_number_at ts read h = let k = known ts read in no_number k.0 (data_of ts) (kind k.0 (data_of ts) k.3) (h k.0 k.1)

bool_is : (j : Json) (d : Data) → Kind j d → look.as_bool j ≡ as_bool d
bool_is json.null d k = ap as_bool k
bool_is (json.boolean b) d k = ap as_bool k
bool_is (json.number t) d k = ap as_bool k.2
bool_is (json.string t) d k = ap as_bool k
bool_is (json.array js) d k = ap as_bool k.2
bool_is (json.object ms) d k = ap as_bool k.2

pub bool_at : (ts : List Token) → IsReadable ts → (o : Option Bool) → ((j : Json) → BeginsWith ts j → o ≡ look.as_bool j) → o ≡ as_bool (data_of ts)
bool_at ts read o h = let k = known ts read in h k.0 k.1 ∙ bool_is k.0 (data_of ts) (kind k.0 (data_of ts) k.3)

pub fraction_of_number : (d : Data) (n : Num) → Some n ≡ as_number d → is_float n ≡ is_fractional d
fraction_of_number null n e = not_found n (sym e)
fraction_of_number (boolean b) n e = not_found n (sym e)
fraction_of_number (number m) n e = ap is_float (Some_inj n m e)
fraction_of_number (string s) n e = not_found n (sym e)
fraction_of_number (array ds) n e = not_found n (sym e)
fraction_of_number (object ms) n e = not_found n (sym e)

pub no_fraction : (d : Data) → None ≡ as_number d → as_array d ≡ None → false ≡ is_fractional d
no_fraction null e f = refl
no_fraction (boolean b) e f = refl
no_fraction (number n) e f = not_found n e
no_fraction (string s) e f = refl
no_fraction (array ds) e f = not_found ds (sym f)
no_fraction (object ms) e f = refl
