-- Names with their strings, each name greater than the one before it.
use Rattle.std.proofs.Common.{◌≡◌, ℕ, suc, ◌-◌, true, false, List, [], ◌∷◌, ◌++◌, Some, Ok, Ordering, Less, Equal, Greater, length, refl, sym, ap, ◌∙◌, arith}
use Rattle.std.specs.Prelude.{slice_get}
use Rattle.std.specs.Ordering.{nat_cmp, match_ordering, ordering_reverse}
use Rattle.std.specs.Cmp.Lexicographic.{slice_cmp}
use Rattle.std.proofs.lemmas.Cmp.{nat_list_cmp_total}
use Rattle.serde_json.specs.Data.{Data, null, boolean, number, string, array, object, member, put}
use Rattle.serde_json.specs.Find.{as_str, as_object}
use Rattle.json_parts.specs.Internal.Ordered.{IsBelow, AreMembersOrdered}
use Rattle.json_parts.specs.Stripping.{stripped, stripped_members}
use Rattle.json_parts.proofs.Readings.{not_found, Some_inj}
use Rattle.sarif_model.specs.declared.fault.Fault.TheVariants.{BadFingerprint}
use Rattle.sarif_model.specs.Members.{◌>>=◌, result_map, of_kind}
use Rattle.sarif_members.specs.Fingerprints.{Pair, with_pair, pairs_among, pairs_of}
use Rattle.sarif_members.specs.Internal.Rising.{strings_of, is_above, is_past}

abbrev cmp : List ℕ → List ℕ → Ordering
cmp = slice_cmp nat_cmp

-- ---- a name past the last one is put at the end

less_by : (o : Ordering) → match_ordering o true false false ≡ true → o ≡ Less
less_by Less is = refl
less_by Equal is = cc
less_by Greater is = cc

reversed : (l k : List ℕ) → cmp l k ≡ Less → cmp k l ≡ Greater
reversed l k less = nat_list_cmp_total.antisymm k l ∙ ap ordering_reverse less

one_less : (n : ℕ) → suc n - 1 ≡ n
one_less n = omega arith

past_rest : (name : List ℕ) (p q : Pair) (pairs : List Pair) → is_past name (p ∷ q ∷ pairs) ≡ is_past name (q ∷ pairs)
past_rest name p q pairs =
    ap (λ n. is_above name (slice_get (p ∷ q ∷ pairs) n)) (one_less (suc (length pairs)))
    ∙ ap (λ n. is_above name (slice_get (q ∷ pairs) n)) (sym (one_less (length pairs)))

-- what is below each of these is below a name past the last one
below_past : (l name : List ℕ) (p : Pair) (pairs : List Pair) → IsBelow l (strings_of (p ∷ pairs)) → is_past name (p ∷ pairs) ≡ true
    → cmp l name ≡ Less
below_past l name p [] below past = nat_list_cmp_total.trans l p.0 name below.0 (less_by (cmp p.0 name) past)
below_past l name p (q ∷ pairs) below past = below_past l name q pairs below.1 (sym (past_rest name p q pairs) ∙ past)

pub put_last : (name text : List ℕ) (pairs : List Pair) → AreMembersOrdered (strings_of pairs) → is_past name pairs ≡ true
    → put name (string text) (strings_of pairs) ≡ strings_of (pairs ++ (name, text) ∷ [])
put_last name text [] ordered past = refl
put_last name text (p ∷ []) ordered past = rw (reversed p.0 name (less_by (cmp p.0 name) past)) refl
put_last name text (p ∷ q ∷ pairs) ordered past =
    let rest : is_past name (q ∷ pairs) ≡ true = sym (past_rest name p q pairs) ∙ past in
    rw (reversed p.0 name (below_past p.0 name q pairs ordered.0 rest))
    (ap (member p.0 (string p.1)) (put_last name text (q ∷ pairs) ordered.2 rest))

-- ---- the pairs of the object with these strings

stripped_strings : (pairs : List Pair) → stripped_members (strings_of pairs) ≡ strings_of pairs
stripped_strings [] = refl
stripped_strings (p ∷ pairs) = ap (member p.0 (string p.1)) (stripped_strings pairs)

pairs_back : (pairs : List Pair) → pairs_among (strings_of pairs) ≡ Ok pairs
pairs_back [] = refl
pairs_back (p ∷ pairs) = ap (result_map (with_pair p.0 (Some p.1))) (pairs_back pairs)

pub told : (d : Data) (pairs : List Pair) → d ≡ object (strings_of pairs)
    → (of_kind BadFingerprint as_object (Some (stripped d)) >>= pairs_of) ≡ Ok pairs
told d pairs is =
    ap (λ x. of_kind BadFingerprint as_object (Some (stripped x)) >>= pairs_of) is ∙ ap pairs_among (stripped_strings pairs) ∙ pairs_back pairs

-- ---- a string

pub a_string : (d : Data) (s : List ℕ) → Some s ≡ as_str d → d ≡ string s
a_string null s e = not_found s (sym e)
a_string (boolean b) s e = not_found s (sym e)
a_string (number n) s e = not_found s (sym e)
a_string (string t) s e = ap string (sym (Some_inj s t e))
a_string (array ds) s e = not_found s (sym e)
a_string (object ms) s e = not_found s (sym e)
