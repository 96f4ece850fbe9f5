-- The key under which an entry is filed, by a message or among the entries of its snippet, is among those of each result
-- that it matches.
use Rattle.std.proofs.Common.{◌≡◌, ℕ, Bool, true, false, not, ◌&&◌, ◌||◌, List, [], ◌∷◌, ◌++◌, Option, Some, None, is_none, is_some, map, bytes_eq, refl, sym, ap, ◌∙◌, if◌then◌else◌}
use Rattle.std.proofs.lemmas.Bool.{and_parts, false≢true, or_left, or_right}
use Rattle.std.proofs.lemmas.List.Folds.{list_any-append}
use Rattle.std.proofs.lemmas.Slice.Eq.{bytes_eq-Decides, slice_eq-Decides}
use Rattle.std.specs.Bool.{Decides}
use Rattle.std.specs.Cmp.Lexicographic.{pointwise}
use Rattle.std.specs.List.{list_any}
use Rattle.std.specs.Option.{option_map_or}
use Rattle.std.specs.Prelude.{slice_get}
use Rattle.sarif_model.specs.declared.record.Record.{Record}
use Rattle.sarif_entries.specs.Internal.Filing.{key_of, key_of_pair, keys_under, keys_at, message_keys, keys_of_pairs, keys_of_uri, keys_beside}
use Rattle.sarif_entries.specs.Condition.{are_among, is_pair, is_text}
use Rattle.sarif_entries.specs.Matching.{is_empty}
use Rattle.sarif_entries.proofs.Meaning.{pair_means}

-- there is a string, and it is the required one, if one is required
abbrev pub is_there : Option (List ℕ) → Option (List ℕ) → Bool
is_there wanted found = option_map_or (λ text. is_text text found) wanted true

-- the strings are the required ones in their order, if some are required
abbrev pub are_wanted : List (List ℕ) → List (List ℕ) → Bool
are_wanted [] found = true
are_wanted (text ∷ texts) found = pointwise bytes_eq (text ∷ texts) found

-- the key is among these
abbrev is_in : List (List ℕ) → List (List (List ℕ)) → Bool
is_in own keys = list_any (λ key. pointwise bytes_eq own key) keys

pub key-Decides : (a b : List (List ℕ)) → Decides (pointwise bytes_eq a b) (a ≡ b)
key-Decides a b = slice_eq-Decides bytes_eq-Decides a b _ refl

itself : (key : List (List ℕ)) → pointwise bytes_eq key key ≡ true
itself key = (key-Decides key key).1 refl

in_left : (own : List (List ℕ)) (a b : List (List (List ℕ))) → is_in own a ≡ true → is_in own (a ++ b) ≡ true
in_left own a b is =
    list_any-append (λ key. pointwise bytes_eq own key) a b ∙ or_left (is_in own a) (is_in own b) is

in_right : (own : List (List ℕ)) (a b : List (List (List ℕ))) → is_in own b ≡ true → is_in own (a ++ b) ≡ true
in_right own a b is =
    list_any-append (λ key. pointwise bytes_eq own key) a b ∙ or_right (is_in own a) (is_in own b) is

in_under : (uri head : Option (List ℕ)) (wanted args : List (List ℕ)) → are_wanted wanted args ≡ true
    → is_in (key_of uri head wanted) (keys_under uri head args) ≡ true
in_under uri head [] args t =
    or_left (pointwise bytes_eq (key_of uri head []) (key_of uri head [])) _ (itself (key_of uri head []))
in_under uri head (w ∷ ws) [] t = absurd (false≢true t)
in_under uri head (w ∷ ws) (a ∷ args) t =
    let same : w ∷ ws ≡ a ∷ args = (key-Decides (w ∷ ws) (a ∷ args)).0 t in
    let own : List (List ℕ) = key_of uri head (a ∷ args) in
    ap (λ wanted. is_in (key_of uri head wanted) (keys_under uri head (a ∷ args))) same
    ∙ or_right (pointwise bytes_eq own (key_of uri head [])) _ (or_left (pointwise bytes_eq own own) false (itself own))

in_args : (uri : Option (List ℕ)) (w : List ℕ) (ws args : List (List ℕ)) → are_wanted (w ∷ ws) args ≡ true
    → is_in (key_of uri None (w ∷ ws)) (if is_empty args then [] else key_of uri None args ∷ []) ≡ true
in_args uri w ws [] t = absurd (false≢true t)
in_args uri w ws (a ∷ args) t =
    let same : w ∷ ws ≡ a ∷ args = (key-Decides (w ∷ ws) (a ∷ args)).0 t in
    let own : List (List ℕ) = key_of uri None (a ∷ args) in
    ap (λ wanted. is_in (key_of uri None wanted) (own ∷ [])) same
    ∙ or_left (pointwise bytes_eq own own) false (itself own)

-- the keys for a message's string, for its id, and for arguments alone
abbrev parts : Option (List ℕ) → Option (List ℕ) → Option (List ℕ) → List (List ℕ) → List (List (List ℕ))
parts uri text id args =
    ((if is_some text then keys_under uri text args else []) ++ (if is_some id then keys_under uri id args else []))
    ++ (if is_empty args then [] else key_of uri None args ∷ [])

-- something of the message is required
abbrev is_named : Option (List ℕ) → Option (List ℕ) → List (List ℕ) → Bool
is_named text id args = not (is_none text && (is_none id && is_empty args))

in_parts : (uri wanted_text wanted_id text id : Option (List ℕ)) (wanted args : List (List ℕ)) → is_there wanted_text text ≡ true
    → is_there wanted_id id ≡ true → are_wanted wanted args ≡ true → is_named wanted_text wanted_id wanted ≡ true
    → is_in (key_of uri (if is_some wanted_text then wanted_text else wanted_id) wanted) (parts uri text id args) ≡ true
in_parts uri (Some w) wanted_id None id wanted args t _ a _ = absurd (false≢true t)
in_parts uri (Some w) wanted_id (Some text) id wanted args t _ a _ =
    let same : w ≡ text = (bytes_eq-Decides w text).0 t in
    let own : List (List ℕ) = key_of uri (Some text) wanted in
    ap (λ word. is_in (key_of uri (Some word) wanted) (parts uri (Some text) id args)) same
    ∙ in_left own (keys_under uri (Some text) args ++ (if is_some id then keys_under uri id args else [])) _
    (in_left own (keys_under uri (Some text) args) _ (in_under uri (Some text) wanted args a))
in_parts uri None (Some w) text None wanted args _ t a _ = absurd (false≢true t)
in_parts uri None (Some w) text (Some id) wanted args _ t a _ =
    let same : w ≡ id = (bytes_eq-Decides w id).0 t in
    let own : List (List ℕ) = key_of uri (Some id) wanted in
    ap (λ word. is_in (key_of uri (Some word) wanted) (parts uri text (Some id) args)) same
    ∙ in_left own ((if is_some text then keys_under uri text args else []) ++ keys_under uri (Some id) args) _
    (in_right own (if is_some text then keys_under uri text args else []) (keys_under uri (Some id) args)
    (in_under uri (Some id) wanted args a))
in_parts uri None None text id [] args _ _ _ t = absurd (false≢true t)
in_parts uri None None text id (w ∷ ws) args _ _ a _ =
    in_right (key_of uri None (w ∷ ws))
    ((if is_some text then keys_under uri text args else []) ++ (if is_some id then keys_under uri id args else [])) _
    (in_args uri w ws args a)

-- the key for these conditions is among those of a result that meets them
pub in_message_keys : (r : Record) (wanted_uri wanted_text wanted_id : Option (List ℕ)) (wanted : List (List ℕ))
    → is_there wanted_uri r.place.uri ≡ true → is_there wanted_text r.message.text ≡ true → is_there wanted_id r.message.id ≡ true
    → are_wanted wanted r.message.args ≡ true → is_named wanted_text wanted_id wanted ≡ true
    → is_in (key_of wanted_uri (if is_some wanted_text then wanted_text else wanted_id) wanted) (message_keys r) ≡ true
in_message_keys r wanted_uri wanted_text wanted_id wanted u t i a named = with_uri wanted_uri r.place.uri u
  where
    head : Option (List ℕ)
    head = if is_some wanted_text then wanted_text else wanted_id

    at : (uri : Option (List ℕ)) → is_in (key_of uri head wanted) (keys_at uri r.message) ≡ true
    at uri =
        in_parts uri wanted_text wanted_id r.message.text r.message.id wanted r.message.args t i a named

    with_uri : (wanted_uri uri : Option (List ℕ)) → is_there wanted_uri uri ≡ true
        → is_in (key_of wanted_uri head wanted) (keys_at None r.message ++ (if is_some uri then keys_at uri r.message else [])) ≡ true
    with_uri None uri u = in_left (key_of None head wanted) (keys_at None r.message) _ (at None)
    with_uri (Some w) None u = absurd (false≢true u)
    with_uri (Some w) (Some uri) u =
        let same : w ≡ uri = (bytes_eq-Decides w uri).0 u in
        ap (λ word. is_in (key_of (Some word) head wanted) (keys_at None r.message ++ keys_at (Some uri) r.message)) same
        ∙ in_right (key_of (Some uri) head wanted) (keys_at None r.message) (keys_at (Some uri) r.message) (at (Some uri))

-- ---- the keys among the entries of a snippet

in_uri_keys : (wanted uri : Option (List ℕ)) → is_there wanted uri ≡ true → is_in (key_of wanted None []) (keys_of_uri uri) ≡ true
in_uri_keys None uri u = refl
in_uri_keys (Some w) None u = absurd (false≢true u)
in_uri_keys (Some w) (Some uri) u =
    let same : w ≡ uri = (bytes_eq-Decides w uri).0 u in
    let own : List (List ℕ) = key_of (Some uri) None [] in
    ap (λ word. is_in (key_of (Some word) None []) (keys_of_uri (Some uri))) same
    ∙ or_right (pointwise bytes_eq own (key_of None None [])) _ (or_left (pointwise bytes_eq own own) false (itself own))

-- the key of a fingerprint is among those of the fingerprints that include it
in_pairs_with : (uri : Option (List ℕ)) (pair : List ℕ × List ℕ) (found : List (List ℕ × List ℕ)) → list_any (λ q. is_pair q pair) found ≡ true
    → is_in (key_of_pair uri pair) (map (key_of_pair uri) found) ≡ true
in_pairs_with uri pair [] t = absurd (false≢true t)
in_pairs_with uri pair (q ∷ qs) t =
    elim (is_pair q pair) as (λ b. is_pair q pair ≡ b → (b || list_any (λ q. is_pair q pair) qs) ≡ true
    → is_in (key_of_pair uri pair) (map (key_of_pair uri) (q ∷ qs)) ≡ true) [
      | true ↦ λ same _. ap (λ own. is_in (key_of_pair uri own) (map (key_of_pair uri) (q ∷ qs))) (sym ((pair_means q pair).0 same))
          ∙ or_left (pointwise bytes_eq (key_of_pair uri q) (key_of_pair uri q)) _ (itself (key_of_pair uri q))
      | false ↦ λ _ rest. or_right (pointwise bytes_eq (key_of_pair uri pair) (key_of_pair uri q)) _ (in_pairs_with uri pair qs rest)
    ] refl t

in_pairs : (wanted uri : Option (List ℕ)) (pair : List ℕ × List ℕ) (found : List (List ℕ × List ℕ)) → is_there wanted uri ≡ true
    → list_any (λ q. is_pair q pair) found ≡ true → is_in (key_of_pair wanted pair) (keys_of_pairs uri found) ≡ true
in_pairs None uri pair found u t =
    in_left (key_of_pair None pair) (map (key_of_pair None) found) _ (in_pairs_with None pair found t)
in_pairs (Some w) None pair found u t = absurd (false≢true u)
in_pairs (Some w) (Some uri) pair found u t =
    let same : w ≡ uri = (bytes_eq-Decides w uri).0 u in
    ap (λ word. is_in (key_of_pair (Some word) pair) (keys_of_pairs (Some uri) found)) same
    ∙ in_right (key_of_pair (Some uri) pair) (map (key_of_pair None) found) (map (key_of_pair (Some uri)) found)
    (in_pairs_with (Some uri) pair found t)

-- the key of an entry among those of its snippet is among the keys of a result that meets its conditions
module _ (r : Record) where
  in_message : (key : List (List ℕ)) → is_in key (message_keys r) ≡ true → is_in key (keys_beside r) ≡ true
  in_message key is =
      in_left key ((message_keys r ++ keys_of_uri r.place.uri) ++ keys_of_pairs r.place.uri r.full) (keys_of_pairs r.place.uri r.partial)
      (in_left key (message_keys r ++ keys_of_uri r.place.uri) (keys_of_pairs r.place.uri r.full)
      (in_left key (message_keys r) (keys_of_uri r.place.uri) is))

  pub in_keys_beside : (full partial : List (List ℕ × List ℕ)) (uri text id : Option (List ℕ)) (args : List (List ℕ))
      → are_among full r.full ≡ true → are_among partial r.partial ≡ true → is_there uri r.place.uri ≡ true
      → is_there text r.message.text ≡ true → is_there id r.message.id ≡ true → are_wanted args r.message.args ≡ true
      → is_in (option_map_or (key_of_pair uri) (if is_empty full then slice_get partial 0 else slice_get full 0)
      (key_of uri (if is_some text then text else id) args)) (keys_beside r) ≡ true
  in_keys_beside (pair ∷ full) partial uri text id args f p u t i a =
      in_left (key_of_pair uri pair) ((message_keys r ++ keys_of_uri r.place.uri) ++ keys_of_pairs r.place.uri r.full) (keys_of_pairs r.place.uri r.partial)
      (in_right (key_of_pair uri pair) (message_keys r ++ keys_of_uri r.place.uri) (keys_of_pairs r.place.uri r.full)
      (in_pairs uri r.place.uri pair r.full u (and_parts (list_any (λ q. is_pair q pair) r.full) (are_among full r.full) f).0))
  in_keys_beside [] (pair ∷ partial) uri text id args f p u t i a =
      in_right (key_of_pair uri pair) ((message_keys r ++ keys_of_uri r.place.uri) ++ keys_of_pairs r.place.uri r.full) (keys_of_pairs r.place.uri r.partial)
      (in_pairs uri r.place.uri pair r.partial u (and_parts (list_any (λ q. is_pair q pair) r.partial) (are_among partial r.partial) p).0)
  in_keys_beside [] [] uri (Some text) id args f p u t i a =
      in_message (key_of uri (Some text) args) (in_message_keys r uri (Some text) id args u t i a refl)
  in_keys_beside [] [] uri None (Some id) args f p u t i a =
      in_message (key_of uri (Some id) args) (in_message_keys r uri None (Some id) args u t i a refl)
  in_keys_beside [] [] uri None None (arg ∷ args) f p u t i a =
      in_message (key_of uri None (arg ∷ args)) (in_message_keys r uri None None (arg ∷ args) u t i a refl)
  in_keys_beside [] [] uri None None [] f p u t i a =
      in_left (key_of uri None []) ((message_keys r ++ keys_of_uri r.place.uri) ++ keys_of_pairs r.place.uri r.full) (keys_of_pairs r.place.uri r.partial)
      (in_left (key_of uri None []) (message_keys r ++ keys_of_uri r.place.uri) (keys_of_pairs r.place.uri r.full)
      (in_right (key_of uri None []) (message_keys r) (keys_of_uri r.place.uri) (in_uri_keys uri r.place.uri u)))
