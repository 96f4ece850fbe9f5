-- What an address has for `{path}`: the path is read back from it, and its segments are names.
use Rattle.std.proofs.Common.{◌≡◌, ◌≢◌, ◌<◌, ◌++◌, ◌+◌, ◌==◌, ℕ, Bool, true, false, not, ◌&&◌, ◌||◌, List, [], ◌∷◌, Option, Some, None, IfSome, decimal, flat_map, map, refl, sym, ap, ◌∙◌, subst, append_assoc, if◌then◌else◌, arith}
use Rattle.std.specs.Prelude.{bytes_eq, is_some, unwrap_or}
use Rattle.std.specs.List.{All, count_by, list_all, list_any, onto_first, slice_split}
use Rattle.std.specs.Option.{option_map_or}
use Rattle.std.proofs.lemmas.Bool.{true≢false, eqb-true, false_from_ne_true, or_parts}
use Rattle.std.proofs.lemmas.Bool.Decides.{nat_tests}
use Rattle.std.proofs.lemmas.List.Elements.{All-head, All-tail}
use Rattle.std.proofs.lemmas.List.Sums.{sum_by-cons}
use Rattle.std.proofs.lemmas.Slice.Eq.{bytes_eq-Decides}
use Rattle.percent_encoding.specs.Percent.{percent_decode, percent_encode_byte}
use Rattle.percent_encoding.proofs.PercentLemmas.{All-percent_encode_byte, IsByte, IsEscapeByte, percent_decode-nil, percent_decode-percent_encode_byte, percent_decode_not_percent}
use Rattle.sarif_links.specs.Template.{after_line, after_path, are_parts, encoded, encoded_byte, filled, filled_part, has_scheme, is_linkable, is_part, is_path_part, is_plain, is_relative, is_start, is_template, parts_of, place_address, segments_of}
use Rattle.sarif_links.proofs.AddressSigns.{both}
use Rattle.sarif_links.proofs.Placed.{chosen, has_parts}

-- ---- reading

plain_other : (b : ℕ) → is_plain b ≡ true → b ≢ 37
plain_other b h e = true≢false (sym (subst (λ (c : ℕ). is_plain c ≡ true) e h))

read_by : (plain : Bool) (b : ℕ) (rest : List ℕ) → is_plain b ≡ plain → b < 256
    → percent_decode ((if plain then b ∷ [] else percent_encode_byte b) ++ rest) ≡ b ∷ percent_decode rest
read_by true b rest h small = percent_decode_not_percent b rest (plain_other b h)
read_by false b rest h small = percent_decode-percent_encode_byte b rest small

pub reads : (path : List ℕ) → All (λ b. b < 256) path → percent_decode (encoded path) ≡ path
reads [] all = percent_decode-nil
reads (b ∷ path) all =
    read_by (is_plain b) b (encoded path) refl (All-head IsByte b path all) ∙ ap (λ rest. b ∷ rest) (reads path (All-tail IsByte b path all))

-- ---- segments

-- these before the first part
onto_all : List ℕ → List (List ℕ) → List (List ℕ)
onto_all [] parts = parts
onto_all (x ∷ xs) parts = onto_first x (onto_all xs parts)

cut_by : (cut : Bool) (x : ℕ) (parts : List (List ℕ)) → cut ≡ false → (if cut then [] ∷ parts else onto_first x parts) ≡ onto_first x parts
cut_by true x parts h = absurd (true≢false h)
cut_by false x parts h = refl

escape_other : (b : ℕ) → IsEscapeByte b → (b == 47) ≡ false
escape_other b h = grind (arith, nat_tests, h)

-- an escape is in one segment
escape_whole : (xs rest : List ℕ) → All IsEscapeByte xs → slice_split (λ b. b == 47) (xs ++ rest) ≡ onto_all xs (slice_split (λ b. b == 47) rest)
unfolding onto_all
escape_whole [] rest all = refl
escape_whole (x ∷ xs) rest all =
    cut_by (x == 47) x (slice_split (λ b. b == 47) (xs ++ rest)) (escape_other x (All-head IsEscapeByte x xs all))
    ∙ ap (onto_first x) (escape_whole xs rest (All-tail IsEscapeByte x xs all))

onto_part : (xs part : List ℕ) (parts : List (List ℕ)) → onto_all xs (part ∷ parts) ≡ (xs ++ part) ∷ parts
unfolding onto_all
onto_part [] part parts = refl
onto_part (x ∷ xs) part parts = ap (onto_first x) (onto_part xs part parts)

escape_alone : (plain : Bool) (b : ℕ)
    → onto_all (if plain then b ∷ [] else percent_encode_byte b) [] ≡ ((if plain then b ∷ [] else percent_encode_byte b) ++ []) ∷ []
unfolding onto_all percent_encode_byte
escape_alone true b = refl
escape_alone false b = refl

-- a byte that isn't a slash is in the first of the segments that follow it
onto_encoded : (b : ℕ) (parts : List (List ℕ)) → onto_all (encoded_byte b) (map encoded parts) ≡ map encoded (onto_first b parts)
onto_encoded b [] = escape_alone (is_plain b) b
onto_encoded b (part ∷ parts) = onto_part (encoded_byte b) (encoded part) (map encoded parts)

byte_whole : (plain : Bool) (b : ℕ) (rest : List ℕ) → (b == 47) ≡ false
    → slice_split (λ c. c == 47) ((if plain then b ∷ [] else percent_encode_byte b) ++ rest)
    ≡ onto_all (if plain then b ∷ [] else percent_encode_byte b) (slice_split (λ c. c == 47) rest)
unfolding onto_all
byte_whole true b rest h = cut_by (b == 47) b (slice_split (λ c. c == 47) rest) h
byte_whole false b rest h = escape_whole (percent_encode_byte b) rest (All-percent_encode_byte b)

slash_first : (b : ℕ) (rest : List ℕ) → b ≡ 47 → slice_split (λ c. c == 47) (encoded_byte b ++ rest) ≡ [] ∷ slice_split (λ c. c == 47) rest
slash_first b rest is =
    subst (λ (d : ℕ). slice_split (λ c. c == 47) (encoded_byte d ++ rest) ≡ [] ∷ slice_split (λ c. c == 47) rest) (sym is) refl

segments_by : (cut : Bool) (b : ℕ) (path : List ℕ) → (b == 47) ≡ cut → segments_of (encoded path) ≡ map encoded (segments_of path)
    → segments_of (encoded_byte b ++ encoded path) ≡ map encoded (if cut then [] ∷ segments_of path else onto_first b (segments_of path))
segments_by true b path is h =
    slash_first b (encoded path) (eqb-true b 47 is) ∙ ap (λ (parts : List (List ℕ)). [] ∷ parts) h
segments_by false b path is h =
    byte_whole (is_plain b) b (encoded path) is ∙ ap (onto_all (encoded_byte b)) h ∙ onto_encoded b (segments_of path)

-- the segments of an encoded path are the encoded segments
encoded_segments : (path : List ℕ) → segments_of (encoded path) ≡ map encoded (segments_of path)
encoded_segments [] = refl
encoded_segments (b ∷ path) = segments_by (b == 47) b path refl (encoded_segments path)

none_empty : (plain : Bool) (b : ℕ) (rest : List ℕ) → (if plain then b ∷ [] else percent_encode_byte b) ++ rest ≡ [] → ⊥
unfolding percent_encode_byte
none_empty true b rest e = cc
none_empty false b rest e = cc

empty_back : (segment : List ℕ) → encoded segment ≡ [] → segment ≡ []
empty_back [] e = refl
empty_back (b ∷ bs) e = absurd (none_empty (is_plain b) b (encoded bs) e)

heads : (a b : ℕ) (xs ys : List ℕ) → a ∷ xs ≡ b ∷ ys → a ≡ b
heads a b xs ys e = cc

dot_by : (plain : Bool) (b : ℕ) (rest more : List ℕ) → (if plain then b ∷ [] else percent_encode_byte b) ++ rest ≡ 46 ∷ more
    → (b ≡ 46) × (rest ≡ more)
unfolding percent_encode_byte
dot_by true b rest more e = (cc, cc)
dot_by false b rest more e = absurd (omega (arith, heads 37 46 _ _ e))

dot_back : (segment more : List ℕ) → encoded segment ≡ 46 ∷ more
    → (bs : List ℕ) × (segment ≡ 46 ∷ bs) × (encoded bs ≡ more)
dot_back [] more e = absurd (cc)
dot_back (b ∷ bs) more e = let is = dot_by (is_plain b) b (encoded bs) more e in (bs, ap (λ (c : ℕ). c ∷ bs) is.0, is.1)

one_back : (segment : List ℕ) → encoded segment ≡ 46 ∷ [] → segment ≡ 46 ∷ []
one_back segment e = let is = dot_back segment [] e in is.1 ∙ ap (λ (bs : List ℕ). 46 ∷ bs) (empty_back is.0 is.2)

two_back : (segment : List ℕ) → encoded segment ≡ 46 ∷ 46 ∷ [] → segment ≡ 46 ∷ 46 ∷ []
two_back segment e = let is = dot_back segment (46 ∷ []) e in is.1 ∙ ap (λ (bs : List ℕ). 46 ∷ bs) (one_back is.0 is.2)

same_text : (a b : List ℕ) → bytes_eq a b ≡ true → a ≡ b
same_text a b h = (bytes_eq-Decides a b).0 h

-- an encoded segment is relative only if the segment is
relative_by : (segment : List ℕ) (x y z : Bool) → bytes_eq (encoded segment) [] ≡ x → bytes_eq (encoded segment) (46 ∷ []) ≡ y
    → bytes_eq (encoded segment) (46 ∷ 46 ∷ []) ≡ z → (x || (y || z)) ≡ true → is_relative segment ≡ true
relative_by segment true y z e f g h =
    subst (λ (s : List ℕ). is_relative s ≡ true) (sym (empty_back segment (same_text (encoded segment) [] e))) refl
relative_by segment false true z e f g h =
    subst (λ (s : List ℕ). is_relative s ≡ true) (sym (one_back segment (same_text (encoded segment) (46 ∷ []) f))) refl
relative_by segment false false true e f g h =
    subst (λ (s : List ℕ). is_relative s ≡ true) (sym (two_back segment (same_text (encoded segment) (46 ∷ 46 ∷ []) g))) refl
relative_by segment false false false e f g h = absurd (true≢false (sym h))

stays_named : (segment : List ℕ) → is_relative segment ≡ false → is_relative (encoded segment) ≡ false
stays_named segment h = false_from_ne_true (is_relative (encoded segment)) (λ r.
    true≢false (sym (relative_by segment (bytes_eq (encoded segment) []) (bytes_eq (encoded segment) (46 ∷ [])) (bytes_eq (encoded segment) (46 ∷ 46 ∷ [])) refl refl refl r) ∙ h))

or_none : (a b : Bool) → a ≡ false → b ≡ false → (a || b) ≡ false
or_none true b h k = absurd (true≢false h)
or_none false b h k = k

all_named : (segments : List (List ℕ)) → list_any is_relative segments ≡ false → list_any is_relative (map encoded segments) ≡ false
all_named [] h = refl
all_named (segment ∷ segments) h =
    let parts = or_parts (is_relative segment) (list_any is_relative segments) h in
    or_none (is_relative (encoded segment)) (list_any is_relative (map encoded segments)) (stays_named segment parts.0) (all_named segments parts.1)

not_true : (b : Bool) → not b ≡ true → b ≡ false
not_true true h = sym h
not_true false h = refl

pub named : (path : List ℕ) → is_linkable path ≡ true → list_any is_relative (segments_of (encoded path)) ≡ false
named path h =
    ap (list_any is_relative) (encoded_segments path)
    ∙ all_named (segments_of path) (not_true (list_any is_relative (segments_of path))
    (both (not (list_any is_relative (segments_of path))) (not (has_scheme (segments_of path))) h).0)

-- ---- what is around the path

-- without a placeholder of the path, parts don't depend on it
pathless : (path : List ℕ) (o : Option (List ℕ)) (x : List ℕ) → is_some o ≡ false → option_map_or (λ rest. encoded path ++ rest) o x ≡ x
pathless path None x h = refl
pathless path (Some rest) x h = absurd (true≢false h)

line_text : ℕ → List ℕ → List ℕ
line_text n part = option_map_or (λ rest. decimal n ++ rest) (after_line part) []

count_none : (first : Bool) (others : ℕ) → (if first then 1 else 0) + others ≡ 0 → (first ≡ false) × (others ≡ 0)
count_none true others h = absurd (omega (arith, h))
count_none false others h = (refl, omega (arith, h))

count_first : (part : List ℕ) (parts : List (List ℕ))
    → count_by is_path_part (part ∷ parts) ≡ (if is_path_part part then 1 else 0) + count_by is_path_part parts
count_first part parts = sum_by-cons (λ x. if is_path_part x then 1 else 0) part parts

lines_alone : (path : List ℕ) (n : ℕ) (parts : List (List ℕ)) → count_by is_path_part parts ≡ 0
    → flat_map (filled_part path n) parts ≡ flat_map (line_text n) parts
unfolding line_text
lines_alone path n [] h = refl
lines_alone path n (part ∷ parts) h =
    let none = count_none (is_path_part part) (count_by is_path_part parts) (sym (count_first part parts) ∙ h) in
    ap (λ (first : List ℕ). first ++ flat_map (filled_part path n) parts) (pathless path (after_path part) (line_text n part) none.0)
    ∙ ap (λ (rest : List ℕ). line_text n part ++ rest) (lines_alone path n parts none.1)

-- two strings that are around the path
AreAround : ℕ → List (List ℕ) → List ℕ → List ℕ → Type 0
AreAround n parts before after = (path : List ℕ) → flat_map (filled_part path n) parts ≡ before ++ (encoded path ++ after)

around_by : (n : ℕ) (o : Option (List ℕ)) (part : List ℕ) (parts : List (List ℕ)) → after_path part ≡ o
    → (if is_some o then 1 else 0) + count_by is_path_part parts ≡ 1
    → (count_by is_path_part parts ≡ 1 → (before : List ℕ) × (after : List ℕ) × AreAround n parts before after)
    → (before : List ℕ) × (after : List ℕ) × AreAround n (part ∷ parts) before after
unfolding AreAround line_text
around_by n (Some rest) part parts is one more = (
  [],
  rest ++ flat_map (line_text n) parts,
  λ path.
      ap (λ (o : Option (List ℕ)). option_map_or (λ r. encoded path ++ r) o (line_text n part) ++ flat_map (filled_part path n) parts) is
      ∙ ap (λ (others : List ℕ). (encoded path ++ rest) ++ others) (lines_alone path n parts (omega (arith, one)))
      ∙ append_assoc (encoded path) rest (flat_map (line_text n) parts),
)
around_by n None part parts is one more =
    let found = more (omega (arith, one)) in (
      line_text n part ++ found.0,
      found.1,
      λ path.
          ap (λ (o : Option (List ℕ)). option_map_or (λ r. encoded path ++ r) o (line_text n part) ++ flat_map (filled_part path n) parts) is
          ∙ ap (λ (others : List ℕ). line_text n part ++ others) (found.2 path)
          ∙ sym (append_assoc (line_text n part) found.0 (encoded path ++ found.1)),
    )

around : (n : ℕ) (parts : List (List ℕ)) → count_by is_path_part parts ≡ 1 → (before : List ℕ) × (after : List ℕ) × AreAround n parts before after
around n [] h = absurd (omega (arith, h))
around n (part ∷ parts) h = around_by n (after_path part) part parts refl (sym (count_first part parts) ∙ h) (around n parts)

one_path : (start : List ℕ) (others : List (List ℕ)) → are_parts (start ∷ others) ≡ true → count_by is_path_part others ≡ 1
one_path start others h =
    eqb-true (count_by is_path_part others) 1 (both (list_all is_part others) (count_by is_path_part others == 1)
    (both (is_start start) (list_all is_part others && count_by is_path_part others == 1) h).1).1

apart_by : (template : List ℕ) (line : Option ℕ) (parts : List (List ℕ)) → parts_of template ≡ parts → are_parts parts ≡ true
    → (before after : List ℕ) × ((path : List ℕ) → IfSome (place_address template path line) (λ address. address ≡ before ++ (encoded path ++ after)))
unfolding AreAround
apart_by template line [] is h = absurd (true≢false (sym h))
apart_by template line (start ∷ others) is h =
    let found = around (unwrap_or line 1) others (one_path start others h) in (
      start ++ found.0,
      found.1,
      λ path.
          chosen (is_linkable path) (λ address. address ≡ (start ++ found.0) ++ (encoded path ++ found.1)) (filled path (unwrap_or line 1) (parts_of template))
          (ap (filled path (unwrap_or line 1)) is ∙ ap (λ (rest : List ℕ). start ++ rest) (found.2 path)
          ∙ sym (append_assoc start found.0 (encoded path ++ found.1))),
    )

pub apart : (template : List ℕ) (line : Option ℕ) → is_template template ≡ true
    → (before after : List ℕ) × ((path : List ℕ) → IfSome (place_address template path line) (λ address. address ≡ before ++ (encoded path ++ after)))
apart template line is = apart_by template line (parts_of template) refl (has_parts template is)
