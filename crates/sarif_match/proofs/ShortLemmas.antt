-- Short records are matched as the records are.
use Rattle.std.proofs.Common.{◌≡◌, ℕ, suc, Bool, true, false, cond, not, ◌&&◌, ◌==◌, List, [], ◌∷◌, ◌++◌, Option, Some, None, bytes_eq, filter, fold, length, map, is_some, replicate, slice_get, unwrap_or, refl, sym, ap, ◌∙◌, subst, arith}
use Rattle.std.specs.HashMap.{get}
use Rattle.std.specs.Option.{option_eq, option_map}
use Rattle.std.proofs.lemmas.Bool.{false≢true, and_parts, ne_eqb}
use Rattle.std.proofs.lemmas.Bool.Decides.{Decides-eqb}
use Rattle.std.proofs.lemmas.List.{map-append}
use Rattle.sarif_model.specs.declared.message.Message.{Message}
use Rattle.sarif_model.specs.declared.place.Place.{Place}
use Rattle.sarif_model.specs.declared.record.Record.{Record}
use Rattle.sarif_match.specs.declared.numbers.Value.{Value}
use Rattle.sarif_match.specs.declared.numbers.Value.TheVariants.{Text as a_text, Place as a_place, Message as a_message, Members as some_members, Snippet as a_snippet}
use Rattle.sarif_match.specs.declared.tier.Tier.{Tier}
use Rattle.sarif_match.specs.declared.tier.Tier.TheVariants.{Guid, Same, SameText, FingerprintHere, Fingerprint, PartialHere, PartialMoved, PlaceText, Place as AtPlace, PlaceLeft}
use Rattle.sarif_match.specs.Key.{group_of, key_of, value_of, without_guid}
use Rattle.sarif_evidence.specs.EqualParts.{is_empty, pairs_eq, place_eq, message_eq, region_eq}
use Rattle.sarif_match.specs.KeyParts.{Group, KeyParts, guid_parts, fingerprint_parts, partial_here_parts, partial_moved_parts, place_parts, region_parts, text_parts, fingerprint_here_parts, place_text_parts, place_left_parts, same_parts, group_eq}
use Rattle.sarif_match.specs.Pairing.{places, pairs_from, with_pair}
use Rattle.sarif_match.specs.Partners.{after_tier, free, has_partner, is_taken, keyed_from, left, pairs_at, put_all, with_key}
use Rattle.sarif_match.specs.Internal.Numbers.{AreApart, AreMatchedAlike, AreShort, AreShortMembers, IsNumbered, IsShort, IsShortSnippet, Numbers, lent, members_as, message_as, place_as, same_value}
use Rattle.sarif_match.proofs.NumberLemmas.{shorts_counted}
use Rattle.sarif_evidence.proofs.EqualLemmas.{message_same, pairs_same, place_same, region_same, same_text}
use Rattle.sarif_match.proofs.PartsLemmas.{parts_refl, parts_same}

both_true : (a b : Bool) → (a ≡ true → b ≡ true) → (b ≡ true → a ≡ true) → a ≡ b
both_true true true there back = refl
both_true true false there back = absurd (false≢true (there refl))
both_true false true there back = absurd (false≢true (back refl))
both_true false false there back = refl

-- ---- the parts of short keys

module _ {S : Type 0} (numbers : Numbers S) where
  abbrev code : Value → List ℕ
  code value = unwrap_or (get same_value numbers value) []

  abbrev short_text : List ℕ → List ℕ
  short_text text = code (a_text (lent text))

  abbrev short_snippet : List ℕ → List ℕ
  short_snippet text = code (a_snippet (lent text))

  abbrev short_place : Place → Place
  short_place place = place_as (code (a_place (lent place)))

  abbrev short_message : Message → Message
  short_message message = message_as (code (a_message (lent message)))

  abbrev short_members : List (List ℕ × List ℕ) → List (List ℕ × List ℕ)
  short_members [] = []
  short_members (m ∷ ms) = members_as (code (some_members (lent (m ∷ ms))))

  abbrev short_group : Group → Group
  short_group g = record { tool = short_text g.tool; rule_id = short_text g.rule_id; place = short_place g.place; message = short_message g.message }

  abbrev short_parts : KeyParts → KeyParts
  short_parts (guid_parts t g) = guid_parts (short_text t) g
  short_parts (fingerprint_parts t n v) = fingerprint_parts (short_text t) n v
  short_parts (partial_here_parts t r p m) = partial_here_parts (short_text t) (short_text r) (short_place p) (short_members m)
  short_parts (partial_moved_parts t r m) = partial_moved_parts (short_text t) (short_text r) (short_members m)
  short_parts (place_parts t r p m) = place_parts (short_text t) (short_text r) (short_place p) (short_message m)
  short_parts (region_parts g f m s l) = region_parts (short_group g) f (short_members m) (option_map short_snippet s) l
  short_parts (text_parts g f m s) = text_parts (short_group g) f (short_members m) (short_snippet s)
  short_parts (fingerprint_here_parts g n v) = fingerprint_here_parts (short_group g) n v
  short_parts (place_text_parts g s) = place_text_parts (short_group g) (short_snippet s)
  short_parts (place_left_parts g) = place_left_parts (short_group g)

  -- ---- what has a number

  abbrev Known : Value → Type 0
  Known value = (number : List ℕ) × (get same_value numbers value ≡ Some number)

  abbrev KnownText : List ℕ → Type 0
  KnownText text = Known (a_text (lent text))

  abbrev KnownCode : List ℕ → Type 0
  KnownCode text = Known (a_snippet (lent text))

  abbrev KnownMembers : List (List ℕ × List ℕ) → Type 0
  KnownMembers [] = Unit {0}
  KnownMembers (m ∷ ms) = Known (some_members (lent (m ∷ ms)))

  abbrev KnownSnippet : Option (List ℕ) → Type 0
  KnownSnippet None = Unit {0}
  KnownSnippet (Some text) = KnownCode text

  record KnownGroup (g : Group) : Type 0 where
    tool : KnownText g.tool
    rule_id : KnownText g.rule_id
    place : Known (a_place (lent g.place))
    message : Known (a_message (lent g.message))

  abbrev KnownParts : KeyParts → Type 0
  KnownParts (guid_parts t g) = KnownText t
  KnownParts (fingerprint_parts t n v) = KnownText t
  KnownParts (partial_here_parts t r p m) = KnownText t × KnownText r × Known (a_place (lent p)) × KnownMembers m
  KnownParts (partial_moved_parts t r m) = KnownText t × KnownText r × KnownMembers m
  KnownParts (place_parts t r p m) = KnownText t × KnownText r × Known (a_place (lent p)) × Known (a_message (lent m))
  KnownParts (region_parts g f m s l) = KnownGroup g × KnownMembers m × KnownSnippet s
  KnownParts (text_parts g f m s) = KnownGroup g × KnownMembers m × KnownCode s
  KnownParts (fingerprint_here_parts g n v) = KnownGroup g
  KnownParts (place_text_parts g s) = KnownGroup g × KnownCode s
  KnownParts (place_left_parts g) = KnownGroup g

  -- ---- equal numbers are those of equal values

  module _ (apart : AreApart numbers) where
    one_value : (a b : Value) → Known a → Known b → code a ≡ code b → same_value a b ≡ true
    one_value a b here there same =
        let number : here.0 ≡ there.0 =
        sym (ap (λ (o : Option (List ℕ)). unwrap_or o []) here.1) ∙ same ∙ ap (λ (o : Option (List ℕ)). unwrap_or o []) there.1 in
        apart.apart a b there.0 (here.1 ∙ ap Some number) there.1

    text_back : (a b : List ℕ) → KnownText a → KnownText b → bytes_eq (short_text a) (short_text b) ≡ true → a ≡ b
    text_back a b here there e =
        same_text a b (one_value (a_text (lent a)) (a_text (lent b)) here there (same_text (short_text a) (short_text b) e))

    code_back : (a b : List ℕ) → KnownCode a → KnownCode b → bytes_eq (short_snippet a) (short_snippet b) ≡ true → a ≡ b
    code_back a b here there e =
        same_text a b (one_value (a_snippet (lent a)) (a_snippet (lent b)) here there (same_text (short_snippet a) (short_snippet b) e))

    place_back : (a b : Place) → Known (a_place (lent a)) → Known (a_place (lent b)) → place_eq (short_place a) (short_place b) ≡ true → a ≡ b
    place_back a b here there e =
        let both = and_parts (bytes_eq (code (a_place (lent a))) (code (a_place (lent b)))) true e in
        place_same a b (one_value (a_place (lent a)) (a_place (lent b)) here there (same_text (code (a_place (lent a))) (code (a_place (lent b))) both.0))

    message_back : (a b : Message) → Known (a_message (lent a)) → Known (a_message (lent b))
        → message_eq (short_message a) (short_message b) ≡ true → a ≡ b
    message_back a b here there e =
        let both = and_parts (bytes_eq (code (a_message (lent a))) (code (a_message (lent b)))) (true && true) e in
        message_same a b
        (one_value (a_message (lent a)) (a_message (lent b)) here there (same_text (code (a_message (lent a))) (code (a_message (lent b))) both.0))

    members_back : (a b : List (List ℕ × List ℕ)) → KnownMembers a → KnownMembers b → pairs_eq (short_members a) (short_members b) ≡ true → a ≡ b
    members_back [] [] here there e = refl
    members_back [] (n ∷ b) here there e = absurd (false≢true e)
    members_back (m ∷ a) [] here there e = absurd (false≢true e)
    members_back (m ∷ a) (n ∷ b) here there e =
        let x = code (some_members (lent (m ∷ a))) in
        let y = code (some_members (lent (n ∷ b))) in
        let both = and_parts (bytes_eq x y && bytes_eq x y) true e in
        let one = and_parts (bytes_eq x y) (bytes_eq x y) both.0 in
        pairs_same (m ∷ a) (n ∷ b)
        (one_value (some_members (lent (m ∷ a))) (some_members (lent (n ∷ b))) here there (same_text x y one.0))

    snippet_back : (a b : Option (List ℕ)) → KnownSnippet a → KnownSnippet b
        → option_eq bytes_eq (option_map short_snippet a) (option_map short_snippet b) ≡ true → a ≡ b
    snippet_back None None here there e = refl
    snippet_back None (Some b) here there e = absurd (false≢true e)
    snippet_back (Some a) None here there e = absurd (false≢true e)
    snippet_back (Some a) (Some b) here there e = ap Some (code_back a b here there e)

    -- tool, rule and place
    module _ (t t' r r' : List ℕ) (p p' : Place) (rest : Bool) (kt : KnownText t) (kt' : KnownText t') (kr : KnownText r) (kr' : KnownText r')
        (kp : Known (a_place (lent p))) (kp' : Known (a_place (lent p'))) where
      three_back : bytes_eq (short_text t) (short_text t')
          && (bytes_eq (short_text r) (short_text r') && (place_eq (short_place p) (short_place p') && rest)) ≡ true
          → (t ≡ t') × (r ≡ r') × (p ≡ p') × (rest ≡ true)
      three_back e =
          let first = and_parts (bytes_eq (short_text t) (short_text t')) (bytes_eq (short_text r) (short_text r') && (place_eq (short_place p) (short_place p') && rest)) e in
          let more = and_parts (bytes_eq (short_text r) (short_text r')) (place_eq (short_place p) (short_place p') && rest) first.1 in
          let last = and_parts (place_eq (short_place p) (short_place p')) rest more.1 in
          (text_back t t' kt kt' first.0, text_back r r' kr kr' more.0, place_back p p' kp kp' last.0, last.1)

    group_back : (g h : Group) → KnownGroup g → KnownGroup h → group_eq (short_group g) (short_group h) ≡ true → g ≡ h
    group_back g h kg kh e =
        let all = three_back g.tool h.tool g.rule_id h.rule_id g.place h.place (message_eq (short_message g.message) (short_message h.message))
        kg.tool kh.tool kg.rule_id kh.rule_id kg.place kh.place e in
        let message : g.message ≡ h.message = message_back g.message h.message kg.message kh.message all.3 in
        λ i. record { tool = all.0 i; rule_id = all.1 i; place = all.2 i; message = message i }

    parts_back : (a b : KeyParts) → KnownParts a → KnownParts b → same_parts (short_parts a) (short_parts b) ≡ true → a ≡ b
    parts_back (guid_parts t g) (guid_parts t' g') k k' e =
        let both = and_parts (bytes_eq (short_text t) (short_text t')) (g == g') e in
        let tool : t ≡ t' = text_back t t' k k' both.0 in
        let guid : g ≡ g' = (Decides-eqb g g').0 both.1 in
        λ i. guid_parts (tool i) (guid i)
    parts_back (fingerprint_parts t n v) (fingerprint_parts t' n' v') k k' e =
        let both = and_parts (bytes_eq (short_text t) (short_text t')) (bytes_eq n n' && bytes_eq v v') e in
        let rest = and_parts (bytes_eq n n') (bytes_eq v v') both.1 in
        let tool : t ≡ t' = text_back t t' k k' both.0 in
        let name : n ≡ n' = same_text n n' rest.0 in
        let value : v ≡ v' = same_text v v' rest.1 in
        λ i. fingerprint_parts (tool i) (name i) (value i)
    parts_back (partial_here_parts t r p m) (partial_here_parts t' r' p' m') k k' e =
        let all = three_back t t' r r' p p' (pairs_eq (short_members m) (short_members m')) k.0 k'.0 k.1 k'.1 k.2 k'.2 e in
        let partial : m ≡ m' = members_back m m' k.3 k'.3 all.3 in
        λ i. partial_here_parts (all.0 i) (all.1 i) (all.2 i) (partial i)
    parts_back (partial_moved_parts t r m) (partial_moved_parts t' r' m') k k' e =
        let both = and_parts (bytes_eq (short_text t) (short_text t')) (bytes_eq (short_text r) (short_text r') && pairs_eq (short_members m) (short_members m')) e in
        let rest = and_parts (bytes_eq (short_text r) (short_text r')) (pairs_eq (short_members m) (short_members m')) both.1 in
        let tool : t ≡ t' = text_back t t' k.0 k'.0 both.0 in
        let rule_id : r ≡ r' = text_back r r' k.1 k'.1 rest.0 in
        let partial : m ≡ m' = members_back m m' k.2 k'.2 rest.1 in
        λ i. partial_moved_parts (tool i) (rule_id i) (partial i)
    parts_back (place_parts t r p m) (place_parts t' r' p' m') k k' e =
        let all = three_back t t' r r' p p' (message_eq (short_message m) (short_message m')) k.0 k'.0 k.1 k'.1 k.2 k'.2 e in
        let message : m ≡ m' = message_back m m' k.3 k'.3 all.3 in
        λ i. place_parts (all.0 i) (all.1 i) (all.2 i) (message i)
    parts_back (region_parts g f m s l) (region_parts g' f' m' s' l') k k' e =
        let first = and_parts (group_eq (short_group g) (short_group g'))
        (pairs_eq f f' && (pairs_eq (short_members m) (short_members m')
        && (option_eq bytes_eq (option_map short_snippet s) (option_map short_snippet s') && region_eq l l'))) e in
        let second = and_parts (pairs_eq f f') (pairs_eq (short_members m) (short_members m')
        && (option_eq bytes_eq (option_map short_snippet s) (option_map short_snippet s') && region_eq l l')) first.1 in
        let third = and_parts (pairs_eq (short_members m) (short_members m'))
        (option_eq bytes_eq (option_map short_snippet s) (option_map short_snippet s') && region_eq l l') second.1 in
        let last = and_parts (option_eq bytes_eq (option_map short_snippet s) (option_map short_snippet s')) (region_eq l l') third.1 in
        let group : g ≡ g' = group_back g g' k.0 k'.0 first.0 in
        let full : f ≡ f' = pairs_same f f' second.0 in
        let partial : m ≡ m' = members_back m m' k.1 k'.1 third.0 in
        let snippet : s ≡ s' = snippet_back s s' k.2 k'.2 last.0 in
        let region : l ≡ l' = region_same l l' last.1 in
        λ i. region_parts (group i) (full i) (partial i) (snippet i) (region i)
    parts_back (text_parts g f m s) (text_parts g' f' m' s') k k' e =
        let first = and_parts (group_eq (short_group g) (short_group g'))
        (pairs_eq f f' && (pairs_eq (short_members m) (short_members m') && bytes_eq (short_snippet s) (short_snippet s'))) e in
        let second = and_parts (pairs_eq f f') (pairs_eq (short_members m) (short_members m') && bytes_eq (short_snippet s) (short_snippet s')) first.1 in
        let last = and_parts (pairs_eq (short_members m) (short_members m')) (bytes_eq (short_snippet s) (short_snippet s')) second.1 in
        let group : g ≡ g' = group_back g g' k.0 k'.0 first.0 in
        let full : f ≡ f' = pairs_same f f' second.0 in
        let partial : m ≡ m' = members_back m m' k.1 k'.1 last.0 in
        let snippet : s ≡ s' = code_back s s' k.2 k'.2 last.1 in
        λ i. text_parts (group i) (full i) (partial i) (snippet i)
    parts_back (fingerprint_here_parts g n v) (fingerprint_here_parts g' n' v') k k' e =
        let both = and_parts (group_eq (short_group g) (short_group g')) (bytes_eq n n' && bytes_eq v v') e in
        let rest = and_parts (bytes_eq n n') (bytes_eq v v') both.1 in
        let group : g ≡ g' = group_back g g' k k' both.0 in
        let name : n ≡ n' = same_text n n' rest.0 in
        let value : v ≡ v' = same_text v v' rest.1 in
        λ i. fingerprint_here_parts (group i) (name i) (value i)
    parts_back (place_text_parts g s) (place_text_parts g' s') k k' e =
        let both = and_parts (group_eq (short_group g) (short_group g')) (bytes_eq (short_snippet s) (short_snippet s')) e in
        let group : g ≡ g' = group_back g g' k.0 k'.0 both.0 in
        let snippet : s ≡ s' = code_back s s' k.1 k'.1 both.1 in
        λ i. place_text_parts (group i) (snippet i)
    parts_back (place_left_parts g) (place_left_parts g') k k' e =
        let group : g ≡ g' = group_back g g' k k' e in
        λ i. place_left_parts (group i)
    parts_back _ _ k k' e = absurd (false≢true e)

    -- short keys are equal if and only if the keys are
    same_short : (a b : KeyParts) → KnownParts a → KnownParts b → same_parts (short_parts a) (short_parts b) ≡ same_parts a b
    same_short a b k k' = both_true (same_parts (short_parts a) (short_parts b)) (same_parts a b) there back
      where
        there : same_parts (short_parts a) (short_parts b) ≡ true → same_parts a b ≡ true
        there e = ap (same_parts a) (sym (parts_back a b k k' e)) ∙ parts_refl a

        back : same_parts a b ≡ true → same_parts (short_parts a) (short_parts b) ≡ true
        back e = ap (λ (x : KeyParts). same_parts (short_parts a) (short_parts x)) (sym (parts_same a b e)) ∙ parts_refl (short_parts a)

-- ---- the keys of short records

module _ {S : Type 0} (numbers : Numbers S) where
  coded : (value : Value) (number : List ℕ) → get same_value numbers value ≡ Some number → number ≡ code numbers value
  coded value number is = sym (ap (λ (o : Option (List ℕ)). unwrap_or o []) is)

  made : {X : Type 0} (value : Value) (make : List ℕ → X) (short : X) → IsNumbered numbers value make short → short ≡ make (code numbers value)
  made value make short is = is.2 ∙ ap make (coded value is.0 is.1)

  members_are : (ms short : List (List ℕ × List ℕ)) → AreShortMembers numbers ms short → (short ≡ short_members numbers ms) × KnownMembers numbers ms
  members_are [] short is = (is, tt)
  members_are (m ∷ ms) short is = (made (some_members (lent (m ∷ ms))) members_as short is, (is.0, is.1))

  snippet_is : (text short : Option (List ℕ)) → IsShortSnippet numbers text short
      → (short ≡ option_map (short_snippet numbers) text) × KnownSnippet numbers text
  snippet_is None short is = (is, tt)
  snippet_is (Some text) short is = (made (a_snippet (lent text)) Some short is, (is.0, is.1))

  -- the short record of r; kind, level, `held` and `admitted` are those of s
  abbrev shortened : Record → Record → Record
  shortened r s = record {
    tool = short_text numbers r.tool;
    rule_id = short_text numbers r.rule_id;
    kind = s.kind;
    level = s.level;
    message = short_message numbers r.message;
    place = short_place numbers r.place;
    guid = r.guid;
    full = r.full;
    partial = short_members numbers r.partial;
    held = s.held;
    region = r.region;
    snippet = option_map (short_snippet numbers) r.snippet;
    admitted = s.admitted;
  }

  shortened_is : (r s : Record) → IsShort numbers r s → s ≡ shortened r s
  shortened_is r s is =
      let tool : s.tool ≡ short_text numbers r.tool = coded (a_text (lent r.tool)) s.tool is.tool in
      let rule_id : s.rule_id ≡ short_text numbers r.rule_id = coded (a_text (lent r.rule_id)) s.rule_id is.rule_id in
      let message : s.message ≡ short_message numbers r.message = made (a_message (lent r.message)) message_as s.message is.message in
      let place : s.place ≡ short_place numbers r.place = made (a_place (lent r.place)) place_as s.place is.place in
      let partial : s.partial ≡ short_members numbers r.partial = (members_are r.partial s.partial is.partial).0 in
      let snippet : s.snippet ≡ option_map (short_snippet numbers) r.snippet = (snippet_is r.snippet s.snippet is.snippet).0 in
      λ i. record {
        tool = tool i;
        rule_id = rule_id i;
        kind = s.kind;
        level = s.level;
        message = message i;
        place = place i;
        guid = is.guid i;
        full = is.full i;
        partial = partial i;
        held = s.held;
        region = is.region i;
        snippet = snippet i;
        admitted = s.admitted;
      }

  record KnownRecord (r : Record) : Type 0 where
    group : KnownGroup numbers (group_of r)
    members : KnownMembers numbers r.partial
    snippet : KnownSnippet numbers r.snippet

  known_record : (r s : Record) → IsShort numbers r s → KnownRecord r
  known_record r s is = record {
    group = record {
      tool = (s.tool, is.tool);
      rule_id = (s.rule_id, is.rule_id);
      place = (is.place.0, is.place.1);
      message = (is.message.0, is.message.1);
    };
    members = (members_are r.partial s.partial is.partial).1;
    snippet = (snippet_is r.snippet s.snippet is.snippet).1;
  }

  -- no key, or a key and the short one
  abbrev AlikeKeys : Option KeyParts → Option KeyParts → Type 0
  AlikeKeys None None = Unit {0}
  AlikeKeys None (Some short) = ⊥
  AlikeKeys (Some key) None = ⊥
  AlikeKeys (Some key) (Some short) = (short ≡ short_parts numbers key) × KnownParts numbers key

  alike_mapped : {X : Type 0} (f g : X → KeyParts) → ((x : X) → (g x ≡ short_parts numbers (f x)) × KnownParts numbers (f x)) → (o : Option X)
      → AlikeKeys (option_map f o) (option_map g o)
  alike_mapped f g each None = tt
  alike_mapped f g each (Some x) = each x

  alike_if : (b : Bool) (key short : Option KeyParts) → AlikeKeys key short → AlikeKeys (cond b key None) (cond b short None)
  alike_if true key short alike = alike
  alike_if false key short alike = tt

  alike_unless : (b : Bool) (key short : Option KeyParts) → AlikeKeys key short → AlikeKeys (cond b None key) (cond b None short)
  alike_unless true key short alike = tt
  alike_unless false key short alike = alike

  empty_same : (ms : List (List ℕ × List ℕ)) → is_empty (short_members numbers ms) ≡ is_empty ms
  empty_same [] = refl
  empty_same (m ∷ ms) = sym (ne_eqb (suc (length ms)) 0 (λ none. omega (arith, none)))

  module _ (r s : Record) (known : KnownRecord r) where
    abbrev short_r : Record
    short_r = shortened r s

    snippet_keys : (f g : List ℕ → KeyParts)
        → ((text : List ℕ) → KnownCode numbers text → (g (short_snippet numbers text) ≡ short_parts numbers (f text)) × KnownParts numbers (f text))
        → (o : Option (List ℕ)) → KnownSnippet numbers o → AlikeKeys (option_map f o) (option_map g (option_map (short_snippet numbers) o))
    snippet_keys f g each None is = tt
    snippet_keys f g each (Some text) is = each text is

    unless_guid : (key short : Option KeyParts) → AlikeKeys key short → AlikeKeys (without_guid r key) (without_guid short_r short)
    unless_guid key short alike = alike_unless (is_some r.guid) key short alike

    partial_keys : (f : List (List ℕ × List ℕ) → KeyParts) (g : List (List ℕ × List ℕ) → KeyParts)
        → ((ms : List (List ℕ × List ℕ)) → KnownMembers numbers ms → (g (short_members numbers ms) ≡ short_parts numbers (f ms)) × KnownParts numbers (f ms))
        → (ms : List (List ℕ × List ℕ)) → KnownMembers numbers ms
        → AlikeKeys (cond (is_empty ms) None (Some (f ms))) (cond (is_empty (short_members numbers ms)) None (Some (g (short_members numbers ms))))
    partial_keys f g each ms is =
        subst (λ (b : Bool). AlikeKeys (cond (is_empty ms) None (Some (f ms))) (cond b None (Some (g (short_members numbers ms))))) (sym (empty_same ms))
        (alike_unless (is_empty ms) (Some (f ms)) (Some (g (short_members numbers ms))) (each ms is))

    alike_keys : (tier : Tier) → AlikeKeys (key_of r tier) (key_of short_r tier)
    alike_keys Guid = alike_mapped (λ g. guid_parts r.tool g) (λ g. guid_parts (short_text numbers r.tool) g) (λ g. (refl, known.group.tool)) r.guid
    alike_keys (Fingerprint name) =
        alike_mapped (λ v. fingerprint_parts r.tool name v) (λ v. fingerprint_parts (short_text numbers r.tool) name v)
        (λ v. (refl, known.group.tool)) (value_of name r.full)
    alike_keys PartialHere =
        partial_keys (λ ms. partial_here_parts r.tool r.rule_id r.place ms)
        (λ ms. partial_here_parts (short_text numbers r.tool) (short_text numbers r.rule_id) (short_place numbers r.place) ms)
        (λ ms is. (refl, (known.group.tool, known.group.rule_id, known.group.place, is))) r.partial known.members
    alike_keys PartialMoved =
        partial_keys (λ ms. partial_moved_parts r.tool r.rule_id ms)
        (λ ms. partial_moved_parts (short_text numbers r.tool) (short_text numbers r.rule_id) ms)
        (λ ms is. (refl, (known.group.tool, known.group.rule_id, is))) r.partial known.members
    alike_keys AtPlace =
        let key = place_parts r.tool r.rule_id r.place r.message in
        let unnamed = λ (b : Bool). not (is_some r.guid) && (is_empty r.full && b) in
        subst (λ (b : Bool). AlikeKeys (key_of r AtPlace) (cond (unnamed b) (Some (short_parts numbers key)) None)) (sym (empty_same r.partial))
        (alike_if (unnamed (is_empty r.partial)) (Some key) (Some (short_parts numbers key))
        (refl, (known.group.tool, known.group.rule_id, known.group.place, known.group.message)))
    alike_keys Same =
        unless_guid _ _
        (alike_mapped (λ l. region_parts (group_of r) r.full r.partial r.snippet l)
        (λ l. region_parts (short_group numbers (group_of r)) r.full (short_members numbers r.partial) (option_map (short_snippet numbers) r.snippet) l)
        (λ l. (refl, (known.group, known.members, known.snippet))) r.region)
    alike_keys SameText =
        unless_guid _ _
        (snippet_keys (λ s. text_parts (group_of r) r.full r.partial s)
        (λ s. text_parts (short_group numbers (group_of r)) r.full (short_members numbers r.partial) s)
        (λ s is. (refl, (known.group, known.members, is))) r.snippet known.snippet)
    alike_keys (FingerprintHere name) =
        alike_mapped (λ v. fingerprint_here_parts (group_of r) name v) (λ v. fingerprint_here_parts (short_group numbers (group_of r)) name v)
        (λ v. (refl, known.group)) (value_of name r.full)
    alike_keys PlaceText =
        unless_guid _ _
        (snippet_keys (λ s. place_text_parts (group_of r) s) (λ s. place_text_parts (short_group numbers (group_of r)) s)
        (λ s is. (refl, (known.group, is))) r.snippet known.snippet)
    alike_keys PlaceLeft = unless_guid (Some (place_left_parts (group_of r))) (Some (place_left_parts (short_group numbers (group_of r)))) (refl, known.group)

  -- ---- lists of keys

  abbrev with_short : List (ℕ × KeyParts) → List (ℕ × KeyParts)
  with_short keyed = map (λ e. (e.0, short_parts numbers e.1)) keyed

  abbrev AllKnown : List (ℕ × KeyParts) → Type 0
  AllKnown [] = Unit {0}
  AllKnown (e ∷ es) = KnownParts numbers e.1 × AllKnown es

  with_alike : (n : ℕ) (key short : Option KeyParts) (rest : List (ℕ × KeyParts)) → AlikeKeys key short
      → with_key n short (with_short rest) ≡ with_short (with_key n key rest)
  with_alike n None None rest alike = refl
  with_alike n None (Some short) rest alike = absurd alike
  with_alike n (Some key) None rest alike = absurd alike
  with_alike n (Some key) (Some short) rest alike = ap (λ (k : KeyParts). (n, k) ∷ with_short rest) alike.0

  with_known : (n : ℕ) (key short : Option KeyParts) (rest : List (ℕ × KeyParts)) → AlikeKeys key short → AllKnown rest → AllKnown (with_key n key rest)
  with_known n None short rest alike known = known
  with_known n (Some key) None rest alike known = absurd alike
  with_known n (Some key) (Some short) rest alike known = (alike.1, known)

  module _ (tier : Tier) where
    one_alike : (r s : Record) → IsShort numbers r s → AlikeKeys (key_of r tier) (key_of s tier)
    one_alike r s is =
        subst (λ (x : Record). AlikeKeys (key_of r tier) (key_of x tier)) (sym (shortened_is r s is)) (alike_keys r s (known_record r s is) tier)

    keyed_short : (n : ℕ) (rs ss : List Record) → AreShort numbers rs ss
        → (keyed_from tier n ss ≡ with_short (keyed_from tier n rs)) × AllKnown (keyed_from tier n rs)
    keyed_short n [] [] are = (refl, tt)
    keyed_short n [] (s ∷ ss) are = absurd are
    keyed_short n (r ∷ rs) [] are = absurd are
    keyed_short n (r ∷ rs) (s ∷ ss) are =
        let more = keyed_short (suc n) rs ss are.1 in
        let alike = one_alike r s are.0 in (
          ap (with_key n (key_of s tier)) more.0
              ∙ with_alike n (key_of r tier) (key_of s tier) (keyed_from tier (suc n) rs) alike,
          with_known n (key_of r tier) (key_of s tier) (keyed_from tier (suc n) rs) alike more.1,
        )

  module _ (keep : ℕ → Bool) where
    abbrev kept_of : List (ℕ × KeyParts) → List (ℕ × KeyParts)
    kept_of es = filter (λ e. keep e.0) es

    kept_short : (es : List (ℕ × KeyParts)) → kept_of (with_short es) ≡ with_short (kept_of es)
    kept_short [] = refl
    kept_short (e ∷ es) = at (keep e.0) (kept_short es)
      where
        at : (b : Bool) → kept_of (with_short es) ≡ with_short (kept_of es) → cond b ((e.0, short_parts numbers e.1) ∷ kept_of (with_short es)) (kept_of (with_short es))
            ≡ with_short (cond b (e ∷ kept_of es) (kept_of es))
        at true rest_is = ap (λ (rest : List (ℕ × KeyParts)). (e.0, short_parts numbers e.1) ∷ rest) rest_is
        at false rest_is = rest_is

    kept_known : (es : List (ℕ × KeyParts)) → AllKnown es → AllKnown (kept_of es)
    kept_known [] known = tt
    kept_known (e ∷ es) known = at (keep e.0) (kept_known es known.1)
      where
        at : (b : Bool) → AllKnown (kept_of es) → AllKnown (cond b (e ∷ kept_of es) (kept_of es))
        at true rest = (known.0, rest)
        at false rest = rest

  known_push : (es : List (ℕ × KeyParts)) (e : ℕ × KeyParts) → AllKnown es → KnownParts numbers e.1 → AllKnown (es ++ (e ∷ []))
  known_push [] e known one = (one, tt)
  known_push (x ∷ es) e known one = (known.0, known_push es e known.1 one)

  -- ---- pairs and tiers

  module _ (apart : AreApart numbers) where
    places_short : (k : KeyParts) → KnownParts numbers k → (es : List (ℕ × KeyParts)) → AllKnown es
        → places same_parts (short_parts numbers k) (with_short es) ≡ places same_parts k es
    places_short k is [] known = refl
    places_short k is (e ∷ es) known =
        ap (λ (b : Bool). map (λ (x : ℕ × KeyParts). x.0) (cond b ((e.0, short_parts numbers e.1) ∷ shorts) shorts))
        (same_short numbers apart e.1 k known.0 is) ∙ at (same_parts e.1 k) (places_short k is es known.1)
      where
        shorts : List (ℕ × KeyParts)
        shorts = filter (λ (x : ℕ × KeyParts). same_parts x.1 (short_parts numbers k)) (with_short es)

        at : (b : Bool) → map (λ (x : ℕ × KeyParts). x.0) shorts ≡ places same_parts k es
            → map (λ (x : ℕ × KeyParts). x.0) (cond b ((e.0, short_parts numbers e.1) ∷ shorts) shorts)
            ≡ map (λ (x : ℕ × KeyParts). x.0)
            (cond b (e ∷ filter (λ (x : ℕ × KeyParts). same_parts x.1 k) es) (filter (λ (x : ℕ × KeyParts). same_parts x.1 k) es))
        at true rest = ap (λ (ns : List ℕ). e.0 ∷ ns) rest
        at false rest = rest

    pairs_short : (seen es bs : List (ℕ × KeyParts)) → AllKnown seen → AllKnown es → AllKnown bs
        → pairs_from same_parts (with_short seen) (with_short es) (with_short bs) ≡ pairs_from same_parts seen es bs
    pairs_short seen [] bs ks ke kb = refl
    pairs_short seen (e ∷ es) bs ks ke kb =
        let k = short_parts numbers e.1 in
        let one_more : with_short (seen ++ (e ∷ [])) ≡ with_short seen ++ ((e.0, k) ∷ []) =
        map-append (λ (x : ℕ × KeyParts). (let keyed : ℕ × KeyParts = (x.0, short_parts numbers x.1) in keyed)) seen (e ∷ []) in
        let rest : List (ℕ × ℕ) = pairs_from same_parts (seen ++ (e ∷ [])) es bs in
        ap (λ (ps : List (ℕ × ℕ)). with_pair e.0 (slice_get (places same_parts k (with_short bs)) (length (places same_parts k (with_short seen)))) ps)
        (ap (λ (s : List (ℕ × KeyParts)). pairs_from same_parts s (with_short es) (with_short bs)) (sym one_more)
        ∙ pairs_short (seen ++ (e ∷ [])) es bs (known_push seen e ks ke.0) ke.1 kb)
        ∙ ap (λ (ns : List ℕ). with_pair e.0 (slice_get ns (length (places same_parts k (with_short seen)))) rest)
        (places_short e.1 ke.0 bs kb)
        ∙ ap (λ (ns : List ℕ). with_pair e.0 (slice_get (places same_parts e.1 bs) (length ns)) rest) (places_short e.1 ke.0 seen ks)

    module _ (cs bs ss ts : List Record) (current_are : AreShort numbers cs ss) (baseline_are : AreShort numbers bs ts) where
      pairs_alike : (partners : List (Option ℕ)) (tier : Tier) → pairs_at ss ts partners tier ≡ pairs_at cs bs partners tier
      pairs_alike partners tier =
          let keep = λ (n : ℕ). not (has_partner partners n) in
          let spare = λ (n : ℕ). not (is_taken partners n) in
          let c = keyed_short tier 0 cs ss current_are in
          let b = keyed_short tier 0 bs ts baseline_are in
          ap (λ (es : List (ℕ × KeyParts)). pairs_from same_parts [] es (free partners (keyed_from tier 0 ts)))
          (ap (left partners) c.0 ∙ kept_short keep (keyed_from tier 0 cs))
          ∙ ap (λ (es : List (ℕ × KeyParts)). pairs_from same_parts [] (with_short (left partners (keyed_from tier 0 cs))) es)
          (ap (free partners) b.0 ∙ kept_short spare (keyed_from tier 0 bs))
          ∙ pairs_short [] (left partners (keyed_from tier 0 cs)) (free partners (keyed_from tier 0 bs)) tt
          (kept_known keep (keyed_from tier 0 cs) c.1) (kept_known spare (keyed_from tier 0 bs) b.1)

      after_alike : (tiers : List Tier) (partners : List (Option ℕ)) → fold (after_tier ss ts) partners tiers ≡ fold (after_tier cs bs) partners tiers
      after_alike [] partners = refl
      after_alike (tier ∷ tiers) partners =
          ap (λ (ps : List (Option ℕ)). fold (after_tier ss ts) ps tiers) (ap (put_all partners) (pairs_alike partners tier))
          ∙ after_alike tiers (after_tier cs bs partners tier)

      -- short records are matched as the records are
      pub matched_alike : AreMatchedAlike ss ts cs bs
      matched_alike = record {
        currents = shorts_counted numbers cs ss current_are;
        baselines = shorts_counted numbers bs ts baseline_are;
        partners = λ tiers. after_alike tiers (replicate (length ss) None)
            ∙ ap (λ (n : ℕ). fold (after_tier cs bs) (replicate n None) tiers) (shorts_counted numbers cs ss current_are);
      }
