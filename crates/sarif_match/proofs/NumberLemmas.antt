-- The table of numbers: each value keeps its number, and only equal values have one.
use Rattle.std.proofs.Common.{◌≡◌, ℕ, ◌+◌, ◌<◌, ◌^◌, Bool, true, false, cond, List, [], ◌∷◌, ◌++◌, Option, Some, None, length, get_or, take, refl, sym, ap, ◌∙◌, subst, arith}
use Rattle.std.proofs.lemmas.List.{take_more}
use Rattle.std.specs.Borrow.{Bor}
use Rattle.std.specs.Fmt.{decimal}
use Rattle.std.specs.HashMap.{get, hash_map_len}
use Rattle.std.specs.HashMap.Eq.{lookup_congr}
use Rattle.std.specs.Map.{lookup}
use Rattle.std.proofs.lemmas.Fmt.{decimal_injective}
use Rattle.sarif_model.specs.declared.message.Message.{Message}
use Rattle.sarif_model.specs.declared.place.Place.{Place}
use Rattle.sarif_model.specs.declared.record.Record.{Record}
use Rattle.sarif_match.specs.contracts.numbers.ValueEq.TheImpl.Laws.{laws-law}
use Rattle.sarif_match.specs.declared.numbers.Value.{Value}
use Rattle.sarif_match.specs.declared.numbers.Value.TheVariants.{Text as a_text, Place as a_place, Message as a_message, Members as some_members, Snippet as a_snippet}
use Rattle.sarif_match.specs.Internal.Numbers.{AreApart, AreShort, AreShortMembers, Grows, HasNumber, IsNumbered, IsShort, IsShortSnippet, Numbers, lent, members_as, message_as, place_as, same_value}
use Rattle.sarif_evidence.proofs.EqualLemmas.{message_refl, pairs_refl, place_refl, text_refl}

none_is : {X : Type 0} (x : X) → None ≡ Some x → ⊥
none_is x e = cc

pub some_is : (x y : List ℕ) → ◌≡◌ {A = Option (List ℕ)} (Some x) (Some y) → x ≡ y
some_is x y e = cc

module _ {S : Type 0} where
  -- equal values have one number
  pub one_number : (numbers : Numbers S) (a b : Value) → same_value a b ≡ true → get same_value numbers a ≡ get same_value numbers b
  one_number numbers a b same = lookup_congr same_value laws-law.congr numbers.entries a b same

  -- what a value has, each equal one has
  pub has_number : (numbers : Numbers S) (value : Value) (number : List ℕ) → get same_value numbers value ≡ Some number → HasNumber numbers value number
  has_number numbers value number is q same = sym (one_number numbers value q same) ∙ is

  -- ---- one value

  module _ (numbers : Numbers S) (number : List ℕ) where
    pub has_text : (t : Bor (List ℕ)) → HasNumber numbers (a_text t) number → get same_value numbers (a_text (lent t.now)) ≡ Some number
    has_text t has = has (a_text (lent t.now)) (text_refl t.now)

    pub has_place : (p : Bor Place) → HasNumber numbers (a_place p) number → get same_value numbers (a_place (lent p.now)) ≡ Some number
    has_place p has = has (a_place (lent p.now)) (place_refl p.now)

    pub has_message : (m : Bor Message) → HasNumber numbers (a_message m) number → get same_value numbers (a_message (lent m.now)) ≡ Some number
    has_message m has = has (a_message (lent m.now)) (message_refl m.now)

    pub has_members : (ms : Bor (List (List ℕ × List ℕ))) → HasNumber numbers (some_members ms) number
        → get same_value numbers (some_members (lent ms.now)) ≡ Some number
    has_members ms has = has (some_members (lent ms.now)) (pairs_refl ms.now)

  -- partial fingerprints that are there
  pub short_of_members : (numbers : Numbers S) (ms : List (List ℕ × List ℕ)) (number : List ℕ) → 0 < length ms
      → get same_value numbers (some_members (lent ms)) ≡ Some number → (short : List (List ℕ × List ℕ)) → short ≡ members_as number
      → AreShortMembers numbers ms short
  short_of_members numbers [] number some is short made = absurd (omega (arith, some))
  short_of_members numbers (m ∷ ms) number some is short made = (number, is, made)

  pub no_members : (numbers : Numbers S) (ms short : List (List ℕ × List ℕ)) → length ms ≡ 0 → short ≡ [] → AreShortMembers numbers ms short
  no_members numbers [] short none is = is
  no_members numbers (m ∷ ms) short none is = absurd (omega (arith, none))

  -- ---- the table grows

  pub grows_none : (numbers : Numbers S) → Grows numbers numbers
  grows_none numbers = record { kept = λ a number is. is; apart = λ apart. apart }

  pub grows_more : (one two three : Numbers S) → Grows one two → Grows two three → Grows one three
  grows_more one two three first then = record {
    kept = λ a number is. then.kept a number (first.kept a number is);
    apart = λ apart. then.apart (first.apart apart);
  }

  module _ (before after : Numbers S) (value : Value) (number : List ℕ)
      (updated : (q : Value) → get same_value after q ≡ cond (same_value value q) (Some number) (get same_value before q)) where
    at_value : (q : Value) → same_value value q ≡ true → get same_value after q ≡ Some number
    at_value q same = updated q ∙ ap (λ (b : Bool). cond b (Some number) (get same_value before q)) same

    at_other : (q : Value) → same_value value q ≡ false → get same_value after q ≡ get same_value before q
    at_other q other = updated q ∙ ap (λ (b : Bool). cond b (Some number) (get same_value before q)) other

    module _ (new : get same_value before value ≡ None) (longer : hash_map_len after ≡ hash_map_len before + 1)
        (next : number ≡ decimal (hash_map_len before)) (small : hash_map_len before < 2 ^ 64) where
      keeps : (a : Value) (n : List ℕ) → get same_value before a ≡ Some n → get same_value after a ≡ Some n
      keeps a n is = by_test (same_value value a) refl
        where
          by_test : (b : Bool) → same_value value a ≡ b → get same_value after a ≡ Some n
          by_test true same = absurd (none_is n (sym new ∙ one_number before value a same ∙ is))
          by_test false other = at_other a other ∙ is

      -- no value had the next number
      unused : AreApart before → (a : Value) → get same_value before a ≡ Some number → ⊥
      unused apart a is =
          let below = apart.below a number is in
          let under : below.0 < hash_map_len before = below.1 in
          let same : hash_map_len before ≡ below.0 = decimal_injective (hash_map_len before) below.0 small (omega arith) (sym next ∙ below.2) in
          omega (arith, same, under)

      all_apart : AreApart before → AreApart after
      all_apart apart = record { apart = two; below = one }
        where
          by_tests : (a b : Value) (n : List ℕ) (x y : Bool) → same_value value a ≡ x → same_value value b ≡ y
              → get same_value after a ≡ Some n → get same_value after b ≡ Some n → same_value a b ≡ true
          by_tests a b n true true first second is_a is_b = sym (laws-law.congr value a b first) ∙ second
          by_tests a b n true false first second is_a is_b =
              let same : n ≡ number = some_is n number (sym is_a ∙ at_value a first) in
              absurd (unused apart b (sym (at_other b second) ∙ is_b ∙ ap Some same))
          by_tests a b n false true first second is_a is_b =
              let same : n ≡ number = some_is n number (sym is_b ∙ at_value b second) in
              absurd (unused apart a (sym (at_other a first) ∙ is_a ∙ ap Some same))
          by_tests a b n false false first second is_a is_b =
              apart.apart a b n (sym (at_other a first) ∙ is_a) (sym (at_other b second) ∙ is_b)

          two : (a b : Value) (n : List ℕ) → get same_value after a ≡ Some n → get same_value after b ≡ Some n → same_value a b ≡ true
          two a b n is_a is_b = by_tests a b n (same_value value a) (same_value value b) refl refl is_a is_b

          by_test : (a : Value) (n : List ℕ) (x : Bool) → same_value value a ≡ x → get same_value after a ≡ Some n
              → (k : ℕ) × (k < hash_map_len after) × (n ≡ decimal k)
          by_test a n true same is =
              (hash_map_len before, omega (arith, longer), some_is n number (sym is ∙ at_value a same) ∙ next)
          by_test a n false other is =
              let below = apart.below a n (sym (at_other a other) ∙ is) in
              let under : below.0 < hash_map_len before = below.1 in
              (below.0, omega (arith, longer, under), below.2)

          one : (a : Value) (n : List ℕ) → get same_value after a ≡ Some n → (k : ℕ) × (k < hash_map_len after) × (n ≡ decimal k)
          one a n is = by_test a n (same_value value a) refl is

      -- one value more has the next number
      pub grows_one : Grows before after
      grows_one = record { kept = keeps; apart = all_apart }

  -- a table without values
  pub none_apart : (numbers : Numbers S) → numbers.entries ≡ [] → AreApart numbers
  none_apart numbers empty = record {
    apart = λ a b n is_a is_b. absurd (nothing a n is_a);
    below = λ a n is. absurd (nothing a n is);
  }
    where
      nothing : (a : Value) (n : List ℕ) → get same_value numbers a ≡ Some n → ⊥
      nothing a n is = none_is n (sym (ap (λ (es : List (Value × List ℕ)). lookup (same_value a) es) empty) ∙ is)

  -- ---- what is numbered stays so

  module _ (before after : Numbers S) (grows : Grows before after) where
    pub numbered_later : {X : Type 0} (value : Value) (make : List ℕ → X) (short : X) → IsNumbered before value make short
        → IsNumbered after value make short
    numbered_later value make short is = (is.0, grows.kept value is.0 is.1, is.2)

    pub members_later : (ms short : List (List ℕ × List ℕ)) → AreShortMembers before ms short → AreShortMembers after ms short
    members_later [] short is = is
    members_later (m ∷ ms) short is = numbered_later (some_members (lent (m ∷ ms))) members_as short is

    pub snippet_later : (text short : Option (List ℕ)) → IsShortSnippet before text short → IsShortSnippet after text short
    snippet_later None short is = is
    snippet_later (Some text) short is = numbered_later (a_snippet (lent text)) Some short is

    short_later : (r s : Record) → IsShort before r s → IsShort after r s
    short_later r s is = record {
      tool = grows.kept (a_text (lent r.tool)) s.tool is.tool;
      rule_id = grows.kept (a_text (lent r.rule_id)) s.rule_id is.rule_id;
      place = numbered_later (a_place (lent r.place)) place_as s.place is.place;
      message = numbered_later (a_message (lent r.message)) message_as s.message is.message;
      guid = is.guid;
      full = is.full;
      partial = members_later r.partial s.partial is.partial;
      region = is.region;
      snippet = snippet_later r.snippet s.snippet is.snippet;
    }

    pub shorts_later : (rs ss : List Record) → AreShort before rs ss → AreShort after rs ss
    shorts_later [] [] are = tt
    shorts_later [] (s ∷ ss) are = are
    shorts_later (r ∷ rs) [] are = are
    shorts_later (r ∷ rs) (s ∷ ss) are = (short_later r s are.0, shorts_later rs ss are.1)

  -- one record more
  pub shorts_push : (numbers : Numbers S) (rs ss : List Record) (r s : Record) → AreShort numbers rs ss → IsShort numbers r s
      → AreShort numbers (rs ++ (r ∷ [])) (ss ++ (s ∷ []))
  shorts_push numbers [] [] r s are is = (is, tt)
  shorts_push numbers [] (t ∷ ss) r s are is = absurd are
  shorts_push numbers (q ∷ rs) [] r s are is = absurd are
  shorts_push numbers (q ∷ rs) (t ∷ ss) r s are is = (are.0, shorts_push numbers rs ss r s are.1 is)

  pub shorts_counted : (numbers : Numbers S) (rs ss : List Record) → AreShort numbers rs ss → length ss ≡ length rs
  shorts_counted numbers [] [] are = refl
  shorts_counted numbers [] (s ∷ ss) are = absurd are
  shorts_counted numbers (r ∷ rs) [] are = absurd are
  shorts_counted numbers (r ∷ rs) (s ∷ ss) are = let more = shorts_counted numbers rs ss are.1 in omega (arith, more)

  -- one record more of a list
  pub shorts_more : (before after : Numbers S) (rs : List Record) (i : ℕ) (r : Record) (ss new : List Record) (s : Record) → r ≡ get_or rs i r
      → i < length rs → new ≡ ss ++ (s ∷ []) → Grows before after → IsShort after r s → AreShort before (take i rs) ss
      → AreShort after (take (i + 1) rs) new
  shorts_more before after rs i r ss new s here within pushed grows is are =
      let longer : take i rs ++ (r ∷ []) ≡ take (i + 1) rs = ap (λ (x : Record). take i rs ++ (x ∷ [])) here ∙ sym (take_more rs i r within) in
      subst (λ (l : List Record). AreShort after l new) longer
      (subst (AreShort after (take i rs ++ (r ∷ []))) (sym pushed)
      (shorts_push after (take i rs) ss r s (shorts_later before after grows (take i rs) ss are) is))
