-- What is proved once for each condition: what the entry that accepts a result names is read again as it was, is true for the
-- result, and has a member as long as its string.
use Rattle.std.proofs.Common.{◌≡◌, ℕ, ◌<◌, ◌^◌, Bool, true, false, List, [], ◌∷◌, map, Option, Some, None, option_map, bytes_eq, refl, ap, ◌∙◌, arith, if◌then◌else◌}
use Rattle.std.specs.Prelude.{nat_eq, IfSome}
use Rattle.std.specs.Bool.{Decides}
use Rattle.std.specs.Cmp.Lexicographic.{pointwise}
use Rattle.std.specs.Option.{option_map_or}
use Rattle.std.proofs.lemmas.Bool.{false≢true}
use Rattle.std.proofs.lemmas.Bool.Decides.{nat_tests}
use Rattle.std.proofs.lemmas.Slice.Eq.{bytes_eq-Decides, slice_eq-Decides}
use Rattle.serde_json.specs.Data.{Data, string, array, object}
use Rattle.serde_json.specs.View.{items_of}
use Rattle.sarif_evidence.specs.Seen.{packed}
use Rattle.sarif_model.specs.Guid.{guid_text}
use Rattle.sarif_model.specs.declared.record.Record.{Record}
use Rattle.sarif_entries.specs.declared.condition.Condition.{Condition}
use Rattle.sarif_entries.specs.declared.condition.Condition.TheVariants.{Tool, RuleId, Uri, UriPrefix, Guid, Fingerprints, PartialFingerprints, Message, MessageId, MessageArguments, Snippet}
use Rattle.sarif_entries.specs.declared.condition.ConditionKind.{ConditionKind}
use Rattle.sarif_entries.specs.declared.condition.ConditionKind.TheVariants as kinds
use Rattle.sarif_entries.specs.Condition.{Form, a_text, a_guid, some_pairs, some_texts, form_of, unless_empty, is_pair, is_same, is_snippet, is_text, is_guid, are_among, holds, own_of, text_of}
use Rattle.sarif_entries.specs.Entries.{pairs_of}
use Rattle.sarif_entries.proofs.MessageKeys.{key-Decides}
use Rattle.sarif_entries.proofs.Meaning.{pair_means}
use Rattle.sarif_accept.specs.Adding.{as_read}
use Rattle.sarif_accept.specs.Entry.{asked_of, is_asked, texts_put, value_of}
use Rattle.sarif_accept.specs.Until.{HasGuid}
use Rattle.sarif_accept.proofs.Among.{same_text, texts_itself}

-- ---- the test of two conditions decides whether they are the same

nat-Decides : (a b : ℕ) → Decides (nat_eq a b) (a ≡ b)
nat-Decides a b = (λ t. grind (arith, nat_tests), λ e. grind (arith, nat_tests))

pairs-Decides : (a b : List (List ℕ × List ℕ)) → Decides (pointwise is_pair a b) (a ≡ b)
pairs-Decides a b = slice_eq-Decides pair_means a b _ refl

pub is_same-Decides : (a b : Condition) → Decides (is_same a b) (a ≡ b)
is_same-Decides (Tool a) (Tool b) = (λ t. ap Tool ((bytes_eq-Decides a b).0 t), λ e. (bytes_eq-Decides a b).1 cc)
is_same-Decides (RuleId a) (RuleId b) = (λ t. ap RuleId ((bytes_eq-Decides a b).0 t), λ e. (bytes_eq-Decides a b).1 cc)
is_same-Decides (Uri a) (Uri b) = (λ t. ap Uri ((bytes_eq-Decides a b).0 t), λ e. (bytes_eq-Decides a b).1 cc)
is_same-Decides (UriPrefix a) (UriPrefix b) = (λ t. ap UriPrefix ((bytes_eq-Decides a b).0 t), λ e. (bytes_eq-Decides a b).1 cc)
is_same-Decides (Guid a) (Guid b) = (λ t. ap Guid ((nat-Decides a b).0 t), λ e. (nat-Decides a b).1 cc)
is_same-Decides (Fingerprints a) (Fingerprints b) = (λ t. ap Fingerprints ((pairs-Decides a b).0 t), λ e. (pairs-Decides a b).1 cc)
is_same-Decides (PartialFingerprints a) (PartialFingerprints b) = (λ t. ap PartialFingerprints ((pairs-Decides a b).0 t), λ e. (pairs-Decides a b).1 cc)
is_same-Decides (Message a) (Message b) = (λ t. ap Message ((bytes_eq-Decides a b).0 t), λ e. (bytes_eq-Decides a b).1 cc)
is_same-Decides (MessageId a) (MessageId b) = (λ t. ap MessageId ((bytes_eq-Decides a b).0 t), λ e. (bytes_eq-Decides a b).1 cc)
is_same-Decides (MessageArguments a) (MessageArguments b) = (λ t. ap MessageArguments ((key-Decides a b).0 t), λ e. (key-Decides a b).1 cc)
is_same-Decides (Snippet a) (Snippet b) = (λ t. ap Snippet ((bytes_eq-Decides a b).0 t), λ e. (bytes_eq-Decides a b).1 cc)
is_same-Decides a b = (λ t. absurd (false≢true t), λ e. let never : ⊥ = cc in absurd never)

-- ---- a condition of a result is made from a value of its form

abbrev pub IsMade : Form → Option Condition → Type 0
IsMade (a_text make) o = (text : Option (List ℕ)) × (o ≡ option_map make text)
IsMade (a_guid make) o = (guid : Option ℕ) × (o ≡ option_map make guid) × IfSome guid (λ g. g < 2 ^ 128)
IsMade (some_pairs make) o = (pairs : List (List ℕ × List ℕ)) × (o ≡ unless_empty make pairs)
IsMade (some_texts make) o = (texts : List (List ℕ)) × (o ≡ unless_empty make texts)

own_made : (r : Record) → HasGuid r → (kind : ConditionKind) → IsMade (form_of kind) (own_of kind r)
own_made r fits kinds.Tool = (Some r.tool, refl)
own_made r fits kinds.RuleId = (Some r.rule_id, refl)
own_made r fits kinds.Uri = (r.place.uri, refl)
own_made r fits kinds.UriPrefix = (None, refl)
own_made r fits kinds.Guid = (r.guid, refl, fits)
own_made r fits kinds.Fingerprints = (r.full, refl)
own_made r fits kinds.PartialFingerprints = (r.partial, refl)
own_made r fits kinds.Message = (r.message.text, refl)
own_made r fits kinds.MessageId = (r.message.id, refl)
own_made r fits kinds.MessageArguments = (r.message.args, refl)
own_made r fits kinds.Snippet = (r.snippet, refl)

if_made : (form : Form) (b : Bool) (o : Option Condition) → IsMade form o → IsMade form (if b then o else None)
if_made (a_text make) true o made = made
if_made (a_text make) false o made = (None, refl)
if_made (a_guid make) true o made = made
if_made (a_guid make) false o made = (None, refl, tt)
if_made (some_pairs make) true o made = made
if_made (some_pairs make) false o made = ([], refl)
if_made (some_texts make) true o made = made
if_made (some_texts make) false o made = ([], refl)

pub asked_made : (r : Record) → HasGuid r → (kind : ConditionKind) → IsMade (form_of kind) (asked_of r kind)
asked_made r fits kind = if_made (form_of kind) (is_asked kind r) (own_of kind r) (own_made r fits kind)

-- ---- its member has the value, and is read as it was

abbrev pub IsWritten : Form → Type 0
IsWritten (a_text make) = (text : List ℕ) → (value_of (make text) ≡ string text) × (as_read (make text) ≡ make text)
IsWritten (a_guid make) = (guid : ℕ) → (value_of (make guid) ≡ string (guid_text guid)) × (as_read (make guid) ≡ make guid)
IsWritten (some_pairs make) = (pairs : List (List ℕ × List ℕ))
    → (value_of (make pairs) ≡ object (texts_put pairs)) × (as_read (make pairs) ≡ make (pairs_of (texts_put pairs)))
IsWritten (some_texts make) = (texts : List (List ℕ)) → (value_of (make texts) ≡ array (items_of (map string texts))) × (as_read (make texts) ≡ make texts)

pub is_written : (kind : ConditionKind) → IsWritten (form_of kind)
is_written kinds.Tool = λ text. (refl, refl)
is_written _ = λ value. (refl, refl)

-- ---- what the entry names is true for the result

module _ (r : Record) where
  abbrev Held : Option Condition → Type 0
  Held o = option_map_or (λ c. holds (as_read c) r) o true ≡ true

  text_held : (make : List ℕ → Condition) (found : Option (List ℕ)) → ((text : List ℕ) → holds (as_read (make text)) r ≡ is_text text found)
      → Held (option_map make found)
  text_held make None is = refl
  text_held make (Some text) is = is text ∙ same_text text

  guid_held : (found : Option ℕ) → ((guid : ℕ) → holds (as_read (Guid guid)) r ≡ is_guid guid found) → Held (option_map Guid found)
  guid_held None is = refl
  guid_held (Some guid) is = is guid ∙ (nat-Decides guid guid).1 refl

  pairs_held : (make : List (List ℕ × List ℕ) → Condition) (found : List (List ℕ × List ℕ))
      → ((pairs : List (List ℕ × List ℕ)) → holds (as_read (make pairs)) r ≡ are_among (pairs_of (texts_put pairs)) found)
      → Held (unless_empty make found)
  pairs_held make [] is = refl
  pairs_held make (p ∷ ps) is = is (p ∷ ps) ∙ texts_itself (p ∷ ps)

  texts_held : (make : List (List ℕ) → Condition) (found : List (List ℕ))
      → ((texts : List (List ℕ)) → holds (as_read (make texts)) r ≡ pointwise bytes_eq texts found) → Held (unless_empty make found)
  texts_held make [] is = refl
  texts_held make (t ∷ ts) is = is (t ∷ ts) ∙ (key-Decides (t ∷ ts) (t ∷ ts)).1 refl

  snippet_held : (found : Option (List ℕ)) → ((text : List ℕ) → holds (as_read (Snippet text)) r ≡ is_snippet text found)
      → Held (option_map Snippet found)
  snippet_held None is = refl
  snippet_held (Some text) is = is text ∙ same_text (packed text)

  own_held : (kind : ConditionKind) → Held (own_of kind r)
  own_held kinds.Tool = same_text r.tool
  own_held kinds.RuleId = same_text r.rule_id
  own_held kinds.Uri = text_held Uri r.place.uri (λ _. refl)
  own_held kinds.UriPrefix = refl
  own_held kinds.Guid = guid_held r.guid (λ _. refl)
  own_held kinds.Fingerprints = pairs_held Fingerprints r.full (λ _. refl)
  own_held kinds.PartialFingerprints = pairs_held PartialFingerprints r.partial (λ _. refl)
  own_held kinds.Message = text_held Message r.message.text (λ _. refl)
  own_held kinds.MessageId = text_held MessageId r.message.id (λ _. refl)
  own_held kinds.MessageArguments = texts_held MessageArguments r.message.args (λ _. refl)
  own_held kinds.Snippet = snippet_held r.snippet (λ _. refl)

  pub asked_held : (kind : ConditionKind) → Held (asked_of r kind)
  asked_held kind = by_test (is_asked kind r)
    where
      by_test : (b : Bool) → Held (if b then own_of kind r else None)
      by_test true = own_held kind
      by_test false = refl

-- ---- a fact about each value of a member

pub record IsOfValues (P : Data → Type 0) : Type 0 where
  pub text : (s : List ℕ) → P (string s)
  pub pairs : (ps : List (List ℕ × List ℕ)) → P (object (texts_put ps))
  pub list : (texts : List (List ℕ)) → P (array (items_of (map string texts)))

pub value_has : {P : Data → Type 0} → IsOfValues P → (c : Condition) → P (value_of c)
value_has each (Tool text) = each.text text
value_has each (RuleId text) = each.text text
value_has each (Uri text) = each.text text
value_has each (UriPrefix prefix) = each.text prefix
value_has each (Guid guid) = each.text (guid_text guid)
value_has each (Fingerprints pairs) = each.pairs pairs
value_has each (PartialFingerprints pairs) = each.pairs pairs
value_has each (Message text) = each.text text
value_has each (MessageId id) = each.text id
value_has each (MessageArguments texts) = each.list texts
value_has each (Snippet text) = each.text text

-- ---- a string that a condition names is the value of its member

pub text_is_value : (c : Condition) (text : List ℕ) → text_of c ≡ Some text → value_of c ≡ string text
text_is_value (Tool t) text is = cc
text_is_value (RuleId t) text is = cc
text_is_value (Uri t) text is = cc
text_is_value (UriPrefix t) text is = cc
text_is_value (Message t) text is = cc
text_is_value (MessageId t) text is = cc
text_is_value (Snippet t) text is = cc
text_is_value c text is = let never : ⊥ = cc in absurd never
