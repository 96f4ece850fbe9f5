-- What the test of an entry against a result means.
use Rattle.std.proofs.Common.{◌≡◌, bytes_eq, ℕ, zero, suc, ◌<◌, ◌≤◌, true, not, List, [], ◌∷◌, ◌++◌, take, drop, length, slice_index_or, Option, Some, None, nat_eq, nat_lt, refl, sym, ap, ◌∙◌, arith}
use mathlib.Core.Bool.{or-true}
use Rattle.std.specs.Bool.{Decides}
use Rattle.std.specs.Cmp.Lexicographic.{pointwise}
use Rattle.std.specs.List.{All, Contains, list_any}
use Rattle.std.proofs.Math.Seq.{take-append_seam}
use Rattle.std.proofs.lemmas.Bool.{false≢true, eqb-true, eq-eqb}
use Rattle.std.proofs.lemmas.Bool.Decides.{nat_tests, Decides-and, Decides-eqb, Decides-like, Decides-by_and, Decides-by_or}
use Rattle.std.proofs.lemmas.List.{take-append-drop}
use Rattle.std.proofs.lemmas.List.Elements.{All-contains, Contains-get_or}
use Rattle.std.proofs.lemmas.Map.Views.{Contains-from_any}
use Rattle.std.proofs.lemmas.Slice.Eq.{bytes_eq-Decides, slice_eq-Decides}
use Rattle.sarif_evidence.specs.Seen.{packed}
use Rattle.sarif_model.specs.declared.record.Record.{Record}
use Rattle.sarif_entries.specs.declared.condition.Condition.{Condition}
use Rattle.sarif_entries.specs.declared.condition.Condition.TheVariants.{Tool, RuleId, Uri, UriPrefix, Guid, Fingerprints, PartialFingerprints, Message, MessageId, MessageArguments, Snippet}
use Rattle.sarif_entries.specs.declared.entry.Entry.{Entry}
use Rattle.sarif_entries.specs.declared.limit.Limit.{Limit}
use Rattle.sarif_entries.specs.Condition.{is_text, begins, is_guid, is_snippet, is_pair, are_among, holds, Holds}
use Rattle.sarif_entries.specs.Matching.{hold, is_past, is_admitted, matches, Meets, Matches}

text_means : (wanted found : List ℕ) → Decides (bytes_eq wanted found) (found ≡ wanted)
text_means wanted found =
    (λ t. sym ((bytes_eq-Decides wanted found).0 t), λ is. (bytes_eq-Decides wanted found).1 (sym is))

there_means : (wanted : List ℕ) (found : Option (List ℕ)) → Decides (is_text wanted found) (found ≡ Some wanted)
there_means wanted None = (λ t. absurd (false≢true t), λ is. let never : ⊥ = cc in absurd never)
there_means wanted (Some found) = (λ t. ap Some ((text_means wanted found).0 t), λ is. (text_means wanted found).1 cc)

guid_means : (wanted : ℕ) (found : Option ℕ) → Decides (is_guid wanted found) (found ≡ Some wanted)
guid_means wanted None = (λ t. absurd (false≢true t), λ is. let never : ⊥ = cc in absurd never)
guid_means wanted (Some found) = (λ t. ap Some (sym (eqb-true wanted found t)), λ is. eq-eqb wanted found cc)

pub begins_means : (wanted : List ℕ) (found : Option (List ℕ)) → Decides (begins wanted found) ((rest : List ℕ) × (found ≡ Some (wanted ++ rest)))
begins_means wanted None = (λ t. absurd (false≢true t), λ h. let none : None ≡ Some (wanted ++ h.0) = h.1 in cc)
begins_means wanted (Some found) = (
  λ t.
      let same : wanted ≡ take (length wanted) found = (bytes_eq-Decides wanted (take (length wanted) found)).0 t in
      let whole : take (length wanted) found ++ drop (length wanted) found ≡ found = take-append-drop (length wanted) found in
      (drop (length wanted) found, ap Some (sym whole ∙ ap (λ s. s ++ drop (length wanted) found) (sym same))),
  λ h.
      let rest : List ℕ = h.0 in
      let is : Some found ≡ Some (wanted ++ rest) = h.1 in
      let split : found ≡ wanted ++ rest = cc in
      (bytes_eq-Decides wanted (take (length wanted) found)).1 (rw split (sym (take-append_seam wanted rest))),
)

snippet_means : (wanted : List ℕ) (found : Option (List ℕ))
    → Decides (is_snippet wanted found) ((text : List ℕ) × (found ≡ Some text) × (packed text ≡ packed wanted))
snippet_means wanted None = (λ t. absurd (false≢true t), λ h. let none : None ≡ Some h.0 = h.1 in cc)
snippet_means wanted (Some found) = (
  λ t. (found, refl, (text_means (packed wanted) (packed found)).0 t),
  λ h.
      let is : Some found ≡ Some h.0 = h.1 in
      let same : found ≡ h.0 = cc in
      (text_means (packed wanted) (packed found)).1 (ap packed same ∙ h.2),
)

texts_mean : (wanted found : List (List ℕ)) → Decides (pointwise bytes_eq wanted found) (found ≡ wanted)
texts_mean wanted found =
    let each : Decides (pointwise bytes_eq wanted found) (wanted ≡ found) = slice_eq-Decides bytes_eq-Decides wanted found _ refl in
    (λ t. sym (each.0 t), λ is. each.1 (sym is))

pub pair_means : (a b : List ℕ × List ℕ) → Decides (is_pair a b) (a ≡ b)
pair_means a b =
    Decides-like (is_pair a b) (λ h. pair_from a b h.0 h.1) (λ e. (ap (λ p. p.0) e, ap (λ p. p.1) e))
    (Decides-and _ _ (bytes_eq-Decides a.0 b.0) (bytes_eq-Decides a.1 b.1))
  where
    pair_from : (a b : List ℕ × List ℕ) → a.0 ≡ b.0 → a.1 ≡ b.1 → a ≡ b
    pair_from a b e f = λ i. (e i, f i)

found_among : (found : List (List ℕ × List ℕ)) (pair : List ℕ × List ℕ) → list_any (λ p. is_pair p pair) found ≡ true → Contains found pair
found_among found pair t =
    Contains-from_any {eq = λ q p. is_pair p q} (λ q p same. sym ((pair_means p q).0 same)) pair found t

among_found : (found : List (List ℕ × List ℕ)) (pair : List ℕ × List ℕ) → Contains found pair → list_any (λ p. is_pair p pair) found ≡ true
among_found [] pair (k, within, is) = absurd (omega arith)
among_found (p ∷ ps) pair (zero, within, is) = rw ((pair_means p pair).1 is) refl
among_found (p ∷ ps) pair (suc k, within, is) =
    let later : list_any (λ p. is_pair p pair) ps ≡ true = among_found ps pair (k, omega arith, is) in
    rw later (or-true (is_pair p pair))

among_means : (wanted found : List (List ℕ × List ℕ)) → Decides (are_among wanted found) ((pair : List ℕ × List ℕ) → Contains wanted pair → Contains found pair)
among_means wanted found =
    let each : Decides (are_among wanted found) (All (Contains found) wanted) =
    Decides-by_and (λ pair. list_any (λ p. is_pair p pair) found) (Contains found) (λ ps. are_among ps found)
    (λ pair. (found_among found pair, among_found found pair)) refl (λ _ _. refl) wanted in
    Decides-like (are_among wanted found) (λ all pair is. All-contains (Contains found) wanted pair all is)
    (λ h k d within. h _ (Contains-get_or wanted k d within)) each

-- the test of a condition decides it
pub holds_means : (c : Condition) (r : Record) → Decides (holds c r) (Holds c r)
holds_means (Tool text) r = text_means text r.tool
holds_means (RuleId text) r = text_means text r.rule_id
holds_means (Uri text) r = there_means text r.place.uri
holds_means (UriPrefix prefix) r = begins_means prefix r.place.uri
holds_means (Guid guid) r = guid_means guid r.guid
holds_means (Fingerprints pairs) r = among_means pairs r.full
holds_means (PartialFingerprints pairs) r = among_means pairs r.partial
holds_means (Message text) r = there_means text r.message.text
holds_means (MessageId id) r = there_means id r.message.id
holds_means (MessageArguments texts) r = texts_mean texts r.message.args
holds_means (Snippet text) r = snippet_means text r.snippet

-- all conditions
pub meets : (cs : List Condition) (r : Record) → Decides (hold cs r) (Meets cs r)
meets cs r =
    let each : Decides (hold cs r) (All (λ c. Holds c r) cs) =
    Decides-by_and (λ c. holds c r) (λ c. Holds c r) (λ cs. hold cs r) (λ c. holds_means c r) refl (λ _ _. refl) cs in
    Decides-like (hold cs r) (λ all c is. All-contains (λ c. Holds c r) cs c all is) (λ h k d within. h _ (Contains-get_or cs k d within)) each

in_time : (today expires : Option ℕ) → Decides (not (is_past today expires)) ((last day : ℕ) → expires ≡ Some last → today ≡ Some day → day ≤ last)
in_time None expires = (λ _ last day _ is. let never : ⊥ = cc in absurd never, λ _. refl)
in_time (Some today) None = (λ _ last day is _. let never : ⊥ = cc in absurd never, λ _. refl)
in_time (Some today) (Some expires) = (
  λ t last day is now.
      let e : expires ≡ last = cc in
      let n : today ≡ day = cc in
      not_past today expires last day t e n,
  λ h. not_before today expires (h expires today refl refl),
)
  where
    not_past : (today expires last day : ℕ) → not (nat_lt expires today) ≡ true → expires ≡ last → today ≡ day → day ≤ last
    not_past today expires last day t e n = grind (arith, nat_tests)

    not_before : (today expires : ℕ) → today ≤ expires → not (nat_lt expires today) ≡ true
    not_before today expires h = grind (arith, nat_tests)

-- the number of an entry is one of those
admitted_means : (number : ℕ) (admitted : List ℕ) → Decides (list_any (λ n. nat_eq n number) admitted) (Contains admitted number)
admitted_means number admitted =
    Decides-like (list_any (λ n. nat_eq n number) admitted)
    (λ found. (found.0, found.1, found.2 number))
    (λ found. (found.0, found.1, λ d. slice_index_or_any admitted found.0 d number found.1 ∙ found.2))
    (Decides-by_or (λ n. nat_eq n number) (λ n. n ≡ number) (list_any (λ n. nat_eq n number)) (λ n. Decides-eqb n number) refl (λ _ _. refl) admitted)
  where
    slice_index_or_any : (ns : List ℕ) (k a b : ℕ) → k < length ns → slice_index_or ns k a ≡ slice_index_or ns k b
    slice_index_or_any [] k a b within = absurd (omega (arith, within))
    slice_index_or_any (n ∷ ns) zero a b within = refl
    slice_index_or_any (n ∷ ns) (suc k) a b within = slice_index_or_any ns k a b (omega (arith, within))

admits_means : (limit : Option Limit) (r : Record)
    → Decides (is_admitted limit r) ((own : Limit) → limit ≡ Some own → Contains r.admitted own.number)
admits_means None r = (λ _ own is. let never : ⊥ = cc in absurd never, λ _. refl)
admits_means (Some limit) r =
    Decides-like (is_admitted (Some limit) r)
    (λ has own is. let same : own ≡ limit = cc in rw same has)
    (λ h. h limit refl)
    (admitted_means limit.number r.admitted)

-- the whole test
pub means : (today : Option ℕ) (e : Entry) (r : Record) → Decides (matches today e r) (Matches today e r)
means today e r =
    Decides-like (matches today e r)
    (λ h. record { in_time = h.1.0; meets = h.1.1; admits = h.0 })
    (λ m. (m.admits, (m.in_time, m.meets)))
    (Decides-and _ _ (admits_means e.limit r) (Decides-and _ _ (in_time today e.expires) (meets e.conditions r)))
