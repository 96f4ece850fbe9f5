-- Two keys are equal if and only if their parts are.
use Rattle.std.proofs.Common.{◌≡◌, ℕ, Bool, true, ◌&&◌, ◌==◌, List, bytes_eq, refl, sym, ap, ◌∙◌, eq-eqb}
use Rattle.std.specs.Option.{option_eq}
use Rattle.std.proofs.lemmas.Bool.{false≢true, and_from, and_parts}
use Rattle.std.proofs.lemmas.Bool.Decides.{Decides-eqb}
use Rattle.sarif_model.specs.declared.place.Place.{Place}
use Rattle.sarif_match.specs.KeyParts.{Group, KeyParts, guid_parts, fingerprint_parts, partial_here_parts, partial_moved_parts, place_parts, region_parts, text_parts, fingerprint_here_parts, place_text_parts, place_left_parts, same_parts, group_eq, parts_of}
use Rattle.sarif_evidence.specs.EqualParts.{pairs_eq, place_eq, message_eq, region_eq}
use Rattle.sarif_match.specs.declared.tier_key.Key.{Key}
use Rattle.sarif_match.specs.Internal.Queues.{same_key}
use Rattle.sarif_match.proofs.KeyLemmas.{eq-is_same_parts}
use Rattle.sarif_evidence.proofs.EqualLemmas.{same_text, text_refl, option_same, option_refl, pairs_same, pairs_refl, place_same, place_refl, message_same, message_refl, region_same, region_refl}

-- tool, rule and place, and one part more
four_same : {M : Type 0} (eq : M → M → Bool) → ((m n : M) → eq m n ≡ true → m ≡ n) → (t t' r r' : List ℕ) (p p' : Place) (m m' : M)
    → bytes_eq t t' && (bytes_eq r r' && (place_eq p p' && eq m m')) ≡ true → (t ≡ t') × (r ≡ r') × (p ≡ p') × (m ≡ m')
four_same eq same t t' r r' p p' m m' e =
    let both = and_parts (bytes_eq t t') (bytes_eq r r' && (place_eq p p' && eq m m')) e in
    let rest = and_parts (bytes_eq r r') (place_eq p p' && eq m m') both.1 in
    let last = and_parts (place_eq p p') (eq m m') rest.1 in
    (same_text t t' both.0, same_text r r' rest.0, place_same p p' last.0, same m m' last.1)

pub group_same : (a b : Group) → group_eq a b ≡ true → a ≡ b
group_same a b e =
    let all = four_same message_eq message_same a.tool b.tool a.rule_id b.rule_id a.place b.place a.message b.message e in
    λ i. record { tool = all.0 i; rule_id = all.1 i; place = all.2 i; message = all.3 i }

pub group_refl : (a : Group) → group_eq a a ≡ true
group_refl a =
    and_from (bytes_eq a.tool a.tool) (bytes_eq a.rule_id a.rule_id && (place_eq a.place a.place && message_eq a.message a.message)) (text_refl a.tool)
    (and_from (bytes_eq a.rule_id a.rule_id) (place_eq a.place a.place && message_eq a.message a.message) (text_refl a.rule_id)
    (and_from (place_eq a.place a.place) (message_eq a.message a.message) (place_refl a.place) (message_refl a.message)))

-- group, both types of fingerprints, and what follows
module _ (g g' : Group) (f f' m m' : List (List ℕ × List ℕ)) (rest : Bool) where
  whole_same : group_eq g g' && (pairs_eq f f' && (pairs_eq m m' && rest)) ≡ true → (g ≡ g') × (f ≡ f') × (m ≡ m') × (rest ≡ true)
  whole_same e =
      let both = and_parts (group_eq g g') (pairs_eq f f' && (pairs_eq m m' && rest)) e in
      let more = and_parts (pairs_eq f f') (pairs_eq m m' && rest) both.1 in
      let last = and_parts (pairs_eq m m') rest more.1 in
      (group_same g g' both.0, pairs_same f f' more.0, pairs_same m m' last.0, last.1)

whole_refl : (g : Group) (f m : List (List ℕ × List ℕ)) (rest : Bool) → rest ≡ true → group_eq g g && (pairs_eq f f && (pairs_eq m m && rest)) ≡ true
whole_refl g f m rest e =
    and_from (group_eq g g) (pairs_eq f f && (pairs_eq m m && rest)) (group_refl g)
    (and_from (pairs_eq f f) (pairs_eq m m && rest) (pairs_refl f) (and_from (pairs_eq m m) rest (pairs_refl m) e))

pub parts_same : (a b : KeyParts) → same_parts a b ≡ true → a ≡ b
parts_same (guid_parts t g) (guid_parts t' g') e =
    let both = and_parts (bytes_eq t t') (g == g') e in
    let tool : t ≡ t' = same_text t t' both.0 in
    let guid : g ≡ g' = (Decides-eqb g g').0 both.1 in
    λ i. guid_parts (tool i) (guid i)
parts_same (fingerprint_parts t n v) (fingerprint_parts t' n' v') e =
    let both = and_parts (bytes_eq t t') (bytes_eq n n' && bytes_eq v v') e in
    let rest = and_parts (bytes_eq n n') (bytes_eq v v') both.1 in
    let tool : t ≡ t' = same_text t t' both.0 in
    let name : n ≡ n' = same_text n n' rest.0 in
    let value : v ≡ v' = same_text v v' rest.1 in
    λ i. fingerprint_parts (tool i) (name i) (value i)
parts_same (partial_here_parts t r p m) (partial_here_parts t' r' p' m') e =
    let all = four_same pairs_eq pairs_same t t' r r' p p' m m' e in
    λ i. partial_here_parts (all.0 i) (all.1 i) (all.2 i) (all.3 i)
parts_same (partial_moved_parts t r m) (partial_moved_parts t' r' m') e =
    let both = and_parts (bytes_eq t t') (bytes_eq r r' && pairs_eq m m') e in
    let rest = and_parts (bytes_eq r r') (pairs_eq m m') both.1 in
    let tool : t ≡ t' = same_text t t' both.0 in
    let rule_id : r ≡ r' = same_text r r' rest.0 in
    let partial : m ≡ m' = pairs_same m m' rest.1 in
    λ i. partial_moved_parts (tool i) (rule_id i) (partial i)
parts_same (place_parts t r p m) (place_parts t' r' p' m') e =
    let all = four_same message_eq message_same t t' r r' p p' m m' e in
    λ i. place_parts (all.0 i) (all.1 i) (all.2 i) (all.3 i)
parts_same (region_parts g f m s l) (region_parts g' f' m' s' l') e =
    let whole = whole_same g g' f f' m m' (option_eq bytes_eq s s' && region_eq l l') e in
    let last = and_parts (option_eq bytes_eq s s') (region_eq l l') whole.3 in
    let snippet : s ≡ s' = option_same s s' last.0 in
    let region : l ≡ l' = region_same l l' last.1 in
    λ i. region_parts (whole.0 i) (whole.1 i) (whole.2 i) (snippet i) (region i)
parts_same (text_parts g f m s) (text_parts g' f' m' s') e =
    let whole = whole_same g g' f f' m m' (bytes_eq s s') e in
    let snippet : s ≡ s' = same_text s s' whole.3 in
    λ i. text_parts (whole.0 i) (whole.1 i) (whole.2 i) (snippet i)
parts_same (fingerprint_here_parts g n v) (fingerprint_here_parts g' n' v') e =
    let both = and_parts (group_eq g g') (bytes_eq n n' && bytes_eq v v') e in
    let rest = and_parts (bytes_eq n n') (bytes_eq v v') both.1 in
    let group : g ≡ g' = group_same g g' both.0 in
    let name : n ≡ n' = same_text n n' rest.0 in
    let value : v ≡ v' = same_text v v' rest.1 in
    λ i. fingerprint_here_parts (group i) (name i) (value i)
parts_same (place_text_parts g s) (place_text_parts g' s') e =
    let both = and_parts (group_eq g g') (bytes_eq s s') e in
    let group : g ≡ g' = group_same g g' both.0 in
    let snippet : s ≡ s' = same_text s s' both.1 in
    λ i. place_text_parts (group i) (snippet i)
parts_same (place_left_parts g) (place_left_parts g') e =
    let group : g ≡ g' = group_same g g' e in
    λ i. place_left_parts (group i)
parts_same _ _ e = absurd (false≢true e)

pub parts_refl : (a : KeyParts) → same_parts a a ≡ true
parts_refl (guid_parts t g) = and_from (bytes_eq t t) (g == g) (text_refl t) (eq-eqb g g refl)
parts_refl (fingerprint_parts t n v) =
    and_from (bytes_eq t t) (bytes_eq n n && bytes_eq v v) (text_refl t) (and_from (bytes_eq n n) (bytes_eq v v) (text_refl n) (text_refl v))
parts_refl (partial_here_parts t r p m) =
    and_from (bytes_eq t t) (bytes_eq r r && (place_eq p p && pairs_eq m m)) (text_refl t)
    (and_from (bytes_eq r r) (place_eq p p && pairs_eq m m) (text_refl r)
    (and_from (place_eq p p) (pairs_eq m m) (place_refl p) (pairs_refl m)))
parts_refl (partial_moved_parts t r m) =
    and_from (bytes_eq t t) (bytes_eq r r && pairs_eq m m) (text_refl t) (and_from (bytes_eq r r) (pairs_eq m m) (text_refl r) (pairs_refl m))
parts_refl (place_parts t r p m) =
    and_from (bytes_eq t t) (bytes_eq r r && (place_eq p p && message_eq m m)) (text_refl t)
    (and_from (bytes_eq r r) (place_eq p p && message_eq m m) (text_refl r)
    (and_from (place_eq p p) (message_eq m m) (place_refl p) (message_refl m)))
parts_refl (region_parts g f m s l) =
    whole_refl g f m (option_eq bytes_eq s s && region_eq l l) (and_from (option_eq bytes_eq s s) (region_eq l l) (option_refl s) (region_refl l))
parts_refl (text_parts g f m s) = whole_refl g f m (bytes_eq s s) (text_refl s)
parts_refl (fingerprint_here_parts g n v) =
    and_from (group_eq g g) (bytes_eq n n && bytes_eq v v) (group_refl g) (and_from (bytes_eq n n) (bytes_eq v v) (text_refl n) (text_refl v))
parts_refl (place_text_parts g s) = and_from (group_eq g g) (bytes_eq s s) (group_refl g) (text_refl s)
parts_refl (place_left_parts g) = group_refl g

-- equal keys have equal parts, and the other way round
pub key_is_parts : (a b : Key) → (same_key a b ≡ true → parts_of a ≡ parts_of b) × (parts_of a ≡ parts_of b → same_key a b ≡ true)
key_is_parts a b = (
  λ e. parts_same (parts_of a) (parts_of b) (sym (eq-is_same_parts a b) ∙ e),
  λ e. eq-is_same_parts a b
      ∙ ap (same_parts (parts_of a)) (sym e) ∙ parts_refl (parts_of a),
)
