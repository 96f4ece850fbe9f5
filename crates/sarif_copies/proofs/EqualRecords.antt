-- Two records are equal in each field if and only if they are equal.
use Rattle.std.proofs.Common.{◌≡◌, ℕ, Bool, true, cond, ◌==◌, Option, Some, None, bytes_eq, refl, sym, ap, ◌∙◌, eq-eqb}
use Rattle.std.specs.Option.{option_eq}
use Rattle.std.specs.Cmp.Lexicographic.{pointwise}
use Rattle.std.proofs.lemmas.Bool.{false≢true, and_from, and_parts}
use Rattle.std.proofs.lemmas.Bool.Decides.{Decides-eqb}
use Rattle.sarif_model.specs.declared.kinds.State.TheVariants.{Unchanged, Updated}
use Rattle.sarif_model.specs.declared.kinds.Status.{Status}
use Rattle.sarif_model.specs.declared.kinds.Status.TheVariants.{Accepted, UnderReview, Rejected}
use Rattle.sarif_model.specs.declared.record.Record.{Record}
use Rattle.sarif_model.specs.declared.region.Region.{Region}
use Rattle.sarif_model.specs.Level.{severity}
use Rattle.sarif_evidence.specs.EqualParts.{message_eq, pairs_eq, place_eq, region_eq}
use Rattle.sarif_evidence.specs.State.{is_unchanged, kind_number}
use Rattle.sarif_evidence.proofs.EqualLemmas.{text_refl, option_same, option_refl, list_same, list_refl, pairs_same, pairs_refl, number_same, number_refl, region_same, region_refl, message_refl, place_refl, same_text}
use Rattle.sarif_evidence.proofs.StateLemmas.{unchanged_is_equal}
use Rattle.sarif_copies.specs.Copies.{record_eq, status_number}

-- ---- statuses and regions

abbrev status_eq : Status → Status → Bool
status_eq s t = status_number s == status_number t

status_at : ℕ → Status
status_at n = cond (n == 0) Accepted (cond (n == 1) UnderReview Rejected)

status_at-number : (s : Status) → status_at (status_number s) ≡ s
unfolding status_at
status_at-number Accepted = refl
status_at-number UnderReview = refl
status_at-number Rejected = refl

status_same : (s t : Status) → status_eq s t ≡ true → s ≡ t
status_same s t e =
    sym (status_at-number s) ∙ ap status_at ((Decides-eqb (status_number s) (status_number t)).0 e) ∙ status_at-number t

regions_same : (a b : Option Region) → option_eq region_eq a b ≡ true → a ≡ b
regions_same None None e = refl
regions_same None (Some b) e = absurd (false≢true e)
regions_same (Some a) None e = absurd (false≢true e)
regions_same (Some a) (Some b) e = ap Some (region_same a b e)

regions_refl : (a : Option Region) → option_eq region_eq a a ≡ true
regions_refl None = refl
regions_refl (Some a) = region_refl a

-- ---- records

pub record_same : (a b : Record) → record_eq a b ≡ true → a ≡ b
record_same a b e =
    let tool = and_parts (bytes_eq a.tool b.tool) _ e in
    let rule = and_parts (bytes_eq a.rule_id b.rule_id) _ tool.1 in
    let kind = and_parts (kind_number a.kind == kind_number b.kind) _ rule.1 in
    let level = and_parts (severity a.level == severity b.level) _ kind.1 in
    let message = and_parts (message_eq a.message b.message) _ level.1 in
    let place = and_parts (place_eq a.place b.place) _ message.1 in
    let guid = and_parts (option_eq ◌==◌ a.guid b.guid) _ place.1 in
    let full = and_parts (pairs_eq a.full b.full) _ guid.1 in
    let partial = and_parts (pairs_eq a.partial b.partial) _ full.1 in
    let held = and_parts (pointwise status_eq a.held b.held) _ partial.1 in
    let region = and_parts (option_eq region_eq a.region b.region) _ held.1 in
    let snippet = and_parts (option_eq bytes_eq a.snippet b.snippet) (pointwise ◌==◌ a.admitted b.admitted) region.1 in
    let four : is_unchanged a b ≡ true =
    and_from (kind_number a.kind == kind_number b.kind) _ kind.0
    (and_from (severity a.level == severity b.level) _ level.0
    (and_from (message_eq a.message b.message) (place_eq a.place b.place) message.0 place.0)) in
    let same = unchanged_is_equal a b (ap (λ (c : Bool). cond c Unchanged Updated) four) in
    let tool_is : a.tool ≡ b.tool = same_text a.tool b.tool tool.0 in
    let rule_is : a.rule_id ≡ b.rule_id = same_text a.rule_id b.rule_id rule.0 in
    let guid_is : a.guid ≡ b.guid = number_same a.guid b.guid guid.0 in
    let full_is : a.full ≡ b.full = pairs_same a.full b.full full.0 in
    let partial_is : a.partial ≡ b.partial = pairs_same a.partial b.partial partial.0 in
    let held_is : a.held ≡ b.held = list_same status_eq status_same a.held b.held held.0 in
    let region_is : a.region ≡ b.region = regions_same a.region b.region region.0 in
    let snippet_is : a.snippet ≡ b.snippet = option_same a.snippet b.snippet snippet.0 in
    let admitted_is : a.admitted ≡ b.admitted = list_same ◌==◌ (λ m n is. (Decides-eqb m n).0 is) a.admitted b.admitted snippet.1 in
    λ i. record {
      tool = tool_is i;
      rule_id = rule_is i;
      kind = same.kind i;
      level = same.level i;
      message = same.message i;
      place = same.place i;
      guid = guid_is i;
      full = full_is i;
      partial = partial_is i;
      held = held_is i;
      region = region_is i;
      snippet = snippet_is i;
      admitted = admitted_is i;
    }

pub record_refl : (a : Record) → record_eq a a ≡ true
record_refl a =
    and_from (bytes_eq a.tool a.tool) _ (text_refl a.tool)
    (and_from (bytes_eq a.rule_id a.rule_id) _ (text_refl a.rule_id)
    (and_from (kind_number a.kind == kind_number a.kind) _ (eq-eqb (kind_number a.kind) (kind_number a.kind) refl)
    (and_from (severity a.level == severity a.level) _ (eq-eqb (severity a.level) (severity a.level) refl)
    (and_from (message_eq a.message a.message) _ (message_refl a.message)
    (and_from (place_eq a.place a.place) _ (place_refl a.place)
    (and_from (option_eq ◌==◌ a.guid a.guid) _ (number_refl a.guid)
    (and_from (pairs_eq a.full a.full) _ (pairs_refl a.full)
    (and_from (pairs_eq a.partial a.partial) _ (pairs_refl a.partial)
    (and_from (pointwise status_eq a.held a.held) _ (list_refl status_eq (λ s. eq-eqb (status_number s) (status_number s) refl) a.held)
    (and_from (option_eq region_eq a.region a.region) _ (regions_refl a.region)
    (and_from (option_eq bytes_eq a.snippet a.snippet) (pointwise ◌==◌ a.admitted a.admitted) (option_refl a.snippet)
    (list_refl ◌==◌ (λ n. eq-eqb n n refl) a.admitted))))))))))))

pub records_equal : (a b : Record) → (record_eq a b ≡ true → a ≡ b) × (a ≡ b → record_eq a b ≡ true)
records_equal a b = (record_same a b, λ is. ap (record_eq a) (sym is) ∙ record_refl a)
