-- An entry that names a tool counts the results of that tool alone: results of other tools don't use it up.
use Rattle.std.proofs.Common.{◌≡◌, ℕ, ◌+◌, Bool, true, false, ◌&&◌, ◌||◌, not, bytes_eq, cond, List, [], ◌∷◌, ◌++◌, Option, Some, None, is_some, nat_le, refl, sym, ap, ap₂, ◌∙◌, append-nil, append_assoc, arith, true≢false, if◌then◌else◌}
use Rattle.std.specs.Prelude.{is_none}
use Rattle.std.specs.List.{AllByRecursion, list_all}
use Rattle.std.specs.Option.{option_map_or}
use Rattle.std.proofs.lemmas.Bool.{and_parts, or_left, or_parts}
use Rattle.std.proofs.lemmas.List.Folds.{list_any-append}
use Rattle.std.proofs.lemmas.List.Sums.{sum_by-append, sum_by-cons}
use Rattle.std.proofs.lemmas.Option.{same_Some}
use Rattle.std.proofs.lemmas.Slice.Eq.{bytes_eq-Decides}
use Rattle.sarif_model.specs.declared.record.Record.{Record}
use Rattle.sarif_match_laws.specs.ByTool.{HaveNoToolInCommon, has_tool}
use Rattle.sarif_entries.specs.declared.condition.Condition.{Condition}
use Rattle.sarif_entries.specs.declared.condition.Condition.TheVariants.{Tool, RuleId, Uri, UriPrefix, Guid, Fingerprints, PartialFingerprints, Message, MessageId, MessageArguments, Snippet}
use Rattle.sarif_entries.specs.declared.condition.ConditionKind.TheVariants as kinds
use Rattle.sarif_entries.specs.declared.entry.Entry.{Entry}
use Rattle.sarif_entries.specs.declared.limit.Limit.{Limit}
use Rattle.sarif_entries.specs.Condition.{holds, text_in}
use Rattle.sarif_entries.specs.File.{File}
use Rattle.sarif_entries.specs.Matching.{hold, is_met}
use Rattle.sarif_filing.specs.Numbers.{numbers_from}
use Rattle.sarif_suppress.specs.Limited.{has_room_after, limited, limited_after, met_by, admitted_after, with_admitted}
use Rattle.sarif_laws.specs.Sums.{is_limited_by_tool, names_its_tool}

-- ---- the tool of an entry

-- a result that meets the conditions is of the tool that they name
tool_held : (cs : List Condition) (tool : List ℕ) (r : Record) → text_in kinds.Tool cs ≡ Some tool → hold cs r ≡ true → r.tool ≡ tool
tool_held [] tool r named all = let never : ⊥ = cc in absurd never
tool_held (Tool text ∷ cs) tool r named all =
    sym ((bytes_eq-Decides text r.tool).0 (and_parts (bytes_eq text r.tool) (hold cs r) all).0) ∙ same_Some text tool named
tool_held (RuleId text ∷ cs) tool r named all = tool_held cs tool r named (and_parts (holds (RuleId text) r) (hold cs r) all).1
tool_held (Uri text ∷ cs) tool r named all = tool_held cs tool r named (and_parts (holds (Uri text) r) (hold cs r) all).1
tool_held (UriPrefix prefix ∷ cs) tool r named all = tool_held cs tool r named (and_parts (holds (UriPrefix prefix) r) (hold cs r) all).1
tool_held (Guid guid ∷ cs) tool r named all = tool_held cs tool r named (and_parts (holds (Guid guid) r) (hold cs r) all).1
tool_held (Fingerprints pairs ∷ cs) tool r named all = tool_held cs tool r named (and_parts (holds (Fingerprints pairs) r) (hold cs r) all).1
tool_held (PartialFingerprints pairs ∷ cs) tool r named all =
    tool_held cs tool r named (and_parts (holds (PartialFingerprints pairs) r) (hold cs r) all).1
tool_held (Message text ∷ cs) tool r named all = tool_held cs tool r named (and_parts (holds (Message text) r) (hold cs r) all).1
tool_held (MessageId id ∷ cs) tool r named all = tool_held cs tool r named (and_parts (holds (MessageId id) r) (hold cs r) all).1
tool_held (MessageArguments texts ∷ cs) tool r named all =
    tool_held cs tool r named (and_parts (holds (MessageArguments texts) r) (hold cs r) all).1
tool_held (Snippet text ∷ cs) tool r named all = tool_held cs tool r named (and_parts (holds (Snippet text) r) (hold cs r) all).1

-- ---- results of other tools

module _ (today : Option ℕ) (e : Entry) (tool : List ℕ) (named : text_in kinds.Tool e.conditions ≡ Some tool) where
  tool_met : (r : Record) → is_met today e r ≡ true → r.tool ≡ tool
  tool_met r met = tool_held e.conditions tool r named (and_parts _ (hold e.conditions r) met).1

  none_met : (xs : List Record) → has_tool tool xs ≡ false → met_by today e xs ≡ 0
  none_met [] other = refl
  none_met (x ∷ xs) other = by_test (is_met today e x) refl (none_met xs (or_parts (bytes_eq x.tool tool) (has_tool tool xs) other).1)
    where
      mine : is_met today e x ≡ true → has_tool tool (x ∷ xs) ≡ true
      mine met = or_left (bytes_eq x.tool tool) (has_tool tool xs) ((bytes_eq-Decides x.tool tool).1 (tool_met x met))

      by_test : (b : Bool) → is_met today e x ≡ b → met_by today e xs ≡ 0 → met_by today e (x ∷ xs) ≡ 0
      by_test true met rest = absurd (true≢false (sym (mine met) ∙ other))
      by_test false unmet rest =
          sum_by-cons (λ q. cond (is_met today e q) 1 0) x xs
          ∙ ap (λ b. cond b 1 0 + met_by today e xs) unmet
          ∙ ap (λ n. 0 + n) rest

  met_apart : (xs before : List Record) → has_tool tool xs ≡ false → met_by today e (xs ++ before) ≡ met_by today e before
  met_apart xs before other =
      let both = sum_by-append (λ q. cond (is_met today e q) 1 0) xs before in
      let none = none_met xs other in
      let rest : 0 + met_by today e before ≡ met_by today e before = omega arith in
      both ∙ ap (λ n. n + met_by today e before) none ∙ rest

by_limit : (limit : Option Limit) (named : Bool) (m n : ℕ) → (is_none limit || named) ≡ true → (named ≡ true → m ≡ n)
    → option_map_or (λ (l : Limit). nat_le l.most m) limit false ≡ option_map_or (λ (l : Limit). nat_le l.most n) limit false
by_limit None named m n is same = refl
by_limit (Some limit) named m n is same = ap (nat_le limit.most) (same is)

room_apart : (today : Option ℕ) (xs before : List Record) (r : Record) (e : Entry) → names_its_tool e ≡ true → has_tool r.tool xs ≡ false
    → (is_met today e r && has_room_after today (xs ++ before) e) ≡ (is_met today e r && has_room_after today before e)
room_apart today xs before r e names other = by_test (is_met today e r) refl
  where
    by_tool : is_met today e r ≡ true → (o : Option (List ℕ)) → text_in kinds.Tool e.conditions ≡ o → is_some o ≡ true
        → met_by today e (xs ++ before) ≡ met_by today e before
    by_tool met None named is = absurd (true≢false (sym is))
    by_tool met (Some tool) named is =
        met_apart today e tool named xs before (ap (λ t. has_tool t xs) (sym (tool_met today e tool named r met)) ∙ other)

    by_test : (b : Bool) → is_met today e r ≡ b
        → (is_met today e r && has_room_after today (xs ++ before) e) ≡ (is_met today e r && has_room_after today before e)
    by_test true met =
        ap (λ b. is_met today e r && (is_some e.limit && not b))
        (by_limit e.limit (is_some (text_in kinds.Tool e.conditions)) (met_by today e (xs ++ before)) (met_by today e before) names
        (by_tool met (text_in kinds.Tool e.conditions) refl))
    by_test false unmet =
        ap (λ b. b && has_room_after today (xs ++ before) e) unmet ∙ sym (ap (λ b. b && has_room_after today before e) unmet)

module _ (file : File) (names : is_limited_by_tool file ≡ true) where
  numbers_apart : (xs before : List Record) (r : Record) (n : ℕ) (es : List Entry) → list_all names_its_tool es ≡ true → has_tool r.tool xs ≡ false
      → numbers_from (λ e. is_met file.today e r && has_room_after file.today (xs ++ before) e) n es
      ≡ numbers_from (λ e. is_met file.today e r && has_room_after file.today before e) n es
  numbers_apart xs before r n [] all other = refl
  numbers_apart xs before r n (e ∷ es) all other =
      let both = and_parts (names_its_tool e) (list_all names_its_tool es) all in
      ap₂ (λ b ns. if b then n ∷ ns else ns) (room_apart file.today xs before r e both.0 other) (numbers_apart xs before r (n + 1) es both.1 other)

  limited_apart : (xs before ys : List Record) → AllByRecursion (λ r. has_tool r.tool xs ≡ false) ys
      → limited_after file (xs ++ before) ys ≡ limited_after file before ys
  limited_apart xs before [] others = refl
  limited_apart xs before (r ∷ ys) others =
      ap₂ (λ numbers rest. with_admitted r numbers ∷ rest) (numbers_apart xs before r 0 file.entries names others.0)
      (ap (λ b. limited_after file b ys) (append_assoc xs before (r ∷ [])) ∙ limited_apart xs (before ++ r ∷ []) ys others.1)

  limited_joined : (before xs ys : List Record)
      → limited_after file before (xs ++ ys) ≡ limited_after file before xs ++ limited_after file (before ++ xs) ys
  limited_joined before [] ys = ap (λ b. limited_after file b ys) (sym (append-nil before))
  limited_joined before (x ∷ xs) ys =
      ap (λ l. with_admitted x (admitted_after file before x) ∷ l)
      (limited_joined (before ++ x ∷ []) xs ys
      ∙ ap (λ b. limited_after file (before ++ x ∷ []) xs ++ limited_after file b ys) (append_assoc before (x ∷ []) xs))

  foreign : (xs ys : List Record) → HaveNoToolInCommon xs ys → AllByRecursion (λ r. has_tool r.tool xs ≡ false) ys
  foreign xs [] apart = tt
  foreign xs (r ∷ ys) apart = (
    by_test (has_tool r.tool xs) refl,
    foreign xs ys (λ tool there. (or_parts (bytes_eq r.tool tool) (has_tool tool ys) (apart tool there)).1),
  )
    where
      itself : has_tool r.tool (r ∷ ys) ≡ true
      itself = or_left (bytes_eq r.tool r.tool) (has_tool r.tool ys) ((bytes_eq-Decides r.tool r.tool).1 refl)

      by_test : (b : Bool) → has_tool r.tool xs ≡ b → b ≡ false
      by_test true is = absurd (true≢false (sym itself ∙ apart r.tool is))
      by_test false is = refl

  -- the same entries admit the results of each of two lists as in that list alone
  pub limited_both : (xs ys : List Record) → HaveNoToolInCommon xs ys → limited file (xs ++ ys) ≡ limited file xs ++ limited file ys
  limited_both xs ys apart =
      limited_joined [] xs ys
      ∙ ap (λ l. limited file xs ++ l)
      (ap (λ b. limited_after file b ys) (sym (append-nil xs)) ∙ limited_apart xs [] ys (foreign xs ys apart))

-- the first lists of two pairs
pub first_parts : (cs bs ds es : List Record) → HaveNoToolInCommon (cs ++ bs) (ds ++ es) → HaveNoToolInCommon cs ds
first_parts cs bs ds es apart tool there =
    let within : has_tool tool (cs ++ bs) ≡ true =
    list_any-append (λ (r : Record). bytes_eq r.tool tool) cs bs ∙ or_left (has_tool tool cs) (has_tool tool bs) there in
    (or_parts (has_tool tool ds) (has_tool tool es)
    (sym (list_any-append (λ (r : Record). bytes_eq r.tool tool) ds es) ∙ apart tool within)).0
