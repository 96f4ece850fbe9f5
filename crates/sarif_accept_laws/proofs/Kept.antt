-- Entries of a file of an earlier version are the same in the version of the new file.
use Rattle.std.proofs.Common.{◌≡◌, ℕ, ◌+◌, Bool, true, false, ◌&&◌, ◌||◌, not, List, [], ◌∷◌, ◌++◌, map, Option, Some, None, option_map, bytes_eq, codes, refl, sym, ap, ◌∙◌, if◌then◌else◌, true≢false}
use Rattle.std.specs.Prelude.{⊤, Result, Ok, Err, filter, option_and_then, ok_or}
use Rattle.std.proofs.lemmas.Bool.{and_from, and_parts, or_left, or_right}
use Rattle.serde_json.specs.Data.{Data, Items, Members, no_members, member}
use Rattle.serde_json.specs.Find.{as_object, as_str, as_number, as_u64, as_array}
use Rattle.std.specs.Prelude.{is_some, is_none}
use Rattle.std.specs.List.{AllByRecursion, list_any}
use Rattle.sarif_model.specs.Guid.{guid_of_text}
use Rattle.sarif_model.specs.Members.{◌>>=◌, of_kind, text_at, or_wrong, member_at, elements_of, elements_at, read_each, result_map}
use Rattle.sarif_model.specs.Status.{status_named}
use Rattle.sarif_model.specs.declared.fault.Fault.TheVariants.{BadEntry, EmptyMatch, NeedsToday}
use Rattle.sarif_model.specs.declared.kinds.Status.{Status}
use Rattle.sarif_model.specs.declared.record.Record.{Record}
use Rattle.sarif_entries.specs.declared.condition.Condition.{Condition}
use Rattle.sarif_entries.specs.declared.entry.Entry.{Entry}
use Rattle.sarif_entries.specs.declared.limit.Limit.{Limit}
use Rattle.sarif_entries.specs.Numbering.{limit_with, numbered_from, with_number}
use Rattle.sarif_entries.specs.declared.fault.FileFault.{FileFault}
use Rattle.sarif_entries.specs.declared.version.Version.{Version}
use Rattle.sarif_entries.specs.declared.version.Version.TheVariants.{First, Second, Fourth, Fifth}
use Rattle.sarif_entries.specs.Entries.{unless_fault, check_object, check_members, includes, has_condition, has_member, are_members_of, read_as, with_condition, conditions_from, conditions_of, members_of, entry_of, guid_at, guid_or, text_or, texts_at, pairs_at, pairs_of_member, pairs_or, are_texts, pairs_of, check_condition, check_today, day_at, day_of_member, day_or, greatest_max, is_day, is_within, limit_at, limit_of_member, limit_or, status_at, status_or}
use Rattle.sarif_entries.specs.File.{entries_from, is_fifth}
use Rattle.sarif_entries.specs.FileFault.{in_entry}
use Rattle.sarif_entries.specs.declared.condition.ConditionKind.{ConditionKind}
use Rattle.sarif_entries.specs.Condition.{Form, a_text, a_guid, some_pairs, some_texts, all_kinds, name_of, since, form_of, unless_empty}
use Rattle.sarif_entries.specs.Matching.{is_empty}
use Rattle.sarif_accept.specs.Entry.{entry_for, version_for}
use Rattle.sarif_accept.specs.NewFile.{has_snippet, version_after}
use Rattle.sarif_accept.specs.Adding.{entry_read}
use Rattle.sarif_accept.specs.Keeping.{chosen}
use Rattle.sarif_accept.specs.Until.{HasGuid, IsDated}
use Rattle.sarif_accept.proofs.EntryRead.{entry_is, has_its_snippet}

-- ---- members

-- the second version has what any version introduced that the first has
abbrev pub Covers : Version → Version → Type 0
Covers version later = (earlier : Version) → includes version earlier ≡ true → includes later earlier ≡ true

-- version 5 has what any version introduced
pub fifth_covers : (version : Version) → Covers version Fifth
fifth_covers version First is = refl
fifth_covers version Second is = refl
fifth_covers version Fourth is = refl
fifth_covers version Fifth is = refl

-- version 4 has all but what version 5 introduced
pub fourth_covers : (version : Version) → (version ≡ Fifth → ⊥) → Covers version Fourth
fourth_covers version other First is = refl
fourth_covers version other Second is = refl
fourth_covers version other Fourth is = refl
fourth_covers First other Fifth is = absurd (true≢false (sym is))
fourth_covers Second other Fifth is = absurd (true≢false (sym is))
fourth_covers Fourth other Fifth is = absurd (true≢false (sym is))
fourth_covers Fifth other Fifth is = absurd (other refl)

module _ (version later : Version) (covers : Covers version later) where
  condition_covered : (name : List ℕ) (kinds : List ConditionKind)
      → list_any (λ kind. bytes_eq name (name_of kind) && includes version (since kind)) kinds ≡ true
      → list_any (λ kind. bytes_eq name (name_of kind) && includes later (since kind)) kinds ≡ true
  condition_covered name [] is = is
  condition_covered name (kind ∷ kinds) is =
      elim (bytes_eq name (name_of kind) && includes version (since kind)) as
      (λ b. (bytes_eq name (name_of kind) && includes version (since kind)) ≡ b
      → (b || list_any (λ kind. bytes_eq name (name_of kind) && includes version (since kind)) kinds) ≡ true
      → ((bytes_eq name (name_of kind) && includes later (since kind))
      || list_any (λ kind. bytes_eq name (name_of kind) && includes later (since kind)) kinds) ≡ true) [
        | true ↦ λ here _.
            let both = and_parts (bytes_eq name (name_of kind)) (includes version (since kind)) here in
            or_left _ _ (and_from _ _ both.0 (covers (since kind) both.1))
        | false ↦ λ _ more. or_right _ _ (condition_covered name kinds more)
      ] refl is

  member_covered : (name : List ℕ) → has_member version name ≡ true → has_member later name ≡ true
  member_covered name is =
      by_tests (has_condition version name) (has_condition later name) (bytes_eq name (codes "status"))
      (bytes_eq name (codes "justification"))
      (dated_or_limited (bytes_eq name (codes "expires")) (bytes_eq name (codes "max")) (includes version Second) (includes later Second)
      (includes version Fifth) (includes later Fifth) (covers Second) (covers Fifth))
      (condition_covered name all_kinds) is
    where
      dated_or_limited : (e m i k p q : Bool) → (i ≡ true → k ≡ true) → (p ≡ true → q ≡ true) → ((e && i) || (m && p)) ≡ true → ((e && k) || (m && q)) ≡ true
      dated_or_limited true m true k p q so too is = or_left (true && k) _ (so refl)
      dated_or_limited true true false k p q so too is = or_right k q (too is)
      dated_or_limited true false false k p q so too is = absurd (true≢false (sym is))
      dated_or_limited false true i k p q so too is = too is
      dated_or_limited false false i k p q so too is = absurd (true≢false (sym is))

      by_tests : (a b s j : Bool) {x y : Bool} → (x ≡ true → y ≡ true) → (a ≡ true → b ≡ true) → (a || (s || (j || x))) ≡ true
          → (b || (s || (j || y))) ≡ true
      by_tests true b s j more so is = or_left b _ (so refl)
      by_tests false b true j more so is = or_right b _ refl
      by_tests false b false true more so is = or_right b _ refl
      by_tests false b false false more so is = or_right b _ (more is)

  pub all_known : (ms : Members) → are_members_of version ms ≡ true → are_members_of later ms ≡ true
  all_known no_members is = refl
  all_known (member name d ms) is =
      let both = and_parts (has_member version name) (are_members_of version ms) is in
      and_from _ _ (member_covered name both.0) (all_known ms both.1)

-- ---- if there is no error, it makes no difference which error would be returned

-- if the first reading returns a value, the second returns it
abbrev pub Gives : {X : Type 0} → Result X FileFault → Result X FileFault → Type 0
Gives (Ok x) r = r ≡ Ok x
Gives (Err fault) r = ⊤

give_it : {X : Type 0} (a b : Result X FileFault) (x : X) → Gives a b → a ≡ Ok x → b ≡ Ok x
give_it (Ok y) b x gives is = gives ∙ is
give_it (Err fault) b x gives is = let never : ⊥ = cc in absurd never

then_gives : {X Y : Type 0} (a b : Result X FileFault) (f g : X → Result Y FileFault) → Gives a b → ((x : X) → Gives (f x) (g x)) → Gives (a >>= f) (b >>= g)
then_gives (Ok x) b f g gives each = rw gives (each x)
then_gives (Err fault) b f g gives each = tt

-- if the first reading returns a value, the second returns what f makes of it
abbrev GivesBy : {X : Type 0} → (X → X) → Result X FileFault → Result X FileFault → Type 0
GivesBy f (Ok x) r = r ≡ Ok (f x)
GivesBy f (Err fault) r = ⊤

give_by : {X : Type 0} (f : X → X) (a b : Result X FileFault) (x : X) → GivesBy f a b → a ≡ Ok x → b ≡ Ok (f x)
give_by f (Ok y) b x gives is = let same : y ≡ x = cc in gives ∙ ap (λ z. Ok (f z)) same
give_by f (Err fault) b x gives is = let never : ⊥ = cc in absurd never

then_gives_by : {X Y : Type 0} (h : Y → Y) (a b : Result X FileFault) (f g : X → Result Y FileFault) → Gives a b
    → ((x : X) → GivesBy h (f x) (g x)) → GivesBy h (a >>= f) (b >>= g)
then_gives_by h (Ok x) b f g gives each = rw gives (each x)
then_gives_by h (Err fault) b f g gives each = tt

itself : {X : Type 0} (a : Result X FileFault) → Gives a a
itself (Ok x) = refl
itself (Err fault) = tt

module _ (v w : FileFault) where
  wrong_gives : {X : Type 0} (o : Option X) → Gives (or_wrong v o) (or_wrong w o)
  wrong_gives None = tt
  wrong_gives (Some x) = refl

  kind_gives : {X : Type 0} (f : Data → Option X) (o : Option Data) → Gives (of_kind v f o) (of_kind w f o)
  kind_gives f None = refl
  kind_gives f (Some d) = wrong_gives (f d)

  text_gives : (name : List ℕ) (d : Data) → Gives (text_at v name d) (text_at w name d)
  text_gives name d = kind_gives as_str (member_at name d)

  guid_gives : (name : List ℕ) (d : Data) → Gives (guid_at v name d) (guid_at w name d)
  guid_gives name d = then_gives (text_at v name d) (text_at w name d) (guid_or v) (guid_or w) (text_gives name d) (λ o. guid_or_gives o)
    where
      guid_or_gives : (o : Option (List ℕ)) → Gives (guid_or v o) (guid_or w o)
      guid_or_gives None = refl
      guid_or_gives (Some text) = wrong_gives (guid_of_text text)

  pairs_gives : (name : List ℕ) (d : Data) → Gives (pairs_at v name d) (pairs_at w name d)
  pairs_gives name d = member_gives (member_at name d)
    where
      if_gives : (b : Bool) (x : List (List ℕ × List ℕ)) → Gives {X = List (List ℕ × List ℕ)} (if b then Ok x else Err v) (if b then Ok x else Err w)
      if_gives true x = refl
      if_gives false x = tt

      or_gives : (o : Option Members) → Gives (pairs_or v o) (pairs_or w o)
      or_gives None = tt
      or_gives (Some ms) = if_gives (are_texts ms) (pairs_of ms)

      member_gives : (o : Option Data) → Gives (pairs_of_member v o) (pairs_of_member w o)
      member_gives None = refl
      member_gives (Some d) = or_gives (as_object d)

  texts_gives : (name : List ℕ) (d : Data) → Gives (texts_at v name d) (texts_at w name d)
  texts_gives name d = then_gives (elements_at v name d) (elements_at w name d) _ _ (elements_gives (member_at name d)) each_gives
    where
      of_gives : (a b : Result (Option Items) FileFault) → Gives a b → Gives (elements_of a) (elements_of b)
      of_gives (Ok None) b gives = rw gives refl
      of_gives (Ok (Some ds)) b gives = rw gives refl
      of_gives (Err fault) b gives = tt

      elements_gives : (o : Option Data) → Gives (elements_of (of_kind v as_array o)) (elements_of (of_kind w as_array o))
      elements_gives o = of_gives (of_kind v as_array o) (of_kind w as_array o) (kind_gives as_array o)

      text_or_gives : (o : Option (List ℕ)) → Gives (ok_or o v) (ok_or o w)
      text_or_gives None = tt
      text_or_gives (Some text) = refl

      map_gives : (text : List ℕ) (a b : Result (List (List ℕ)) FileFault) → Gives a b → Gives (result_map (λ ts. text ∷ ts) a) (result_map (λ ts. text ∷ ts) b)
      map_gives text (Ok ts) b gives = rw gives refl
      map_gives text (Err fault) b gives = tt

      each_gives : (ds : List Data) → Gives (read_each (text_or v) ds) (read_each (text_or w) ds)
      each_gives [] = refl
      each_gives (d ∷ ds) = then_gives (text_or v d) (text_or w d) _ _ (text_or_gives (as_str d)) (λ text. map_gives text _ _ (each_gives ds))

  day_gives : (name : List ℕ) (d : Data) → Gives (day_at v name d) (day_at w name d)
  day_gives name d = member_gives (member_at name d)
    where
      if_gives : (b : Bool) (n : ℕ) → Gives {X = Option ℕ} (if b then Ok (Some n) else Err v) (if b then Ok (Some n) else Err w)
      if_gives true n = refl
      if_gives false n = tt

      or_gives : (o : Option ℕ) → Gives (day_or v o) (day_or w o)
      or_gives None = tt
      or_gives (Some n) = if_gives (is_day n) n

      member_gives : (o : Option Data) → Gives (day_of_member v o) (day_of_member w o)
      member_gives None = refl
      member_gives (Some d) = or_gives (option_and_then as_u64 (as_number d))

  status_gives : (name : List ℕ) (d : Data) → Gives (status_at v name d) (status_at w name d)
  status_gives name d = then_gives (text_at v name d) (text_at w name d) (status_or v) (status_or w) (text_gives name d) (λ o. or_gives o)
    where
      name_gives : (o : Option Status) → Gives (ok_or o v) (ok_or o w)
      name_gives None = tt
      name_gives (Some status) = refl

      or_gives : (o : Option (List ℕ)) → Gives (status_or v o) (status_or w o)
      or_gives None = refl
      or_gives (Some text) = name_gives (status_named text)

  mapped_gives : {X Y : Type 0} (f : X → Y) (a b : Result X FileFault) → Gives a b → Gives (result_map f a) (result_map f b)
  mapped_gives f (Ok x) b gives = rw gives refl
  mapped_gives f (Err fault) b gives = tt

  form_gives : (form : Form) (name : List ℕ) (d : Data) → Gives (read_as form v name d) (read_as form w name d)
  form_gives (a_text make) name d = mapped_gives (option_map make) _ _ (text_gives name d)
  form_gives (a_guid make) name d = mapped_gives (option_map make) _ _ (guid_gives name d)
  form_gives (some_pairs make) name d = mapped_gives (unless_empty make) _ _ (pairs_gives name d)
  form_gives (some_texts make) name d = mapped_gives (unless_empty make) _ _ (texts_gives name d)

  kinds_give : (d : Data) (kinds : List ConditionKind) → Gives (conditions_from v d kinds) (conditions_from w d kinds)
  kinds_give d [] = refl
  kinds_give d (kind ∷ kinds) =
      then_gives _ _ _ _ (form_gives (form_of kind) (name_of kind) d) (λ found. mapped_gives (with_condition found) _ _ (kinds_give d kinds))

  conditions_gives : (d : Data) → Gives (conditions_of v d) (conditions_of w d)
  unfolding conditions_of
  conditions_gives d = kinds_give d all_kinds

  -- a limit has the number of its entry
  limit_gives : (n m : ℕ) (name : List ℕ) (d : Data) → GivesBy (limit_with m) (limit_at v n name d) (limit_at w m name d)
  limit_gives n m name d = member_gives (member_at name d)
    where
      if_gives : (b : Bool) (most : ℕ)
          → GivesBy (limit_with m) (if b then Ok (Some (record { most = most; number = n })) else Err v)
          (if b then Ok (Some (record { most = most; number = m })) else Err w)
      if_gives true most = refl
      if_gives false most = tt

      or_gives : (o : Option ℕ) → GivesBy (limit_with m) (limit_or v n o) (limit_or w m o)
      or_gives None = tt
      or_gives (Some most) = if_gives (is_within 1 greatest_max most) most

      member_gives : (o : Option Data) → GivesBy (limit_with m) (limit_of_member v n o) (limit_of_member w m o)
      member_gives None = refl
      member_gives (Some d) = or_gives (option_and_then as_u64 (as_number d))

  members_gives : (n m : ℕ) (d : Data) → GivesBy (with_number m) (members_of v n d) (members_of w m d)
  unfolding members_of
  members_gives n m d =
      then_gives_by _ _ _ _ _ (conditions_gives d) (λ conditions.
      then_gives_by _ _ _ _ _ (day_gives (codes "expires") d) (λ expires.
      then_gives_by _ _ _ _ _ (status_gives (codes "status") d) (λ status.
      then_gives_by _ _ _ _ _ (text_gives (codes "justification") d) (λ justification.
      by_limit _ _ (limit_gives n m (codes "max") d) conditions expires status justification))))
    where
      by_limit : (a b : Result (Option Limit) FileFault) → GivesBy (limit_with m) a b → (conditions : List Condition) (expires : Option ℕ)
          (status : Status) (justification : Option (List ℕ))
          → GivesBy (with_number m)
          (a >>= λ limit. Ok (record { conditions = conditions; expires = expires; status = status; justification = justification; limit = limit }))
          (b >>= λ limit. Ok (record { conditions = conditions; expires = expires; status = status; justification = justification; limit = limit }))
      by_limit (Ok limit) b gives conditions expires status justification = rw gives refl
      by_limit (Err fault) b gives conditions expires status justification = tt

unless_gives : (b : Bool) (v w : FileFault) → Gives (unless_fault b v) (unless_fault b w)
unless_gives true v w = refl
unless_gives false v w = tt

checked_gives : (version later : Version) → Covers version later → (v w : FileFault) (d : Data)
    → Gives (check_members version v d) (check_members later w d)
checked_gives version later covers v w d = by_members (as_object d)
  where
    by_test : (b c : Bool) → (b ≡ true → c ≡ true) → Gives (unless_fault b v) (unless_fault c w)
    by_test true c so = rw (so refl) refl
    by_test false c so = tt

    by_members : (o : Option Members) → Gives (check_object version v o) (check_object later w o)
    by_members None = tt
    by_members (Some ms) = by_test (are_members_of version ms) (are_members_of later ms) (all_known version later covers ms)

-- the entry, if its conditions and its expiry date pass
abbrev checked : Option ℕ → ℕ → Entry → Result Entry FileFault
checked today n e = check_condition n e >>= λ _. check_today n today e >>= λ _. Ok e

-- an entry of a file is the same in a version that has all that the file's has, at any place, except for its number
entry_gives : (version later : Version) → Covers version later → (today : Option ℕ) (n m : ℕ) (d : Data)
    → GivesBy (with_number m) (entry_of version today n d) (entry_of later today m d)
unfolding entry_of
entry_gives version later covers today n m d =
    then_gives_by _ _ _ _ _ (checked_gives version later covers (in_entry n BadEntry) (in_entry m BadEntry) d) (λ _.
    by_entry _ _ (members_gives (in_entry n BadEntry) (in_entry m BadEntry) n m d))
  where
    each : (e : Entry) → GivesBy (with_number m) (checked today n e) (checked today m (with_number m e))
    each e =
        then_gives_by _ _ _ _ _ (unless_gives (not (is_empty e.conditions)) (in_entry n EmptyMatch) (in_entry m EmptyMatch)) (λ _.
        then_gives_by _ _ _ _ _ (unless_gives (not (is_some e.expires && is_none today)) (in_entry n NeedsToday) (in_entry m NeedsToday)) (λ _. refl))

    by_entry : (a b : Result Entry FileFault) → GivesBy (with_number m) a b → GivesBy (with_number m) (a >>= checked today n) (b >>= checked today m)
    by_entry (Ok e) b gives = rw gives (each e)
    by_entry (Err fault) b gives = tt

pub entry_kept : (version later : Version) → Covers version later → (today : Option ℕ) (n m : ℕ) (d : Data) (e : Entry)
    → entry_of version today n d ≡ Ok e → entry_of later today m d ≡ Ok (with_number m e)
entry_kept version later covers today n m d e is = give_by _ _ _ e (entry_gives version later covers today n m d) is

-- ---- lists of entries

one_ok : (version : Version) (today : Option ℕ) (n : ℕ) (d : Data) (ds : List Data) (e : Entry) (es : List Entry)
    → entry_of version today n d ≡ Ok e → entries_from version today (n + 1) ds ≡ Ok es → entries_from version today n (d ∷ ds) ≡ Ok (e ∷ es)
unfolding entries_from
one_ok version today n d ds e es first rest = rw (first, rest) refl

-- what the first entry and the rest are, where all can be read
pub record Parts (version : Version) (today : Option ℕ) (n : ℕ) (d : Data) (ds : List Data) (es : List Entry) : Type 0 where
  pub first : Entry
  pub rest : List Entry
  pub whole : es ≡ first ∷ rest
  pub first_is : entry_of version today n d ≡ Ok first
  pub rest_is : entries_from version today (n + 1) ds ≡ Ok rest

ok_same : (a b : List Entry) → ◌≡◌ {A = Result (List Entry) FileFault} (Ok a) (Ok b) → a ≡ b
ok_same a b e = cc

pub parts : (version : Version) (today : Option ℕ) (n : ℕ) (d : Data) (ds : List Data) (es : List Entry)
    → entries_from version today n (d ∷ ds) ≡ Ok es → Parts version today n d ds es
unfolding entries_from
parts version today n d ds es is =
    elim (entry_of version today n d) as
    (λ r. entry_of version today n d ≡ r → (r >>= λ e. entries_from version today (n + 1) ds >>= λ es. Ok (e ∷ es)) ≡ Ok es
    → Parts version today n d ds es) [
      | Ok e ↦ λ first more.
          elim (entries_from version today (n + 1) ds) as
          (λ r. entries_from version today (n + 1) ds ≡ r → (r >>= λ es. Ok (e ∷ es)) ≡ Ok es → Parts version today n d ds es) [
            | Ok rest ↦ λ later whole. record { first = e; rest = rest; whole = sym (ok_same (e ∷ rest) es whole); first_is = first; rest_is = later }
            | Err fault ↦ λ _ no. let never : ⊥ = cc in absurd never
          ] refl more
      | Err fault ↦ λ _ no. let never : ⊥ = cc in absurd never
    ] refl is

-- the entries that are kept are read as they were, except for their numbers
pub kept_read : (version later : Version) → Covers version later → (today : Option ℕ) (keep : Entry → Bool) (n m : ℕ)
    (ds : List Data) (es : List Entry)
    → entries_from version today n ds ≡ Ok es
    → entries_from later today m (chosen (map keep es) ds) ≡ Ok (numbered_from m (filter keep es))
unfolding entries_from
kept_read version later covers today keep n m [] es is = let none : [] ≡ es = ok_same [] es is in rw (← none) refl
kept_read version later covers today keep n m (d ∷ ds) es is =
    let p = parts version today n d ds es is in
    let more : (m : ℕ) → entries_from later today m (chosen (map keep p.rest) ds) ≡ Ok (numbered_from m (filter keep p.rest)) =
    λ m. kept_read version later covers today keep (n + 1) m ds p.rest p.rest_is in
    rw p.whole
    (elim (keep p.first) as
    (λ b. entries_from later today m (chosen (b ∷ map keep p.rest) (d ∷ ds))
    ≡ Ok (numbered_from m (if b then p.first ∷ filter keep p.rest else filter keep p.rest))) [
      | true ↦ one_ok later today m d (chosen (map keep p.rest) ds) (with_number m p.first) (numbered_from (m + 1) (filter keep p.rest))
          (entry_kept version later covers today n m d p.first p.first_is) (more (m + 1))
      | false ↦ more m
    ])

-- entries that are read at any position, after others
pub read_behind : (version : Version) (today : Option ℕ) (n : ℕ) (ds more : List Data) (es others : List Entry)
    → entries_from version today n ds ≡ Ok es
    → ((m : ℕ) → entries_from version today m more ≡ Ok others) → entries_from version today n (ds ++ more) ≡ Ok (es ++ others)
unfolding entries_from
read_behind version today n [] more es others is rest = let none : [] ≡ es = ok_same [] es is in rw (← none) (rest n)
read_behind version today n (d ∷ ds) more es others is rest =
    let p = parts version today n d ds es is in
    rw p.whole
    (one_ok version today n d (ds ++ more) p.first (p.rest ++ others) p.first_is
    (read_behind version today (n + 1) ds more p.rest others p.rest_is rest))

-- entries that are made for results are read as they were meant, at any place
pub made_read : (version : Version) (rs : List Record) (reason : Option (List ℕ)) (today until : Option ℕ) (m : ℕ)
    → AllByRecursion (λ r. Covers (version_for r) version) rs → AllByRecursion HasGuid rs → IsDated today until
    → entries_from version today m (map (λ r. entry_for r reason until) rs) ≡ Ok (map (λ r. entry_read r reason until) rs)
unfolding entries_from
made_read version [] reason today until m allowed fits is = refl
made_read version (r ∷ rs) reason today until m allowed fits is =
    one_ok version today m _ _ _ _
    (entry_kept (version_for r) version allowed.0 today m m _ _ (entry_is r reason today until m fits.0 is))
    (made_read version rs reason today until (m + 1) allowed.1 fits.1 is)

-- entries that are made for results have no limit, and so no number
numbered_made : (m : ℕ) (rs : List Record) (reason : Option (List ℕ)) (until : Option ℕ)
    → numbered_from m (map (λ r. entry_read r reason until) rs) ≡ map (λ r. entry_read r reason until) rs
numbered_made m [] reason until = refl
numbered_made m (r ∷ rs) reason until = ap (λ es. entry_read r reason until ∷ es) (numbered_made (m + 1) rs reason until)

numbered-append : (m : ℕ) (es others : List Entry) → ((k : ℕ) → numbered_from k others ≡ others) → numbered_from m (es ++ others) ≡ numbered_from m es ++ others
numbered-append m [] others same = same m
numbered-append m (e ∷ es) others same = ap (λ l. with_number m e ∷ l) (numbered-append (m + 1) es others same)

-- the entries of the new file, with their numbers
pub all_numbered : (es : List Entry) (rs : List Record) (reason : Option (List ℕ)) (until : Option ℕ)
    → numbered_from 0 es ++ map (λ r. entry_read r reason until) rs ≡ numbered_from 0 (es ++ map (λ r. entry_read r reason until) rs)
all_numbered es rs reason until = sym (numbered-append 0 es (map (λ r. entry_read r reason until) rs) (λ k. numbered_made k rs reason until))

-- ---- the version of the new file

-- this version covers the entry of each of these results
abbrev AllCovered : Version → List Record → Type 0
AllCovered version rs = AllByRecursion (λ r. Covers (version_for r) version) rs

all_in_fifth : (rs : List Record) → AllCovered Fifth rs
all_in_fifth [] = tt
all_in_fifth (r ∷ rs) = (fifth_covers (version_for r), all_in_fifth rs)

all_in_fourth : (rs : List Record) (reason : Option (List ℕ)) (until : Option ℕ)
    → list_any has_snippet (map (λ r. entry_for r reason until) rs) ≡ false → AllCovered Fourth rs
all_in_fourth [] reason until none = tt
all_in_fourth (r ∷ rs) reason until none =
    (by_snippet (is_some r.snippet) (sym (has_its_snippet r reason until)) (neither _ _ none).0, all_in_fourth rs reason until (neither _ _ none).1)
  where
    neither : (a b : Bool) → (a || b) ≡ false → (a ≡ false) × (b ≡ false)
    neither true b is = absurd (true≢false is)
    neither false b is = (refl, is)

    by_snippet : (b : Bool) → b ≡ has_snippet (entry_for r reason until) → has_snippet (entry_for r reason until) ≡ false
        → Covers (if b then Fifth else Fourth) Fourth
    by_snippet true same none = absurd (true≢false (same ∙ none))
    by_snippet false same none = fourth_covers Fourth (λ e. let never : ⊥ = cc in never)

-- the version of the new file has what the old file's has, and what the entries that are added have
pub record Fits (old new : Version) (rs : List Record) : Type 0 where
  pub covers : Covers old new
  pub allowed : AllCovered new rs

pub new_fits : (d : Data) (version : Version) (rs : List Record) (reason : Option (List ℕ)) (until : Option ℕ)
    → (version ≡ Fifth → is_fifth d ≡ true) → Fits version (version_after d (map (λ r. entry_for r reason until) rs)) rs
new_fits d version rs reason until fifth =
    by_tests (is_fifth d) (list_any has_snippet (map (λ r. entry_for r reason until) rs)) fifth (λ none. all_in_fourth rs reason until none)
  where
    by_tests : (a b : Bool) → (version ≡ Fifth → a ≡ true) → (b ≡ false → AllCovered Fourth rs)
        → Fits version (if a || b then Fifth else Fourth) rs
    by_tests true b fifth fourth = record { covers = fifth_covers version; allowed = all_in_fifth rs }
    by_tests false true fifth fourth = record { covers = fifth_covers version; allowed = all_in_fifth rs }
    by_tests false false fifth fourth =
        record { covers = fourth_covers version (λ e. true≢false (sym (fifth e))); allowed = fourth refl }
