-- The record of a known result is the record that it was written from.
use Rattle.std.proofs.Common.{◌≡◌, ◌||◌, ℕ, Bool, true, false, if◌then◌else◌, List, [], ◌∷◌, map, Option, Some, None, option_map, refl, sym}
use Rattle.std.specs.Prelude.{is_some, Result, Ok, IfSome, slice_get}
use Rattle.sarif_model.specs.declared.fault.Fault.{Fault}
use Rattle.sarif_model.specs.declared.kinds.Kind.{Kind}
use Rattle.sarif_model.specs.declared.kinds.Kind.TheVariants.{Pass, Undecided, Informational, NotApplicable, Review, Fail}
use Rattle.sarif_model.specs.declared.kinds.Level.{Level}
use Rattle.sarif_model.specs.declared.kinds.Level.TheVariants.{NoLevel}
use Rattle.sarif_model.specs.declared.place.Place.{Place}
use Rattle.sarif_model.specs.declared.record.Record.{Record}
use Rattle.sarif_model.specs.Members.{none_if_empty}
use Rattle.sarif_runs.specs.declared.head.RunHead.{RunHead}
use Rattle.sarif_runs.specs.Descriptor.{descriptor_of}
use Rattle.sarif_runs.specs.Level.{is_fail, first_level}
use Rattle.sarif_runs.specs.Place.{place_by}
use Rattle.sarif_runs.specs.Record.{if_placed, record_by, rule_id_of}
use Rattle.sarif_known.specs.KnownRun.{base_alone, base_without}
use Rattle.sarif_runs.specs.Ignoring.{without_names}
use Rattle.sarif_runs.specs.declared.run_options.RecordOptions.{RecordOptions}
use Rattle.sarif_known.specs.Laws.{IsReadable}
use Rattle.sarif_known.proofs.KnownParts.{level_read, uri_read, base_read, known_parts}

-- a place without a URI
abbrev pub base_place : List ℕ → Place
base_place base = record { uri = None; base = Some base }

-- the head of a known run whose artifacts have these bases
abbrev pub known_head : List (List ℕ) → RunHead
known_head bases = record { components = [] ∷ []; invocations = []; artifacts = map base_place bases }

-- ---- one record

level_back : (kind : Kind) (level : Level) → (is_fail kind ≡ false → level ≡ NoLevel) → first_level (is_fail kind) (level_read kind level) None None ≡ level
level_back Pass level none = sym (none refl)
level_back Undecided level none = sym (none refl)
level_back Informational level none = sym (none refl)
level_back NotApplicable level none = sym (none refl)
level_back Review level none = sym (none refl)
level_back Fail level none = refl

id_back : (id : List ℕ) → rule_id_of ([] ∷ []) (none_if_empty id) None ≡ id
id_back [] = refl
id_back (b ∷ bs) = refl

-- the artifact of a base alone is there
abbrev pub HasArtifact : List (List ℕ) → ℕ → Option (List ℕ) → Type 0
HasArtifact bases n o = IfSome o (λ base. slice_get (map base_place bases) n ≡ Some (base_place base))

place_back : (bases : List (List ℕ)) (n : ℕ) (uri base : Option (List ℕ)) → HasArtifact bases n (base_without uri base)
    → (let artifact : Option ℕ = option_map (λ _. n) (base_without uri base) in let place : Place = record { uri = uri; base = base } in
    place_by (map base_place bases) (uri_read place artifact) (base_read place artifact) artifact ≡ Ok place)
place_back bases n (Some uri) base there = refl
place_back bases n None None there = refl
place_back bases n None (Some base) there = rw there refl

no_descriptor : (o : Option (List ℕ)) → descriptor_of ([] ∷ []) (record { component = None; index = None; id = o }) ≡ Ok None
no_descriptor None = refl
no_descriptor (Some id) = refl

abbrev pub number_for : ℕ → Record → Option ℕ
number_for n r = option_map (λ _. n) (base_alone r)

-- without a region in the result there is none in its record
pub none_placed : {X : Type 0} (place : Place) → ◌≡◌ {A = Option X} (if_placed place None) None
none_placed {X} place = by_test (is_some place.uri || is_some place.base)
  where
    by_test : (b : Bool) → ◌≡◌ {A = Option X} (if b then None else None) None
    by_test true = refl
    by_test false = refl

-- what is left with a place is left with it again
pub placed_twice : {X : Type 0} (place : Place) (o : Option X) → if_placed place (if_placed place o) ≡ if_placed place o
placed_twice {X} place o = by_test (is_some place.uri || is_some place.base)
  where
    by_test : (b : Bool) → ◌≡◌ {A = Option X} (if b then (if b then o else None) else None) (if b then o else None)
    by_test true = refl
    by_test false = refl

pub record_back : (options : RecordOptions) (bases : List (List ℕ)) (n : ℕ) (r : Record) → IsReadable options r
    → HasArtifact bases n (base_alone r)
    → record_by options.ignored (known_head bases) r.tool (known_parts r (number_for n r)) ≡ Ok r
unfolding record_by
record_back options bases n r readable there =
    rw (
      no_descriptor (none_if_empty r.rule_id),
      place_back bases n r.place.uri r.place.base there,
      level_back r.kind r.level readable.level,
      id_back r.rule_id,
    ) whole_back
  where
    whole_back : ◌≡◌ {A = Result Record Fault}
        (Ok
        (record {
          tool = r.tool;
          rule_id = r.rule_id;
          kind = r.kind;
          level = r.level;
          message = r.message;
          place = r.place;
          guid =
              r.guid;
          full = without_names options.ignored r.full;
          partial = without_names options.ignored r.partial;
          held = r.held;
          region = if_placed r.place r.region;
          snippet = if_placed r.place r.snippet;
          admitted = [];
        }))
        (Ok r)
    whole_back =
        λ i. Ok
        (record {
          tool = r.tool;
          rule_id = r.rule_id;
          kind = r.kind;
          level = r.level;
          message = r.message;
          place = r.place;
          guid =
              r.guid;
          full = readable.full_kept i;
          partial = readable.partial_kept i;
          held = r.held;
          region = readable.region_placed i;
          snippet = readable.snippet_placed i;
          admitted = sym readable.unadmitted i;
        })
