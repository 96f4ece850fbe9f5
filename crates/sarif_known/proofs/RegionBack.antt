-- The region of a known result and its snippet are read as they were written.
use Rattle.std.proofs.Common.{◌≡◌, ℕ, ◌^◌, Bool, true, false, List, Option, Some, None, option_map, option_and_then, codes, refl, sym, ap, ◌∙◌, arith, if◌then◌else◌}
use Rattle.std.specs.Prelude.{IfSome, nat_lt}
use Rattle.std.specs.List.{list_all}
use Rattle.std.specs.Option.{option_or}
use Rattle.std.proofs.lemmas.Bool.Decides.{nat_tests}
use Rattle.serde_json.specs.Data.{Data, number, unsigned, Members, member, no_members}
use Rattle.serde_json.specs.Find.{as_number, as_str, as_u64, get_member}
use Rattle.sarif_model.specs.declared.place.Place.{Place}
use Rattle.sarif_model.specs.declared.record.Record.{Record}
use Rattle.sarif_model.specs.declared.region.Region.{Region}
use Rattle.sarif_model.specs.WhiteSpace.{is_white_space}
use Rattle.sarif_members.specs.Regions.{context_snippet, if_position, member_in, own_region, region_of, region_within, snippet_in, snippet_of, unless_blank}
use Rattle.sarif_runs.specs.Record.{if_placed}
use Rattle.sarif_runs.specs.declared.run_options.RecordOptions.{RecordOptions}
use Rattle.sarif_known.specs.KnownResult.{known_result, members_from, number_if, object_from, physical_rows, region_for, region_rows, result_rows, snippet_for, uri_rows}
use Rattle.sarif_known.specs.KnownRun.{base_alone, base_without}
use Rattle.sarif_known.specs.Laws.{IsPosition, IsReadable, IsRegion}
use Rattle.sarif_accept.proofs.Rows.{found}
use Rattle.sarif_known.proofs.Rows.{get_row}

-- ---- the members of a region

in_range : (n : ℕ) → IsPosition n → if_position n ≡ Some n
in_range n is =
    let first : nat_lt 0 n ≡ true = let low = is.first in grind (arith, nat_tests) in
    let last : nat_lt n (2 ^ 32) ≡ true = let high = is.last in grind (arith, nat_tests) in
    rw (first, last) refl

number_back : (o : Option ℕ) → IfSome o IsPosition
    → option_and_then if_position (option_and_then as_u64 (option_and_then as_number (number_if o))) ≡ o
number_back None is = refl
number_back (Some n) is = in_range n is

module _ (region : Option Region) (snippet : Option (List ℕ)) where
  at : (q : List ℕ) → get_member q (members_from (region_rows region snippet)) ≡ found q (region_rows region snippet)
  at q = get_row q (region_rows region snippet) refl

  abbrev whole : Option Data
  whole = Some (object_from (region_rows region snippet))

  snippet_back : IfSome snippet (λ text. list_all is_white_space text ≡ false) → snippet_in whole ≡ snippet
  snippet_back filled = rw (at (codes "snippet")) (by_snippet snippet filled)
    where
      by_snippet : (o : Option (List ℕ)) → IfSome o (λ text. list_all is_white_space text ≡ false)
          → option_and_then unless_blank (option_and_then as_str (member_in (codes "text") (option_map snippet_for o))) ≡ o
      by_snippet None filled = refl
      by_snippet (Some text) filled = ap (λ b. if b then None else Some text) filled

region_back : (r : Region) (snippet : Option (List ℕ)) → IsRegion r → region_of (whole (Some r) snippet) ≡ Some r
region_back r snippet is =
    rw (
      at (Some r) snippet (codes "startLine"),
      at (Some r) snippet (codes "startColumn"),
      at (Some r) snippet (codes "endLine"),
      at (Some r) snippet (codes "endColumn"),
      in_range r.start_line is.start_line,
      number_back r.start_column is.start_column,
      number_back r.end_line is.end_line,
      number_back r.end_column is.end_column,
    ) refl

no_region_back : (text : List ℕ) → region_of (whole None (Some text)) ≡ None
no_region_back text = refl

-- without a context region the snippet is the region's own
own_alone : (region : Option Data) (o : Option (List ℕ)) → snippet_in region ≡ o → snippet_of region None ≡ o
own_alone region o is = ap (λ x. option_or x (context_snippet region None)) is ∙ by_context o
  where
    none : context_snippet region None ≡ None
    none = by_region (region_of region)
      where
        by_region : (x : Option Region) → (if Rattle.sarif_members.specs.Regions.have_same_lines x None then snippet_in None else None) ≡ None
        by_region None = refl
        by_region (Some y) = refl

    by_context : (o : Option (List ℕ)) → option_or o (context_snippet region None) ≡ o
    by_context None = none
    by_context (Some text) = refl

-- ---- what was written is read

region_written : (region : Option Region) (snippet : Option (List ℕ)) → IfSome region IsRegion
    → region_of (region_for region snippet) ≡ region
region_written None None is = refl
region_written None (Some text) is = no_region_back text
region_written (Some r) snippet is = region_back r snippet is

snippet_written : (region : Option Region) (snippet : Option (List ℕ))
    → IfSome snippet (λ text. list_all is_white_space text ≡ false)
    → snippet_of (region_for region snippet) None ≡ snippet
snippet_written None None filled = refl
snippet_written None (Some text) filled =
    own_alone (whole None (Some text)) (Some text) (snippet_back None (Some text) filled)
snippet_written (Some r) snippet filled =
    own_alone (whole (Some r) snippet) snippet (snippet_back (Some r) snippet filled)

-- ---- a location

region_at : (ms : Members) (region : Option Data)
    → (region_within (Some (object_from (physical_rows ms region)))).region ≡ region_of region
region_at ms None = refl
region_at ms (Some d) = refl

snippet_at : (ms : Members) (region : Option Data)
    → (region_within (Some (object_from (physical_rows ms region)))).snippet ≡ snippet_of region None
snippet_at ms None = refl
snippet_at ms (Some d) = refl

-- ---- a result

-- a result has this region and this snippet
pub record AreReadOf (regions : Bool) (d : Data) (region : Option Region) (snippet : Option (List ℕ)) : Type 0 where
  pub region_is : (own_region regions d).region ≡ region
  pub snippet_is : (own_region regions d).snippet ≡ snippet

at_result : (r : Record) (artifact : Option ℕ) (q : List ℕ)
    → get_member q (members_from (result_rows r artifact)) ≡ found q (result_rows r artifact)
at_result r artifact q = get_row q (result_rows r artifact) refl

-- a value has the region and the snippet that are written for a record
abbrev IsAsWritten : Record → Data → Type 0
IsAsWritten r d =
    AreReadOf true d (region_of (region_for r.region r.snippet)) (snippet_of (region_for r.region r.snippet) None)

with_artifact : (r : Record) (n : ℕ) → IsAsWritten r (known_result r (Some n))
with_artifact r n =
    let ms = member (codes "index") (number (unsigned n)) no_members in
    let here = at_result r (Some n) (codes "locations") in
    record {
      region_is = rw here (region_at ms (region_for r.region r.snippet));
      snippet_is = rw here (snippet_at ms (region_for r.region r.snippet));
    }

with_uri : (r : Record) (uri : List ℕ) → r.place.uri ≡ Some uri → IsAsWritten r (known_result r None)
with_uri r uri has =
    let ms = members_from (uri_rows uri r.place.base) in
    let here = at_result r None (codes "locations") in
    record {
      region_is = rw (here, has) (region_at ms (region_for r.region r.snippet));
      snippet_is = rw (here, has) (snippet_at ms (region_for r.region r.snippet));
    }

with_neither : (r : Record) → r.place.uri ≡ None → AreReadOf true (known_result r None) None None
with_neither r none =
    let here = at_result r None (codes "locations") in
    record { region_is = rw (here, none) refl; snippet_is = rw (here, none) refl }

-- such a value has the record's own region and snippet
as_own : (options : RecordOptions) (r : Record) (d : Data) → IsReadable options r → IsAsWritten r d
    → AreReadOf true d r.region r.snippet
as_own options r d readable is = record {
  region_is = is.region_is ∙ region_written r.region r.snippet readable.region;
  snippet_is = is.snippet_is ∙ snippet_written r.region r.snippet readable.snippet;
}

unplaced : {X : Type 0} (place : Place) (o : Option X) → place.uri ≡ None → place.base ≡ None → if_placed place o ≡ o → o ≡ None
unplaced place o no_uri no_base is = sym is ∙ rw (no_uri, no_base) refl

by_place : (options : RecordOptions) (n : ℕ) (r : Record) (uri base : Option (List ℕ)) → IsReadable options r → r.place.uri ≡ uri → r.place.base ≡ base
    → AreReadOf true (known_result r (option_map (λ _. n) (base_without uri base))) r.region r.snippet
by_place options n r (Some uri) base readable has based = as_own options r (known_result r None) readable (with_uri r uri has)
by_place options n r None (Some base) readable has based = as_own options r (known_result r (Some n)) readable (with_artifact r n)
by_place options n r None None readable has based = record {
  region_is = (with_neither r has).region_is ∙ sym (unplaced r.place r.region has based readable.region_placed);
  snippet_is = (with_neither r has).snippet_is ∙ sym (unplaced r.place r.snippet has based readable.snippet_placed);
}

-- the region and the snippet of a known result are those of the record that it was written from
pub own_region_back : (options : RecordOptions) (n : ℕ) (r : Record) → IsReadable options r
    → AreReadOf options.regions (known_result r (option_map (λ _. n) (base_alone r))) r.region r.snippet
own_region_back options n r readable = by_option options.regions refl
  where
    by_option : (b : Bool) → options.regions ≡ b
        → AreReadOf b (known_result r (option_map (λ _. n) (base_alone r))) r.region r.snippet
    by_option false is = record { region_is = sym (readable.no_region is); snippet_is = sym (readable.no_snippet is) }
    by_option true is = by_place options n r r.place.uri r.place.base readable refl refl
