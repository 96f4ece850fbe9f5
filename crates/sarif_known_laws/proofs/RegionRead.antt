-- The region of a result that was read and its snippet can be read again.
use Rattle.std.proofs.Common.{◌≡◌, ℕ, ◌^◌, ◌||◌, ◌&&◌, Bool, true, false, List, Option, Some, None, option_map, option_and_then, is_some, codes, refl, arith, if◌then◌else◌}
use Rattle.std.specs.Prelude.{IfSome, nat_lt}
use Rattle.std.specs.List.{list_all}
use Rattle.std.specs.Option.{option_or}
use Rattle.std.proofs.lemmas.Bool.Decides.{nat_tests}
use Rattle.serde_json.specs.Data.{Data}
use Rattle.serde_json.specs.Find.{as_number, as_str, as_u64}
use Rattle.sarif_model.specs.declared.place.Place.{Place}
use Rattle.sarif_model.specs.declared.region.Region.{Region}
use Rattle.sarif_model.specs.WhiteSpace.{is_white_space}
use Rattle.sarif_members.specs.Regions.{context_snippet, have_same_lines, if_position, member_in, own_region, physical_location, position_in, region_of, snippet_in, snippet_of, unless_blank}
use Rattle.sarif_runs.specs.Record.{if_placed}
use Rattle.sarif_known.specs.Laws.{IsPosition, IsRegion}

abbrev pub IsFilled : List ℕ → Type 0
IsFilled text = list_all is_white_space text ≡ false

position_is : (o : Option ℕ) → IfSome (option_and_then if_position o) IsPosition
position_is None = tt
position_is (Some n) = by_test (nat_lt 0 n) (nat_lt n (2 ^ 32)) refl refl
  where
    by_test : (a b : Bool) → nat_lt 0 n ≡ a → nat_lt n (2 ^ 32) ≡ b → IfSome (if a && b then Some n else None) IsPosition
    by_test true true low high = record { first = grind (arith, nat_tests); last = grind (arith, nat_tests) }
    by_test true false low high = tt
    by_test false true low high = tt
    by_test false false low high = tt

found_at : (name : List ℕ) (region : Option Data) → IfSome (position_in name region) IsPosition
found_at name region = position_is (option_and_then as_u64 (option_and_then as_number (member_in name region)))

region_is : (region : Option Data) → IfSome (region_of region) IsRegion
region_is region = by_line (position_in (codes "startLine") region) (found_at (codes "startLine") region)
  where
    by_line : (o : Option ℕ) → IfSome o IsPosition
        → IfSome (option_map
        (λ line. let r : Region = record {
          start_line = line;
          start_column = position_in (codes "startColumn") region;
          end_line = position_in (codes "endLine") region;
          end_column = position_in (codes "endColumn") region;
        } in r) o) IsRegion
    by_line None is = tt
    by_line (Some line) is = record {
      start_line = is;
      start_column = found_at (codes "startColumn") region;
      end_line = found_at (codes "endLine") region;
      end_column = found_at (codes "endColumn") region;
    }

text_is : (o : Option (List ℕ)) → IfSome (option_and_then unless_blank o) IsFilled
text_is None = tt
text_is (Some text) = by_test (list_all is_white_space text) refl
  where
    by_test : (b : Bool) → list_all is_white_space text ≡ b → IfSome (if b then None else Some text) IsFilled
    by_test true is = tt
    by_test false is = is

own_is : (region : Option Data) → IfSome (snippet_in region) IsFilled
own_is region = text_is (option_and_then as_str (member_in (codes "text") (member_in (codes "snippet") region)))

snippet_is : (region context : Option Data) → IfSome (snippet_of region context) IsFilled
snippet_is region context = either (snippet_in region) (context_snippet region context) (own_is region) (by_lines (have_same_lines (region_of region) (region_of context)))
  where
    by_lines : (b : Bool) → IfSome (if b then snippet_in context else None) IsFilled
    by_lines true = own_is context
    by_lines false = tt

    either : (o p : Option (List ℕ)) → IfSome o IsFilled → IfSome p IsFilled → IfSome (option_or o p) IsFilled
    either None p first second = second
    either (Some text) p first second = first

pub region_read : (regions : Bool) (d : Data) → IfSome (own_region regions d).region IsRegion
region_read false d = tt
region_read true d = region_is (member_in (codes "region") (physical_location d))

pub snippet_read : (regions : Bool) (d : Data) → IfSome (own_region regions d).snippet IsFilled
snippet_read false d = tt
snippet_read true d = snippet_is (member_in (codes "region") (physical_location d)) (member_in (codes "contextRegion") (physical_location d))

-- a fact about a value is true of the value that is kept for a place
pub placed_too : {X : Type 0} (P : X → Type 0) (place : Place) (o : Option X) → IfSome o P → IfSome (if_placed place o) P
placed_too {X} P place o is = by_test (is_some place.uri || is_some place.base)
  where
    by_test : (b : Bool) → IfSome (if b then o else None) P
    by_test true = is
    by_test false = tt
