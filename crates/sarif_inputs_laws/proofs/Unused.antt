-- An entry is unused exactly if no result meets it, so it is unused in two parts exactly if it is unused in each.
use Rattle.std.proofs.Common.{◌≡◌, ℕ, ◌+◌, ◌<◌, ◌≤◌, ◌||◌, ◌&&◌, not, Bool, true, false, cond, List, [], ◌∷◌, ◌++◌, Option, Some, None, Ok, refl, sym, ap, ap₂, ◌∙◌, arith}
use Rattle.std.specs.Prelude.{Result, count_by, min, nat_lt, slice_get}
use Rattle.std.specs.List.{list_any}
use Rattle.std.specs.Option.{option_map_or}
use Rattle.std.proofs.lemmas.Bool.Decides.{nat_tests}
use Rattle.std.proofs.lemmas.List.Folds.{list_any-append}
use Rattle.std.proofs.lemmas.List.Sums.{sum_by-cons}
use Rattle.sarif_model.specs.declared.record.Record.{Record}
use Rattle.sarif_entries.specs.declared.entry.Entry.{Entry}
use Rattle.sarif_entries.specs.declared.fault.FileFault.{FileFault}
use Rattle.sarif_entries.specs.declared.limit.Limit.{Limit}
use Rattle.sarif_entries.specs.File.{File, file_of}
use Rattle.sarif_entries.specs.Given.{file_or_none}
use Rattle.sarif_entries.specs.Matching.{is_met, matches}
use Rattle.sarif_entries.proofs.EntryLimits.{numbered}
use Rattle.sarif_suppress.specs.Limited.{limited, met_by}
use Rattle.sarif_suppress.specs.Suppressing.{is_unused}
use Rattle.sarif_suppress.proofs.LimitedResults.{as_many}

-- an element passes a test exactly if more than none of them do
any_counted : (test : Record → Bool) (rs : List Record) → list_any test rs ≡ nat_lt 0 (count_by test rs)
any_counted test [] = refl
any_counted test (r ∷ rs) =
    ap (λ b. test r || b) (any_counted test rs)
    ∙ by_test (test r) (count_by test rs)
    ∙ ap (nat_lt 0) (sym (sum_by-cons (λ x. cond (test x) 1 0) r rs))
  where
    by_test : (b : Bool) (n : ℕ) → (b || nat_lt 0 n) ≡ nat_lt 0 (cond b 1 0 + n)
    by_test true n = sym (above n)
      where
        above : (n : ℕ) → nat_lt 0 (1 + n) ≡ true
        above n = grind (arith, nat_tests)
    by_test false n =
        let same : n ≡ 0 + n = omega arith in
        ap (nat_lt 0) same

-- the first few are none only if there are none
first_few : (met most : ℕ) → 1 ≤ most → nat_lt 0 (min met most) ≡ nat_lt 0 met
first_few met most some = by_test (nat_lt 0 met) refl
  where
    by_test : (b : Bool) → nat_lt 0 met ≡ b → nat_lt 0 (min met most) ≡ b
    by_test true is =
        let above : 0 < met = grind (arith, nat_tests) in
        let few : 0 < min met most = omega (arith, above, some) in
        positive (min met most) few
      where
        positive : (n : ℕ) → 0 < n → nat_lt 0 n ≡ true
        positive n above = grind (arith, nat_tests)
    by_test false is =
        let none : met ≤ 0 = grind (arith, nat_tests) in
        let few : min met most ≡ 0 = omega (arith, none) in
        ap (nat_lt 0) few

-- an entry of a file that was read is unused exactly if no result meets it
unused_met : (bytes : List ℕ) (today : Option ℕ) (file : File) (rs : List Record) (n : ℕ) (e : Entry) → file_of bytes today ≡ Ok file
    → slice_get file.entries n ≡ Some e → is_unused file (limited file rs) e ≡ not (list_any (is_met file.today e) rs)
unused_met bytes today file rs n e read at =
    ap not (any_counted (λ r. matches file.today e r) (limited file rs)
    ∙ ap (nat_lt 0) (as_many bytes today file rs n e read at)
    ∙ by_limit e.limit (λ limit has. (numbered bytes today file n e limit read at has).1)
    ∙ sym (any_counted (is_met file.today e) rs))
  where
    by_limit : (own : Option Limit) → ((limit : Limit) → own ≡ Some limit → 1 ≤ limit.most)
        → nat_lt 0 (option_map_or (λ (limit : Limit). min (met_by file.today e rs) limit.most) own (met_by file.today e rs))
        ≡ nat_lt 0 (met_by file.today e rs)
    by_limit None some = refl
    by_limit (Some limit) some = first_few (met_by file.today e rs) limit.most (some limit refl)

not_both : (a b : Bool) → not (a || b) ≡ (not a && not b)
not_both true b = refl
not_both false b = refl

pub unused_both : (given : Option (List ℕ)) (today : Option ℕ) (file : File) (rs ss : List Record) (n : ℕ) (e : Entry) → file_or_none given today ≡ Ok file
    → slice_get file.entries n ≡ Some e
    → is_unused file (limited file (rs ++ ss)) e ≡ (is_unused file (limited file rs) e && is_unused file (limited file ss) e)
unused_both None today file rs ss n e is at =
    let none : slice_get [] n ≡ Some e = ap (λ (f : File). slice_get f.entries n) (same_file (record { entries = []; today = today }) file is) ∙ at in
    let never : ⊥ = cc in absurd never
  where
    same_file : (a b : File) → ◌≡◌ {A = Result File FileFault} (Ok a) (Ok b) → a ≡ b
    same_file a b e = cc
unused_both (Some bytes) today file rs ss n e is at =
    unused_met bytes today file (rs ++ ss) n e is at
    ∙ ap not (list_any-append (is_met file.today e) rs ss)
    ∙ not_both (list_any (is_met file.today e) rs) (list_any (is_met file.today e) ss)
    ∙ ap₂ (λ a b. a && b) (sym (unused_met bytes today file rs n e is at)) (sym (unused_met bytes today file ss n e is at))
