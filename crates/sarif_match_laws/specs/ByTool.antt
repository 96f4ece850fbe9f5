-- Matching the results of different tools.
use Rattle.std.specs.Prelude.{◌≡◌, ℕ, ◌+◌, ◌<◌, ◌++◌, Bool, true, false, List, Option, bytes_eq, length, map, option_map}
use Rattle.std.specs.List.{list_any}
use Rattle.sarif_model.specs.declared.record.Record.{Record}
use Rattle.sarif_evidence.specs.declared.version.MatchingVersion.{MatchingVersion}
use Rattle.sarif_match.specs.Partners.{is_taken, partners_in}
use Rattle.sarif_match_laws.specs.SameFinding.{match_in}

-- whether one of these results is of the tool
abbrev pub has_tool : List ℕ → List Record → Bool
has_tool tool rs = list_any (λ r. bytes_eq r.tool tool) rs

-- no tool has results in both lists
abbrev pub HaveNoToolInCommon : List Record → List Record → Type 0
HaveNoToolInCommon rs others =
    (tool : List ℕ) → has_tool tool rs ≡ true → has_tool tool others ≡ false

-- matches in a baseline that comes after n other results
abbrev pub moved : ℕ → List (Option ℕ) → List (Option ℕ)
moved n partners = map (option_map (λ j. n + j)) partners

-- two matchings, and the matching of both current lists in turn with both baselines in turn
pub record IsMatchedApart (version : MatchingVersion) (cs bs more others : List Record) : Type 0 where
  -- the matches are those of the first two lists, and then those of the other two
  pub partners : partners_in version (cs ++ more) (bs ++ others)
      ≡ partners_in version cs bs ++ moved (length bs) (partners_in version more others)
  -- so each current result has the match that it has there, and its state, which follows from it
  pub first : (i : ℕ) → i < length cs
      → match_in version (cs ++ more) (bs ++ others) i ≡ match_in version cs bs i
  pub second : (i : ℕ)
      → match_in version (cs ++ more) (bs ++ others) (length cs + i)
      ≡ match_in version more others i
  -- and exactly the same baseline results are matched
  pub first_taken : (j : ℕ) → j < length bs
      → is_taken (partners_in version (cs ++ more) (bs ++ others)) j
      ≡ is_taken (partners_in version cs bs) j
  pub second_taken : (j : ℕ)
      → is_taken (partners_in version (cs ++ more) (bs ++ others)) (length bs + j)
      ≡ is_taken (partners_in version more others) j
