-- The meaning of the marks of an unfinished matching.
use Rattle.std.specs.Prelude.{◌≡◌, ℕ, false, length, slice_index_or}
use Rattle.sarif_match.specs.declared.progress.Progress.{Progress}
use Rattle.sarif_match.specs.Partners.{has_partner, is_taken}

-- a list of marks for n current and m baseline results; they say exactly which results are matched
pub record IsSound (n m : ℕ) (progress : Progress) : Type 0 where
  pub paired : (i : ℕ)
      → slice_index_or progress.paired.items i false ≡ has_partner progress.partners.items i
  pub taken : (j : ℕ)
      → slice_index_or progress.taken.items j false ≡ is_taken progress.partners.items j
  pub partner_count : length progress.partners.items ≡ n
  pub paired_count : length progress.paired.items ≡ n
  pub taken_count : length progress.taken.items ≡ m
