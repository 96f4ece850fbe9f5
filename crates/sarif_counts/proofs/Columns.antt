-- What a width writes.
use Rattle.std.proofs.Common.{◌≡◌, ℕ, ◌-◌, ◌^◌, List, [], false, refl, lit<}
use Rattle.std.specs.Fmt.{padded_integral, format_spec}
use Rattle.std.proofs.Padding.{padded_integral_right}
use Rattle.sarif_counts.specs.Summary.{right_in}

-- a number to the right in eleven columns
pub padded : (ds : List ℕ) → padded_integral (format_spec 32 3 0 11 (2 ^ 64 - 1)) false [] ds ≡ right_in 11 ds
unfolding right_in
padded ds = padded_integral_right (format_spec 32 3 0 11 (2 ^ 64 - 1)) ds refl refl (λ e. cc) (λ e. cc) (lit< tt)
