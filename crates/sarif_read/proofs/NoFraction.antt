-- Stripping leaves no number with a fraction, and nothing for a second stripping.
use Rattle.std.proofs.Common.{◌≡◌, true, false, if◌then◌else◌, refl, ap}
use Rattle.std.proofs.lemmas.Bool.{or_parts}
use Rattle.serde_json.specs.Data.{Data, null, boolean, number, string, array, object, Items, no_items, item, Members, no_members, member}
use Rattle.serde_json.specs.Written.{has_float, items_have_float, members_have_float}
use Rattle.sarif_read.specs.Stripping.{is_fractional, any_fractional, stripped, stripped_items, stripped_members}

mutual
  pub no_fraction : (d : Data) → is_fractional d ≡ false → has_float (stripped d) ≡ false
  no_fraction null whole = refl
  no_fraction (boolean b) whole = refl
  no_fraction (number n) whole = whole
  no_fraction (string s) whole = refl
  no_fraction (array ds) whole = no_fraction_items ds whole
  no_fraction (object ms) whole = no_fraction_members ms

  pub no_fraction_items : (ds : Items) → any_fractional ds ≡ false → items_have_float (stripped_items ds) ≡ false
  no_fraction_items no_items whole = refl
  no_fraction_items (item d ds) whole =
      let both = or_parts (is_fractional d) (any_fractional ds) whole in rw (no_fraction d both.0, no_fraction_items ds both.1) refl

  pub no_fraction_members : (ms : Members) → members_have_float (stripped_members ms) ≡ false
  no_fraction_members no_members = refl
  no_fraction_members (member k d ms) =
      elim (is_fractional d) as
      (λ b. is_fractional d ≡ b
      → members_have_float (if b then stripped_members ms else member k (stripped d) (stripped_members ms)) ≡ false) [
        | true ↦ λ e. no_fraction_members ms
        | false ↦ λ e. rw (no_fraction d e, no_fraction_members ms) refl
      ] refl

mutual
  pub same_fractions : (d : Data) → is_fractional (stripped d) ≡ is_fractional d
  same_fractions null = refl
  same_fractions (boolean b) = refl
  same_fractions (number n) = refl
  same_fractions (string s) = refl
  same_fractions (array ds) = same_fractions_items ds
  same_fractions (object ms) = refl

  pub same_fractions_items : (ds : Items) → any_fractional (stripped_items ds) ≡ any_fractional ds
  same_fractions_items no_items = refl
  same_fractions_items (item d ds) = rw (same_fractions d, same_fractions_items ds) refl

mutual
  pub twice : (d : Data) → stripped (stripped d) ≡ stripped d
  twice null = refl
  twice (boolean b) = refl
  twice (number n) = refl
  twice (string s) = refl
  twice (array ds) = ap array (twice_items ds)
  twice (object ms) = ap object (twice_members ms)

  pub twice_items : (ds : Items) → stripped_items (stripped_items ds) ≡ stripped_items ds
  twice_items no_items = refl
  twice_items (item d ds) = rw (twice d, twice_items ds) refl

  pub twice_members : (ms : Members) → stripped_members (stripped_members ms) ≡ stripped_members ms
  twice_members no_members = refl
  twice_members (member k d ms) =
      elim (is_fractional d) as
      (λ b. is_fractional d ≡ b → stripped_members (if b then stripped_members ms else member k (stripped d) (stripped_members ms))
      ≡ (if b then stripped_members ms else member k (stripped d) (stripped_members ms))) [
        | true ↦ λ e. twice_members ms
        | false ↦ λ e. rw (same_fractions d, e, twice d, twice_members ms) refl
      ] refl
