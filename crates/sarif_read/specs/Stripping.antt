-- Stripping, as the index does it.
pub use Rattle.json_parts.specs.Stripping.{is_fractional, any_fractional, stripped, stripped_items, stripped_members}
