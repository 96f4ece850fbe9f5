-- The table of the names of sections, as the contracts of its functions see it.
use Rattle.std.specs.Prelude.{◌≡◌, ℕ, Bool, List, is_some, ◌==◌}
use Rattle.std.specs.Borrow.{Bor}
use Rattle.std.specs.Cmp.Lexicographic.{pointwise}
use Rattle.std.specs.HashMap.{get, HashMap}
use Rattle.sarif_diff.specs.declared.section.Section.{Section}
use Rattle.sarif_scope.specs.Files.{is_named}

abbrev pub same_bytes : Bor (List ℕ) → Bor (List ℕ) → Bool
same_bytes a b = pointwise ◌==◌ a.now b.now

-- the table has the names of exactly these sections
abbrev pub AreMet : {S : Type 0} → List Section → HashMap (Bor (List ℕ)) Bool S → Type 0
AreMet before table =
    (name : Bor (List ℕ)) → is_some (get same_bytes table name) ≡ is_named before name.now
