-- Results with the entries that admit them, and the results as they are read.
use Rattle.std.proofs.Common.{◌≡◌, ℕ, zero, suc, List, [], ◌∷◌, ◌++◌, map, Some, slice_get, slice_index_or, refl, sym, ap, ap₂, ◌∙◌}
use Rattle.std.specs.List.{AllByRecursion}
use Rattle.std.proofs.lemmas.Option.{same_Some}
use Rattle.sarif_model.specs.declared.record.Record.{Record}
use Rattle.sarif_entries.specs.File.{File}
use Rattle.sarif_suppress.specs.Limited.{all_admitted, all_admitted_after, AreUnadmitted, limited, limited_after, admitted_after, with_admitted}
use Rattle.sarif_laws.specs.KnownAgain.{as_read}

-- ---- at a place

found_after : (file : File) (before rs : List Record) (i : ℕ) (r : Record) → slice_get rs i ≡ Some r
    → slice_get (limited_after file before rs) i ≡ Some (with_admitted r (slice_index_or (all_admitted_after file before rs) i []))
found_after file before [] i r is = let never : ⊥ = cc in absurd never
found_after file before (x ∷ rs) zero r is = ap (λ q. Some (with_admitted q (admitted_after file before x))) (same_Some x r is)
found_after file before (x ∷ rs) (suc i) r is = found_after file (before ++ x ∷ []) rs i r is

pub found_at : (file : File) (rs : List Record) (i : ℕ) (r : Record) → slice_get rs i ≡ Some r
    → slice_get (limited file rs) i ≡ Some (with_admitted r (slice_index_or (all_admitted file rs) i []))
found_at file rs i r is = found_after file [] rs i r is

from_after : (file : File) (before rs : List Record) (i : ℕ) (found : Record) → slice_get (limited_after file before rs) i ≡ Some found
    → (r : Record) × (slice_get rs i ≡ Some r) × (found ≡ with_admitted r found.admitted)
from_after file before [] i found is = let never : ⊥ = cc in absurd never
from_after file before (r ∷ rs) zero found is =
    let there : with_admitted r (admitted_after file before r) ≡ found = same_Some (with_admitted r (admitted_after file before r)) found is in
    (r, refl, sym there ∙ ap (λ (q : Record). with_admitted r q.admitted) there)
from_after file before (r ∷ rs) (suc i) found is = from_after file (before ++ r ∷ []) rs i found is

-- the result that was read there
pub from_at : (file : File) (rs : List Record) (i : ℕ) (found : Record) → slice_get (limited file rs) i ≡ Some found
    → (r : Record) × (slice_get rs i ≡ Some r) × (found ≡ with_admitted r found.admitted)
from_at file rs i found is = from_after file [] rs i found is

-- ---- all results

-- what doesn't depend on the entries that admit results
module _ (P : Record → Type 0) (apart : (r : Record) (numbers : List ℕ) → P r → P (with_admitted r numbers)) where
  all_after : (file : File) (before rs : List Record) → AllByRecursion P rs → AllByRecursion P (limited_after file before rs)
  all_after file before [] all = tt
  all_after file before (r ∷ rs) all = (apart r (admitted_after file before r) all.0, all_after file (before ++ r ∷ []) rs all.1)

  pub all_limited : (file : File) (rs : List Record) → AllByRecursion P rs → AllByRecursion P (limited file rs)
  all_limited file rs all = all_after file [] rs all

read_after : (file : File) (before rs : List Record) → AreUnadmitted rs → map as_read (limited_after file before rs) ≡ rs
read_after file before [] unadmitted = refl
read_after file before (r ∷ rs) unadmitted =
    ap₂ (λ x xs. x ∷ xs) (ap (with_admitted r) (sym unadmitted.0)) (read_after file (before ++ r ∷ []) rs unadmitted.1)

-- without these entries they are as they were read
pub read_limited : (file : File) (rs : List Record) → AreUnadmitted rs → map as_read (limited file rs) ≡ rs
read_limited file rs unadmitted = read_after file [] rs unadmitted

pub read_unadmitted : (rs : List Record) → AreUnadmitted rs → map as_read rs ≡ rs
read_unadmitted [] unadmitted = refl
read_unadmitted (r ∷ rs) unadmitted = ap₂ (λ x xs. x ∷ xs) (ap (with_admitted r) (sym unadmitted.0)) (read_unadmitted rs unadmitted.1)
