-- An expired entry matches no result.
use Rattle.std.proofs.Common.{◌≡◌, Bool, true, false, List, [], ◌∷◌, refl, sym, ap, ◌∙◌}
use Rattle.std.specs.Prelude.{not, ◌&&◌, ◌||◌, count_by}
use Rattle.std.specs.List.{list_any}
use Rattle.sarif_entries.specs.File.{File}
use Rattle.sarif_entries.specs.Matching.{hold, is_admitted, is_expired}
use Rattle.sarif_log.specs.LogBy.{expired_of}
use Rattle.sarif_model.specs.declared.record.Record.{Record}

never : (b : Bool) → b && false ≡ false
never true = refl
never false = refl

none_match : (admits meets : Record → Bool) (rs : List Record) → list_any (λ r. admits r && (not true && meets r)) rs ≡ false
none_match admits meets [] = refl
none_match admits meets (r ∷ rs) = ap (λ b. b || list_any (λ q. admits q && (not true && meets q)) rs) (never (admits r)) ∙ none_match admits meets rs

-- that it is unused follows if it is expired
unused_too : (expired : Bool) (admits meets : Record → Bool) (rs : List Record)
    → not (list_any (λ r. admits r && (not expired && meets r)) rs) && expired ≡ expired
unused_too true admits meets rs = ap (λ any. not any && true) (none_match admits meets rs)
unused_too false admits meets rs = never (not (list_any (λ r. admits r && (not false && meets r)) rs))

-- so these are all that are expired
pub all_expired : (file : File) (rs : List Record) → count_by (λ e. is_expired file.today e) file.entries ≡ expired_of file rs
all_expired file rs =
    sym (λ i. count_by (λ e. unused_too (is_expired file.today e) (λ r. is_admitted e.limit r) (hold e.conditions) rs i) file.entries)
