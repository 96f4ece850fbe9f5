-- The accepted results, as their entries see them.
use Rattle.std.proofs.Common.{◌≡◌, ℕ, ◌+◌, ◌<◌, false, List, [], ◌∷◌, ◌++◌, length, map, take, slice_index_or, Bor, Option, Some, None, refl, sym, ap, ap₂, ◌∙◌, true≢false}
use Rattle.std.proofs.lemmas.List.{map_more}
use Rattle.std.specs.Option.{option_map_or}
use Rattle.std.specs.Prelude.{is_some}
use Rattle.std.specs.declared.alloc.Global.{Global}
use Rattle.std.specs.declared.vec.Vec.{Vec}
use Rattle.sarif_evidence.specs.Seen.{as_matched}
use Rattle.sarif_evidence.specs.declared.version.MatchingVersion.{MatchingVersion}
use Rattle.sarif_evidence.specs.declared.version.MatchingVersion.TheVariants.{Two}
use Rattle.sarif_model.specs.declared.record.Record.{Record}

none_there : (o : Option (List ℕ)) → is_some o ≡ false → o ≡ None
none_there None is = refl
none_there (Some text) is = absurd (true≢false is)

whole : (r : Record) → r.snippet ≡ None → as_matched Two r ≡ r
whole r none = λ i. record r { snippet = sym none i }

-- version 2 reads all of one more result without a snippet
pub one_more : (xs : List (Bor Record)) (i : ℕ) (x : Bor Record) → i < length xs → x ≡ slice_index_or xs i x → is_some x.now.snippet ≡ false
    → map (λ r. as_matched Two r.now) (take i xs) ≡ map (λ r. r.now) (take i xs)
    → map (λ r. as_matched Two r.now) (take (i + 1) xs) ≡ map (λ r. r.now) (take (i + 1) xs)
one_more xs i x within is none so_far =
    map_more (λ r. as_matched Two r.now) xs i x within
    ∙ ap₂ (λ a b. a ++ b ∷ []) so_far
    (ap (λ r. as_matched Two r.now) (sym is) ∙ whole x.now (none_there x.now.snippet none) ∙ ap (λ r. r.now) is)
    ∙ sym (map_more (λ r. r.now) xs i x within)

-- what is read from lent results is what is read from their values
pub each_shown : (version : MatchingVersion) (xs : List (Bor Record))
    → map (λ r. as_matched version r.now) xs ≡ map (as_matched version) (map (λ r. r.now) xs)
each_shown version [] = refl
each_shown version (x ∷ xs) = ap (λ l. as_matched version x.now ∷ l) (each_shown version xs)

-- what is read from the accepted results is the same for both borrows of their list
pub in_both : {version matching : MatchingVersion} (shown : Option (Vec Record Global)) {a b accepted : List (Bor Record)} → a ≡ accepted
    → b ≡ accepted → option_map_or (λ v. v.items) shown (map (λ r. r.now) a) ≡ map (λ r. as_matched version r.now) a → version ≡ matching
    → option_map_or (λ v. v.items) shown (map (λ r. r.now) b) ≡ map (λ r. as_matched matching r.now) a
in_both {version} {matching} shown {a} {b} {accepted} first second is same =
    ap (λ l. option_map_or (λ v. v.items) shown (map (λ r. r.now) l)) (second ∙ sym first) ∙ is
    ∙ ap (λ v. map (λ r. as_matched v r.now) a) same
