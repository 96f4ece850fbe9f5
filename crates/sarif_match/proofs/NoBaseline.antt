-- Without a baseline no result has a match.
use Rattle.std.proofs.Common.{◌≡◌, ℕ, zero, suc, ◌+◌, List, [], ◌∷◌, ◌++◌, Bool, Option, None, fold, length, map, replicate, refl, ap, ◌∙◌, arith}
use Rattle.std.specs.Prelude.{option_map, reverse}
use Rattle.std.proofs.lemmas.Grind.{replicate_next}
use Rattle.std.proofs.lemmas.List.{length-map, length-reverse, reverse-append}
use Rattle.sarif_evidence.specs.Seen.{seen}
use Rattle.sarif_evidence.specs.declared.version.MatchingVersion.TheVariants.{Three}
use Rattle.sarif_model.specs.declared.record.Record.{Record}
use Rattle.sarif_match.specs.declared.tier.Tier.{Tier}
use Rattle.sarif_match.specs.KeyParts.{same_parts}
use Rattle.sarif_match.specs.Pairing.{pairs_from}
use Rattle.sarif_match.specs.Partners.{after_tier, from_end, keyed_from, left, partners_in, partners_of, put_all, seen_from_end, turned}
use Rattle.sarif_match.specs.Tiers.{tiers_in, tiers_of}

no_pairs : {K : Type 0} (eq : K → K → Bool) (seen current : List (ℕ × K)) → pairs_from eq seen current [] ≡ []
no_pairs eq seen [] = refl
no_pairs eq seen (e ∷ current) = no_pairs eq (seen ++ (e ∷ [])) current

none_after : (cs : List Record) (partners : List (Option ℕ)) (tiers : List Tier) → fold (after_tier cs []) partners tiers ≡ partners
none_after cs partners [] = refl
none_after cs partners (tier ∷ tiers) =
    ap (λ ps. fold (after_tier cs []) ps tiers) (ap (put_all partners) (no_pairs same_parts [] (left partners (keyed_from tier 0 cs))))
    ∙ none_after cs partners tiers

pub nobody : (cs bs : List Record) → length bs ≡ 0 → partners_of cs bs ≡ replicate (length cs) None
nobody cs [] short = none_after cs (replicate (length cs) None) (tiers_of cs [])
nobody cs (b ∷ bs) short = absurd (omega (arith, short))

-- ---- version 3

none_back : (f : ℕ → ℕ) (n : ℕ) → map (option_map f) (replicate n None) ≡ replicate n None
none_back f zero = refl
none_back f (suc n) = ap (λ ps. None ∷ ps) (none_back f n)

same_turned : (n : ℕ) → reverse {A = Option ℕ} (replicate n None) ≡ replicate n None
same_turned zero = refl
same_turned (suc n) =
    let more : suc n ≡ n + 1 = omega arith in
    ap (λ k. reverse {A = Option ℕ} (replicate k None)) more
    ∙ ap reverse (replicate_next n None)
    ∙ reverse-append (replicate n None) (None ∷ [])
    ∙ ap (λ ps. None ∷ ps) (same_turned n)

pub nobody_from_end : (cs bs : List Record) → length bs ≡ 0 → partners_in Three cs bs ≡ replicate (length cs) None
nobody_from_end cs [] short =
    let many : length (seen_from_end cs) ≡ length cs = length-reverse (map seen cs) ∙ length-map cs seen in
    ap (turned 0) (none_after (seen_from_end cs) (replicate (length (seen_from_end cs)) None) (tiers_in Three cs []))
    ∙ ap (λ n. turned 0 (replicate n None)) many
    ∙ ap reverse (none_back (from_end 0) (length cs))
    ∙ same_turned (length cs)
nobody_from_end cs (b ∷ bs) short = absurd (omega (arith, short))
