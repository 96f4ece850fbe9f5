-- What the test of evidence says.
use Rattle.std.proofs.Common.{◌≡◌, ℕ, Bool, true, cond, ◌&&◌, ◌⊎◌, inl, inr, List, Option, Some, None, refl, sym, ap, ◌∙◌}
use Rattle.std.proofs.lemmas.Bool.{and_parts}
use Rattle.sarif_model.specs.declared.record.Record.{Record}
use Rattle.sarif_model.specs.declared.kinds.State.TheVariants.{Unchanged, Updated}
use Rattle.sarif_evidence.specs.declared.version.MatchingVersion.TheVariants.{Three}
use Rattle.sarif_evidence.specs.Seen.{seen}
use Rattle.sarif_evidence.specs.Evidence.{by_snippets, has_evidence, has_other_evidence, state_in}
use Rattle.sarif_evidence.specs.State.{is_unchanged, state_of, IsUnchanged}
use Rattle.sarif_evidence.proofs.StateLemmas.{equal_is_unchanged, from_unchanged, unchanged_is_equal}
use Rattle.sarif_evidence.proofs.EqualLemmas.{same_text}

module _ (current partner : Record) where
  abbrev evidence : Bool
  evidence = has_evidence (seen current) (seen partner)

  pub both : state_in Three current (Some partner) ≡ Unchanged → (is_unchanged current partner ≡ true) × (evidence ≡ true)
  both is = and_parts (is_unchanged current partner) evidence (from_unchanged (is_unchanged current partner && evidence) is)

  pub unchanged_is_same : state_in Three current (Some partner) ≡ Unchanged → IsUnchanged current partner
  unchanged_is_same is =
      unchanged_is_equal current partner (ap (λ (b : Bool). cond b Unchanged Updated) (both is).0)

  by_both : (o p : Option (List ℕ)) (snippet other : List ℕ) (rest : Bool) → o ≡ Some snippet → p ≡ Some other → by_snippets o p rest ≡ true → snippet ≡ other
  by_both o p snippet other rest is other_is told =
      same_text snippet other
      (sym (ap (λ (q : Option (List ℕ)). by_snippets q p rest) is
      ∙ ap (λ (q : Option (List ℕ)). by_snippets (Some snippet) q rest) other_is) ∙ told)

  pub unchanged_has_snippet : (snippet other : List ℕ) → state_in Three current (Some partner) ≡ Unchanged
      → (seen current).snippet ≡ Some snippet → (seen partner).snippet ≡ Some other → snippet ≡ other
  unchanged_has_snippet snippet other is mine theirs =
      by_both (seen current).snippet (seen partner).snippet snippet other (has_other_evidence (seen current) (seen partner)) mine theirs (both is).1

  without_one : (o p : Option (List ℕ)) (rest : Bool) → (o ≡ None) ⊎ (p ≡ None) → by_snippets o p rest ≡ rest
  without_one None p rest none = refl
  without_one (Some s) None rest none = refl
  without_one (Some s) (Some t) rest (inl none) = let never : ⊥ = cc in absurd never
  without_one (Some s) (Some t) rest (inr none) = let never : ⊥ = cc in absurd never

  pub unchanged_has_other : state_in Three current (Some partner) ≡ Unchanged
      → ((seen current).snippet ≡ None) ⊎ ((seen partner).snippet ≡ None) → has_other_evidence (seen current) (seen partner) ≡ true
  unchanged_has_other is none =
      sym (without_one (seen current).snippet (seen partner).snippet (has_other_evidence (seen current) (seen partner)) none) ∙ (both is).1

  unchanged_by : state_of current (Some partner) ≡ Unchanged → evidence ≡ true → state_in Three current (Some partner) ≡ Unchanged
  unchanged_by is enough =
      ap (λ (b : Bool). cond (b && evidence) Unchanged Updated) (from_unchanged (is_unchanged current partner) is)
      ∙ ap (λ (b : Bool). cond b Unchanged Updated) enough

  pub enough_is_unchanged : IsUnchanged current partner → evidence ≡ true → state_in Three current (Some partner) ≡ Unchanged
  enough_is_unchanged same enough = unchanged_by (equal_is_unchanged current partner same) enough
