-- Fingerprints without some names still rise, and are the same without them again.
use Rattle.std.proofs.Common.{◌≡◌, ℕ, Bool, true, false, cond, not, filter, List, [], ◌∷◌, refl, ap, ◌∙◌}
use Rattle.json_parts.specs.Internal.Ordered.{IsBelow, AreMembersOrdered}
use Rattle.sarif_model.specs.Written.{text_members}
use Rattle.sarif_runs.specs.Ignoring.{is_among, without_names}

module _ (names : List (List ℕ)) where
  abbrev is_kept : List ℕ × List ℕ → Bool
  is_kept member = not (is_among names member.0)

  below_kept : (k : List ℕ) (ps : List (List ℕ × List ℕ)) → IsBelow k (text_members ps) → IsBelow k (text_members (without_names names ps))
  below_kept k [] below = tt
  below_kept k (p ∷ ps) below = by_test (is_kept p) (below_kept k ps below.1)
    where
      by_test : (b : Bool) → IsBelow k (text_members (filter is_kept ps))
          → IsBelow k (text_members (cond b (p ∷ filter is_kept ps) (filter is_kept ps)))
      by_test true more = (below.0, more)
      by_test false more = more

  -- the names of those that are left rise
  pub ordered_kept : (ps : List (List ℕ × List ℕ)) → AreMembersOrdered (text_members ps) → AreMembersOrdered (text_members (without_names names ps))
  ordered_kept [] ordered = tt
  ordered_kept (p ∷ ps) ordered = by_test (is_kept p) (ordered_kept ps ordered.2)
    where
      by_test : (b : Bool) → AreMembersOrdered (text_members (filter is_kept ps))
          → AreMembersOrdered (text_members (cond b (p ∷ filter is_kept ps) (filter is_kept ps)))
      by_test true more = (below_kept p.0 ps ordered.0, ordered.1, more)
      by_test false more = more

  pub kept_twice : (ps : List (List ℕ × List ℕ)) → without_names names (without_names names ps) ≡ without_names names ps
  kept_twice [] = refl
  kept_twice (p ∷ ps) = by_test (is_kept p) refl (kept_twice ps)
    where
      by_test : (b : Bool) → is_kept p ≡ b → filter is_kept (filter is_kept ps) ≡ filter is_kept ps
          → filter is_kept (cond b (p ∷ filter is_kept ps) (filter is_kept ps)) ≡ cond b (p ∷ filter is_kept ps) (filter is_kept ps)
      by_test true is twice =
          ap (λ c. cond c (p ∷ filter is_kept (filter is_kept ps)) (filter is_kept (filter is_kept ps))) is
          ∙ ap (λ l. p ∷ l) twice
      by_test false is twice = twice
