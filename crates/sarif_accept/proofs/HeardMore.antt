-- The tools of runs, with one run more.
use Rattle.std.proofs.Common.{◌≡◌, ℕ, Bool, true, false, cond, ◌&&◌, ◌||◌, List, [], ◌∷◌, ◌++◌, bytes_eq, refl, sym, ◌∙◌}
use Rattle.std.specs.List.{list_any}
use Rattle.std.proofs.lemmas.List.Folds.{list_any-append}
use Rattle.indexmap.specs.IndexSet.{IndexSet, Updates}
use Rattle.sarif_accept.specs.declared.heard.ToolRun.{ToolRun}
use Rattle.sarif_accept.specs.Heard.{is_of, is_failed_of}
use Rattle.sarif_accept.specs.Internal.HeardSets.{AreSetsOf}
use Rattle.sarif_accept.proofs.AskedOnce.{either}

with_failed : (a b f : Bool) → f ≡ true → cond a true b ≡ (b || ((a && f) || false))
with_failed true true true is = refl
with_failed true false true is = refl
with_failed false true true is = refl
with_failed false false true is = refl
with_failed a b false is = let never : ⊥ = cc in absurd never

without_failed : (a b f : Bool) → f ≡ false → b ≡ (b || ((a && f) || false))
without_failed a b true is = let never : ⊥ = cc in absurd never
without_failed true true false is = refl
without_failed true false false is = refl
without_failed false true false is = refl
without_failed false false false is = refl

module _ {S : Type 0} (tools failed tools' failed' : IndexSet (List ℕ) S) (run : ToolRun) (runs : List ToolRun) where
  pub sets_of_failed : Updates bytes_eq tools tools' run.tool true → Updates bytes_eq failed failed' run.tool true → run.failed ≡ true
      → AreSetsOf tools failed runs → AreSetsOf tools' failed' (runs ++ run ∷ [])
  sets_of_failed more fails is are = record {
    all = λ tool. more.0 tool ∙ rw (are.all tool) (either (bytes_eq run.tool tool) (list_any (is_of tool) runs))
        ∙ sym (list_any-append (is_of tool) runs (run ∷ []));
    of_failed = λ tool. fails.0 tool
        ∙ rw (are.of_failed tool) (with_failed (bytes_eq run.tool tool) (list_any (is_failed_of tool) runs) run.failed is)
        ∙ sym (list_any-append (is_failed_of tool) runs (run ∷ []));
  }

  pub sets_of_other : Updates bytes_eq tools tools' run.tool true → run.failed ≡ false
      → AreSetsOf tools failed runs → AreSetsOf tools' failed (runs ++ run ∷ [])
  sets_of_other more is are = record {
    all = λ tool. more.0 tool ∙ rw (are.all tool) (either (bytes_eq run.tool tool) (list_any (is_of tool) runs))
        ∙ sym (list_any-append (is_of tool) runs (run ∷ []));
    of_failed = λ tool. are.of_failed tool ∙ without_failed (bytes_eq run.tool tool) (list_any (is_failed_of tool) runs) run.failed is
        ∙ sym (list_any-append (is_failed_of tool) runs (run ∷ []));
  }
