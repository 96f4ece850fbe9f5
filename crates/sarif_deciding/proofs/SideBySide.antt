-- Lists side by side.
use Rattle.std.proofs.Common.{◌≡◌, Bool, List, [], ◌∷◌, length, suc, refl, ap, arith}
use Rattle.sarif_model.specs.declared.kinds.State.{State}
use Rattle.sarif_model.specs.declared.record.Record.{Record}
use Rattle.sarif_policy.specs.declared.rating.Rating.{Rating}
use Rattle.sarif_results.specs.declared.draft.Draft.{Draft}
use Rattle.sarif_deciding.specs.Results.{judged_all, seen_all, Seen}

pub seen_long : (ratings : List Rating) (lines files gone : List Bool)
    → length lines ≡ length ratings → length files ≡ length ratings → length gone ≡ length ratings
    → length (seen_all ratings lines files gone) ≡ length ratings
seen_long [] lines files gone l f g = refl
seen_long (r ∷ rs) [] files gone l f g = absurd (omega (arith, l))
seen_long (r ∷ rs) (line ∷ lines) [] gone l f g = absurd (omega (arith, f))
seen_long (r ∷ rs) (line ∷ lines) (file ∷ files) [] l f g = absurd (omega (arith, g))
seen_long (r ∷ rs) (line ∷ lines) (file ∷ files) (one ∷ gone) l f g =
    ap suc (seen_long rs lines files gone (omega (arith, l)) (omega (arith, f)) (omega (arith, g)))

pub judged_long : (rs : List Record) (states : List State) (drafts : List Draft) (seen : List Seen)
    → length states ≡ length rs → length drafts ≡ length rs → length seen ≡ length rs
    → length (judged_all rs states drafts seen) ≡ length rs
judged_long [] states drafts seen s d o = refl
judged_long (r ∷ rs) [] drafts seen s d o = absurd (omega (arith, s))
judged_long (r ∷ rs) (state ∷ states) [] seen s d o = absurd (omega (arith, d))
judged_long (r ∷ rs) (state ∷ states) (draft ∷ drafts) [] s d o = absurd (omega (arith, o))
judged_long (r ∷ rs) (state ∷ states) (draft ∷ drafts) (one ∷ seen) s d o =
    ap suc (judged_long rs states drafts seen (omega (arith, s)) (omega (arith, d)) (omega (arith, o)))
