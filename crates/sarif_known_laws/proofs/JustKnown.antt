-- Exactly the results that don't stay out become known.
use Rattle.std.proofs.Common.{◌≡◌, ◌∙◌, ◌⊎◌, inl, inr, Bool, true, false, not, ◌&&◌, ◌||◌, List, ◌∷◌, refl, ap}
use Rattle.sarif_model.specs.declared.record.Record.{Record}
use Rattle.sarif_model.specs.declared.kinds.State.{State}
use Rattle.sarif_model.specs.declared.kinds.State.TheVariants.{New, Unchanged, Updated, Absent}
use Rattle.sarif_options.specs.declared.policy.Policy.{Policy}
use Rattle.sarif_entries.specs.File.{File}
use Rattle.sarif_suppress.specs.Suppressing.{is_suppressed, lasting}
use Rattle.sarif_known_laws.specs.JustKnown.{StaysOut}
use Rattle.sarif_known.specs.Selected.{is_left_out, is_new, keep_unless, known_of, may_be_new, would_hit}
use Rattle.sarif_known.specs.declared.standing.Standing.{Standing}

or_true : (b : Bool) → (b || true) ≡ true
or_true true = refl
or_true false = refl

-- each side, with booleans instead of its tests
out_if : (now later adopt fresh hit : Bool) → ((now ≡ true) × (later ≡ false)) ⊎ ((adopt ≡ false) × (fresh ≡ true) × ((now ≡ true) ⊎ (hit ≡ true)))
    → ((now && not later) || (not adopt && (fresh && (now || hit)))) ≡ true
out_if now later adopt fresh hit (inl why) = rw (why.0, why.1) refl
out_if now later adopt fresh hit (inr (kept, is, inl held)) = rw (kept, is, held) (or_true (not later))
out_if now later adopt fresh hit (inr (kept, is, inr hits)) = rw (kept, is, hits) (ap (λ b. (now && not later) || b) (or_true now) ∙ or_true (now && not later))

in_if : (now later adopt fresh hit : Bool) → (((now ≡ true) × (later ≡ false)) ⊎ ((adopt ≡ false) × (fresh ≡ true) × ((now ≡ true) ⊎ (hit ≡ true))) → ⊥)
    → ((now && not later) || (not adopt && (fresh && (now || hit)))) ≡ false
in_if true false adopt fresh hit none = absurd (none (inl (refl, refl)))
in_if true true true fresh hit none = refl
in_if true true false true hit none = absurd (none (inr (refl, refl, inl refl)))
in_if true true false false hit none = refl
in_if false later true fresh hit none = refl
in_if false later false false hit none = refl
in_if false later false true true none = absurd (none (inr (refl, refl, inr refl)))
in_if false later false true false none = refl

may_be : (s : Standing) → (s.state ≡ New) ⊎ (s.doubtful ≡ true) → may_be_new s ≡ true
may_be s (inl fresh) = ap (λ state. is_new state || s.doubtful) fresh
may_be s (inr doubtful) = ap (λ b. is_new s.state || b) doubtful ∙ or_true (is_new s.state)

new_or : (state : State) (doubtful : Bool) → (is_new state || doubtful) ≡ true → (state ≡ New) ⊎ (doubtful ≡ true)
new_or New doubtful is = inl refl
new_or Unchanged doubtful is = inr is
new_or Updated doubtful is = inr is
new_or Absent doubtful is = inr is

module _ (file : File) (policy : Policy) (adopt : Bool) (r : Record) (s : Standing) where
  left_out : StaysOut file policy adopt r s → is_left_out file policy adopt r s ≡ true
  left_out (inl why) =
      out_if (is_suppressed file r) (is_suppressed (lasting file) r) adopt (may_be_new s) (would_hit policy r s) (inl (why.now, why.later))
  left_out (inr why) = out_if (is_suppressed file r) (is_suppressed (lasting file) r) adopt (may_be_new s) (would_hit policy r s)
      (inr (why.adopted, may_be s why.fresh, why.stops))

  taken : (StaysOut file policy adopt r s → ⊥) → is_left_out file policy adopt r s ≡ false
  taken none = in_if (is_suppressed file r) (is_suppressed (lasting file) r) adopt (may_be_new s) (would_hit policy r s) by
    where
      by : ((is_suppressed file r ≡ true) × (is_suppressed (lasting file) r ≡ false)) ⊎
          ((adopt ≡ false) × (may_be_new s ≡ true) × ((is_suppressed file r ≡ true) ⊎ (would_hit policy r s ≡ true))) → ⊥
      by (inl (now, later)) = none (inl (record { now = now; later = later }))
      by (inr (adopted, fresh, stops)) = none (inr (record { adopted = adopted; fresh = new_or s.state s.doubtful fresh; stops = stops }))

pub not_known : (file : File) (policy : Policy) (adopt : Bool) (r : Record) (rs : List Record) (s : Standing) (standings : List Standing)
    → StaysOut file policy adopt r s → known_of file policy adopt (r ∷ rs) (s ∷ standings) ≡ known_of file policy adopt rs standings
not_known file policy adopt r rs s standings out =
    ap (λ b. keep_unless b r (known_of file policy adopt rs standings)) (left_out file policy adopt r s out)

pub becomes_known : (file : File) (policy : Policy) (adopt : Bool) (r : Record) (rs : List Record) (s : Standing) (standings : List Standing)
    → (StaysOut file policy adopt r s → ⊥) → known_of file policy adopt (r ∷ rs) (s ∷ standings) ≡ r ∷ known_of file policy adopt rs standings
becomes_known file policy adopt r rs s standings none =
    ap (λ b. keep_unless b r (known_of file policy adopt rs standings)) (taken file policy adopt r s none)
