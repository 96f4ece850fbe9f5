-- A quoted name, byte by byte, as a loop reads it.
use Rattle.std.proofs.Common.{◌≡◌, ℕ, ◌+◌, ◌-◌, ◌<◌, ◌≤◌, List, [], ◌∷◌, ◌++◌, length, take, drop, get_or, Result, Ok, Err, refl, ap, ◌∙◌}
use Rattle.std.proofs.lemmas.List.{append-nil, append_assoc, drop_more, at_drop_all, take_rest}
use Rattle.sarif_diff.specs.declared.fault.LineFault.{LineFault}
use Rattle.sarif_diff.specs.declared.fault.LineFault.TheVariants.{BadHeader}
use Rattle.sarif_diff.specs.declared.quoted.Escape.{Escape}
use Rattle.sarif_diff.specs.declared.quoted.Escape.TheVariants.{Outside}
use Rattle.sarif_diff.specs.declared.quoted.Meaning.TheVariants.{Goes, Gives, Ends, Fails}
use Rattle.sarif_diff.specs.Name.{after_front, meaning_of, unquoted, with_front}

after_push : (front : List ℕ) (b : ℕ) (left : Result (List ℕ × List ℕ) LineFault) → after_front (front ++ b ∷ []) left ≡ after_front front (with_front b left)
after_push front b (Ok q) = ap (λ (name : List ℕ). Ok (name, q.1)) (append_assoc front (b ∷ []) q.0)
after_push front b (Err fault) = refl

pub begins : (text : List ℕ) → after_front [] (unquoted Outside text) ≡ unquoted Outside text
begins text = elim (unquoted Outside text) as (λ r. after_front [] r ≡ r) [ Ok q ↦ refl | Err fault ↦ refl ]

module _ (front rest : List ℕ) (escape : Escape) (byte : ℕ) where
  pub by_goes : (next : Escape) → Goes next ≡ meaning_of escape byte
      → after_front front (unquoted next rest) ≡ after_front front (unquoted escape (byte ∷ rest))
  unfolding unquoted
  by_goes next means = rw (← means) refl

  pub by_gives : (given : ℕ) → Gives given ≡ meaning_of escape byte
      → after_front (front ++ given ∷ []) (unquoted Outside rest) ≡ after_front front (unquoted escape (byte ∷ rest))
  unfolding unquoted
  by_gives given means = rw (← means) (after_push front given (unquoted Outside rest))

  pub by_ends : Ends ≡ meaning_of escape byte → after_front front (unquoted escape (byte ∷ rest)) ≡ Ok (front, rest)
  unfolding unquoted
  by_ends means = rw (← means, append-nil) refl

  pub by_fails : Fails ≡ meaning_of escape byte → after_front front (unquoted escape (byte ∷ rest)) ≡ Err BadHeader
  unfolding unquoted
  by_fails means = rw (← means) refl

module _ (front text : List ℕ) (i : ℕ) (escape : Escape) where
  left_of : i < length text → drop i text ≡ get_or text i 0 ∷ drop (i + 1) text
  left_of within = drop_more text i 0 within

  pub goes_on : (more : List ℕ) (next : Escape) → i < length text
      → ((rest : List ℕ) → after_front more (unquoted next rest) ≡ after_front front (unquoted escape (get_or text i 0 ∷ rest)))
      → after_front more (unquoted next (drop (i + 1) text)) ≡ after_front front (unquoted escape (drop i text))
  goes_on more next within step = step (drop (i + 1) text) ∙ rw (left_of within) refl

  pub ends : (whole : List ℕ) → i < length text
      → ((rest : List ℕ) → after_front front (unquoted escape (get_or text i 0 ∷ rest)) ≡ Ok (whole, rest))
      → after_front front (unquoted escape (drop i text)) ≡ Ok (whole, take (length text - (i + 1)) (drop (i + 1) text))
  ends whole within step = rw (left_of within, take_rest text (i + 1)) (step (drop (i + 1) text))

  pub stops : (fault : LineFault) → i < length text
      → ((rest : List ℕ) → after_front front (unquoted escape (get_or text i 0 ∷ rest)) ≡ Err fault)
      → after_front front (unquoted escape (drop i text)) ≡ Err fault
  stops fault within step = rw (left_of within) (step (drop (i + 1) text))

pub at_end : (front text : List ℕ) (i : ℕ) (escape : Escape) → length text ≤ i → after_front front (unquoted escape (drop i text)) ≡ Err BadHeader
unfolding unquoted
at_end front text i escape past =
    let none : drop i text ≡ [] = at_drop_all (λ bs. bs) text i past in
    rw none refl
