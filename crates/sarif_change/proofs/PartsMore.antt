-- The pieces of a path, one by one, as a loop reads them.
use Rattle.std.proofs.Common.{◌≡◌, ℕ, true, false, List, [], ◌∷◌, ◌++◌, length, refl, ap, ◌∙◌, if◌then◌else◌}
use Rattle.std.proofs.lemmas.List.{append-nil, append_assoc}
use Rattle.sarif_change.specs.Parts.{pieces_of, parts_after_up, is_up, is_here, is_folder}
use Rattle.sarif_change.specs.Internal.Keys.{joined, part_key}
use Rattle.sarif_diff.proofs.PiecesMore.{none_left}

pub no_pieces : (turned : List ℕ) → length turned ≡ 0 → true ≡ is_folder (pieces_of turned)
no_pieces turned none = rw (none_left 47 turned none) refl

added : (key : List ℕ) (piece : List ℕ) (pieces : List (List ℕ)) → is_up piece ≡ false
    → (key ++ part_key piece) ++ joined (parts_after_up pieces) ≡ key ++ joined (parts_after_up (piece ∷ pieces))
unfolding parts_after_up
added key piece pieces not_up = rw not_up (
    (elim (is_here piece) as
    (λ t. (key ++ (if t then [] else piece ++ 47 ∷ [])) ++ joined (parts_after_up pieces)
    ≡ key ++ joined (if t then parts_after_up pieces else piece ∷ parts_after_up pieces)) [
      | true ↦ ap (λ k. k ++ joined (parts_after_up pieces)) (append-nil key)
      | false ↦ append_assoc key (piece ++ 47 ∷ []) (joined (parts_after_up pieces))
          ∙ ap (λ k. key ++ k) (append_assoc piece (47 ∷ []) (joined (parts_after_up pieces)))
    ]))

pub goes : (key rest piece after : List ℕ) → pieces_of rest ≡ piece ∷ pieces_of after → is_up piece ≡ false
    → (key ++ part_key piece) ++ joined (parts_after_up (pieces_of after)) ≡ key ++ joined (parts_after_up (pieces_of rest))
goes key rest piece after cut_here not_up = rw cut_here (added key piece (pieces_of after) not_up)

pub ends_up : (key rest piece after : List ℕ) → pieces_of rest ≡ piece ∷ pieces_of after → is_up piece ≡ true
    → key ++ joined (parts_after_up (pieces_of rest)) ≡ key
unfolding parts_after_up
ends_up key rest piece after cut_here up = rw (cut_here, up) (append-nil key)

pub at_end : (key rest : List ℕ) → length rest ≡ 0 → key ++ joined (parts_after_up (pieces_of rest)) ≡ key
unfolding parts_after_up
at_end key rest none = rw (none_left 47 rest none) (append-nil key)
