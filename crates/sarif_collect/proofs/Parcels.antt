-- Lists of pieces and parcels.
use Rattle.std.proofs.Common.{◌≡◌, ℕ, ◌+◌, Bool, List, [], ◌∷◌, ◌++◌, map, refl, sym, ap, ◌∙◌, arith, append_assoc, append-nil, zero-add, add-zero}
use Rattle.std.specs.List.{range_with_len}
use Rattle.std.proofs.lemmas.List.{map-append}
use Rattle.std.proofs.lemmas.List.FromFn.{map-range_with_len_more}
use Rattle.sarif_collect.specs.declared.piece.Piece.{Piece}
use Rattle.sarif_collect.specs.declared.piece.Piece.TheVariants.{Item}
use Rattle.sarif_collect.specs.declared.piece.Parcel.{Parcel}
use Rattle.sarif_collect.specs.declared.piece.Parcel.TheVariants.{Carry, End}
use Rattle.sarif_collect.specs.Pieces.{carried, ends_in, parcels_in}
use Rattle.sarif_collect.specs.Held.{Held}
use Rattle.sarif_collect.specs.Collecting.{with_piece, all_after}

module _ {T C : Type 0} where
  -- one more item of a run
  pub one_more : (run : ℕ) (item : ℕ → T) (s : List (Parcel T C)) (n : ℕ) (body : T) → body ≡ item n
      → (s ++ map Carry (map (λ q. Item run q (item q)) (range_with_len 0 n))) ++ Carry (Item run n body) ∷ []
      ≡ s ++ map Carry (map (λ q. Item run q (item q)) (range_with_len 0 (n + 1)))
  one_more run item s n body is =
      let f : ℕ → Piece T C = λ q. Item run q (item q) in
      append_assoc s (map Carry (map f (range_with_len 0 n))) (Carry (Item run n body) ∷ [])
      ∙ ap (λ l. s ++ l)
      (ap (λ b. map Carry (map f (range_with_len 0 n)) ++ Carry (Item run n b) ∷ []) is
      ∙ sym (map-append Carry (map f (range_with_len 0 n)) (f n ∷ []))
      ∙ ap (map Carry) (sym (map-range_with_len_more f 0 n n (zero-add n))))

  pub carried-append : (a b : List (Parcel T C)) → carried (a ++ b) ≡ carried a ++ carried b
  carried-append [] b = refl
  carried-append (Carry p ∷ a) b = ap (λ l. p ∷ l) (carried-append a b)
  carried-append (End s ∷ a) b = carried-append a b

  pub ends_in-append : (a b : List (Parcel T C)) → ends_in (a ++ b) ≡ ends_in a + ends_in b
  ends_in-append [] b = omega arith
  ends_in-append (Carry p ∷ a) b = ends_in-append a b
  ends_in-append (End s ∷ a) b = let h = ends_in-append a b in omega arith

  -- one more received parcel
  pub carried_push : (h : List (ℕ × Parcel T C)) (x : ℕ × Parcel T C) (p : Piece T C) → x.1 ≡ Carry p
      → carried (parcels_in (h ++ x ∷ [])) ≡ carried (parcels_in h) ++ p ∷ []
  carried_push h x p is = ap carried (map-append (λ e. e.1) h (x ∷ [])) ∙ carried-append (parcels_in h) (x.1 ∷ [])
      ∙ ap (λ q. carried (parcels_in h) ++ carried (q ∷ [])) is

  pub carried_end : (h : List (ℕ × Parcel T C)) (x : ℕ × Parcel T C) (s : Bool) → x.1 ≡ End s → carried (parcels_in (h ++ x ∷ [])) ≡ carried (parcels_in h)
  carried_end h x s is = ap carried (map-append (λ e. e.1) h (x ∷ [])) ∙ carried-append (parcels_in h) (x.1 ∷ [])
      ∙ ap (λ q. carried (parcels_in h) ++ carried (q ∷ [])) is ∙ append-nil (carried (parcels_in h))

  pub ends_push : (h : List (ℕ × Parcel T C)) (x : ℕ × Parcel T C) (p : Piece T C) → x.1 ≡ Carry p → ends_in (parcels_in (h ++ x ∷ [])) ≡ ends_in (parcels_in h)
  ends_push h x p is = ap ends_in (map-append (λ e. e.1) h (x ∷ [])) ∙ ends_in-append (parcels_in h) (x.1 ∷ [])
      ∙ ap (λ q. ends_in (parcels_in h) + ends_in (q ∷ [])) is ∙ add-zero (ends_in (parcels_in h))

  pub ends_end : (h : List (ℕ × Parcel T C)) (x : ℕ × Parcel T C) (s : Bool) → x.1 ≡ End s → ends_in (parcels_in (h ++ x ∷ [])) ≡ ends_in (parcels_in h) + 1
  ends_end h x s is = ap ends_in (map-append (λ e. e.1) h (x ∷ [])) ∙ ends_in-append (parcels_in h) (x.1 ∷ [])
      ∙ ap (λ q. ends_in (parcels_in h) + ends_in (q ∷ [])) is

  pub all_after_push : (runs : List (Held T C)) (pieces : List (Piece T C)) (p : Piece T C)
      → all_after runs (pieces ++ p ∷ []) ≡ with_piece (all_after runs pieces) p
  all_after_push runs [] p = refl
  all_after_push runs (q ∷ pieces) p = all_after_push (with_piece runs q) pieces p
