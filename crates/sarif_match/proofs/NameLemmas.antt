use Rattle.std.proofs.Common.{◌≡◌, ◌==◌, ℕ, ◌+◌, ◌<◌, suc, not, List, [], ◌∷◌, Ordering, length, get_or, drop, map, reverse, Bor, refl, sym, ap, ◌∙◌, add-one, arith}
use Rattle.std.proofs.Math.Seq.{drop-cons}
use Rattle.std.specs.Ordering.{nat_cmp, match_ordering}
use Rattle.std.specs.declared.cmp.Ordering.TheVariants.{Less, Equal, Greater}
use Rattle.std.specs.Cmp.Lexicographic.{slice_cmp}
use Rattle.std.specs.BTreeSet.{insert_key}
use Rattle.std.proofs.lemmas.Simd.{map-map}
use Rattle.indexmap.proofs.ReorderLemmas.{map-reverse}
use Rattle.sarif_match.specs.declared.tier.Tier.TheVariants.{Fingerprint, FingerprintHere}
use Rattle.sarif_evidence.specs.Seen.{filled}
use Rattle.std.proofs.lemmas.List.{map-append}
use Rattle.std.proofs.lemmas.List.Elements.{filter-append}
use Rattle.std.proofs.lemmas.List.Sums.{fold-append}
use Rattle.sarif_match.specs.Tiers.{with_names}

abbrev pub lent_cmp : Bor (List ℕ) → Bor (List ℕ) → Ordering
lent_cmp x y = slice_cmp nat_cmp x.now y.now

abbrev pub lent_names : List (Bor (List ℕ)) → List (List ℕ)
lent_names ks = map (λ k. k.now) ks

lent_names-match_ordering : (o : Ordering) (x y z : List (Bor (List ℕ)))
    → lent_names (match_ordering o x y z) ≡ match_ordering o (lent_names x) (lent_names y) (lent_names z)
lent_names-match_ordering Less x y z = refl
lent_names-match_ordering Equal x y z = refl
lent_names-match_ordering Greater x y z = refl

-- a borrowed name is added as the name itself is
pub lent_names-insert_key : (ks : List (Bor (List ℕ))) (k : Bor (List ℕ))
    → lent_names (insert_key lent_cmp ks k) ≡ insert_key (slice_cmp nat_cmp) (lent_names ks) k.now
lent_names-insert_key [] k = refl
lent_names-insert_key (x ∷ xs) k =
    lent_names-match_ordering (lent_cmp k x) (k ∷ (x ∷ xs)) (x ∷ xs) (x ∷ insert_key lent_cmp xs k)
    ∙ ap (λ (rest : List (List ℕ)). match_ordering (lent_cmp k x) (k.now ∷ (x.now ∷ lent_names xs)) (x.now ∷ lent_names xs) (x.now ∷ rest))
    (lent_names-insert_key xs k)

-- one more name is added
pub with_names-step : (old new : List (Bor (List ℕ))) (k : Bor (List ℕ)) (pairs : List (List ℕ × List ℕ)) (i : ℕ) (p : List ℕ × List ℕ)
    → p ≡ get_or pairs i p → i < length pairs → k.now ≡ p.0 → new ≡ insert_key lent_cmp old k
    → with_names (lent_names new) (map (λ pair. pair.0) (drop (i + 1) pairs))
    ≡ with_names (lent_names old) (map (λ pair. pair.0) (drop i pairs))
with_names-step old new k pairs i p here within named added =
    let rest : List (List ℕ) = map (λ (pair : List ℕ × List ℕ). pair.0) (drop (suc i) pairs) in
    let opened : map (λ (pair : List ℕ × List ℕ). pair.0) (drop i pairs) ≡ p.0 ∷ rest =
    ap (map (λ (pair : List ℕ × List ℕ). pair.0)) (drop-cons pairs i p within) ∙ sym (ap (λ (q : List ℕ × List ℕ). q.0 ∷ rest) here) in
    rw (add-one, added, lent_names-insert_key, named, opened)

-- the tiers of borrowed names, the greatest first
pub fingerprints-reverse : (ks : List (Bor (List ℕ))) → map (λ k. Fingerprint k.now) (reverse ks) ≡ map Fingerprint (reverse (lent_names ks))
fingerprints-reverse ks =
    sym (map-map Fingerprint (λ (k : Bor (List ℕ)). k.now) (reverse ks)) ∙ ap (map Fingerprint) (map-reverse (λ (k : Bor (List ℕ)). k.now) ks)

-- the tiers of borrowed names at one place, the greatest first
pub fingerprints_here-reverse : (ks : List (Bor (List ℕ))) → map (λ k. FingerprintHere k.now) (reverse ks) ≡ map FingerprintHere (reverse (lent_names ks))
fingerprints_here-reverse ks =
    sym (map-map FingerprintHere (λ (k : Bor (List ℕ)). k.now) (reverse ks)) ∙ ap (map FingerprintHere) (map-reverse (λ (k : Bor (List ℕ)). k.now) ks)

-- the names of filled fingerprints, one fingerprint at a time
pub filled_names-step : (old new : List (List ℕ)) (pairs : List (List ℕ × List ℕ)) (i : ℕ) (p : List ℕ × List ℕ) → p ≡ get_or pairs i p
    → i < length pairs → new ≡ with_names old (map (λ pair. pair.0) (filled (p ∷ [])))
    → with_names new (map (λ pair. pair.0) (filled (drop (i + 1) pairs))) ≡ with_names old (map (λ pair. pair.0) (filled (drop i pairs)))
filled_names-step old new pairs i p here within added =
    let name_of = λ (pair : List ℕ × List ℕ). pair.0 in
    let next : i + 1 ≡ suc i = omega arith in
    let rest : List (List ℕ × List ℕ) = drop (suc i) pairs in
    let opened : drop i pairs ≡ p ∷ rest = drop-cons pairs i p within ∙ ap (λ (q : List ℕ × List ℕ). q ∷ rest) (sym here) in
    ap (λ (n : ℕ). with_names new (map name_of (filled (drop n pairs)))) next
    ∙ ap (λ (ns : List (List ℕ)). with_names ns (map name_of (filled rest))) added
    ∙ sym (fold-append (insert_key (slice_cmp nat_cmp)) old (map name_of (filled (p ∷ []))) (map name_of (filled rest)))
    ∙ ap (with_names old) (sym (map-append name_of (filled (p ∷ [])) (filled rest)))
    ∙ ap (λ (l : List (List ℕ × List ℕ)). with_names old (map name_of l))
    (sym (filter-append (λ (member : List ℕ × List ℕ). not (length member.1 == 0)) (p ∷ []) rest))
    ∙ ap (λ (l : List (List ℕ × List ℕ)). with_names old (map name_of (filled l))) (sym opened)
