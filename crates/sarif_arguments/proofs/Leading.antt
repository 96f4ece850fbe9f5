-- What replaces the arguments so far, before the others.
use Rattle.std.proofs.Common.{◌≡◌, ◌∙◌, ◌∷◌, ◌++◌, ◌||◌, ◌<◌, ◌≤◌, ◌+◌, [], List, ℕ, Bool, false, refl, sym, ap, subst, append_assoc, append-nil, drop, get_or, length, map}
use Rattle.std.specs.Prelude.{Ok, Err}
use Rattle.std.specs.List.{list_any}
use Rattle.std.proofs.lemmas.List.{drop_all, drop_more}
use Rattle.sarif_model.specs.declared.refusal.Refusal.{Refusal}
use Rattle.sarif_model.specs.declared.refusal.Refusal.TheVariants as refusal
use Rattle.sarif_arguments.specs.declared.fault.ArgumentsFault.{ArgumentsFault}
use Rattle.sarif_arguments.specs.Reading.{Read}
use Rattle.sarif_arguments.specs.Replaced.{Arguments, HoldsForFault, StandFor, StandsFor, before, is_end}

-- the strings that are left at one, and after the last
pub left_at : {A : Type 0} (f : A → List ℕ) (xs : List A) (i : ℕ) (x : A) → i < length xs → x ≡ get_or xs i x
    → map f (drop i xs) ≡ f x ∷ map f (drop (i + 1) xs)
left_at f xs i x within is = ap (map f) (drop_more xs i x within) ∙ ap (λ y. f y ∷ map f (drop (i + 1) xs)) (sym is)

pub none_left : {A : Type 0} (f : A → List ℕ) (xs : List A) (i : ℕ) → length xs ≤ i → map f (drop i xs) ≡ []
none_left f xs i past = ap (map f) (drop_all i xs past)

before_none : (all : Arguments) → before [] all ≡ all
before_none (Ok words) = refl
before_none (Err fault) = refl

before_both : (xs ys : List (List ℕ)) (all : Arguments) → before xs (before ys all) ≡ before (xs ++ ys) all
before_both xs ys (Ok words) = ap Ok (sym (append_assoc xs ys words))
before_both xs ys (Err fault) = refl

-- these arguments, and then what replaces `words`, are what replaces all of `given`
abbrev pub Leads : (List ℕ → Read → Type 0) → Bool → List (List ℕ) → List (List ℕ) → List (List ℕ) → Type 0
Leads gives is_ended words done given =
    (rest : Arguments) → StandFor gives is_ended words rest → StandFor gives false given (before done rest)

module _ (gives : List ℕ → Read → Type 0) (given : List (List ℕ)) where
  pub leads_first : Leads gives false given [] given
  leads_first rest stand = subst (StandFor gives false given) (sym (before_none rest)) stand

  pub leads_on : (is_ended : Bool) (word : List ℕ) (words done more : List (List ℕ))
      → Leads gives is_ended (word ∷ words) done given → StandsFor gives is_ended word (Ok more)
      → Leads gives (is_ended || list_any is_end more) words (done ++ more) given
  leads_on is_ended word words done more leads stands rest stand =
      subst (StandFor gives false given) (before_both done more rest) (leads (before more rest) (Ok more, stands, (rest, stand, refl)))

  pub leads_last : (is_ended : Bool) (done : List (List ℕ)) → Leads gives is_ended [] done given → StandFor gives false given (Ok done)
  leads_last is_ended done leads =
      subst (λ (words : List (List ℕ)). StandFor gives false given (Ok words)) (append-nil done) (leads (Ok []) refl)

  pub leads_nowhere : (is_ended : Bool) (word : List ℕ) (words done : List (List ℕ)) (fault : ArgumentsFault)
      → Leads gives is_ended (word ∷ words) done given → StandsFor gives is_ended word (Err fault)
      → StandFor gives false given (Err fault)
  leads_nowhere is_ended word words done fault leads stands = leads (Err fault) (Err fault, stands, refl)

  pub leads_refused : (is_ended : Bool) (word : List ℕ) (words done : List (List ℕ)) (found : Refusal ArgumentsFault)
      → Leads gives is_ended (word ∷ words) done given → HoldsForFault (StandsFor gives is_ended word) found
      → HoldsForFault (StandFor gives false given) found
  leads_refused is_ended word words done (refusal.Fault fault) leads stands = leads_nowhere is_ended word words done fault leads stands
  leads_refused is_ended word words done refusal.OutOfMemory leads stands = tt
