-- Whether some arguments are left.
use Rattle.std.proofs.Common.{◌≡◌, ◌==◌, ◌∷◌, [], List, ℕ, true, false, true≢false, refl, sym, length, map, string_bytes, arith}
use Rattle.std.specs.Prelude.{Ok, Err, Result, Vec, String}
use Rattle.sarif_model.specs.declared.refusal.Refusal.{Refusal}
use Rattle.sarif_model.specs.declared.refusal.Refusal.TheVariants as refusal
use Rattle.sarif_arguments.specs.declared.fault.ArgumentsFault.{ArgumentsFault}
use Rattle.sarif_arguments.specs.declared.fault.ArgumentsFault.TheVariants.{NoneLeft}
use Rattle.sarif_arguments.specs.Reading.{Read}
use Rattle.sarif_arguments.specs.Replaced.{AreReplaced, IfDone, HoldsForFault, StandFor, some_left}

pub some_stay : {A B : Type 0} (f : A → List ℕ) (g : B → List ℕ) (words : List A) (all : List B)
    → (length all == 0) ≡ false → some_left (map f words) (Ok (map g all)) ≡ Ok (map g all)
some_stay f g [] all some = refl
some_stay f g (word ∷ words) [] some = absurd (true≢false some)
some_stay f g (word ∷ words) (first ∷ all) some = refl

pub none_given : {A B : Type 0} (f : A → List ℕ) (g : B → List ℕ) (words : List A) (all : List B)
    → (length words == 0) ≡ true → some_left (map f words) (Ok (map g all)) ≡ Ok (map g all)
none_given f g [] all none = refl
none_given f g (word ∷ words) all none = absurd (grind (arith, none))

pub none_stay : {A B : Type 0} (f : A → List ℕ) (g : B → List ℕ) (words : List A) (all : List B)
    → (length words == 0) ≡ false → (length all == 0) ≡ true → some_left (map f words) (Ok (map g all)) ≡ Err NoneLeft
none_stay f g [] all some none = absurd (true≢false some)
none_stay f g (word ∷ words) [] some none = refl
none_stay f g (word ∷ words) (first ∷ all) some none = absurd (grind (arith, none))

pub fault_stays : (words : List (List ℕ)) (fault : ArgumentsFault) → some_left words (Err fault) ≡ Err fault
fault_stays [] fault = refl
fault_stays (word ∷ words) fault = refl

-- what follows from a fact about the result of a call
pub done : {F A B : Type 0} (P Q : Result (List (List ℕ)) F → Type 0) → ((all : Result (List (List ℕ)) F) → P all → Q all)
    → (r : Result (Vec (String A) B) (Refusal F)) → IfDone P r → IfDone Q r
done P Q so (Ok words) is = so (Ok (map string_bytes words.items)) is
done P Q so (Err (refusal.Fault fault)) is = so (Err fault) is
done P Q so (Err refusal.OutOfMemory) is = tt

pub refused : (gives : List ℕ → Read → Type 0) (words : List (List ℕ)) (found : Refusal ArgumentsFault)
    → HoldsForFault (StandFor gives false words) found → HoldsForFault (AreReplaced gives words) found
refused gives words (refusal.Fault fault) stand = (Err fault, stand, sym (fault_stays words fault))
refused gives words refusal.OutOfMemory stand = tt
