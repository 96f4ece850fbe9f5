-- The location of a result, by the object that its first location is.
use Rattle.std.proofs.Common.{◌≡◌, Result, Ok, Err, codes, refl}
use Rattle.serde_json.specs.Data.{Data}
use Rattle.sarif_model.specs.declared.fault.Fault.{Fault}
use Rattle.sarif_model.specs.declared.fault.Fault.TheVariants.{BadLocation}
use Rattle.sarif_model.specs.Members.{◌>>=◌, text_at, object_at, elements_at, if_there, first_of, if_object}
use Rattle.sarif_members.specs.OwnMembers.{index_within, own_location}

both_steps : {A B C : Type 0} (r : Result A Fault) (f : A → Result B Fault) (g : B → Result C Fault)
    → (r >>= λ x. f x >>= g) ≡ ((r >>= f) >>= g)
both_steps (Ok x) f g = refl
both_steps (Err e) f g = refl

pub located : (d : Data)
    → own_location d
    ≡ ((elements_at BadLocation (codes "locations") d >>= λ ds. if_object BadLocation (first_of ds))
    >>= λ first. if_there (object_at BadLocation (codes "physicalLocation")) first
    >>= λ physical. if_there (object_at BadLocation (codes "artifactLocation")) physical
    >>= λ artifact. if_there (text_at BadLocation (codes "uri")) artifact
    >>= λ uri. if_there (text_at BadLocation (codes "uriBaseId")) artifact
    >>= λ base. index_within (codes "index") artifact
    >>= λ index. Ok (record { uri = uri; base = base; artifact = index }))
unfolding own_location
located d = both_steps (elements_at BadLocation (codes "locations") d) _ _
