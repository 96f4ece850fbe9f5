-- Reading lists of values, and members of an object that may itself be absent.
use Rattle.std.specs.Prelude.{◌≡◌, ℕ, Bool, if◌then◌else◌, List, [], ◌++◌, codes, Option, Some, None, Result, Ok, Err}
use Rattle.serde_json.specs.Data.{Data}
use Rattle.sarif_model.specs.declared.kinds.Level.{Level}
use Rattle.sarif_model.specs.declared.fault.Fault.{Fault}
use Rattle.sarif_model.specs.declared.fault.Fault.TheVariants.{BadLevel}
use Rattle.sarif_model.specs.declared.refusal.Refusal.{Refusal}
use Rattle.sarif_model.specs.declared.refusal.Refusal.TheVariants as refusal
use Rattle.sarif_model.specs.Members.{member_at, of_kind, result_map}
use Rattle.sarif_members.specs.OwnMembers.{as_level}

-- the result of a call that allocates: the value, unless memory ran out
abbrev pub Gives : {X : Type 0} → Result X (Refusal Fault) → Result X Fault → Type 0
Gives (Ok x) told = told ≡ Ok x
Gives (Err e) told = (fault : Fault) → e ≡ refusal.Fault fault → told ≡ Err fault

-- the values so far, before those of the rest
abbrev pub before : {X E : Type 0} → List X → Result (List X) E → Result (List X) E
before done rest = result_map (λ xs. done ++ xs) rest

-- the list that is read from a value; empty if it is missing
abbrev pub list_if_there : {X E : Type 0}
    → (Data → Result (List X) E) → Option Data → Result (List X) E
list_if_there read None = Ok []
list_if_there read (Some d) = read d

-- `level`: one of the four strings
abbrev pub level_at : Data → Result (Option Level) Fault
level_at d = of_kind BadLevel as_level (member_at (codes "level") d)

-- the value at a key that keeps its first position
abbrev pub first_or : Option ℕ → Bool → ℕ → Option ℕ
first_or (Some place) here new = Some place
first_or None here new = if here then Some new else None
