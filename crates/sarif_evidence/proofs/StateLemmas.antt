-- What the tests of a state say.
use Rattle.std.proofs.Common.{◌≡◌, ℕ, Bool, true, false, cond, ◌&&◌, ◌==◌, refl, sym, ap, ◌∙◌, eq-eqb}
use Rattle.std.proofs.lemmas.Bool.{and_parts}
use Rattle.std.specs.Prelude.{Some}
use Rattle.std.proofs.lemmas.Bool.Decides.{Decides-eqb}
use Rattle.sarif_model.specs.declared.record.Record.{Record}
use Rattle.sarif_model.specs.declared.kinds.Kind.{Kind}
use Rattle.sarif_model.specs.declared.kinds.Kind.TheVariants.{Pass, Undecided, Informational, NotApplicable, Review, Fail}
use Rattle.sarif_model.specs.declared.kinds.Level.{Level}
use Rattle.sarif_model.specs.declared.kinds.Level.TheVariants.{NoLevel, Note, Warning, Error}
use Rattle.sarif_model.specs.declared.kinds.State.TheVariants.{Unchanged, Updated}
use Rattle.sarif_model.specs.Level.{severity}
use Rattle.sarif_evidence.specs.EqualParts.{message_eq, place_eq}
use Rattle.sarif_evidence.specs.State.{kind_number, is_unchanged, state_of, IsUnchanged}
use Rattle.sarif_evidence.proofs.EqualLemmas.{message_same, message_refl, place_same, place_refl}

-- the kind with this number
kind_at : ℕ → Kind
kind_at n =
    cond (n == 0) Pass (cond (n == 1) Undecided (cond (n == 2) Informational (cond (n == 3) NotApplicable (cond (n == 4) Review Fail))))

kind_at-number : (k : Kind) → kind_at (kind_number k) ≡ k
unfolding kind_at
kind_at-number Pass = refl
kind_at-number Undecided = refl
kind_at-number Informational = refl
kind_at-number NotApplicable = refl
kind_at-number Review = refl
kind_at-number Fail = refl

-- the level with this number
level_at : ℕ → Level
level_at n = cond (n == 0) NoLevel (cond (n == 1) Note (cond (n == 2) Warning Error))

level_at-number : (l : Level) → level_at (severity l) ≡ l
unfolding level_at
level_at-number NoLevel = refl
level_at-number Note = refl
level_at-number Warning = refl
level_at-number Error = refl

updated_is_no_unchanged : Updated ≡ Unchanged → false ≡ true
updated_is_no_unchanged e = cc

pub from_unchanged : (b : Bool) → cond b Unchanged Updated ≡ Unchanged → b ≡ true
from_unchanged true e = refl
from_unchanged false e = updated_is_no_unchanged e

pub unchanged_is_equal : (current partner : Record) → state_of current (Some partner) ≡ Unchanged → IsUnchanged current partner
unchanged_is_equal current partner e =
    let kinds = kind_number current.kind == kind_number partner.kind in
    let levels = severity current.level == severity partner.level in
    let messages = message_eq current.message partner.message in
    let places = place_eq current.place partner.place in
    let all = and_parts kinds (levels && (messages && places)) (from_unchanged (is_unchanged current partner) e) in
    let rest = and_parts levels (messages && places) all.1 in
    let last = and_parts messages places rest.1 in
    record {
      kind = sym (kind_at-number current.kind) ∙ ap kind_at ((Decides-eqb (kind_number current.kind) (kind_number partner.kind)).0 all.0)
          ∙ kind_at-number partner.kind;
      level = sym (level_at-number current.level) ∙ ap level_at ((Decides-eqb (severity current.level) (severity partner.level)).0 rest.0)
          ∙ level_at-number partner.level;
      message = message_same current.message partner.message last.0;
      place = place_same current.place partner.place last.1;
    }

pub equal_is_unchanged : (current partner : Record) → IsUnchanged current partner → state_of current (Some partner) ≡ Unchanged
equal_is_unchanged current partner h =
    let kinds : (kind_number current.kind == kind_number partner.kind) ≡ true =
    eq-eqb (kind_number current.kind) (kind_number partner.kind) (ap kind_number h.kind) in
    let levels : (severity current.level == severity partner.level) ≡ true = eq-eqb (severity current.level) (severity partner.level) (ap severity h.level) in
    let messages : message_eq current.message partner.message ≡ true = ap (message_eq current.message) (sym h.message) ∙ message_refl current.message in
    let places : place_eq current.place partner.place ≡ true = ap (place_eq current.place) (sym h.place) ∙ place_refl current.place in
    ap
    (λ (b : Bool). cond
    (b
    && ((severity current.level == severity partner.level)
    && (message_eq current.message partner.message && place_eq current.place partner.place))) Unchanged Updated) kinds
    ∙ ap (λ (b : Bool). cond (b && (message_eq current.message partner.message && place_eq current.place partner.place)) Unchanged Updated)
    levels ∙ ap (λ (b : Bool). cond (b && place_eq current.place partner.place) Unchanged Updated) messages
    ∙ ap (λ (b : Bool). cond b Unchanged Updated) places
