use Rattle.std.proofs.Common.{◌≡◌, Bor, option_map, bytes_eq, drop}
use Rattle.std.specs.HashSet.{contains}
use Rattle.sarif_model.specs.declared.text.Text.{Text}
use Rattle.sarif_request.specs.Names.{first_repeated, is_among}
use Rattle.sarif_request.proofs.repeated.first_repeated.Given as goal

-- the set has the names gone through, and the first of them that a later one repeats is known
abbrev pub invariant-loop-at : goal.invariant-loop-at
invariant-loop-at l = record {
  later : (q : Bor Text) → contains (λ x y. bytes_eq x.now y.now) l.later q ≡ is_among q.now (drop l.at l.names);
  repeated : option_map (λ name. name.now) l.repeated ≡ first_repeated (drop l.at l.names);
}
