-- What a piece names.
use Rattle.std.specs.Prelude.{ℕ}
use Rattle.sarif_collect.specs.declared.piece.Piece.{Piece}
use Rattle.sarif_collect.specs.declared.piece.Piece.TheVariants.{Item, Close}

abbrev pub run_in : {T C : Type 0} → Piece T C → ℕ
run_in (Item run seq body) = run
run_in (Close run count tail) = run
