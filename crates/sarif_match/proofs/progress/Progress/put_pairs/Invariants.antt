use Rattle.std.proofs.Common.{◌≡◌, length, drop}
use Rattle.sarif_match.specs.Internal.Fits.{Fits}
use Rattle.sarif_match.specs.Partners.{put_all}
use Rattle.sarif_match.specs.Internal.Progress.{IsSound}
use Rattle.sarif_match.proofs.progress.Progress.put_pairs.Given as goal

abbrev pub invariant-loop-i : goal.invariant-loop-i
invariant-loop-i l = record {
  sound : IsSound (length l.fn.self.partners.items) (length l.fn.self.taken.items) l.self;
  fits : Fits (length l.fn.self.taken.items) l.self.partners.items (drop l.i-index l.pairs);
  told : put_all l.self.partners.items (drop l.i-index l.pairs) ≡ put_all l.fn.self.partners.items l.pairs;
}
