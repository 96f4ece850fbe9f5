-- Room to count failed calls.
use Rattle.std.specs.Prelude.{◌<◌, ◌^◌}
use Rattle.std.specs.List.{All}
use Rattle.sarif_streams.specs.declared.readers.Readers.{Readers}
use Rattle.sarif_streams.specs.Counted.{failed_calls}
use Rattle.sarif_streams.specs.OptionalReader.{failed_calls_if}

-- one more failed call of each of these readers can be counted
pub record HaveRoom {R : Type 0} (readers : Readers R) : Type 0 where
  pub logs : All (λ reader. failed_calls reader < 2 ^ 63) readers.logs.items
  pub baselines : All (λ reader. failed_calls reader < 2 ^ 63) readers.baselines.items
  pub suppressions : failed_calls_if readers.suppressions < 2 ^ 63
  pub policy : failed_calls_if readers.policy < 2 ^ 63
  pub diff : failed_calls_if readers.diff < 2 ^ 63
