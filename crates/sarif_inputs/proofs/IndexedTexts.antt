-- What indexing strings one by one returns for all of them.
use Rattle.std.proofs.Common.{◌≡◌, ℕ, List, [], ◌∷◌, map, Result}
use Rattle.std.specs.Prelude.{Ok, Err, Some, None, IfOk, IfErr}
use Rattle.std.specs.List.{AllZip}
use Rattle.json.specs.Token.{Token}
use Rattle.json_parts.specs.declared.indexing.IndexFault.{IndexFault}
use Rattle.json_parts.specs.declared.indexing.IndexFault.TheVariants.{NotJson}
use Rattle.json_parts.specs.Indexed.{json_of, data_of}
use Rattle.json_parts.specs.Internal.Ordered.{IsOrdered}
use Rattle.sarif_inputs.specs.Internal.Together.{IsIndexed, AreIndexed}

pub indexed_by : (bytes : List ℕ) (r : Result (List Token) IndexFault)
    → IfOk r (λ found. json_of bytes ≡ Some (data_of found)) → IfOk r (λ found. IsOrdered (data_of found)) → IfErr r (λ e. e ≡ NotJson → json_of bytes ≡ None)
    → IsIndexed bytes r
indexed_by bytes (Ok found) ok ordered err = (ok, ordered)
indexed_by bytes (Err fault) ok ordered err = err

pub each_indexed : {J : Type 0} (bytes_in : J → List ℕ) (jobs : List J) (found : List (Result (List Token) IndexFault))
    → AllZip (λ job r. IsIndexed (bytes_in job) r) jobs found → AreIndexed (map bytes_in jobs) found
each_indexed bytes_in [] [] indexed = tt
each_indexed bytes_in [] (r ∷ found) indexed = absurd indexed
each_indexed bytes_in (job ∷ jobs) [] indexed = absurd indexed
each_indexed bytes_in (job ∷ jobs) (r ∷ found) indexed = (indexed.0, each_indexed bytes_in jobs found indexed.1)
