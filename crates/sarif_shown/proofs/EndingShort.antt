-- The length of what follows the verdict.
use Rattle.std.proofs.Common.{◌<◌, ◌≤◌, ◌+◌, ◌^◌, ◌==◌, ◌++◌, ℕ, Bool, true, false, List, codes, decimal, length, length-append, if◌then◌else◌, arith}
use Rattle.std.proofs.lemmas.Fmt.{length-decimal-le}
use Rattle.sarif_shown.specs.Sentences.{conditions_end, counted, gate_end, hits_text}

two : (m n : ℕ) (a b : List ℕ) → length a ≤ m → length b ≤ n → length (a ++ b) ≤ m + n
two m n a b first second = let whole = length-append a b in omega (arith, first, second, whole)

ten : (n : ℕ) → n < 2 ^ 32 → length (decimal n) ≤ 10
ten n h = length-decimal-le 10 n (omega arith) (omega (arith, h)) (omega (arith, h))

twenty : (n : ℕ) → n < 2 ^ 64 → length (decimal n) ≤ 20
twenty n h = length-decimal-le 20 n (omega arith) (omega (arith, h)) h

noun_few : (b : Bool) (k : ℕ) (one more : List ℕ) → length one ≤ k → length more ≤ k → length (if b then one else more) ≤ k
noun_few true k one more first second = first
noun_few false k one more first second = second

counted_few : (k n : ℕ) (one more : List ℕ) → n < 2 ^ 64 → length one ≤ k → length more ≤ k → length (counted n one more) ≤ 20 + k
counted_few k n one more h first second = two 20 k (decimal n) _ (twenty n h) (noun_few (n == 1) k one more first second)

hits_few : (hits : ℕ) → hits < 2 ^ 64 → length (hits_text hits) ≤ 25
hits_few hits h = counted_few 5 hits (codes " hit") (codes " hits") h (omega arith) (omega arith)

pub end_few : (hits max : ℕ) → hits < 2 ^ 64 → max < 2 ^ 32 → length (gate_end hits max) ≤ 47
end_few hits max h m =
    two 2 45 (codes ", ") (hits_text hits ++ (codes ", " ++ (decimal max ++ codes " allowed"))) (omega arith)
    (two 25 20 (hits_text hits) (codes ", " ++ (decimal max ++ codes " allowed")) (hits_few hits h)
    (two 2 18 (codes ", ") (decimal max ++ codes " allowed") (omega arith) (two 10 8 (decimal max) (codes " allowed") (ten max m) (omega arith))))

all_few : (all : ℕ) → all < 2 ^ 64 → length (counted all (codes " condition failed") (codes " conditions failed")) ≤ 38
all_few all a = counted_few 18 all (codes " condition failed") (codes " conditions failed") a (omega arith) (omega arith)

pub conditions_few : (hits failed all : ℕ) → hits < 2 ^ 32 → failed < 2 ^ 64 → all < 2 ^ 64 → length (conditions_end hits failed all) ≤ 81
conditions_few hits failed all h f a =
    let of_all : List ℕ = counted all (codes " condition failed") (codes " conditions failed") in
    two 2 79 (codes ", ") (hits_text hits ++ (codes ", " ++ (decimal failed ++ (codes " of " ++ of_all)))) (omega arith)
    (two 15 64 (hits_text hits) (codes ", " ++ (decimal failed ++ (codes " of " ++ of_all)))
    (two 10 5 (decimal hits) _ (ten hits h) (noun_few (hits == 1) 5 (codes " hit") (codes " hits") (omega arith) (omega arith)))
    (two 2 62 (codes ", ") (decimal failed ++ (codes " of " ++ of_all)) (omega arith)
    (two 20 42 (decimal failed) (codes " of " ++ of_all) (twenty failed f)
    (two 4 38 (codes " of ") of_all (omega arith) (all_few all a)))))
