use Rattle.std.proofs.Common.{◌≡◌, ◌<◌, ◌≤◌, ℕ, List, length, drop, None, refl, arith, rules}
use Rattle.std.proofs.lemmas.Bool.Decides.{nat_tests}
use Rattle.std.proofs.Math.ListN.{drop_of_length-le}
use Rattle.std.proofs.Math.Seq.{drop-cons}
use Rattle.pfl_doors.specs.Requests.{begins}
use Rattle.pfl_doors.proofs.request.begins.Goals as goal

-- bytes that end before the text say nothing
begins-short : (text bytes : List ℕ) (i : ℕ) → i < length text → length bytes ≤ i → begins (drop i text) (drop i bytes) ≡ None
begins-short text bytes i within over = rw (drop-cons text i 0 within, drop_of_length-le bytes over) refl

pub returns-in_err-get : goal.returns-in_err-get
returns-in_err-get c = let over : length c.args.bytes.now ≤ c.loop-index.index = grind (arith, nat_tests, c.in_err-get.ensures.lookup.0) in
    let none = begins-short c.args.text.now c.args.bytes.now c.loop-index.index c.loop-index-test.true over in search rules
