-- A word that is filled up is the array that it was read from.
use Rattle.std.specs.Prelude.{◌≡◌, ℕ, List, length, take, ◌-◌, ◌++◌, replicate}
use Rattle.std.proofs.Common.{arith, ap, sym, ◌∙◌}
use Rattle.std.proofs.lemmas.List.{length-take-le, take-append-drop}
use Rattle.pfl_language.specs.BranchWords.{IsWord, filled}

pub length-word : (bytes : List ℕ) (len : ℕ) → IsWord bytes len → length (take len bytes) ≡ len
length-word bytes len is = length-take-le len bytes (let whole = is.whole in let short = is.short in omega arith)

pub filled-word : (bytes : List ℕ) (len : ℕ) → IsWord bytes len → filled (take len bytes) ≡ bytes
filled-word bytes len is =
    ap (λ n. take len bytes ++ replicate (32 - n) 0) (length-word bytes len is)
    ∙ (ap (λ rest. take len bytes ++ rest) (sym is.padded) ∙ take-append-drop len bytes)
