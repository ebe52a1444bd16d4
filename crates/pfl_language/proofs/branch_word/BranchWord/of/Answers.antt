use Rattle.std.proofs.Common.{◌≡◌, ◌≤◌, ℕ, List, ◌++◌, length, drop, replicate, refl, ◌∙◌, arith, length-append, length-drop}
use Rattle.std.proofs.lemmas.List.{drop-replicate}
use Rattle.std.proofs.Math.Seq.{drop-append_seam}
use Rattle.pfl_language.specs.BranchWords.{IsWord}
use Rattle.pfl_language.proofs.branch_word.BranchWord.of.Goals as goal

-- 32 zeros
abbrev zeros : List ℕ
zeros = replicate 32 0

-- a word before the zeros that are left
padded : (word : List ℕ) → length word ≤ 32 → IsWord (word ++ drop (length word) zeros) (length word)
padded word short =
    let all : length zeros ≡ 32 = refl in
    record {
      whole = omega (arith, all, length-append word (drop (length word) zeros), length-drop (length word) zeros);
      short = short;
      padded = drop-append_seam word (drop (length word) zeros) ∙ drop-replicate (length word) 32 0;
    }

pub invariant_of-result : goal.invariant_of-result
invariant_of-result c = rw c.copy_from_slice.ensures.after (padded c.args.bytes.now (omega arith))
