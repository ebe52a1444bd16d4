-- Which rules the words of `kernel` stand for.
use Rattle.std.proofs.Common.{◌≡◌, ◌<◌, ℕ, List, [], ◌∷◌, length, ap, arith, ◌∙◌}
use Rattle.std.specs.Prelude.{Result, Ok, Err}
use Rattle.pfl_base.specs.declared.kernel.Kernel.{Kernel}
use Rattle.pfl_base.specs.Kernels.{rules_of_either}
use Rattle.pfl_lines.specs.declared.fault.LineFault.{LineFault}
use Rattle.pfl_lines.specs.Readings.{◌>>=◌, word_at}
use Rattle.pfl_lines.specs.Setup.{kernel_rules_of, kernel_with}

-- by what the first word stands for
with-first : (k : Kernel) (ws rest : List (List ℕ)) (word : List ℕ) → word_at ws ≡ Ok (word, rest)
    → kernel_with k ws ≡ (kernel_rules_of word >>= λ more. kernel_with (rules_of_either k more) rest)
with-first k [] rest word at = cc
with-first k (w ∷ ws) rest word at =
    let same : ◌≡◌ {A = List ℕ × List (List ℕ)} (w, ws) (word, rest) = cc in
    let first : w ≡ word = ap (λ (x : List ℕ × List (List ℕ)). x.0) same in
    let others : ws ≡ rest = ap (λ (x : List ℕ × List (List ℕ)). x.1) same in
    ap (λ (v : List ℕ). kernel_rules_of v >>= λ more. kernel_with (rules_of_either k more) ws) first
    ∙ ap (λ (vs : List (List ℕ)). kernel_rules_of word >>= λ more. kernel_with (rules_of_either k more) vs) others

-- after the first word there is one fewer
pub kernel-shorter : (ws rest : List (List ℕ)) (word : List ℕ) → word_at ws ≡ Ok (word, rest) → length rest < length ws
kernel-shorter [] rest word at = absurd (cc)
kernel-shorter (w ∷ ws) rest word at =
    let same : ◌≡◌ {A = List ℕ × List (List ℕ)} (w, ws) (word, rest) = cc in
    let others : length ws ≡ length rest = ap (λ (x : List ℕ × List (List ℕ)). length x.1) same in
    omega arith

pub kernel-stops : (k : Kernel) (ws rest : List (List ℕ)) (word : List ℕ) (e : LineFault) → word_at ws ≡ Ok (word, rest) → kernel_rules_of word ≡ Err e
    → kernel_with k ws ≡ Err e
kernel-stops k ws rest word e at fault =
    with-first k ws rest word at ∙ ap (λ (r : Result Kernel LineFault). r >>= λ more. kernel_with (rules_of_either k more) rest) fault

pub kernel-goes : (k more : Kernel) (ws rest : List (List ℕ)) (word : List ℕ) → word_at ws ≡ Ok (word, rest) → kernel_rules_of word ≡ Ok more
    → kernel_with k ws ≡ kernel_with (rules_of_either k more) rest
kernel-goes k more ws rest word at rules =
    with-first k ws rest word at ∙ ap (λ (r : Result Kernel LineFault). r >>= λ m. kernel_with (rules_of_either k m) rest) rules
