-- The ports of a pool are tried one after another.
use Rattle.std.specs.Prelude.{◌≡◌, ℕ, suc, ◌+◌, ◌-◌, Bool, true, find, Some, refl, unwrap_or}
use Rattle.std.specs.List.{range_with_len}
use Rattle.std.proofs.Common.{cond, ◌∙◌, ap, sym, arith}

module _ (passes : ℕ → Bool) (last : ℕ) where
  -- the first of n ports from this one on that passes, or the last of the pool
  abbrev first_of : ℕ → ℕ → ℕ
  first_of port n = unwrap_or (find passes (range_with_len port n)) last

  -- the first from this port on
  abbrev pub first_from : ℕ → ℕ
  first_from port = first_of port (last - port + 1)

  -- the port, if it passes, or else one after it
  or_after : ℕ → ℕ → Bool → ℕ
  or_after port n passed = unwrap_or (cond passed (Some port) (find passes (range_with_len (port + 1) n))) last

  next : (port n : ℕ) → first_of port (suc n) ≡ or_after port n (passes port)
  unfolding or_after
  next port n = refl

  begun : (port : ℕ) → first_from port ≡ or_after port (last - port) (passes port)
  begun port = let n : last - port + 1 ≡ suc (last - port) = omega arith in ap (first_of port) n ∙ next port (last - port)

  pub passes_here : (port : ℕ) → passes port ≡ true → port ≡ first_from port
  unfolding or_after
  passes_here port e = sym (begun port ∙ ap (or_after port (last - port)) e)
