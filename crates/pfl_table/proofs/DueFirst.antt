-- Heads with when they are due: the first of them is the first of their entries.
use Rattle.std.specs.Prelude.{◌≡◌, ℕ, ◌==◌, ◌&&◌, ◌||◌, nat_lt, true, false, Option, Some, None, refl}
use Rattle.std.specs.Option.{option_map}
use Rattle.std.specs.Ordering.{is_lt}
use Rattle.std.proofs.Common.{cond, ◌∙◌, ap}
use Rattle.pfl_base.specs.Names.{name_cmp}
use Rattle.pfl_rules.specs.declared.adaptive.Adaptive.{Adaptive}
use Rattle.pfl_table.specs.declared.heads.DueHead.{DueHead}
use Rattle.pfl_table.specs.declared.keys.Expiry.{Expiry}
use Rattle.pfl_table.specs.inner.DueHeads.{is_before, earlier}
use Rattle.pfl_table.specs.inner.Heads.{entry_of}
use Rattle.pfl_table.specs.inner.Ordering.{due_at, due_before, name_in}
use Rattle.pfl_table.proofs.Earliest.{earlier as earlier_entry}

abbrev pub entry_due : DueHead → Expiry × ℕ
entry_due d = entry_of d.head

-- it is due when its timeout, scaled, has passed
abbrev pub IsTimed : Adaptive → ℕ → Option DueHead → Type 0
IsTimed a states None = Unit {0}
IsTimed a states (Some d) = d.at ≡ due_at a states d.head.key

module _ (a : Adaptive) (states : ℕ) where
  -- heads are compared as their entries are
  before-entries : (d e : DueHead) → d.at ≡ due_at a states d.head.key → e.at ≡ due_at a states e.head.key
      → is_before d e ≡ due_before a states d.head.key e.head.key
  before-entries d e here there =
      ap (λ n. nat_lt n e.at || ((n == e.at) && is_lt (name_cmp (name_in d.head.key) (name_in e.head.key)))) here
      ∙ ap (λ n. nat_lt (due_at a states d.head.key) n
      || ((due_at a states d.head.key == n) && is_lt (name_cmp (name_in d.head.key) (name_in e.head.key)))) there

  -- the earlier one is that of their entries
  pub earlier-entry : (first : Option DueHead) (d : DueHead) → IsTimed a states first → d.at ≡ due_at a states d.head.key
      → entry_due (earlier first d) ≡ earlier_entry a states (option_map entry_due first) (entry_due d)
  earlier-entry None d first here = refl
  earlier-entry (Some f) d first here =
      (elim (is_before f d) as (λ b. entry_due (cond b f d) ≡ cond b (entry_due f) (entry_due d)) [
        | true ↦ refl
        | false ↦ refl
      ])
      ∙ ap (λ b. cond b (entry_due f) (entry_due d)) (before-entries f d first here)

  -- and it is due when its timeout has passed
  pub earlier-timed : (first : Option DueHead) (d : DueHead) → IsTimed a states first → d.at ≡ due_at a states d.head.key
      → IsTimed a states (Some (earlier first d))
  earlier-timed None d first here = here
  earlier-timed (Some f) d first here = elim (is_before f d) as (λ b. (cond b f d).at ≡ due_at a states (cond b f d).head.key) [
    | true ↦ first
    | false ↦ here
  ]
