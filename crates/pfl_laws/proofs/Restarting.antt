-- A restart: the node has no states and no held packets, and its names begin anew in a boot of their own.
use Rattle.std.specs.Prelude.{◌≡◌, ℕ, Option, Some, None, is_some, refl}
use Rattle.std.proofs.Common.{◌∙◌, T, ap, sym, subst}
use Rattle.pfl_base.specs.declared.state_name.StateName.{StateName}
use Rattle.pfl_base.specs.Names.{name_cmp}
use Rattle.pfl_edits.specs.Maps as maps
use Rattle.pfl_edits.proofs.ForCallers.{get-empty, some_is_none}
use Rattle.pfl_world.specs.track.declared.state.State.{State}
use Rattle.pfl_world.specs.table.Tables.{AreStates}
use Rattle.pfl_world.specs.desk.Nodes.{Node}
use Rattle.pfl_world.specs.node.Events.{restarted}
use Rattle.pfl_laws.specs.Laws.{HasState, IsTied}
use Rattle.pfl_laws.proofs.Tied.{waits}
use Rattle.pfl_laws.proofs.Waiting.{AreGiven}

pub restarted-none : (n : Node) (boot : ℕ) (q : StateName) → maps.get (restarted n boot).states q ≡ None
unfolding restarted
restarted-none n boot q = get-empty name_cmp q

nothing : (n : Node) (boot : ℕ) (q : StateName) (s : State) → maps.get (restarted n boot).states q ≡ Some s → ⊥
nothing n boot q s at = absurd (some_is_none s (sym at ∙ restarted-none n boot q))

pub restarted-has_none : (n : Node) (boot : ℕ) (q : StateName) → HasState q (restarted n boot) → ⊥
restarted-has_none n boot q has = absurd (subst T (sym has ∙ ap (λ (o : Option State). is_some o) (restarted-none n boot q)) tt)

pub restarted-apart : (n : Node) (boot : ℕ) → AreStates (restarted n boot).states
restarted-apart n boot = record {
  filed = λ q s at. absurd (nothing n boot q s at);
  one_wire = λ q o s t at there same. absurd (nothing n boot q s at);
  one_stack = λ q o s t at there same. absurd (nothing n boot q s at);
}

pub restarted-given : (n : Node) (boot : ℕ) → AreGiven (restarted n boot)
restarted-given n boot q s at = absurd (nothing n boot q s at)

pub restarted-tied : (n : Node) (boot : ℕ) → IsTied (restarted n boot)
unfolding restarted
restarted-tied n boot q = sym (ap waits (restarted-none n boot q))

pub restarted-creator : (n : Node) (boot : ℕ) → (restarted n boot).creator ≡ boot
unfolding restarted
restarted-creator n boot = refl
