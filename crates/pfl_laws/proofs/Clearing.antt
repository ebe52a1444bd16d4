-- A purge, a kill and a clear: states go with their held packets, and nothing else changes of what the laws speak of.
use Rattle.std.specs.Prelude.{◌≡◌, ◌⊎◌, [], ◌∷◌, Option, Some, None, refl}
use Rattle.std.specs.Option.{option_map_or}
use Rattle.std.proofs.Common.{◌∙◌, ap, sym, inl, inr}
use Rattle.pfl_base.specs.declared.state_name.StateName.{StateName}
use Rattle.pfl_base.proofs.ForCallers.{names_total, names_exact}
use Rattle.pfl_edits.specs.Maps as maps
use Rattle.pfl_edits.proofs.ForCallers.{key_cases}
use Rattle.pfl_world.specs.track.declared.state.State.{State}
use Rattle.pfl_world.specs.table.Tables.{AreStates}
use Rattle.pfl_world.specs.defer.declared.Held.{Held}
use Rattle.pfl_world.specs.desk.Nodes.{Node}
use Rattle.pfl_world.specs.desk.Changes.{deleted, forgotten}
use Rattle.pfl_world.specs.node.Clearing.{cleared}
use Rattle.pfl_world.specs.node.Killing.{killed}
use Rattle.pfl_world.specs.node.Purging.{purged, expired_states}
use Rattle.pfl_laws.specs.Laws.{IsTied, Holds}
use Rattle.pfl_laws.proofs.Following.{Alike, Alike-itself, Filed}
use Rattle.pfl_laws.proofs.Keeping.{Keeps, keeps-itself, on_some, deleted-keeps}
use Rattle.pfl_laws.proofs.Tied.{tied-some, tied-deleted}
use Rattle.pfl_laws.proofs.Removing.{deleted-removes, forgotten-removes, removed-none, removed-holds, all-keep, all-apart, all-tied, all-let}

-- ---- a purge

pub purged-keeps : (q : StateName) (n : Node) → Keeps Alike q n (purged n)
unfolding purged
purged-keeps q n = all-keep deleted (λ (s : State). s.name) deleted-removes q (expired_states n) n

pub purged-apart : (n : Node) → AreStates n.states → AreStates (purged n).states
unfolding purged
purged-apart n are = all-apart deleted (λ (s : State). s.name) deleted-removes (expired_states n) n are

pub purged-tied : (n : Node) → IsTied n → IsTied (purged n)
unfolding purged
purged-tied n tied = all-tied deleted (λ (s : State). s.name) deleted-removes (expired_states n) n tied

pub purged-lets : (n : Node) (h : Held) → Holds n h → Holds (purged n) h ⊎ (maps.get (purged n).states h.name ≡ None)
unfolding purged
purged-lets n h holds = all-let deleted (λ (s : State). s.name) deleted-removes (expired_states n) n h holds

-- ---- a kill

pub killed-keeps : (q : StateName) (n : Node) (name : StateName) → Keeps Alike q n (killed n name)
killed-keeps q n name = on_some Alike q n (maps.get n.states name) (deleted n) n (λ s at. deleted-keeps q n s) (keeps-itself Alike q n Alike-itself)

pub killed-apart : (n : Node) (name : StateName) → AreStates n.states → AreStates (killed n name).states
killed-apart n name are = by (maps.get n.states name)
  where
    by : (o : Option State) → AreStates (option_map_or (deleted n) o n).states
    by None = are
    by (Some s) = all-apart deleted (λ (t : State). t.name) deleted-removes (s ∷ []) n are

pub killed-tied : (n : Node) (name : StateName) → IsTied n → IsTied (killed n name)
killed-tied n name tied = tied-some (maps.get n.states name) (deleted n) n (λ s at. tied-deleted n s tied) tied

-- a packet is let go with the state of its own name alone
pub killed-lets : (n : Node) (name : StateName) (h : Held) → Filed n.states → Holds n h → Holds (killed n name) h
    ⊎ ((name ≡ h.name) × (maps.get (killed n name).states h.name ≡ None))
killed-lets n name h filed holds = by (maps.get n.states name) refl
  where
    by : (o : Option State) → maps.get n.states name ≡ o
        → Holds (option_map_or (deleted n) o n) h ⊎ ((name ≡ h.name) × (maps.get (option_map_or (deleted n) o n).states h.name ≡ None))
    by None e = inl holds
    by (Some s) e = elim (key_cases names_total names_exact h.name s.name) [
      | inl same ↦ inr (sym (same ∙ filed name s e), ap (maps.get (deleted n s).states) same ∙ removed-none n (deleted n s) s.name (deleted-removes n s))
      | inr other ↦ inl (removed-holds n (deleted n s) s.name h (deleted-removes n s) other holds)
    ]

-- ---- a clear

pub cleared-keeps : (q : StateName) (n : Node) → Keeps Alike q n (cleared n)
unfolding cleared
cleared-keeps q n = all-keep forgotten (λ (name : StateName). name) forgotten-removes q (maps.keys n.states) n

pub cleared-apart : (n : Node) → AreStates n.states → AreStates (cleared n).states
unfolding cleared
cleared-apart n are = all-apart forgotten (λ (name : StateName). name) forgotten-removes (maps.keys n.states) n are

pub cleared-tied : (n : Node) → IsTied n → IsTied (cleared n)
unfolding cleared
cleared-tied n tied = all-tied forgotten (λ (name : StateName). name) forgotten-removes (maps.keys n.states) n tied

pub cleared-lets : (n : Node) (h : Held) → Holds n h → Holds (cleared n) h ⊎ (maps.get (cleared n).states h.name ≡ None)
unfolding cleared
cleared-lets n h holds = all-let forgotten (λ (name : StateName). name) forgotten-removes (maps.keys n.states) n h holds
