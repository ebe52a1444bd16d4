-- A release: the packets that are due go out, and their states wait no more.
use Rattle.std.specs.Prelude.{◌≡◌, ◌≤◌, ◌+◌, ◌⊎◌, nat_le, Bool, true, false, List, [], ◌∷◌, map, filter, find, Option, Some, None, refl}
use Rattle.std.specs.List.{AllByRecursion, IsDistinct, fold}
use Rattle.std.specs.Option.{option_map_or}
use Rattle.std.proofs.Common.{◌∙◌, T, cond, ap, sym, subst, arith, inl, inr}
use Rattle.std.proofs.lemmas.Bool.Decides.{nat_tests}
use Rattle.std.proofs.lemmas.Map.Keys.{IsDistinct-head, IsDistinct-tail}
use Rattle.pfl_base.specs.declared.state_name.StateName.{StateName}
use Rattle.pfl_base.proofs.ForCallers.{names_total, names_exact, is_name-itself}
use Rattle.pfl_base.specs.Names.{is_name}
use Rattle.pfl_edits.specs.Maps as maps
use Rattle.pfl_edits.proofs.ForCallers.{key_cases}
use Rattle.pfl_world.specs.track.declared.state.State.{State}
use Rattle.pfl_world.specs.table.Tables.{AreStates}
use Rattle.pfl_world.proofs.ForCallers.table.{OwnsKeys-known, AreStates-with}
use Rattle.pfl_world.specs.defer.declared.Held.{Held}
use Rattle.pfl_world.specs.defer.Deferring.{due}
use Rattle.pfl_world.specs.desk.Nodes.{Node, IsNode}
use Rattle.pfl_world.specs.desk.Changes.{put_state, freed, released}
use Rattle.pfl_world.specs.node.Releasing.{due_names, released_due}
use Rattle.pfl_laws.specs.Laws.{IsTied, Holds}
use Rattle.pfl_laws.proofs.Following.{Alike, Alike-itself, inner}
use Rattle.pfl_laws.proofs.Keeping.{Keeps, alike-then, keeps-itself, freed-states, released-keeps}
use Rattle.pfl_laws.proofs.Tied.{tied-released}
use Rattle.pfl_laws.proofs.Holding.{other-holds, released-held}

released-apart : (n : Node) (name : StateName) → AreStates n.states → AreStates (released n name).states
released-apart n name are = by (maps.get m.states name) refl
  where
    m : Node
    m = freed n name

    free : AreStates m.states
    free = subst AreStates (sym (freed-states n name)) are

    by : (o : Option State) → maps.get m.states name ≡ o → AreStates (option_map_or (λ s. put_state m (record s { ack_wanted = false })) o m).states
    by None e = free
    by (Some s) e =
        let calm : State = record s { ack_wanted = false } in
        let own : maps.get m.states s.name ≡ Some s = subst (λ q. maps.get m.states q ≡ Some s) (sym (free.filed name s e)) e in
        AreStates-with m.states calm free (OwnsKeys-known m.states s calm free own (record { name = refl; wire = refl; stack = refl }))

-- ---- one after another

names-keep : (q : StateName) (names : List StateName) (n : Node) → AreStates n.states → Keeps Alike q n (fold released n names)
names-keep q [] n are = keeps-itself Alike q n Alike-itself
names-keep q (name ∷ names) n are =
    alike-then q n (released n name) (fold released (released n name) names) (released-keeps q n name are.filed)
    (names-keep q names (released n name) (released-apart n name are))

names-apart : (names : List StateName) (n : Node) → AreStates n.states → AreStates (fold released n names).states
names-apart [] n are = are
names-apart (name ∷ names) n are = names-apart names (released n name) (released-apart n name are)

names-tied : (names : List StateName) (n : Node) → AreStates n.states → IsTied n → IsTied (fold released n names)
names-tied [] n are tied = tied
names-tied (name ∷ names) n are tied = names-tied names (released n name) (released-apart n name are) (tied-released n name are.filed tied)

-- ---- whose time has come

-- one of the packets has its name
abbrev IsAmong : Held → List Held → Type 0
IsAmong h [] = ⊥
IsAmong h (k ∷ ks) = (h.name ≡ k.name) ⊎ IsAmong h ks

-- a packet of another name stays
all-let : (ks : List Held) (n : Node) (h : Held) → Holds n h → Holds (fold released n (map (λ k. k.name) ks)) h ⊎ IsAmong h ks
all-let [] n h holds = inl holds
all-let (k ∷ ks) n h holds = elim (key_cases names_total names_exact h.name k.name) [
  | inl same ↦ inr (inl same)
  | inr other ↦ elim (all-let ks (released n k.name) h (other-holds h n (released n k.name) k.name (released-held n k.name) other holds)) [
    | inl stays ↦ inl stays
    | inr among ↦ inr (inr among)
  ]
]

not_among : (h : Held) (hs : List Held) (p : Held → Bool) → AllByRecursion (λ q. is_name h.name q ≡ false) (map (λ k. k.name) hs) → IsAmong h (filter p hs) → ⊥
not_among h [] p apart among = among
not_among h (x ∷ hs) p apart among = by (p x) (not_among h hs p apart.1) among
  where
    by : (b : Bool) → (IsAmong h (filter p hs) → ⊥) → IsAmong h (cond b (x ∷ filter p hs) (filter p hs)) → ⊥
    by true none (inl same) = subst T (sym (is_name-itself h.name x.name same) ∙ apart.0) tt
    by true none (inr rest) = none rest
    by false none rest = none rest

-- what is held has its name alone, so it is the one that passes
passes : (h : Held) (hs : List Held) (p : Held → Bool) → IsDistinct is_name (map (λ k. k.name) hs)
    → find (λ k. is_name h.name k.name) hs ≡ Some h → IsAmong h (filter p hs) → p h ≡ true
passes h [] p once found among = absurd among
passes h (x ∷ hs) p once found among =
    by (is_name h.name x.name) refl (passes h hs p (IsDistinct-tail is_name x.name (map (λ k. k.name) hs) once)) found
  where
    first : (b : Bool) → p x ≡ b → x ≡ h → IsAmong h (cond b (x ∷ filter p hs) (filter p hs)) → p h ≡ true
    first true e same rest = ap p (sym same) ∙ e
    first false e same rest =
        let apart = subst (λ (k : Held). AllByRecursion (λ q. is_name k.name q ≡ false) (map (λ k. k.name) hs)) same
        (IsDistinct-head is_name x.name (map (λ k. k.name) hs) once) in
        absurd (not_among h hs p apart rest)

    later : (b : Bool) → is_name h.name x.name ≡ false → IsAmong h (cond b (x ∷ filter p hs) (filter p hs)) → IsAmong h (filter p hs)
    later true other (inl same) = absurd (subst T (sym (is_name-itself h.name x.name same) ∙ other) tt)
    later true other (inr rest) = rest
    later false other rest = rest

    by : (b : Bool) → is_name h.name x.name ≡ b → (find (λ k. is_name h.name k.name) hs ≡ Some h → IsAmong h (filter p hs) → p h ≡ true)
        → cond b (Some x) (find (λ k. is_name h.name k.name) hs) ≡ Some h → p h ≡ true
    by true e rest at = first (p x) refl (inner x h at) among
    by false e rest at = rest at (later (p x) e among)

-- ---- a release

pub released_due-keeps : (q : StateName) (n : Node) → AreStates n.states → Keeps Alike q n (released_due n)
unfolding released_due
released_due-keeps q n are = names-keep q (due_names n) n are

pub released_due-apart : (n : Node) → AreStates n.states → AreStates (released_due n).states
unfolding released_due
released_due-apart n are = names-apart (due_names n) n are

pub released_due-tied : (n : Node) → AreStates n.states → IsTied n → IsTied (released_due n)
unfolding released_due
released_due-tied n are tied = names-tied (due_names n) n are tied

-- a packet goes out at its time alone
pub released_due-lets : (n : Node) (h : Held) → IsNode n → Holds n h → Holds (released_due n) h ⊎ (h.held_at + n.limits.defer_ms ≤ n.clock)
unfolding released_due
released_due-lets n h is holds = elim (all-let (due n.held n.clock n.limits.defer_ms) n h holds) [
  | inl stays ↦ inl stays
  | inr among ↦
      let is_due : nat_le (h.held_at + n.limits.defer_ms) n.clock ≡ true =
      passes h n.held.list (λ k. nat_le (k.held_at + n.limits.defer_ms) n.clock) is.parts.deferrals.once holds among in
      inr (grind (arith, nat_tests, is_due))
]
