-- A record of the peer's lowers no level, but that of a destination that `merge` takes: a merge takes an end only where it is not behind the
-- held one, and else a record leaves states, takes them out, or brings one under a name that had none.
use Rattle.std.specs.Prelude.{◌≡◌, ◌⊎◌, ℕ, Bool, true, false, Option, Some, None, IfSome, refl}
use Rattle.std.proofs.Common.{◌∙◌, cond, ap, sym, subst, arith, inl, inr}
use Rattle.pfl_base.specs.declared.kernel.Kernel.{Kernel}
use Rattle.pfl_base.specs.declared.state_name.StateName.{StateName}
use Rattle.pfl_base.proofs.ForCallers.{names_total, names_exact}
use Rattle.pfl_edits.specs.Maps as maps
use Rattle.pfl_edits.proofs.ForCallers.{get-set_at_cases, some_is_none}
use Rattle.pfl_world.specs.track.declared.state.State.{State}
use Rattle.pfl_world.specs.table.Tables.{States, AreStates}
use Rattle.pfl_world.specs.wire.declared.message.Message.{Message}
use Rattle.pfl_world.specs.wire.declared.message.Message.TheVariants as message
use Rattle.pfl_world.specs.merge.declared.received.Received.{Received}
use Rattle.pfl_world.specs.merge.declared.merged.Merged.{Merged}
use Rattle.pfl_world.specs.merge.Merging.{merged}
use Rattle.pfl_world.specs.desk.Nodes.{Node, timeout_at}
use Rattle.pfl_world.specs.queue.declared.Kind.TheVariants.{InsertAck}
use Rattle.pfl_world.specs.desk.Changes.{put_state, mark, lost, released, forgotten, keeps_deletion}
use Rattle.pfl_world.specs.receive.declared.decision.Decision.{Decision}
use Rattle.pfl_world.specs.receive.declared.decision.Decision.TheVariants.{Bad, Import, Merge, Ask, Queue, Serve, Release, Delete, Clear, Hear, Nothing}
use Rattle.pfl_world.specs.receive.Bringing.{name_in, received_in}
use Rattle.pfl_world.specs.receive.Receiving.{taken, does, decided, taken_over, merged_into, clear_taken, cleared_names}
use Rattle.pfl_world.proofs.ForCallers.receive.{RestsOn, IsImported, IsMergedFrom, rests, may-import}
use Rattle.pfl_laws.specs.Laws.{HasRisen, Updates, TakenWhole, RecordsLowerNoLevel, RecordsLowerNoSource, RecordsLowerOnlySo}
use Rattle.pfl_laws.proofs.Following.{Alike, From, Comes, comes-put, inner, Filed}
use Rattle.pfl_laws.proofs.Keeping.{Keeps, released-keeps}
use Rattle.pfl_laws.proofs.Merged.{RisesBy, Then, merged-name, merged-rises, merged-so}
use Rattle.pfl_laws.proofs.Removing.{forgotten-removes, removed-keeps, all-keep}
use Rattle.pfl_laws.proofs.Tied.{PutsCalm, merged-puts}

-- ---- any relation of a state to what follows it under its name, to which it is no matter how it waits and what it has counted

-- what is taken over is put, also where it is acknowledged
over-states : (n : Node) (s : State) (ack : Bool) → (taken_over n s ack).states ≡ maps.insert n.states s.name s
over-states n s false = refl
over-states n s true = by (keeps_deletion n s.name)
  where
    by : (b : Bool) → (cond b (put_state n s) (mark (put_state n s) s.name InsertAck)).states ≡ maps.insert n.states s.name s
    by true = refl
    by false = refl

module _ (R : State → State → Type 0) (alike : (s t : State) → Alike s t → R s t) where
  -- each merge by the record leaves a state that is so related to the one before
  abbrev pub Merges : Node → Message → Type 0
  Merges n m = (s : State) (r : Received) → received_in m ≡ Some r → s.name ≡ name_in m
      → (seconds now updates : ℕ) → R s (Then (merged n.limits.kernel s r seconds now).state updates)

  -- a state stood under the name that leads to t, or t is taken over where none stood
  abbrev pub Arrives : Node → Message → StateName → State → Type 0
  Arrives n m q t = From R n.states q t ⊎ ((maps.get n.states q ≡ None) × IsImported n m t)

  -- the same state stood there
  stays-from : (n : Node) (q : StateName) (t : State) → maps.get n.states q ≡ Some t → From R n.states q t
  stays-from n q t at = record { state = t; at = at; so = alike t t refl }

  -- a state that is alike stood there
  alike-from : (n k : Node) (q : StateName) (t : State) → Keeps Alike q n k → maps.get k.states q ≡ Some t → From R n.states q t
  alike-from n k q t keeps at = let from = keeps.comes t at in record { state = from.state; at = from.at; so = alike from.state t from.so }

  -- a state is taken over only under a new name
  import-arrives : (n : Node) (m : Message) (s : State) (ack : Bool) → IsImported n m s
      → (q : StateName) (t : State) → maps.get (taken_over n s ack).states q ≡ Some t → Arrives n m q t
  import-arrives n m s ack new q t at =
      let none = subst (λ (u : State). maps.get n.states u.name ≡ None) (sym new.is) (may-import n new.sent new.free).fresh in
      elim (get-set_at_cases names_total names_exact n.states s.name (Some s) q t
      (ap (λ (l : States). maps.get l q) (sym (over-states n s ack)) ∙ at)) [
        | inl own ↦ inr (ap (maps.get n.states) own.0 ∙ none, subst (IsImported n m) (inner s t own.1) new)
        | inr other ↦ inl (stays-from n q t other.1)
      ]

  -- a merge puts a state in the place of the one that was found
  merge-comes : (n : Node) (m : Message) (x : Merged) → Filed n.states → Merges n m → IsMergedFrom n m x
      → (q : StateName) → Comes R n.states (merged_into (lost n x.state.name) x).states q
  merge-comes n m x filed merges on q =
      let s = on.held in
      let seconds = timeout_at n s.rule on.received.class in
      let puts : PutsCalm n x.state (merged_into (lost n x.state.name) x) = merged-puts n x in
      let own = filed (name_in m) s on.found in
      let named : x.state.name ≡ name_in m = ap (λ (y : Merged). y.state.name) on.is ∙ merged-name n.limits.kernel s on.received seconds n.clock ∙ own in
      let so : R s (Then x.state puts.updates) =
      subst (λ (y : Merged). R s (Then y.state puts.updates)) (sym on.is) (merges s on.received on.brought own seconds n.clock puts.updates) in
      subst (λ (l : States). Comes R n.states l q) (sym puts.states)
      (comes-put R n.states (Then x.state puts.updates) q (λ t. alike t t refl)
      (λ here. record { state = s; at = ap (maps.get n.states) (here ∙ named) ∙ on.found; so = so }))

  -- by the decision
  does-arrives : (n : Node) (m : Message) (d : Decision) → Filed n.states → Merges n m → RestsOn n m d
      → (q : StateName) (t : State) → maps.get (does n d).states q ≡ Some t → Arrives n m q t
  unfolding does RestsOn
  does-arrives n m (Bad why) filed merges on q t at = inl (stays-from n q t at)
  does-arrives n m (Import s ack) filed merges on q t at = import-arrives n m s ack on q t at
  does-arrives n m (Merge x) filed merges on q t at = inl (merge-comes n m x filed merges on q t at)
  does-arrives n m (Ask name) filed merges on q t at = inl (stays-from n q t at)
  does-arrives n m (Queue name) filed merges on q t at = inl (stays-from n q t at)
  does-arrives n m (Serve begins) filed merges on q t at = inl (stays-from n q t at)
  does-arrives n m (Release name) filed merges on q t at = inl (alike-from n (released n name) q t (released-keeps q n name filed) at)
  does-arrives n m (Delete name) filed merges on q t at =
      inl (alike-from n (forgotten n name) q t (removed-keeps q n (forgotten n name) name (forgotten-removes n name)) at)
  does-arrives n m (Clear creator bound) filed merges on q t at =
      inl (alike-from n (clear_taken n creator bound) q t
      (all-keep forgotten (λ (name : StateName). name) forgotten-removes q (cleared_names n creator bound) n) at)
  does-arrives n m (Hear status) filed merges on q t at = inl (stays-from n q t at)
  does-arrives n m Nothing filed merges on q t at = inl (stays-from n q t at)

  -- whatever stands under a name after a record
  pub record-arrives : (n : Node) (b : Bool) (m : Message) → Filed n.states → Merges n m
      → (q : StateName) (t : State) → maps.get (taken n b m).states q ≡ Some t → Arrives n m q t
  unfolding taken
  record-arrives n b m filed merges = does-arrives n m (decided n b m) filed merges (rests n b m)

  -- whatever name has a state before and after a record
  record-goes : (n : Node) (b : Bool) (m : Message) → AreStates n.states → Merges n m
      → (name : StateName) (s t : State) → maps.get n.states name ≡ Some s → maps.get (taken n b m).states name ≡ Some t → R s t
  record-goes n b m are merges name s t before later = elim (record-arrives n b m are.filed merges name t later) [
    | inl from ↦ subst (λ (u : State). R u t) (inner from.state s (sym from.at ∙ before)) from.so
    | inr new ↦ absurd (some_is_none s (sym before ∙ new.0))
  ]

-- ---- what has risen

pub risen-itself : (k : Kernel) (s : State) → RisesBy k s s
risen-itself k s = record { src = omega arith; dst = λ off. omega arith }

pub risen-then : (k : Kernel) (s t u : State) → RisesBy k s t → RisesBy k t u → RisesBy k s u
risen-then k s t u first next =
    let source = first.src in
    let later = next.src in
    record {
      src = omega arith;
      dst = λ off. let destination = first.dst off in let last = next.dst off in omega arith;
    }

pub risen-all : (k : Kernel) (s t : State) → k.merge ≡ false → RisesBy k s t → HasRisen s t
risen-all k s t off rises = record { src = rises.src; dst = rises.dst off }

alike-rises : (k : Kernel) (s t : State) → Alike s t → RisesBy k s t
alike-rises k s t e = subst (RisesBy k s) (sym e) (record { src = omega arith; dst = λ off. omega arith })

alike-risen : (s t : State) → Alike s t → HasRisen s t
alike-risen s t e = subst (HasRisen s) (sym e) (record { src = omega arith; dst = omega arith })

-- ---- the laws

-- by the rules of the node
pub levels-by : (n : Node) (k : Kernel) (b : Bool) (m : Message) → n.limits.kernel ≡ k → AreStates n.states
    → (name : StateName) (s t : State) → maps.get n.states name ≡ Some s → maps.get (taken n b m).states name ≡ Some t → RisesBy k s t
levels-by n k b m kernel are =
    record-goes (RisesBy k) (alike-rises k) n b m are
    (λ s r brought own seconds now updates. subst (λ (x : Kernel). RisesBy x s (Then (merged n.limits.kernel s r seconds now).state updates)) kernel
    (merged-rises n.limits.kernel s r seconds now updates))

pub levels-record : RecordsLowerNoLevel
levels-record n b m off are name s t before later = risen-all n.limits.kernel s t off (levels-by n n.limits.kernel b m refl are name s t before later)

pub sources-record : RecordsLowerNoSource
sources-record n b m are name s t before later = (levels-by n n.limits.kernel b m refl are name s t before later).src

-- it has risen, or both ends of what the record says of it were taken
abbrev So : Kernel → Message → State → State → Type 0
So k m s t = HasRisen s t ⊎ ((said : Received) × (Updates m s.name said × TakenWhole k said s t))

-- what a record brings of a state is an update of its name
says : (m : Message) → IfSome (received_in m) (Updates m (name_in m))
says (message.Clear creator bound) = tt
says (message.Insert r) = tt
says (message.InsertAck name) = tt
says (message.Update r) = (refl, refl)
says (message.UpdateShort u) = (refl, refl)
says (message.UpdateRequest name) = tt
says (message.Delete r) = tt
says (message.DeleteShort name) = tt
says (message.Bulk creator status) = tt

pub only-so-record : RecordsLowerOnlySo
only-so-record n b m are = record-goes (So n.limits.kernel m) (λ s t e. inl (alike-risen s t e)) n b m are
    (λ s r brought own seconds now updates. elim (merged-so n.limits.kernel s r seconds now updates) [
      | inl risen ↦ inl risen
      | inr whole ↦
          let said = subst (λ (o : Option Received). IfSome o (Updates m (name_in m))) brought (says m) in
          inr (r, (subst (λ (name : StateName). Updates m name r) (sym own) said, whole))
    ])
