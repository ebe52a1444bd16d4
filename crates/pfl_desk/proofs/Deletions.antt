-- The deletion of a state: what stays a node's parts on the way, what is announced to the peer, and what is left alone.
use Rattle.std.specs.Prelude.{◌≡◌, ◌≢◌, ◌≤◌, ℕ, ◌+◌, ◌-◌, Bool, true, false, not, ◌&&◌, ◌||◌, Option, Some, None, refl}
use Rattle.std.specs.Option.{option_map}
use Rattle.std.proofs.Common.{cond, ◌∙◌, ap, sym, subst, arith, inl, inr}
use Rattle.pfl_base.specs.declared.state_name.StateName.{StateName}
use Rattle.pfl_base.specs.Names.{name_cmp}
use Rattle.pfl_base.proofs.ForCallers.{names_total, names_exact}
use Rattle.pfl_edits.specs.Maps as maps
use Rattle.pfl_edits.specs.Maps.{Map}
use Rattle.pfl_edits.proofs.ForCallers.{len-remove, get-set_at_same, get-set_at_other, get-set_at_cases, set_at-set_at, key_cases, some_is_none}
use Rattle.pfl_rules.specs.Rules.{Rules}
use Rattle.pfl_track.specs.declared.state.State.{State}
use Rattle.pfl_table.specs.Tables.{States}
use Rattle.pfl_table.proofs.ForCallers.{AreStates-without}
use Rattle.pfl_queue.specs.declared.Kind.{Kind}
use Rattle.pfl_queue.specs.declared.Kind.TheVariants.{Insert, Delete}
use Rattle.pfl_queue.specs.declared.Mark.{Mark}
use Rattle.pfl_queue.specs.Queues.{Queue, kind_of, marked, unmarked}
use Rattle.pfl_queue.proofs.ForCallers.{unmarked_kept, unmarked_absent, kept}
use Rattle.pfl_language.specs.declared.limits.Limits.{Limits}
use Rattle.pfl_desk.specs.Changes.{without_state, mark, unmark, withdraw, is_held, is_insert, is_delete, lost, count_lost, without_held, deleted}
use Rattle.pfl_desk.specs.Changes.{deletion_announced, forgotten, keeps_deletion}
use Rattle.pfl_desk.specs.Nodes.{Node, AreParts}
use Rattle.pfl_desk.proofs.Keeps.{keeps_states, keeps_queue}
use Rattle.pfl_desk.proofs.Putting.{IsTold, rightly-still}

-- ---- nodes on the way

-- a name less on a queue
pub unmarked-node : (n : Node) (name : StateName) → AreParts n → AreParts (unmark n name)
unmarked-node n name is =
    keeps_queue n (unmarked n.queue name) is (unmarked_kept n.queue is.queue name) refl
    (λ q k at. is.marks q k (kept n.queue is.queue name q k at))

less : (b : Bool) (k l : ℕ) → k ≤ l → cond b (k - 1) k ≤ l
less true k l h = omega arith
less false k l h = h

-- a state less, whose name is on no queue but that of deletions
without-node : (n : Node) (name : StateName) → AreParts n → ((k : Mark) → maps.get n.queue.marks name ≡ Some k → k.kind ≡ Delete)
    → AreParts (without_state n name)
without-node n name is deletes =
    keeps_states n (maps.remove n.states name) is (AreStates-without n.states name is.states)
    (subst (λ (k : ℕ). k ≤ n.limits.states) (sym (len-remove names_total n.states name))
    (less (maps.contains_key n.states name) (maps.len n.states) n.limits.states is.few))
    (λ q s at. elim (get-set_at_cases names_total names_exact n.states name None q s at) [
      | inl here ↦ absurd (some_is_none s (sym here.1))
      | inr other ↦ is.each q s other.1
    ])
    (λ q k at. elim (key_cases names_total names_exact q name) [
      | inl same ↦
          let gone = ap (maps.get (maps.remove n.states name)) same ∙ get-set_at_same names_total names_exact n.states name None in
          (λ none. deletes k (ap (maps.get n.queue.marks) (sym same) ∙ at), (λ off told. gone, subst IsTold (sym gone) tt))
      | inr other ↦ rightly-still n (maps.remove n.states name) q k (get-set_at_other names_total names_exact n.states name None q other) (is.marks q k at).1
    ])

deletes_only : (kind : Kind) → is_delete (Some kind) ≡ true → kind ≡ Delete
deletes_only Delete e = refl
deletes_only other e = absurd (cc)

second : (a b : Bool) → (a && b) ≡ true → b ≡ true
second true b e = e
second false b e = absurd (cc)

-- a name off its queue, and its state out
pub unmarked-out : (n : Node) (name : StateName) → AreParts n → AreParts (without_state (unmark n name) name)
unmarked-out n name is = without-node (unmark n name) name (unmarked-node n name is)
    (λ k at. absurd (some_is_none k (sym at ∙ get-set_at_same names_total names_exact n.queue.marks name None)))

-- or its state out where its deletion stays
pub kept-out : (n : Node) (name : StateName) → AreParts n → keeps_deletion n name ≡ true → AreParts (without_state n name)
kept-out n name is keeps = without-node n name is (λ k at.
    deletes_only k.kind (sym (ap (λ (o : Option Mark). is_delete (option_map (λ (m : Mark). m.kind) o)) at)
    ∙ second n.limits.kernel.revive (is_delete (kind_of n.queue name)) keeps))

-- ---- what is announced

-- the deletion of a state on this queue is announced to the peer
abbrev pub is_deletion_announced : Option Kind → State → Bool
is_deletion_announced kind s = not (is_insert kind || is_delete kind || s.no_sync)

-- a pending deletion of a name with a state stays: without `revive` there is none
stays-pending : (n : Node) (s : State) → AreParts n → maps.get n.states s.name ≡ Some s
    → keeps_deletion n s.name ≡ is_delete (kind_of n.queue s.name)
stays-pending n s is stands = by n.limits.kernel.revive refl (maps.get n.queue.marks s.name) refl
  where
    by : (revive : Bool) → n.limits.kernel.revive ≡ revive → (o : Option Mark) → maps.get n.queue.marks s.name ≡ o
        → (revive && is_delete (option_map (λ (m : Mark). m.kind) o)) ≡ is_delete (option_map (λ (m : Mark). m.kind) o)
    by true on o at = refl
    by false off None at = refl
    by false off (Some k) at = none k.kind (λ deletes. some_is_none s (sym stands ∙ (is.marks s.name k at).1.1.0 off deletes))
      where
        none : (kind : Kind) → kind ≢ Delete → false ≡ is_delete (Some kind)
        none Delete other = absurd (other refl)
        none kind other = refl

-- the name ends on the deletions
pub gone-told : (n : Node) (s : State) → AreParts n → maps.get n.states s.name ≡ Some s
    → is_deletion_announced (kind_of n.queue s.name) s ≡ true
    → deletion_announced (without_state n s.name) s ≡ mark (withdraw (without_state n s.name) s.name) s.name Delete
gone-told n s is stands told =
    let m = without_state n s.name in
    rw (stays-pending n s is stands)
    (by m (is_insert (kind_of n.queue s.name)) (is_delete (kind_of n.queue s.name)) s.no_sync
    (ap (λ (k : Map name_cmp Mark). record m { queue = record n.queue { next = n.queue.next + 1; marks = k } })
    (sym (set_at-set_at names_total names_exact n.queue.marks s.name None
    (Some (record { name = s.name; kind = Delete; number = n.queue.next }))))) told)
  where
    by : (m : Node) (a d b : Bool) → mark m s.name Delete ≡ mark (unmark m s.name) s.name Delete → not (a || d || b) ≡ true
        → cond a (unmark m s.name) (cond b m (record m { queue = cond d m.queue (marked m.queue s.name Delete) }))
        ≡ mark (record m { queue = cond d m.queue (unmarked m.queue s.name) }) s.name Delete
    by m true d b same e = absurd (cc)
    by m false true b same e = absurd (cc)
    by m false false true same e = absurd (cc)
    by m false false false same e = same

no_mark : (n : Node) (s : State) → AreParts n → maps.get n.states s.name ≡ Some s → s.no_sync ≡ true → (o : Option Mark)
    → maps.get n.queue.marks s.name ≡ o → o ≡ None
no_mark n s is stands quiet None at = refl
no_mark n s is stands quiet (Some k) at = let told = subst IsTold stands (is.marks s.name k at).1.1.1 in absurd (cc)

insert-no_delete : (o : Option Kind) → is_insert o ≡ true → is_delete o ≡ false
insert-no_delete (Some Insert) e = refl
insert-no_delete other e = absurd (cc)

-- or where it is already, or on no queue
pub gone-unannounced : (n : Node) (s : State) → AreParts n → maps.get n.states s.name ≡ Some s
    → is_deletion_announced (kind_of n.queue s.name) s ≡ false
    → deletion_announced (without_state n s.name) s ≡ withdraw (without_state n s.name) s.name
gone-unannounced n s is stands told =
    let m = without_state n s.name in
    rw (stays-pending n s is stands)
    (by m (is_insert (kind_of n.queue s.name)) (is_delete (kind_of n.queue s.name)) s.no_sync (insert-no_delete (kind_of n.queue s.name))
    (λ quiet. ap (λ (q : Queue). record m { queue = q }) (unmarked_absent n.queue s.name (no_mark n s is stands quiet (maps.get n.queue.marks s.name) refl)))
    told)
  where
    by : (m : Node) (a d b : Bool) → (a ≡ true → d ≡ false) → (b ≡ true → m ≡ unmark m s.name) → not (a || d || b) ≡ false
        → cond a (unmark m s.name) (cond b m (record m { queue = cond d m.queue (marked m.queue s.name Delete) }))
        ≡ record m { queue = cond d m.queue (unmarked m.queue s.name) }
    by m true d b apart absent e = ap (λ (k : Bool). record m { queue = cond k m.queue (unmarked m.queue s.name) }) (sym (apart refl))
    by m false true true apart absent e = refl
    by m false true false apart absent e = refl
    by m false false true apart absent e = absent refl
    by m false false false apart absent e = absurd (cc)

-- ---- what it leaves alone

field_if : {X : Type 0} (f : Node → X) (b : Bool) (x y : Node) (v : X) → f x ≡ v → f y ≡ v → f (cond b x y) ≡ v
field_if f true x y v e g = e
field_if f false x y v e g = g

-- what neither queues nor counts
abbrev pub Rest : Type 0
Rest = Limits × (Rules × (States × (ℕ × (ℕ × ℕ))))

abbrev pub rest : Node → Rest
rest n = (n.limits, (n.rules, (n.states, (n.clock, (n.creator, n.next_id)))))

pub deleted-rest : (n : Node) (s : State) → rest (deleted n s) ≡ rest (without_state n s.name)
unfolding deleted
deleted-rest n s =
    let before = field_if (λ (m : Node). rest (without_state m s.name)) (is_held n s.name) (count_lost (without_held n s.name)) n
    (rest (without_state n s.name)) refl refl in
    field_if rest (is_insert (kind_of (lost n s.name).queue s.name)) _ _ (rest (without_state n s.name)) before
    (field_if rest s.no_sync _ _ (rest (without_state n s.name)) before before)

pub deleted-is : (n : Node) (s : State) → deleted n s ≡ deletion_announced (without_state (lost n s.name) s.name) s
unfolding deleted
deleted-is n s = refl

pub forgotten-is : (n : Node) (name : StateName) → forgotten n name ≡ withdraw (without_state (lost n name) name) name
unfolding forgotten
forgotten-is n name = refl

pub lost-stands : (n : Node) (s : State) → maps.get n.states s.name ≡ Some s → maps.get (lost n s.name).states s.name ≡ Some s
lost-stands n s stands = field_if (λ (m : Node). maps.get m.states s.name) (is_held n s.name) (count_lost (without_held n s.name)) n (Some s) stands stands
