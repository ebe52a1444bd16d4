-- What a merge gives may take the state's place.
use Rattle.std.specs.Prelude.{◌≡◌, ◌≤◌, ◌<◌, ◌⊎◌, ℕ, ◌-◌, ◌&&◌, Bool, true, false, not, length, Option, Some, IfSome, refl}
use Rattle.std.proofs.Common.{cond, ◌∙◌, ap, sym, subst, arith, inl, inr}
use Rattle.pfl_base.specs.declared.kernel.Kernel.{Kernel}
use Rattle.pfl_base.specs.declared.state_name.StateName.{StateName}
use Rattle.pfl_edits.specs.Maps as maps
use Rattle.pfl_track.specs.declared.state.State.{State}
use Rattle.pfl_track.specs.States.{IsState}
use Rattle.pfl_merge.specs.declared.received.Received.{Received}
use Rattle.pfl_merge.specs.declared.merged.Merged.{Merged}
use Rattle.pfl_merge.specs.Merging.{merged, stale_src, stale_dst}
use Rattle.pfl_merge.specs.Laws.{Keeps}
use Rattle.pfl_desk.specs.Changes.{lost, is_held, count_lost, without_held}
use Rattle.pfl_desk.specs.inner.Kept.{MayReplace}
use Rattle.pfl_desk.specs.Nodes.{Node, AreParts, IsPast}
use Rattle.pfl_desk.proofs.ForCallers.{left-same, state_still}

-- a state that may take the place of one may do so too where only counts and held packets are others
lost-may : (n : Node) (name : StateName) (s : State) → MayReplace n s → MayReplace (lost n name) s
lost-may n name s may = by (is_held n name)
  where
    by : (b : Bool) → MayReplace (cond b (count_lost (without_held n name)) n) s
    by true = record {
      former = may.former;
      stands = may.stands;
      wire = may.wire;
      stack = may.stack;
      no_sync = may.no_sync;
      is = state_still n (count_lost (without_held n name)) s refl refl refl refl refl may.is;
    }
    by false = may

less : (b : Bool) (now spent : ℕ) → cond b now (now - spent) ≤ now
less true now spent = omega arith
less false now spent = omega arith

-- it was last used in the past, or it has the held state's class and last use
past-or-held : (k : Kernel) (held : State) (r : Received) (seconds now : ℕ)
    → ((merged k held r seconds now).state.last ≤ now)
    ⊎ (((merged k held r seconds now).state.class ≡ held.class) × ((merged k held r seconds now).state.last ≡ held.last))
past-or-held k held r seconds now = by (not (stale_src held r && stale_dst held r)) _ _ (less k.expiry now _) (refl, refl)
  where
    by : (b : Bool) (s t : State) → s.last ≤ now → (t.class ≡ held.class) × (t.last ≡ held.last)
        → ((cond b s t).last ≤ now) ⊎ (((cond b s t).class ≡ held.class) × ((cond b s t).last ≡ held.last))
    by true s t past same = inl past
    by false s t past same = inr same

peer-now : (k : Kernel) (held : State) (r : Received) (seconds now : ℕ) → (merged k held r seconds now).state.peer_change ≡ Some now
peer-now k held r seconds now = by (not (stale_src held r && stale_dst held r)) _ _ refl refl
  where
    by : (b : Bool) (s t : State) → s.peer_change ≡ Some now → t.peer_change ≡ Some now → (cond b s t).peer_change ≡ Some now
    by true s t h k = h
    by false s t h k = k

-- what a merge of a state of the node gives
merged-may : (n : Node) (k : Kernel) (s t : State) (r : Received) (seconds : ℕ) → AreParts n → maps.get n.states s.name ≡ Some s
    → t ≡ (merged k s r seconds n.clock).state → Keeps s t → IsState t → MayReplace (lost n s.name) t
merged-may n k s t r seconds is stands same keeps state =
    let it = is.each s.name s stands in
    let used = subst (λ (u : State). (u.last ≤ n.clock) ⊎ ((u.class ≡ s.class) × (u.last ≡ s.last))) (sym same) (past-or-held k s r seconds n.clock) in
    let peer : t.peer_change ≡ Some n.clock = ap (λ (u : State). u.peer_change) same ∙ peer-now k s r seconds n.clock in
    lost-may n s.name t (record {
      former = s;
      stands = ap (maps.get n.states) keeps.name ∙ stands;
      wire = keeps.wire;
      stack = keeps.stack;
      no_sync = keeps.no_sync;
      is = record {
        is = state;
        given = subst (λ (k : StateName). k.creator ≡ n.creator → k.id < n.next_id) (sym keeps.name) it.given;
        rule = subst (λ (o : Option ℕ). IfSome o (λ k. k < length n.rules.list)) (sym keeps.rule) it.rule;
        last = λ off. elim used [ inl past ↦ past | inr held ↦ subst (IsPast n) (sym held.1) (it.last off) ];
        ahead = λ ahead. elim used [
          | inl past ↦ absurd (omega arith)
          | inr held ↦ left-same n s t keeps.rule held.0 held.1 it.ahead ahead
        ];
        peer_change = subst (λ (o : Option ℕ). IfSome o (IsPast n)) (sym peer) (omega arith);
        updates = subst (λ (k : ℕ). k ≤ 255) (sym keeps.updates) it.updates;
      };
    })

-- the same of what a merge gave, at the node's time
pub merge-may : (n : Node) (k : Kernel) (s : State) (m : Merged) (r : Received) (seconds now : ℕ) → AreParts n → maps.get n.states s.name ≡ Some s
    → m ≡ merged k s r seconds now → now ≡ n.clock → Keeps s m.state → IsState m.state → MayReplace (lost n m.state.name) m.state
merge-may n k s m r seconds now is stands gives clock keeps state =
    let same = ap (λ (x : Merged). x.state) gives ∙ ap (λ (at : ℕ). (merged k s r seconds at).state) clock in
    subst (λ (name : StateName). MayReplace (lost n name) m.state) (sym keeps.name) (merged-may n k s m.state r seconds is stands same keeps state)
