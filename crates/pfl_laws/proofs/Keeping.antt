-- What the small changes of a node keep under one name: a state there comes from the state that stood there.
use Rattle.std.specs.Prelude.{◌≡◌, ◌≢◌, ◌≤◌, ◌+◌, ℕ, Bool, true, false, Option, Some, None, min, refl}
use Rattle.std.specs.Option.{option_map_or}
use Rattle.std.proofs.Common.{◌∙◌, ap, cond, sym, arith}
use Rattle.pfl_base.specs.declared.state_name.StateName.{StateName}
use Rattle.pfl_base.specs.Packets.{is_tcp}
use Rattle.pfl_edits.specs.Maps as maps
use Rattle.pfl_language.specs.declared.limits.Limits.{Limits}
use Rattle.pfl_world.specs.track.declared.state.State.{State}
use Rattle.pfl_world.specs.table.Tables.{States}
use Rattle.pfl_world.specs.queue.Queues.{kind_of}
use Rattle.pfl_world.specs.desk.Nodes.{Node, IsGiven}
use Rattle.pfl_world.specs.desk.Changes.{put_state, is_held, is_unannounced, freed, lost, not_waiting, released, changed, deleted, forgotten}
use Rattle.pfl_world.specs.desk.Changes.{count_freed, count_lost, without_held}
use Rattle.pfl_world.proofs.ForCallers.desk.{Rest, deleted-rest}
use Rattle.pfl_laws.proofs.Following.{Alike, Alike-itself, Alike-then, From, Comes, comes-then, comes-same, comes-put, comes-removed, Filed}

-- the creator and the limits stay, ids go on, and what stands under the name comes from what stood there
pub record Kept (R : State → State → Type 0) (q : StateName) (old_creator old_next : ℕ) (old_limits : Limits) (m : States)
    (new_creator new_next : ℕ) (new_limits : Limits) (k : States) : Type 0 where
  pub creator : new_creator ≡ old_creator
  pub next : old_next ≤ new_next
  pub limits : new_limits ≡ old_limits
  pub comes : Comes R m k q

abbrev pub Keeps : (State → State → Type 0) → StateName → Node → Node → Type 0
Keeps R q n m = Kept R q n.creator n.next_id n.limits n.states m.creator m.next_id m.limits m.states

pub keeps-then : (R S T : State → State → Type 0) (q : StateName) (n m l : Node) → ((s t u : State) → R s t → S t u → T s u)
    → Keeps R q n m → Keeps S q m l → Keeps T q n l
keeps-then R S T q n m l on first next =
    let early = first.next in
    let late = next.next in
    record {
      creator = next.creator ∙ first.creator;
      next = omega arith;
      limits = next.limits ∙ first.limits;
      comes = comes-then R S T n.states m.states l.states q on first.comes next.comes;
    }

-- alike, and then alike
pub alike-then : (q : StateName) (n m l : Node) → Keeps Alike q n m → Keeps Alike q m l → Keeps Alike q n l
alike-then q n m l = keeps-then Alike Alike Alike q n m l Alike-then

-- a weaker relation
pub keeps-as : (R S : State → State → Type 0) (q : StateName) (n m : Node) → ((s t : State) → R s t → S s t) → Keeps R q n m → Keeps S q n m
keeps-as R S q n m as_well k = record {
  creator = k.creator;
  next = k.next;
  limits = k.limits;
  comes = λ t at. let from = k.comes t at in record { state = from.state; at = from.at; so = as_well from.state t from.so };
}

pub keeps-itself : (R : State → State → Type 0) (q : StateName) (n : Node) → ((s : State) → R s s) → Keeps R q n n
keeps-itself R q n itself = record { creator = refl; next = omega arith; limits = refl; comes = comes-same R n.states n.states q itself refl }

-- a name that was given stays given
pub keeps-given : (R : State → State → Type 0) (q : StateName) (n m : Node) → Keeps R q n m → IsGiven n q → IsGiven m q
keeps-given R q n m k given own =
    let low = given (own ∙ k.creator) in
    let on = k.next in
    omega arith

-- ---- choices

pub either : (R : State → State → Type 0) (q : StateName) (n : Node) (b : Bool) (x y : Node) → Keeps R q n x → Keeps R q n y → Keeps R q n (cond b x y)
either R q n true x y k l = k
either R q n false x y k l = l

pub on_some : {X : Type 0} (R : State → State → Type 0) (q : StateName) (n : Node) (o : Option X) (f : X → Node) (d : Node)
    → ((x : X) → o ≡ Some x → Keeps R q n (f x)) → Keeps R q n d → Keeps R q n (option_map_or f o d)
on_some R q n None f d k l = l
on_some R q n (Some x) f d k l = k x refl

-- ---- one place

-- a state is put
pub put-keeps : (R : State → State → Type 0) (q : StateName) (n : Node) (u : State) → ((s : State) → R s s)
    → (q ≡ u.name → From R n.states q u) → Keeps R q n (put_state n u)
put-keeps R q n u itself here = record { creator = refl; next = omega arith; limits = refl; comes = comes-put R n.states u q itself here }

-- under another name
pub put_other-keeps : (q : StateName) (n : Node) (u : State) → q ≢ u.name → Keeps Alike q n (put_state n u)
put_other-keeps q n u other = put-keeps Alike q n u Alike-itself (λ same. absurd (other same))

-- ---- held packets

pub freed-states : (n : Node) (name : StateName) → (freed n name).states ≡ n.states
freed-states n name = by (is_held n name)
  where
    by : (b : Bool) → (cond b (count_freed (without_held n name)) n).states ≡ n.states
    by true = refl
    by false = refl

pub freed-keeps : (q : StateName) (n : Node) (name : StateName) → Keeps Alike q n (freed n name)
freed-keeps q n name = either Alike q n (is_held n name) (count_freed (without_held n name)) n (keeps-itself Alike q n Alike-itself)
    (keeps-itself Alike q n Alike-itself)

not_waiting-keeps : (q : StateName) (n : Node) (name : StateName) → Filed n.states → Keeps Alike q n (not_waiting n name)
not_waiting-keeps q n name filed = on_some Alike q n (maps.get n.states name) _ n
    (λ s at. put-keeps Alike q n (record s { ack_wanted = false }) Alike-itself
    (λ same. record { state = s; at = ap (maps.get n.states) (same ∙ filed name s at) ∙ at; so = refl }))
    (keeps-itself Alike q n Alike-itself)

pub released-keeps : (q : StateName) (n : Node) (name : StateName) → Filed n.states → Keeps Alike q n (released n name)
released-keeps q n name filed =
    alike-then q n (freed n name) (released n name) (freed-keeps q n name)
    (not_waiting-keeps q (freed n name) name (λ a s at. filed a s (ap (λ (m : States). maps.get m a) (sym (freed-states n name)) ∙ at)))

-- ---- local changes and deletions

-- the state with its count of updates comes from what stood there
abbrev Here : (State → State → Type 0) → StateName → Node → State → Type 0
Here R q n t = q ≡ t.name → (updates : ℕ) → From R n.states q (record t { updates = updates })

pub changed-keeps : (R : State → State → Type 0) (q : StateName) (n : Node) (t : State) → ((s : State) → R s s) → Here R q n t → Keeps R q n (changed n t)
unfolding changed
changed-keeps R q n t itself here =
    let own = put-keeps R q n t itself (λ same. here same t.updates) in
    either R q n t.no_sync _ _ own
    (either R q n (is_unannounced (kind_of n.queue t.name)) _ _
    (put-keeps R q n (record t { updates = 0 }) itself (λ same. here same 0))
    (either R q n (is_tcp t.wire.proto) _ _
    (put-keeps R q n (record t { updates = min 255 (t.updates + 1) }) itself (λ same. here same (min 255 (t.updates + 1))))
    own))

pub lost-states : (n : Node) (name : StateName) → (lost n name).states ≡ n.states
lost-states n name = by (is_held n name)
  where
    by : (b : Bool) → (cond b (count_lost (without_held n name)) n).states ≡ n.states
    by true = refl
    by false = refl

pub forgotten-states : (n : Node) (name : StateName) → (forgotten n name).states ≡ maps.remove n.states name
unfolding forgotten
forgotten-states n name = ap (λ (l : States). maps.remove l name) (lost-states n name)

pub deleted-states : (n : Node) (s : State) → (deleted n s).states ≡ maps.remove n.states s.name
deleted-states n s = ap (λ (r : Rest). r.1.1.0) (deleted-rest n s)

pub deleted-keeps : (q : StateName) (n : Node) (s : State) → Keeps Alike q n (deleted n s)
deleted-keeps q n s =
    let creator : (deleted n s).creator ≡ n.creator = ap (λ (r : Rest). r.1.1.1.1.0) (deleted-rest n s) in
    let next : (deleted n s).next_id ≡ n.next_id = ap (λ (r : Rest). r.1.1.1.1.1) (deleted-rest n s) in
    record {
      creator = creator;
      next = omega arith;
      limits = ap (λ (r : Rest). r.0) (deleted-rest n s);
      comes = λ t at. comes-removed n.states s.name q t (ap (λ (m : States). maps.get m q) (sym (deleted-states n s)) ∙ at);
    }
