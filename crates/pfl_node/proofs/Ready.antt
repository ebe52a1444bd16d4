-- From a node that is ready to one that is ready again: what an event recorded stands, or is taken back.
use Rattle.std.specs.Prelude.{◌≡◌, ◌≤◌, ℕ, ◌+◌, ◌*◌, false, List, [], ◌∷◌, ◌++◌, length, map, Result, Ok, Err, IfOk, OnOk}
use Rattle.std.specs.Prelude.{OnErr, refl}
use Rattle.std.proofs.Common.{◌∙◌, ap, sym, subst, arith}
use Rattle.pfl_base.specs.declared.refusal.Refusal.{Refusal}
use Rattle.pfl_edits.specs.Changes.{LeadsBack, back}
use Rattle.pfl_language.specs.declared.limits.Limits.{Limits}
use Rattle.pfl_language.specs.Limits.{AreLimits}
use Rattle.pfl_receive.specs.desk.declared.edit.NodeEdit.{NodeEdit}
use Rattle.pfl_receive.specs.desk.declared.edit.NodeEdit.TheVariants.{OfState, Moved, OfQueue, OfHeld, Server, Client, Clock, NextId, Push, Count}
use Rattle.pfl_receive.specs.desk.Drafts.{Draft, Writes, AllRecorded, began}
use Rattle.pfl_receive.specs.desk.Edits.{Finds, put_back, NodeLeadsBack, NodeRecorded}
use Rattle.pfl_receive.specs.desk.inner.Drafting.{most_room}
use Rattle.pfl_receive.specs.desk.Nodes.{Node, AreParts, IsNode, is_overcounted}
use Rattle.pfl_receive.proofs.ForCallers.desk.{leads_through}
use Rattle.pfl_receive.specs.inner.Delivering.{frame_room}
use Rattle.pfl_node.specs.Weights.{packet_edits}
use Rattle.pfl_node.specs.inner.Room.{IsReady, most_edits}

-- ---- the room that a node keeps

-- it is far from the most that there may be
pub most-few : (l : Limits) → AreLimits l → most_edits l ≤ most_room
most-few l are =
    let states = are.0.1 in
    let queue = are.1.0.1 in
    let mtu = are.1.1.1.0.1 in
    let held = are.1.1.1.1.0.1 in
    omega (arith, states, queue, mtu, held)

-- ---- where an event begins

-- there is room for its edits
pub record Begins (d : Draft) : Type 0 where
  pub room : 5 * d.node.limits.states + 2 * d.node.limits.queue + packet_edits ≤ d.edits.spare
  pub frame : frame_room d.node.limits.states d.node.limits.mtu ≤ d.edits.spare
  pub held : 3 * d.node.limits.held ≤ d.edits.spare

pub begins : (d : Draft) → IsReady d.node.limits d.edits → Begins d
begins d ready =
    let room = ready.room in
    record { room = omega (arith, room); frame = omega (arith, room); held = omega (arith, room) }

-- ---- where it is carried out

-- b is what an event that began with the node n makes of a desk with so much room, by at most k edits
record Carries (k all : ℕ) (n : Node) (b : Draft) : Type 0 where
  pub began : began b ≡ n
  pub few : length b.edits.list ≤ k
  pub room : b.edits.spare + length b.edits.list ≡ all

carried : (k : ℕ) (a b : Draft) → IsReady a.node.limits a.edits → Writes k a b → Carries k (most_edits a.node.limits) a.node b
carried k a b ready w =
    let none = ap (λ (es : List NodeEdit). length es) ready.none in
    let room = w.room in
    let spare = w.spare in
    let all = ready.room in
    record {
      began = w.began ∙ ap (λ (es : List NodeEdit). back put_back es a.node) ready.none;
      few = omega (arith, room, spare, none);
      room = omega (arith, room, none, all);
    }

put_back-limits : (e : NodeEdit) (n : Node) → (put_back e n).limits ≡ n.limits
put_back-limits (OfState e) n = refl
put_back-limits (Moved e) n = refl
put_back-limits (OfQueue e) n = refl
put_back-limits (OfHeld e) n = refl
put_back-limits (Server before after) n = refl
put_back-limits (Client before after) n = refl
put_back-limits (Clock before after) n = refl
put_back-limits (NextId before after) n = refl
put_back-limits (Push before after) n = refl
put_back-limits (Count counter before after) n = refl

back-limits : (es : List NodeEdit) (n : Node) → (back put_back es n).limits ≡ n.limits
back-limits [] n = refl
back-limits (e ∷ es) n = put_back-limits e (back put_back es n) ∙ back-limits es n

-- ---- where it ends

-- what an event makes of the node n: it stands on the desk d, which is ready again, and its edits were appended to those from before
pub record Concluded {T W : Type 0} (of : NodeEdit → W) (k : ℕ) (n : Node) (d : Draft) (before after : List W) (result : Result T Refusal) : Type 0 where
  pub node : IsNode d.node
  pub ready : IsReady d.node.limits d.edits
  pub unchanged : OnErr result (d.node ≡ n)
  pub recorded : OnOk result (NodeRecorded of k n d.node before after)

-- what was recorded since the event began leads back through nodes, where no number is too high
through : {W : Type 0} (of : NodeEdit → W) (k : ℕ) (n m : Node) (b : Draft) (before after : List W) → AllRecorded of b m before after
    → length b.edits.list ≤ k → began b ≡ n → is_overcounted m ≡ false → NodeRecorded of k n m before after
through of k n m b before after r less same low =
    let few = r.few in
    record {
      edits = r.edits;
      appended = r.appended;
      leads_back = leads_through r.edits n m (subst (λ (l : Node). LeadsBack Finds AreParts put_back r.edits l m) same r.leads_back) low;
      few = omega (arith, few, less);
    }

-- Stands says which answers were given where no number is too high
module _ {T W : Type 0} (of : NodeEdit → W) (before after : List W) (k : ℕ) (a b d : Draft) (Stands : T → Type 0)
    (is : IsNode a.node) (ready : IsReady a.node.limits a.edits) (writes : Writes k a b) (counted : (t : T) → Stands t → is_overcounted b.node ≡ false)
    (none : d.edits.list ≡ []) (room : d.edits.spare ≡ b.edits.spare + length b.edits.list) where
  so : Carries k (most_edits a.node.limits) a.node b
  so = carried k a b ready writes

  pub concluded : (result : Result T Refusal) → OnErr result (d.node ≡ began b) → IfOk result Stands → OnOk result (d.node ≡ b.node)
      → OnOk result (AreParts d.node)
      → OnOk result (AllRecorded of b d.node before after) → Concluded of k a.node d before after result
  concluded (Ok t) undone stands kept parts recorded =
      let low = ap is_overcounted kept ∙ counted t stands in
      let limits : a.node.limits ≡ d.node.limits = ap (λ (n : Node). n.limits) (sym so.began)
      ∙ (back-limits b.edits.list b.node ∙ ap (λ (n : Node). n.limits) (sym kept)) in
      record {
        node = record { parts = parts; counted = low };
        ready = record { none = none; room = room ∙ (so.room ∙ ap most_edits limits) };
        unchanged = tt;
        recorded = through of k a.node d.node b before after recorded so.few so.began low;
      }
  concluded (Err e) undone stands kept parts recorded =
      let same : d.node ≡ a.node = undone ∙ so.began in
      record {
        node = subst IsNode (sym same) is;
        ready = record { none = none; room = room ∙ (so.room ∙ ap (λ (n : Node). most_edits n.limits) (sym same)) };
        unchanged = same;
        recorded = tt;
      }

-- ---- an event whose edits are recorded alone

itself : {X : Type 0} (xs : List X) → map (λ x. x) xs ≡ xs
itself [] = refl
itself (x ∷ xs) = ap (λ (ys : List _). x ∷ ys) (itself xs)

-- the edits that were recorded alone lead back, and are no more than that
pub record Alone (k : ℕ) (old new : Node) (edits : List NodeEdit) : Type 0 where
  pub leads_back : NodeLeadsBack edits old new
  pub weight : length edits ≤ k

pub alone : (k : ℕ) (old new : Node) (before after : List NodeEdit) → NodeRecorded (λ e. e) k old new before after → before ≡ [] → Alone k old new after
alone k old new before after r none =
    let all : after ≡ r.edits = r.appended ∙ (ap (λ (es : List NodeEdit). es ++ map (λ e. e) r.edits) none ∙ itself r.edits) in
    let few = r.few in
    let long = ap (λ (es : List NodeEdit). length es) all in
    record {
      leads_back = subst (λ (es : List NodeEdit). NodeLeadsBack es old new) (sym all) r.leads_back;
      weight = omega (arith, few, long);
    }
