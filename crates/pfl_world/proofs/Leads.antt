-- What a node's edits are at the pair.
use Rattle.std.specs.Prelude.{◌≡◌, false, Result, Ok, Err, OnOk, OnErr, List, [], ◌∷◌, refl}
use Rattle.std.specs.Result.{is_err}
use Rattle.std.proofs.Common.{◌∙◌, ap, sym, subst}
use Rattle.pfl_base.specs.declared.node_id.NodeId.{NodeId}
use Rattle.pfl_base.specs.declared.node_id.NodeId.TheVariants.{A, B}
use Rattle.pfl_edits.specs.Changes.{back, Fits}
use Rattle.pfl_edits.proofs.ForCallers.{LeadsBack-embedded}
use Rattle.pfl_language.specs.declared.limits.Limits.{Limits}
use Rattle.pfl_node.specs.desk.declared.edit.NodeEdit.{NodeEdit}
use Rattle.pfl_node.specs.desk.declared.edit.NodeEdit.TheVariants.{OfState, Moved, OfQueue, OfHeld, Server, Client, Clock, NextId, Push, Count}
use Rattle.pfl_node.specs.desk.Edits as nodes
use Rattle.pfl_node.specs.desk.Edits.{NodeLeadsBack}
use Rattle.pfl_node.specs.desk.Nodes.{Node, IsNode}
use Rattle.pfl_world.specs.declared.edit.WorldEdit.TheVariants.{OfNode}
use Rattle.pfl_world.specs.WorldEdits.{Finds, put_back, WorldLeadsBack}
use Rattle.pfl_world.specs.inner.WorldEdits.{of_node, before_node}
use Rattle.pfl_world.specs.Worlds.{World, IsWorld, PartsAgree, node_at, with_node}

-- no edit changes limits
limits_kept : (e : NodeEdit) (n : Node) → (nodes.put_back e n).limits ≡ n.limits
limits_kept (OfState e) n = refl
limits_kept (Moved e) n = refl
limits_kept (OfQueue e) n = refl
limits_kept (OfHeld e) n = refl
limits_kept (Server before after) n = refl
limits_kept (Client before after) n = refl
limits_kept (Clock before after) n = refl
limits_kept (NextId before after) n = refl
limits_kept (Push before after) n = refl
limits_kept (Count counter before after) n = refl

pub back_limits : (es : List NodeEdit) (n : Node) → (back nodes.put_back es n).limits ≡ n.limits
back_limits [] n = refl
back_limits (e ∷ es) n = limits_kept e (back nodes.put_back es n) ∙ back_limits es n

-- a node with these limits
abbrev HasLimits : Limits → Node → Type 0
HasLimits l n = IsNode n × (n.limits ≡ l)

fits_limits : (es : List NodeEdit) (n : Node) → Fits nodes.Finds IsNode nodes.put_back es n → Fits nodes.Finds (HasLimits n.limits) nodes.put_back es n
fits_limits [] n f = tt
fits_limits (e ∷ es) n f = (fits_limits es n f.0, f.1, (f.2, back_limits (e ∷ es) n))

-- what leads a node back keeps its limits
pub same_limits : (es : List NodeEdit) (n m : Node) → NodeLeadsBack es n m → m.limits ≡ n.limits
same_limits es n m l = sym (back_limits es m) ∙ ap (λ (k : Node). k.limits) l.back

-- a node with the same limits agrees with the other parts as the one before it did
pub agrees_with : (w : World) → PartsAgree w → (id : NodeId) (n : Node) → n.limits ≡ (node_at w id).limits → PartsAgree (with_node w id n)
agrees_with w is A n same = record {
  nodes = is.nodes ∙ sym same;
  link = is.link ∙ sym (ap (λ (l : Limits). l.frames) same);
  mtu = is.mtu ∙ sym (ap (λ (l : Limits). l.mtu) same);
  countable = is.countable;
}
agrees_with w is B n same = record { nodes = same ∙ is.nodes; link = is.link; mtu = is.mtu; countable = is.countable }

-- a world with another node of the same limits
world_with : (w : World) → IsWorld w → (id : NodeId) (n : Node) → IsNode n → n.limits ≡ (node_at w id).limits → IsWorld (with_node w id n)
world_with w is A n at same = record { a = at; b = is.b; link = is.link; parts = agrees_with w is.parts A n same }
world_with w is B n at same = record { a = is.a; b = at; link = is.link; parts = agrees_with w is.parts B n same }

-- what leads a node back leads a world back in which it stands
embedded : {M : Type 0} (w : World) → IsWorld w → (id : NodeId) (es : List NodeEdit) (was n : Node) → n.limits ≡ (node_at w id).limits
    → NodeLeadsBack es was n → WorldLeadsBack {M = M} (of_node id es) (with_node w id was) (with_node w id n)
embedded w is A es was n same l =
    LeadsBack-embedded nodes.Finds (HasLimits w.a.limits) nodes.put_back Finds IsWorld put_back (OfNode A) (with_node w A)
    (λ e s h. h) (λ s h. world_with w is A s h.0 h.1) (λ e s. refl) es was n
    (record { fits = subst (λ (k : Limits). Fits nodes.Finds (HasLimits k) nodes.put_back es n) same (fits_limits es n l.fits); back = l.back })
embedded w is B es was n same l =
    LeadsBack-embedded nodes.Finds (HasLimits w.b.limits) nodes.put_back Finds IsWorld put_back (OfNode B) (with_node w B)
    (λ e s h. h) (λ s h. world_with w is B s h.0 h.1) (λ e s. refl) es was n
    (record { fits = subst (λ (k : Limits). Fits nodes.Finds (HasLimits k) nodes.put_back es n) same (fits_limits es n l.fits); back = l.back })

-- what leads a node of a world back leads the world back
pub lifted : {M : Type 0} (w : World) → IsWorld w → (id : NodeId) (es : List NodeEdit)
    → Fits nodes.Finds IsNode nodes.put_back es (node_at w id) → WorldLeadsBack {M = M} (of_node id es) (before_node w id es) w
lifted w is A es f = embedded w is A es (back nodes.put_back es w.a) w.a refl (record { fits = f; back = refl })
lifted w is B es f = embedded w is B es (back nodes.put_back es w.b) w.b refl (record { fits = f; back = refl })

-- what leads a node back to one of a world leads back to the world
pub leads_from : {M : Type 0} (w : World) → IsWorld w → (id : NodeId) (es : List NodeEdit) (n : Node) → NodeLeadsBack es (node_at w id) n
    → WorldLeadsBack {M = M} (of_node id es) w (with_node w id n)
leads_from w is A es n l = embedded w is A es w.a n (same_limits es w.a n l) l
leads_from w is B es n l = embedded w is B es w.b n (same_limits es w.b n l) l

-- the node is in its place
node_at-with : (w : World) (id : NodeId) (n : Node) → node_at (with_node w id n) id ≡ n
node_at-with w A n = refl
node_at-with w B n = refl

with_node-again : (w : World) (id : NodeId) (n : Node) → with_node (with_node w id n) id (node_at w id) ≡ w
with_node-again w A n = refl
with_node-again w B n = refl

-- An event at a node of a world: the node was lent, and what was changed leads it back.
module _ (w : World) (id : NodeId) {was n : Node} (at : was ≡ node_at w id) {es : List NodeEdit} (l : NodeLeadsBack es was n) where
  abbrev after : World
  after = with_node w id n

  -- the parts agree as before
  pub agrees_after : PartsAgree w → PartsAgree after
  agrees_after is = agrees_with w is id n (same_limits es was n l ∙ ap (λ (m : Node). m.limits) at)

  -- the edits fit the node in its place
  pub fits_after : Fits nodes.Finds IsNode nodes.put_back es (node_at after id)
  fits_after = subst (Fits nodes.Finds IsNode nodes.put_back es) (sym (node_at-with w id n)) l.fits

  -- taken back there, they give the world from before the event
  pub back_after : before_node after id es ≡ w
  back_after =
      ap (λ (m : Node). with_node after id (back nodes.put_back es m)) (node_at-with w id n)
      ∙ ap (with_node after id) (l.back ∙ at)
      ∙ with_node-again w id n

  -- the node was the one of the name
  pub lent_from : (old : World) → w ≡ old → was ≡ node_at old id
  lent_from old view = at ∙ ap (λ (v : World). node_at v id) view

  -- what the event makes of the node, it makes of the one of the name
  pub made_as : (old new : World) → w ≡ old → new ≡ after → (event : Node → Node) → n ≡ event was → new ≡ with_node old id (event (node_at old id))
  made_as old new view made event is =
      made
      ∙ ap (with_node w id) (is ∙ ap event at)
      ∙ ap (λ (v : World). with_node v id (event (node_at v id))) view

-- what is so where a call did not fail
pub where_ok : {T E P : Type 0} (r : Result T E) → is_err r ≡ false → OnOk r P → P
where_ok (Ok x) fine so = so
where_ok (Err e) fine so = absurd (cc)

-- what is so whatever failed
pub where_err : {T E P : Type 0} (r : Result T E) → P → OnErr r P
where_err (Ok x) so = tt
where_err (Err e) so = so
