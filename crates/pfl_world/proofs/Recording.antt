-- What was recorded: of a node, of the link and of a restart, one thing after another, and above the length that the list had.
use Rattle.std.specs.Prelude.{◌≡◌, ◌≤◌, ℕ, ◌+◌, List, [], ◌∷◌, ◌++◌, length, Result, Ok, Err, OnOk, OnErr, refl}
use Rattle.std.specs.List.{AllByRecursion}
use Rattle.std.proofs.Common.{◌∙◌, ap, sym, subst, arith, append_assoc, length-append}
use Rattle.std.proofs.Math.Seq.{take-append_seam, drop-append_seam}
use Rattle.std.proofs.lemmas.List.{append-nil, length-drop, length-map}
use Rattle.pfl_base.specs.declared.node_id.NodeId.{NodeId}
use Rattle.pfl_base.proofs.ForCallers.{each-append, each-weaker}
use Rattle.pfl_edits.specs.Changes.{back, Fits}
use Rattle.pfl_edits.specs.Tapes.{above, below}
use Rattle.pfl_edits.proofs.ForCallers.{LeadsBack-append, LeadsBack-one}
use Rattle.pfl_node.specs.desk.declared.edit.NodeEdit.{NodeEdit}
use Rattle.pfl_node.specs.desk.Edits as nodes
use Rattle.pfl_node.specs.desk.Edits.{NodeLeadsBack, NodeRecorded}
use Rattle.pfl_node.specs.desk.Nodes.{Node, IsNode}
use Rattle.pfl_link.specs.LinkEdits as links
use Rattle.pfl_link.specs.LinkEdits.{LinkEdit, LinkLeadsBack}
use Rattle.pfl_link.specs.Links.{Link, IsLink}
use Rattle.pfl_world.specs.declared.edit.WorldEdit.{WorldEdit}
use Rattle.pfl_world.specs.declared.edit.WorldEdit.TheVariants.{OfNode, OfLink}
use Rattle.pfl_world.specs.Values.{HoldsLittle}
use Rattle.pfl_world.specs.WorldEdits.{Finds, put_back, WorldLeadsBack}
use Rattle.pfl_world.specs.inner.Recording.{Recorded}
use Rattle.pfl_world.specs.inner.WorldEdits.{of_node, before_node, before_link}
use Rattle.pfl_world.specs.Worlds.{World, IsWorld, PartsAgree, node_at, with_node, with_link}
use Rattle.pfl_world.proofs.Leads.{lifted, leads_from, agrees_with, agrees_after}
use Rattle.pfl_world.proofs.Little.{node_edits-little, of_link-little}

-- ---- of a node and of the link

module _ {M : Type 0} (before after : List (WorldEdit M)) (w : World) (is : IsWorld w) where
  pub recorded_node : (id : NodeId) (es : List NodeEdit) → Fits nodes.Finds IsNode nodes.put_back es (node_at w id)
      → after ≡ before ++ of_node id es → Recorded HoldsLittle (before_node w id es) w before after
  recorded_node id es fits list = record { edits = of_node id es; appended = list; leads_back = lifted w is id es fits; kind = node_edits-little M id es }

  pub recorded_link : (e : LinkEdit) (l : Link) → LinkLeadsBack (e ∷ []) w.link l → after ≡ before ++ OfLink e ∷ []
      → Recorded HoldsLittle w (with_link w l) before after
  recorded_link e l leads list = record {
    edits = OfLink e ∷ [];
    appended = list;
    leads_back = LeadsBack-one Finds IsWorld put_back (OfLink e) w (with_link w l) leads.fits.1 is (ap (λ (k : Link). with_link w k) leads.back);
    kind = (of_link-little e, tt);
  }

-- of the link, in words of what it is after
pub recorded_link-after : {M : Type 0} (before after : List (WorldEdit M)) (w : World) → IsWorld w → (e : LinkEdit)
    → Fits links.Finds IsLink links.put_back (e ∷ []) w.link
    → after ≡ before ++ OfLink e ∷ [] → Recorded HoldsLittle (before_link w e) w before after
recorded_link-after before after w is e fits list =
    let parts : PartsAgree (before_link w e) = record { nodes = is.parts.nodes; link = is.parts.link; mtu = is.parts.mtu; countable = is.parts.countable } in
    recorded_link before after (before_link w e) (record { a = is.a; b = is.b; link = fits.2; parts = parts }) e w.link
    (record { fits = fits; back = refl }) list

-- as many edits more as the node has
pub count_node : {M : Type 0} (id : NodeId) (es : List NodeEdit) (before after : List (WorldEdit M)) → after ≡ before ++ of_node id es
    → length after ≡ length before + length es
count_node {M = M} id es before after list =
    let same : length (of_node {M = M} id es) ≡ length es = length-map es (OfNode id) in
    ap length list ∙ length-append before (of_node id es) ∙ ap (λ (n : ℕ). length before + n) same

-- ---- of a node that recorded straight into the pair's list

-- the node under the name was lent, and recorded at most k edits
module _ {M : Type 0} (w : World) (id : NodeId) {was n : Node} (at : was ≡ node_at w id) {k : ℕ} {before after : List (WorldEdit M)}
    (r : NodeRecorded {W = WorldEdit M} (OfNode id) k was n before after) where
  -- which are edits of the pair
  pub recorded_at : (old new : World) → w ≡ old → IsWorld old → new ≡ with_node w id n → Recorded HoldsLittle old new before after
  recorded_at old new view is made = record {
    edits = of_node id r.edits;
    appended = r.appended;
    leads_back = subst (λ (v : World). WorldLeadsBack {M = M} (of_node id r.edits) old v) (sym (made ∙ ap (λ (v : World). with_node v id n) view))
        (leads_from old is id r.edits n (subst (λ (m : Node). NodeLeadsBack r.edits m n) (at ∙ ap (λ (v : World). node_at v id) view) r.leads_back));
    kind = node_edits-little M id r.edits;
  }

  -- as many more
  pub few_at : length after ≤ length before + k
  few_at =
      let few = r.few in
      let more = count_node id r.edits before after r.appended in
      omega (arith, few, more)

  -- and the parts of the pair agree as before
  pub agrees_at : PartsAgree w → PartsAgree (with_node w id n)
  agrees_at is = agrees_after w id at r.leads_back is

-- the parts agree too where nothing became of the node
pub agrees_either : {M T E : Type 0} (w : World) (id : NodeId) {was : Node} (n : Node) (at : was ≡ node_at w id) (k : ℕ)
    (before after : List (WorldEdit M)) (r : Result T E) → OnErr r (n ≡ was)
    → OnOk r (NodeRecorded {W = WorldEdit M} (OfNode id) k was n before after) → PartsAgree w → PartsAgree (with_node w id n)
agrees_either w id n at k before after (Ok x) same so is = agrees_at w id at so is
agrees_either w id n at k before after (Err e) same so is = agrees_with w is id n (ap (λ (m : Node). m.limits) (same ∙ at))

-- ---- one thing after another

pub recorded-then : {M : Type 0} {Kind : WorldEdit M → Type 0} {a b c : World} {before mid after : List (WorldEdit M)}
    → Recorded Kind a b before mid → Recorded Kind b c mid after → Recorded Kind a c before after
recorded-then {M = M} {Kind = Kind} {a = a} {b = b} {c = c} {before = before} r s = record {
  edits = r.edits ++ s.edits;
  appended = s.appended ∙ ap (λ (es : List (WorldEdit M)). es ++ s.edits) r.appended ∙ append_assoc before r.edits s.edits;
  leads_back = LeadsBack-append Finds IsWorld put_back r.edits s.edits a b c r.leads_back s.leads_back;
  kind = each-append Kind r.edits s.edits r.kind s.kind;
}

-- ---- in other words

-- between equal worlds
pub recorded-as : {M : Type 0} {Kind : WorldEdit M → Type 0} {a b old new : World} {before after : List (WorldEdit M)}
    → Recorded Kind a b before after → a ≡ old → b ≡ new → Recorded Kind old new before after
recorded-as {Kind = Kind} {a = a} {new = new} {before = before} {after = after} r first last =
    subst (λ (v : World). Recorded Kind v new before after) first (subst (λ (v : World). Recorded Kind a v before after) last r)

-- edits of another kind
pub recorded-kind : {M : Type 0} {Kind Other : WorldEdit M → Type 0} {old new : World} {before after : List (WorldEdit M)}
    → ((x : WorldEdit M) → Kind x → Other x) → Recorded Kind old new before after → Recorded Other old new before after
recorded-kind {Kind = Kind} {Other = Other} means r = record {
  edits = r.edits;
  appended = r.appended;
  leads_back = r.leads_back;
  kind = each-weaker Kind Other means r.edits r.kind;
}

-- what follows where there is a value
pub on_ok : {T E P Q : Type 0} (r : Result T E) → (P → Q) → OnOk r P → OnOk r Q
on_ok (Err e) follows so = tt
on_ok (Ok x) follows so = follows so

-- ---- what was appended is above the length that the list had

module _ {M : Type 0} {Kind : WorldEdit M → Type 0} {old new : World} {before after : List (WorldEdit M)} (r : Recorded Kind old new before after) where
  since : above (length before) after ≡ r.edits
  since = ap (above (length before)) r.appended ∙ drop-append_seam before r.edits

  pub fits_since : Fits Finds IsWorld put_back (above (length before) after) new
  fits_since = subst (λ (es : List (WorldEdit M)). Fits Finds IsWorld put_back es new) (sym since) r.leads_back.fits

  pub back_since : back put_back (above (length before) after) new ≡ old
  back_since = ap (λ (es : List (WorldEdit M)). back put_back es new) since ∙ r.leads_back.back

  pub kind_since : AllByRecursion Kind (above (length before) after)
  kind_since = subst (λ (es : List (WorldEdit M)). AllByRecursion Kind es) (sym since) r.kind

-- the edits that it had are below
pub kept_below : {M T E : Type 0} (Kind : WorldEdit M → Type 0) (old new : World) (before after : List (WorldEdit M)) (r : Result T E)
    → OnErr r (after ≡ before)
    → OnOk r (Recorded Kind old new before after) → below (length before) after ≡ before
kept_below Kind old new before after (Ok x) same so = ap (below (length before)) so.appended ∙ take-append_seam before so.edits
kept_below Kind old new before after (Err e) same so = ap (below (length before)) (same ∙ sym (append-nil before)) ∙ take-append_seam before []

-- as many are above as there are more
pub few_since : {F : Type 0} (before after : List F) (n : ℕ) → length after ≤ length before + n → length (above (length before) after) ≤ n
few_since before after n few = omega (arith, few, length-drop (length before) after)
