-- What events keep of what stands under one name of a node, one after the other; and so levels never fall while it stands.
use Rattle.std.specs.Prelude.{◌≡◌, ◌<◌, ℕ, true, List, [], ◌∷◌, All, Option, Some, None, is_some, IsSomeAnd, Result, fold, map, option_and_then, refl}
use Rattle.std.specs.Option.{option_map_or}
use Rattle.std.proofs.Common.{◌∙◌, T, ap, sym, subst}
use Rattle.std.proofs.lemmas.List.Elements.{All-nil, All-cons, All-head, All-tail}
use Rattle.pfl_base.specs.declared.kernel.Kernel.{Kernel}
use Rattle.pfl_base.specs.declared.node_id.NodeId.{NodeId}
use Rattle.pfl_base.specs.declared.node_id.NodeId.TheVariants.{A, B}
use Rattle.pfl_base.specs.declared.state_name.StateName.{StateName}
use Rattle.pfl_edits.specs.Maps as maps
use Rattle.pfl_edits.proofs.ForCallers.{some_is_none}
use Rattle.pfl_world.specs.track.declared.state.State.{State}
use Rattle.pfl_world.specs.table.Tables.{AreStates}
use Rattle.pfl_world.specs.wire.declared.fault.BadFrame.{BadFrame}
use Rattle.pfl_world.specs.wire.Frames.{Frame}
use Rattle.pfl_world.specs.wire.Reading.{reading}
use Rattle.pfl_language.specs.declared.event.Event.{Event}
use Rattle.pfl_language.specs.declared.event.Event.TheVariants as event
use Rattle.pfl_language.specs.declared.event.FrameEvent.TheVariants as frame
use Rattle.pfl_language.specs.declared.limits.Limits.{Limits}
use Rattle.pfl_world.specs.link.Links.{InFlight}
use Rattle.pfl_world.specs.desk.Nodes.{Node, IsNode, IsGiven}
use Rattle.pfl_world.specs.node.Events.{restarted}
use Rattle.pfl_world.specs.Events.{step, points_at}
use Rattle.pfl_world.specs.Runs.{run, world_after}
use Rattle.pfl_world.specs.Worlds.{World, IsWorld, node_at, with_node}
use Rattle.pfl_laws.specs.Laws.{IsEvent, HasState, StandsThrough, StandsAlong, LevelsNeverFall, LevelsNeverFallAlong, SourcesNeverFall, SourcesNeverFallAlong}
use Rattle.pfl_laws.specs.Laws.{StatesStayApart, StatesStayApartAlong}
use Rattle.pfl_world.specs.Delivering.{frame_points, arrival_points}
use Rattle.pfl_laws.proofs.Following.{Follows, inner}
use Rattle.pfl_laws.proofs.Keeping.{Keeps, keeps-given}
use Rattle.pfl_laws.proofs.Each.{StandsRightly}
use Rattle.pfl_laws.proofs.Merged.{RisesBy}
use Rattle.pfl_laws.proofs.Records.{risen-itself, risen-then, risen-all}
use Rattle.pfl_laws.proofs.Delivering.{Ids, received, received-apart, received-ids, received-rightly, received-rises}
use Rattle.pfl_laws.proofs.Restarting.{restarted-none, restarted-has_none}
use Rattle.pfl_laws.proofs.Stepping.{turned, arrived, IsLocal, turned-keeps, turned-apart, stepped-node, stepped-apart}

-- ---- nodes of a world

pub node-is : (w : World) (id : NodeId) → IsWorld w → IsNode (node_at w id)
node-is w A is = is.a
node-is w B is = is.b

-- the name of a state was given
pub given_at : (n : Node) (name : StateName) (s : State) → IsNode n → maps.get n.states name ≡ Some s → IsGiven n name
given_at n name s is at = subst (IsGiven n) (is.parts.states.filed name s at) (is.parts.each name s at).given

-- ---- what stands under a name

-- each state stands under its own name, that under q is one, and q was given; and these rules are the kernel's
pub record Stood (k : Kernel) (q : StateName) (n : Node) : Type 0 where
  pub kernel : n.limits.kernel ≡ k
  pub states : AreStates n.states
  pub rightly : StandsRightly q n
  pub given : IsGiven n q

begins : (q : StateName) (n : Node) (s : State) → IsNode n → maps.get n.states q ≡ Some s → Stood n.limits.kernel q n
begins q n s is at = record {
  kernel = refl;
  states = is.parts.states;
  rightly = λ k t there same. (is.parts.each k t there).is;
  given = given_at n q s is at;
}

itself : (k : Kernel) (s t : State) → s ≡ t → RisesBy k s t
itself k s t e = subst (RisesBy k s) e (risen-itself k s)

same_state : (k : Kernel) (n : Node) (q : StateName) (s t : State) → maps.get n.states q ≡ Some s → maps.get n.states q ≡ Some t → RisesBy k s t
same_state k n q s t before later = itself k s t (inner s t (sym before ∙ later))

-- ---- what a node does for itself

kept-rises : (C : Type 0) (k : Kernel) (q : StateName) (n m : Node) → Keeps (Follows C) q n m → Stood k q n → (s t : State) → maps.get n.states q ≡ Some s
    → maps.get m.states q ≡ Some t → RisesBy k s t
kept-rises C k q n m keeps stood s t before later =
    let from = keeps.comes t later in
    let same : from.state ≡ s = inner from.state s (sym from.at ∙ before) in
    let rises = from.so.rises (stood.rightly q from.state from.at (stood.states.filed q from.state from.at)) in
    subst (λ (u : State). RisesBy k u t) same (record { src = rises.src; dst = λ off. rises.dst })

kept-stood : (C : Type 0) (k : Kernel) (q : StateName) (n m : Node) → C → Keeps (Follows C) q n m → AreStates m.states → Stood k q n → Stood k q m
kept-stood C k q n m fits keeps are stood = record {
  kernel = ap (λ (l : Limits). l.kernel) keeps.limits ∙ stood.kernel;
  states = are;
  rightly = λ p t at same.
      let here : maps.get m.states q ≡ Some t = subst (λ (a : StateName). maps.get m.states a ≡ Some t) (sym (are.filed p t at) ∙ same) at in
      let from = keeps.comes t here in
      from.so.is fits (stood.rightly q from.state from.at (stood.states.filed q from.state from.at));
  given = keeps-given (Follows C) q n m keeps stood.given;
}

local-rises : (k : Kernel) (w : World) (e : Event) (at : NodeId) (q : StateName) → IsLocal e → Stood k q (node_at w at)
    → (s t : State) → maps.get (node_at w at).states q ≡ Some s → maps.get (turned w e at).states q ≡ Some t → RisesBy k s t
local-rises k w e at q local stood = kept-rises (IsEvent e) k q (node_at w at) (turned w e at) (turned-keeps q w e at local stood.states stood.given) stood

local-stood : (k : Kernel) (w : World) (e : Event) (at : NodeId) (q : StateName) → IsLocal e → IsEvent e → Stood k q (node_at w at) → Stood k q (turned w e at)
local-stood k w e at q local fits stood =
    kept-stood (IsEvent e) k q (node_at w at) (turned w e at) fits (turned-keeps q w e at local stood.states stood.given)
    (turned-apart w e at stood.states) stood

-- ---- a delivery

unmapped : (q : StateName) (ns : List Node) → All (HasState q) (map (λ n. n) ns) → All (HasState q) ns
unmapped q [] all = All-nil (HasState q)
unmapped q (n ∷ ns) all = All-cons (HasState q) n ns (All-head (HasState q) n (map (λ n. n) ns) all)
    (unmapped q ns (All-tail (HasState q) n (map (λ n. n) ns) all))

-- at the receiver the points are the node after each record
arrival-rises : (k : Kernel) (w : World) (to at : NodeId) (q : StateName) (r : Result Frame BadFrame) → Stood k q (node_at w at)
    → All (HasState q) (map (λ n. node_at (with_node w to n) at) (frame_points (node_at w to) r))
    → (s t : State) → maps.get (node_at w at).states q ≡ Some s
    → maps.get (node_at (with_node w to (received (node_at w to) r)) at).states q ≡ Some t → RisesBy k s t
arrival-rises k w A A q r stood stand s t before later =
    received-rises k q w.a r stood.kernel stood.states (unmapped q (frame_points w.a r) stand) s t before later
arrival-rises k w A B q r stood stand s t before later = same_state k w.b q s t before later
arrival-rises k w B A q r stood stand s t before later = same_state k w.a q s t before later
arrival-rises k w B B q r stood stand s t before later =
    received-rises k q w.b r stood.kernel stood.states (unmapped q (frame_points w.b r) stand) s t before later

arrived-rises : (k : Kernel) (w : World) (o : Option InFlight) (at : NodeId) (q : StateName) → Stood k q (node_at w at)
    → All (HasState q) (option_map_or (arrival_points w at) o [])
    → (s t : State) → maps.get (node_at w at).states q ≡ Some s → maps.get (arrived w at o).states q ≡ Some t → RisesBy k s t
arrived-rises k w None at q stood stand s t before later = same_state k (node_at w at) q s t before later
arrived-rises k w (Some f) at q stood stand s t before later = arrival-rises k w f.to at q (reading f.bytes) stood stand s t before later

received-stood : (k : Kernel) (q : StateName) (n : Node) (f : InFlight) → Stood k q n → Stood k q (received n (reading f.bytes))
received-stood k q n f stood =
    let same = received-ids n (reading f.bytes) in
    record {
      kernel = ap (λ (i : Ids). i.2.kernel) same ∙ stood.kernel;
      states = received-apart n (reading f.bytes) stood.states;
      rightly = received-rightly q n f.bytes (reading f.bytes) refl stood.states stood.rightly;
      given = subst (λ (i : Ids). q.creator ≡ i.0 → q.id < i.1) (sym same) stood.given;
    }

put-stood : (k : Kernel) (q : StateName) (w : World) (id : NodeId) (m : Node) (at : NodeId) → (Stood k q (node_at w id) → Stood k q m)
    → Stood k q (node_at w at) → Stood k q (node_at (with_node w id m) at)
put-stood k q w A m A on stood = on stood
put-stood k q w A m B on stood = stood
put-stood k q w B m A on stood = stood
put-stood k q w B m B on stood = on stood

arrived-stood : (k : Kernel) (q : StateName) (w : World) (o : Option InFlight) (at : NodeId) → Stood k q (node_at w at) → Stood k q (arrived w at o)
arrived-stood k q w None at stood = stood
arrived-stood k q w (Some f) at stood = put-stood k q w f.to (received (node_at w f.to) (reading f.bytes)) at (received-stood k q (node_at w f.to) f) stood

-- ---- a restart

anew-rises : (k : Kernel) (w : World) (id at : NodeId) (boot : ℕ) (q : StateName)
    → (s t : State) → maps.get (node_at w at).states q ≡ Some s
    → maps.get (node_at (with_node w id (restarted (node_at w id) boot)) at).states q ≡ Some t → RisesBy k s t
anew-rises k w A A boot q s t before later = absurd (some_is_none t (sym later ∙ restarted-none w.a boot q))
anew-rises k w A B boot q s t before later = same_state k w.b q s t before later
anew-rises k w B A boot q s t before later = same_state k w.a q s t before later
anew-rises k w B B boot q s t before later = absurd (some_is_none t (sym later ∙ restarted-none w.b boot q))

-- the name stands at the other node alone
anew-stood : (k : Kernel) (w : World) (id at : NodeId) (boot : ℕ) (q : StateName)
    → HasState q (node_at (with_node w id (restarted (node_at w id) boot)) at)
    → Stood k q (node_at w at) → Stood k q (node_at (with_node w id (restarted (node_at w id) boot)) at)
anew-stood k w A A boot q has stood = absurd (restarted-has_none w.a boot q has)
anew-stood k w A B boot q has stood = stood
anew-stood k w B A boot q has stood = stood
anew-stood k w B B boot q has stood = absurd (restarted-has_none w.b boot q has)

-- ---- any event

turned-rises : (k : Kernel) (w : World) (e : Event) (at : NodeId) (q : StateName) → Stood k q (node_at w at) → StandsThrough w e at q
    → (s t : State) → maps.get (node_at w at).states q ≡ Some s → maps.get (turned w e at).states q ≡ Some t → RisesBy k s t
turned-rises k w (event.At id e) at q stood stands = local-rises k w (event.At id e) at q tt stood
turned-rises k w (event.Flush id) at q stood stands = local-rises k w (event.Flush id) at q tt stood
turned-rises k w (event.Of ticket frame.Deliver) at q stood stands = arrived-rises k w (maps.get w.link.frames ticket) at q stood stands
turned-rises k w (event.Of ticket frame.Lose) at q stood stands = local-rises k w (event.Of ticket frame.Lose) at q tt stood
turned-rises k w (event.Of ticket frame.Repeat) at q stood stands = local-rises k w (event.Of ticket frame.Repeat) at q tt stood
turned-rises k w (event.Of ticket (frame.Cut len)) at q stood stands = local-rises k w (event.Of ticket (frame.Cut len)) at q tt stood
turned-rises k w (event.Restart id) at q stood stands = anew-rises k w id at w.next_boot q

turned-stood : (k : Kernel) (w : World) (e : Event) (at : NodeId) (q : StateName) → IsEvent e → HasState q (turned w e at) → Stood k q (node_at w at)
    → Stood k q (turned w e at)
turned-stood k w (event.At id e) at q fits has = local-stood k w (event.At id e) at q tt fits
turned-stood k w (event.Flush id) at q fits has = local-stood k w (event.Flush id) at q tt fits
turned-stood k w (event.Of ticket frame.Deliver) at q fits has = arrived-stood k q w (maps.get w.link.frames ticket) at
turned-stood k w (event.Of ticket frame.Lose) at q fits has = local-stood k w (event.Of ticket frame.Lose) at q tt fits
turned-stood k w (event.Of ticket frame.Repeat) at q fits has = local-stood k w (event.Of ticket frame.Repeat) at q tt fits
turned-stood k w (event.Of ticket (frame.Cut len)) at q fits has = local-stood k w (event.Of ticket (frame.Cut len)) at q tt fits
turned-stood k w (event.Restart id) at q fits has = anew-stood k w id at w.next_boot q has

stepped-rises : (k : Kernel) (w : World) (e : Event) (v : World) (at : NodeId) (q : StateName) → world_after (step w e) ≡ Some v
    → Stood k q (node_at w at) → StandsThrough w e at q
    → (s t : State) → maps.get (node_at w at).states q ≡ Some s → maps.get (node_at v at).states q ≡ Some t → RisesBy k s t
stepped-rises k w e v at q accepted stood stands s t before later =
    turned-rises k w e at q stood stands s t before (ap (λ (n : Node). maps.get n.states q) (stepped-node w e v at accepted) ∙ later)

stepped-stood : (k : Kernel) (w : World) (e : Event) (v : World) (at : NodeId) (q : StateName) → world_after (step w e) ≡ Some v → IsEvent e
    → HasState q (node_at v at) → Stood k q (node_at w at) → Stood k q (node_at v at)
stepped-stood k w e v at q accepted fits has stood =
    let same = stepped-node w e v at accepted in
    subst (Stood k q) same (turned-stood k w e at q fits (subst (HasState q) (sym same) has) stood)

-- by whichever rules are the kernel's
step-rises : (w : World) (e : Event) (v : World) → IsWorld w → world_after (step w e) ≡ Some v
    → (id : NodeId) (name : StateName) (s t : State) → StandsThrough w e id name
    → maps.get (node_at w id).states name ≡ Some s → maps.get (node_at v id).states name ≡ Some t → RisesBy (node_at w id).limits.kernel s t
step-rises w e v is accepted id name s t stands before later =
    let n = node_at w id in
    stepped-rises n.limits.kernel w e v id name accepted (begins name n s (node-is w id is) before) stands s t before later

pub levels-step : LevelsNeverFall
levels-step w e v is accepted id name s t off stands before later =
    risen-all (node_at w id).limits.kernel s t off (step-rises w e v is accepted id name s t stands before later)

pub sources-step : SourcesNeverFall
sources-step w e v is accepted id name s t stands before later = (step-rises w e v is accepted id name s t stands before later).src

-- ---- runs

-- the rest of a run goes on from where its first event led
run-on : (w v : World) (e : Event) (es : List Event) → world_after (step w e) ≡ Some v → run w (e ∷ es) ≡ run v es
unfolding run
run-on w v e es is = ap (λ (at : Option World). fold (λ at e. option_and_then (λ u. world_after (step u e)) at) at es) is

-- nothing follows an event that is refused
run-off : (w v : World) (e : Event) (es : List Event) → world_after (step w e) ≡ None → run w (e ∷ es) ≡ Some v → ⊥
unfolding run
run-off w v e es is ran = absurd
    (some_is_none v (sym ran ∙ (ap (λ (at : Option World). fold (λ at e. option_and_then (λ u. world_after (step u e)) at) at es) is ∙ stays es)))
  where
    stays : (es : List Event) → fold (λ at e. option_and_then (λ u. world_after (step u e)) at) None es ≡ None
    stays [] = refl
    stays (x ∷ xs) = stays xs

run-none : (w v : World) → run w [] ≡ Some v → w ≡ v
unfolding run
run-none w v e = inner w v e

-- by what its first event did, a run is no run, or goes on
pub on-run : (P : Type 0) (w v : World) (e : Event) (es : List Event) → run w (e ∷ es) ≡ Some v
    → ((u : World) → world_after (step w e) ≡ Some u → run u es ≡ Some v → P) → P
on-run P w v e es ran next = by (world_after (step w e)) refl
  where
    by : (o : Option World) → world_after (step w e) ≡ o → P
    by None is = absurd (run-off w v e es is ran)
    by (Some u) is = next u is (sym (run-on w u e es is) ∙ ran)

pub at-end : (w v : World) → run w [] ≡ Some v → w ≡ v
at-end w v e = run-none w v e

first-stands : (w : World) (es : List Event) (id : NodeId) (q : StateName) → StandsAlong w es id q → HasState q (node_at w id)
first-stands w [] id q stands = stands
first-stands w (e ∷ es) id q stands = stands.0

-- where a state stands at each record, it does so in a delivery
stands-in : (w : World) (e : Event) (id : NodeId) (q : StateName) → All (HasState q) (points_at w e id) → StandsThrough w e id q
stands-in w (event.At at e) id q all = tt
stands-in w (event.Flush node) id q all = tt
stands-in w (event.Of ticket frame.Deliver) id q all = all
stands-in w (event.Of ticket frame.Lose) id q all = tt
stands-in w (event.Of ticket frame.Repeat) id q all = tt
stands-in w (event.Of ticket (frame.Cut len)) id q all = tt
stands-in w (event.Restart node) id q all = tt

along-rises : (k : Kernel) (es : List Event) (w v : World) (id : NodeId) (q : StateName) → All IsEvent es → run w es ≡ Some v → Stood k q (node_at w id)
    → StandsAlong w es id q
    → (s t : State) → maps.get (node_at w id).states q ≡ Some s → maps.get (node_at v id).states q ≡ Some t → RisesBy k s t
along-rises k [] w v id q fit ran stood stands s t before later =
    same_state k (node_at w id) q s t before (ap (λ (u : World). maps.get (node_at u id).states q) (at-end w v ran) ∙ later)
along-rises k (e ∷ es) w v id q fit ran stood stands s t before later = on-run (RisesBy k s t) w v e es ran (λ u accepted rest.
    let on : StandsAlong u es id q = subst (λ (o : Option World). IsSomeAnd o (λ x. StandsAlong x es id q)) accepted stands.2 in
    let has = first-stands u es id q on in
    let next_stood = stepped-stood k w e u id q accepted (All-head IsEvent e es fit) has stood in
    by u accepted (maps.get (node_at u id).states q) refl has (λ m at. along-rises k es u v id q (All-tail IsEvent e es fit) rest next_stood on m t at later))
  where
    by : (u : World) → world_after (step w e) ≡ Some u → (o : Option State) → maps.get (node_at u id).states q ≡ o → is_some o ≡ true
        → ((m : State) → maps.get (node_at u id).states q ≡ Some m → RisesBy k m t) → RisesBy k s t
    by u accepted None at some on = absurd (subst T (sym some) tt)
    by u accepted (Some m) at some on = risen-then k s m t (stepped-rises k w e u id q accepted stood (stands-in w e id q stands.1) s m before at) (on m at)

-- by whichever rules are the kernel's
run-rises : (w : World) (es : List Event) (v : World) → IsWorld w → All IsEvent es → run w es ≡ Some v
    → (id : NodeId) (name : StateName) (s t : State) → StandsAlong w es id name
    → maps.get (node_at w id).states name ≡ Some s → maps.get (node_at v id).states name ≡ Some t → RisesBy (node_at w id).limits.kernel s t
run-rises w es v is fit ran id name s t stands before later =
    let n = node_at w id in
    along-rises n.limits.kernel es w v id name fit ran (begins name n s (node-is w id is) before) stands s t before later

pub levels-along : LevelsNeverFallAlong
levels-along w es v is fit ran id name s t off stands before later =
    risen-all (node_at w id).limits.kernel s t off (run-rises w es v is fit ran id name s t stands before later)

pub sources-along : SourcesNeverFallAlong
sources-along w es v is fit ran id name s t stands before later = (run-rises w es v is fit ran id name s t stands before later).src

-- ---- keys

pub apart-step : StatesStayApart
apart-step w e v is accepted id = stepped-apart w e v id accepted (node-is w id is).parts.states

all-apart : (es : List Event) (w v : World) (id : NodeId) → run w es ≡ Some v → AreStates (node_at w id).states → AreStates (node_at v id).states
all-apart [] w v id ran are = subst (λ (u : World). AreStates (node_at u id).states) (at-end w v ran) are
all-apart (e ∷ es) w v id ran are =
    on-run (AreStates (node_at v id).states) w v e es ran (λ u accepted rest. all-apart es u v id rest (stepped-apart w e u id accepted are))

pub apart-along : StatesStayApartAlong
apart-along w es v is ran id = all-apart es w v id ran (node-is w id is).parts.states
