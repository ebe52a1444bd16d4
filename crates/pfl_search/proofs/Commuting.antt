-- Two events that commute do the same in either order. What an event does is described by places: the node that it is about, the link, and
-- the next boot.
use Rattle.std.specs.Prelude.{◌≡◌, ◌≢◌, ◌≤◌, ◌<◌, ◌+◌, ◌==◌, ℕ, Bool, true, false, nat_le, nat_lt, ◌&&◌, [], ◌∷◌, length, Option, Some, None, Result}
use Rattle.std.specs.Prelude.{Ok, Err, refl}
use Rattle.std.specs.Option.{option_map_or}
use Rattle.std.proofs.Common.{◌∙◌, ap, sym, subst, arith, ltb-true}
use Rattle.std.proofs.lemmas.Bool.{and_parts}
use Rattle.pfl_base.specs.Numbers.{greatest}
use Rattle.pfl_base.specs.declared.node_id.NodeId.{NodeId}
use Rattle.pfl_base.specs.declared.node_id.NodeId.TheVariants.{A, B}
use Rattle.pfl_base.specs.declared.refusal.Refusal.{Refusal}
use Rattle.pfl_base.specs.declared.refusal.Refusal.TheVariants.{CountFull, LinkFull, NoSuchFrame, NothingPending}
use Rattle.pfl_edits.specs.Maps as maps
use Rattle.pfl_language.specs.declared.event.Event.{Event}
use Rattle.pfl_language.specs.declared.event.Event.TheVariants.{At, Flush, Of, Restart}
use Rattle.pfl_language.specs.declared.event.FrameEvent.TheVariants as frame
use Rattle.pfl_language.specs.declared.node_event.NodeEvent.{NodeEvent}
use Rattle.pfl_language.specs.declared.outcome.Outcome.{Outcome}
use Rattle.pfl_language.specs.declared.outcome.Outcome.TheVariants as outcome
use Rattle.pfl_link.specs.Links.{InFlight, Link, is_counted_out, is_full, sent}
use Rattle.pfl_world.specs.AtNodes.{from_node}
use Rattle.pfl_world.specs.Delivering.{deliver_step, frame_points, read_taken}
use Rattle.pfl_world.specs.Events.{step}
use Rattle.pfl_world.specs.Flushing.{flush_step}
use Rattle.pfl_world.specs.Meanings.{Stepped}
use Rattle.pfl_world.specs.Restarting.{restart_step}
use Rattle.pfl_world.specs.Tickets.{lose_step, without_ticket}
use Rattle.pfl_world.specs.Worlds.{Nodes, World, joined, node_at, of_name, with_link, with_node}
use Rattle.pfl_world.specs.base.Nodes.{other_node}
use Rattle.pfl_world.specs.desk.Changes.{count_broken}
use Rattle.pfl_world.specs.desk.Nodes.{Node, points_refusal, refused_by, unless_refused}
use Rattle.pfl_world.specs.node.Events.{restarted}
use Rattle.pfl_world.specs.node.Flushing.{flushed, frame_of}
use Rattle.pfl_world.specs.node.Stepping.{NodeStepped, node_step}
use Rattle.pfl_world.specs.queue.Queues.{pending}
use Rattle.pfl_world.specs.receive.Delivering.{received}
use Rattle.pfl_world.specs.wire.Frames.{Frame, records_of}
use Rattle.pfl_world.specs.wire.Reading.{reading}
use Rattle.pfl_world.specs.wire.Spelling.{spelling}
use Rattle.pfl_world.specs.wire.declared.fault.BadFrame.{BadFrame}
use Rattle.pfl_search.proofs.Flying.{IsCounted, LinkFits, LinkPart, LinkPasses, Sends, Stays, Takes, link_after, link_rises, link_swaps}
use Rattle.pfl_search.specs.Orders.{comes_first, kind_of, last_of, may_pass, node_rank, rank, stood_at}
use Rattle.pfl_search.specs.declared.order.EventKind.{EventKind}
use Rattle.pfl_search.specs.declared.order.EventKind.TheVariants as kind

-- ---- the nodes

-- the node that an event is about, as it was and as it is
pub record Touch : Type 0 where
  pub id : NodeId
  pub former : Node
  pub new : Node

-- both nodes of a world
abbrev pub nodes_of : World → Nodes
nodes_of w = record { a = w.a; b = w.b }

-- both nodes after an event: the other one stays
abbrev pub nodes_after : Option Touch → Nodes → Nodes
nodes_after None ns = ns
nodes_after (Some t) ns = record { a = of_name t.id t.new ns.a; b = of_name t.id ns.b t.new }

-- the node is as it was
abbrev pub NodesFit : Option Touch → Nodes → Type 0
NodesFit None ns = Unit {0}
NodesFit (Some t) ns = of_name t.id ns.a ns.b ≡ t.former

-- what came second may come first: it is about another node
abbrev pub NodesPass : Option Touch → Option Touch → Type 0
NodesPass None second = Unit {0}
NodesPass (Some t) None = Unit {0}
NodesPass (Some t) (Some u) = t.id ≢ u.id

record NodesSwap (first second : Option Touch) (ns : Nodes) : Type 0 where
  pub before : NodesFit second ns
  pub then : NodesFit first (nodes_after second ns)
  pub same : nodes_after first (nodes_after second ns) ≡ nodes_after second (nodes_after first ns)

abbrev touch : NodeId → Node → Node → Option Touch
touch id former new = Some (record { id = id; former = former; new = new })

two_touched : (i j : NodeId) (m n x y : Node) (ns : Nodes) → i ≢ j → NodesFit (touch i x m) ns → NodesFit (touch j y n) (nodes_after (touch i x m) ns)
    → NodesSwap (touch i x m) (touch j y n) ns
two_touched A A m n x y ns apart fits later = absurd (apart refl)
two_touched A B m n x y ns apart fits later = record { before = later; then = fits; same = refl }
two_touched B A m n x y ns apart fits later = record { before = later; then = fits; same = refl }
two_touched B B m n x y ns apart fits later = absurd (apart refl)

nodes_swap : (first second : Option Touch) (ns : Nodes) → NodesPass first second → NodesFit first ns → NodesFit second (nodes_after first ns)
    → NodesSwap first second ns
nodes_swap None second ns passes fits later = record { before = later; then = tt; same = refl }
nodes_swap (Some t) None ns passes fits later = record { before = tt; then = fits; same = refl }
nodes_swap (Some t) (Some u) ns passes fits later = two_touched t.id u.id t.new u.new t.former u.former ns passes fits later

-- ---- the next boot

-- a boot takes its number
abbrev pub boot_after : Option ℕ → ℕ → ℕ
boot_after None next = next
boot_after (Some boot) next = next + 1

abbrev pub BootFits : Option ℕ → ℕ → Type 0
BootFits None next = Unit {0}
BootFits (Some boot) next = next ≡ boot

abbrev pub BootsPass : Option ℕ → Option ℕ → Type 0
BootsPass None second = Unit {0}
BootsPass (Some boot) None = Unit {0}
BootsPass (Some boot) (Some other) = ⊥

record BootsSwap (first second : Option ℕ) (next : ℕ) : Type 0 where
  pub before : BootFits second next
  pub then : BootFits first (boot_after second next)
  pub same : boot_after first (boot_after second next) ≡ boot_after second (boot_after first next)

boots_swap : (first second : Option ℕ) (next : ℕ) → BootsPass first second → BootFits first next → BootFits second (boot_after first next)
    → BootsSwap first second next
boots_swap None second next passes fits later = record { before = later; then = tt; same = refl }
boots_swap (Some boot) None next passes fits later = record { before = tt; then = fits; same = refl }
boots_swap (Some boot) (Some other) next passes fits later = absurd passes

-- ---- effects

-- what an event does, by its kind
pub data Effect : Type 0 where
  Alone : Touch → Effect
  Flushes : Touch → InFlight → Effect
  Arrives : Touch → ℕ → InFlight → Effect
  Vanishes : ℕ → InFlight → Effect
  Begins_anew : Touch → ℕ → Effect

abbrev pub touch_of : Effect → Option Touch
touch_of (Alone t) = Some t
touch_of (Flushes t f) = Some t
touch_of (Arrives t ticket f) = Some t
touch_of (Vanishes ticket f) = None
touch_of (Begins_anew t boot) = Some t

abbrev pub link_part : Effect → LinkPart
link_part (Alone t) = Stays
link_part (Flushes t f) = Sends f
link_part (Arrives t ticket f) = Takes ticket f
link_part (Vanishes ticket f) = Takes ticket f
link_part (Begins_anew t boot) = Stays

abbrev pub boot_part : Effect → Option ℕ
boot_part (Alone t) = None
boot_part (Flushes t f) = None
boot_part (Arrives t ticket f) = None
boot_part (Vanishes ticket f) = None
boot_part (Begins_anew t boot) = Some boot

abbrev pub effect_kind : Effect → EventKind
effect_kind (Alone t) = kind.AtNode
effect_kind (Flushes t f) = kind.Flush
effect_kind (Arrives t ticket f) = kind.Delivery
effect_kind (Vanishes ticket f) = kind.Loss
effect_kind (Begins_anew t boot) = kind.Restart

-- the ticket of its frame was given when this one was the next
abbrev pub effect_stood : ℕ → Effect → Bool
effect_stood next (Alone t) = true
effect_stood next (Flushes t f) = true
effect_stood next (Arrives t ticket f) = nat_lt ticket next
effect_stood next (Vanishes ticket f) = nat_lt ticket next
effect_stood next (Begins_anew t boot) = true

abbrev pub ticket_of : Effect → ℕ
ticket_of (Alone t) = 0
ticket_of (Flushes t f) = 0
ticket_of (Arrives t ticket f) = ticket
ticket_of (Vanishes ticket f) = ticket
ticket_of (Begins_anew t boot) = 0

-- it is ranked by its node, or else by its ticket
abbrev pub rank_by : Option Touch → ℕ → ℕ
rank_by t ticket = option_map_or (λ u. node_rank u.id) t ticket

abbrev pub effect_rank : Effect → ℕ
effect_rank x = rank_by (touch_of x) (ticket_of x)

-- the world after it
abbrev pub after : Effect → World → World
after x w = joined (nodes_after (touch_of x) (nodes_of w)) (link_after (link_part x) w.link) (boot_after (boot_part x) w.next_boot)

-- each of its places is as it was
pub record Fits (x : Effect) (w : World) : Type 0 where
  pub nodes : NodesFit (touch_of x) (nodes_of w)
  pub link : LinkFits (link_part x) w.link
  pub boot : BootFits (boot_part x) w.next_boot

-- ---- of two effects the second may come first

rank_high : (id : NodeId) → 4294967296 ≤ node_rank id
rank_high A = omega arith
rank_high B = omega arith

nodes_pass : (t u : Option Touch) (m n : ℕ) → rank_by u n < rank_by t m → NodesPass t u
nodes_pass None u m n lower = tt
nodes_pass (Some t) None m n lower = tt
nodes_pass (Some t) (Some u) m n lower = λ same. let level : node_rank t.id ≡ node_rank u.id = ap node_rank same in absurd (omega arith)

boots_pass : (x y : Effect) → may_pass (effect_kind x) (effect_kind y) ≡ true → BootsPass (boot_part x) (boot_part y)
boots_pass (Alone t) y may = tt
boots_pass (Flushes t f) y may = tt
boots_pass (Arrives t ticket f) y may = tt
boots_pass (Vanishes ticket f) y may = tt
boots_pass (Begins_anew t boot) (Alone u) may = tt
boots_pass (Begins_anew t boot) (Flushes u g) may = tt
boots_pass (Begins_anew t boot) (Arrives u other g) may = tt
boots_pass (Begins_anew t boot) (Vanishes other g) may = tt
boots_pass (Begins_anew t boot) (Begins_anew u other) may = absurd cc

link_passes : (x y : Effect) (l : Link) → IsCounted l → LinkFits (link_part x) l → may_pass (effect_kind x) (effect_kind y) ≡ true
    → effect_rank y < effect_rank x → effect_stood l.next y ≡ true
    → LinkPasses l.next (link_part x) (link_part y)
link_passes (Alone t) y l is fits may lower stood = tt
link_passes (Begins_anew t boot) y l is fits may lower stood = tt
link_passes (Arrives t ticket f) (Alone u) l is fits may lower stood = tt
link_passes (Arrives t ticket f) (Flushes u g) l is fits may lower stood = absurd cc
link_passes (Arrives t ticket f) (Arrives u other g) l is fits may lower stood = tt
link_passes (Arrives t ticket f) (Vanishes other g) l is fits may lower stood = tt
link_passes (Arrives t ticket f) (Begins_anew u boot) l is fits may lower stood = tt
link_passes (Vanishes ticket f) (Alone u) l is fits may lower stood = tt
link_passes (Vanishes ticket f) (Flushes u g) l is fits may lower stood =
    let below : ticket < l.next = is.below ticket f fits in
    let few : l.next ≤ 4294967295 = is.countable in
    let high : 4294967296 ≤ node_rank u.id = rank_high u.id in
    let less : node_rank u.id < ticket = lower in
    omega arith
link_passes (Vanishes ticket f) (Arrives u other g) l is fits may lower stood = tt
link_passes (Vanishes ticket f) (Vanishes other g) l is fits may lower stood = tt
link_passes (Vanishes ticket f) (Begins_anew u boot) l is fits may lower stood = tt
link_passes (Flushes t f) (Alone u) l is fits may lower stood = tt
link_passes (Flushes t f) (Flushes u g) l is fits may lower stood = absurd cc
link_passes (Flushes t f) (Arrives u other g) l is fits may lower stood = ltb-true other l.next stood
link_passes (Flushes t f) (Vanishes other g) l is fits may lower stood = ltb-true other l.next stood
link_passes (Flushes t f) (Begins_anew u boot) l is fits may lower stood = tt

record EffectsSwap (x y : Effect) (w : World) : Type 0 where
  pub before : Fits y w
  pub then : Fits x (after y w)
  pub same : after x (after y w) ≡ after y (after x w)

effects_swap : (x y : Effect) (w : World) → IsCounted w.link → may_pass (effect_kind x) (effect_kind y) ≡ true → effect_rank y < effect_rank x
    → effect_stood w.link.next y ≡ true
    → Fits x w → Fits y (after x w) → EffectsSwap x y w
effects_swap x y w is may lower stood fits later =
    let apart = nodes_pass (touch_of x) (touch_of y) (ticket_of x) (ticket_of y) lower in
    let n = nodes_swap (touch_of x) (touch_of y) (nodes_of w) apart fits.nodes later.nodes in
    let l = link_swaps (link_part x) (link_part y) w.link (link_passes x y w.link is fits.link may lower stood) fits.link later.link in
    let b = boots_swap (boot_part x) (boot_part y) w.next_boot (boots_pass x y may) fits.boot later.boot in
    record {
      before = record { nodes = n.before; link = l.before; boot = b.before };
      then = record { nodes = n.then; link = l.then; boot = b.then };
      same = λ i. joined (n.same i) (l.same i) (b.same i);
    }

-- ---- events and their effects

-- The event has this effect in the world, and in each where the effect fits: it is accepted there, and has the same rank.
pub record Acts (w : World) (e : Event) (x : Effect) : Type 0 where
  pub kind : kind_of e ≡ effect_kind x
  pub stood : (next : ℕ) → stood_at next e ≡ effect_stood next x
  pub fits : Fits x w
  pub told : World → Outcome
  pub does : (v : World) → Fits x v → step v e ≡ Ok (record { world = after x v; outcome = told v })
  pub ranked : (v : World) → Fits x v → rank v e ≡ effect_rank x

pub record Acted (w : World) (e : Event) : Type 0 where
  pub effect : Effect
  pub acts : Acts w e effect

-- at a node by itself

at_node : (w : World) (id : NodeId) (e : NodeEvent) (s : Stepped) (r : Result NodeStepped Refusal) → node_step (node_at w id) e ≡ r
    → from_node w id r ≡ Ok s → Acted w (At id e)
unfolding step
at_node w id e s (Err why) is h = absurd cc
at_node w id e s (Ok t) is h = record {
  effect = Alone (record { id = id; former = node_at w id; new = t.node });
  acts = record {
    kind = refl;
    stood = λ next. refl;
    fits = record { nodes = refl; link = tt; boot = tt };
    told = λ v. outcome.At t.outcome;
    does = λ v fits. ap (from_node v id) (ap (λ n. node_step n e) fits.nodes ∙ is);
    ranked = λ v fits. refl;
  };
}

-- a flush

record NoneOf (a b c : Bool) : Type 0 where
  pub first : a ≡ false
  pub second : b ≡ false
  pub third : c ≡ false

abbrev flush_tests : Bool → Bool → Bool → Option Refusal
flush_tests nothing full counted = refused_by ((nothing, NothingPending) ∷ (full, LinkFull) ∷ (counted, CountFull) ∷ [])

none_of : (a b c : Bool) (x s : Stepped) → unless_refused (flush_tests a b c) x ≡ Ok s → NoneOf a b c
none_of true b c x s h = absurd cc
none_of false true c x s h = absurd cc
none_of false false true x s h = absurd cc
none_of false false false x s h = record { first = refl; second = refl; third = refl }

none_then : (a b c : Bool) (x : Stepped) → NoneOf a b c → unless_refused (flush_tests a b c) x ≡ Ok x
none_then true b c x none = let no = none.first in absurd cc
none_then false true c x none = let no = none.second in absurd cc
none_then false false true x none = let no = none.third in absurd cc
none_then false false false x none = refl

abbrev flush_gives : World → NodeId → Node → Stepped
flush_gives w id n = record {
  world = with_link (with_node w id (flushed n)) (sent w.link (record { to = other_node id; bytes = spelling (frame_of n) }));
  outcome = outcome.Sent w.link.next (length (spelling (frame_of n)));
}

abbrev flush_by : World → NodeId → Node → Result Stepped Refusal
flush_by w id n = unless_refused (flush_tests (pending n.queue == 0) (is_full w.link) (is_counted_out w.link)) (flush_gives w id n)

flush-by : (w : World) (id : NodeId) → step w (Flush id) ≡ flush_by w id (node_at w id)
unfolding step flush_step
flush-by w id = refl

flush_acts : (w : World) (id : NodeId) (s : Stepped) → step w (Flush id) ≡ Ok s → Acted w (Flush id)
flush_acts w id s h =
    let n = node_at w id in
    let none = none_of (pending n.queue == 0) (is_full w.link) (is_counted_out w.link) (flush_gives w id n) s (sym (flush-by w id) ∙ h) in
    record {
      effect = Flushes (record { id = id; former = n; new = flushed n }) (record { to = other_node id; bytes = spelling (frame_of n) });
      acts = record {
        kind = refl;
        stood = λ next. refl;
        fits = record { nodes = refl; link = record { not_full = none.second; countable = none.third }; boot = tt };
        told = λ v. outcome.Sent v.link.next (length (spelling (frame_of n)));
        does = λ v fits.
            flush-by v id ∙ ap (flush_by v id) fits.nodes
            ∙ none_then (pending n.queue == 0) (is_full v.link) (is_counted_out v.link) (flush_gives v id n)
            (record { first = none.first; second = fits.link.not_full; third = fits.link.countable });
        ranked = λ v fits. refl;
      };
    }

-- a restart

unrefused : (o : Option Refusal) (x s : Stepped) → unless_refused o x ≡ Ok s → o ≡ None
unrefused None x s h = refl
unrefused (Some r) x s h = absurd cc

abbrev restart_refusal : ℕ → Option Refusal
restart_refusal boot = refused_by ((nat_le greatest boot, CountFull) ∷ [])

abbrev restart_gives : World → NodeId → Node → ℕ → Stepped
restart_gives w id n boot = record { world = record (with_node w id (restarted n boot)) { next_boot = w.next_boot + 1 }; outcome = outcome.Boot boot }

abbrev restart_by : World → NodeId → Node → ℕ → Result Stepped Refusal
restart_by w id n boot = unless_refused (restart_refusal boot) (restart_gives w id n boot)

restart-by : (w : World) (id : NodeId) → step w (Restart id) ≡ restart_by w id (node_at w id) w.next_boot
unfolding step restart_step
restart-by w id = refl

restart_acts : (w : World) (id : NodeId) (s : Stepped) → step w (Restart id) ≡ Ok s → Acted w (Restart id)
restart_acts w id s h =
    let n = node_at w id in
    let boot = w.next_boot in
    let none = unrefused (restart_refusal boot) (restart_gives w id n boot) s (sym (restart-by w id) ∙ h) in
    record {
      effect = Begins_anew (record { id = id; former = n; new = restarted n boot }) boot;
      acts = record {
        kind = refl;
        stood = λ next. refl;
        fits = record { nodes = refl; link = tt; boot = refl };
        told = λ v. outcome.Boot boot;
        does = λ v fits.
            restart-by v id ∙ ap (λ (m : Node). restart_by v id m v.next_boot) fits.nodes ∙ ap (restart_by v id n) fits.boot
            ∙ ap (λ (o : Option Refusal). unless_refused o (restart_gives v id n boot)) none;
        ranked = λ v fits. refl;
      };
    }

-- a delivery

-- the node after a frame that it can read, or with one more counted that it cannot
abbrev arrived : Node → Result Frame BadFrame → Node
arrived n (Ok f) = received n f
arrived n (Err why) = count_broken n

abbrev arrival : Result Frame BadFrame → Outcome
arrival (Ok f) = outcome.Taken (length (records_of f))
arrival (Err why) = outcome.Broken why

abbrev deliver_gives : World → ℕ → NodeId → Node → Result Frame BadFrame → Stepped
deliver_gives w ticket to n read = record { world = with_node (without_ticket w ticket) to (arrived n read); outcome = arrival read }

abbrev deliver_by : World → ℕ → NodeId → Node → Result Frame BadFrame → Result Stepped Refusal
deliver_by w ticket to n read = unless_refused (points_refusal (frame_points n read)) (deliver_gives w ticket to n read)

read-by : (w : World) (ticket : ℕ) (to : NodeId) (n : Node) (read : Result Frame BadFrame)
    → read_taken (without_ticket w ticket) to n read ≡ deliver_by w ticket to n read
read-by w ticket to n (Ok f) = refl
read-by w ticket to n (Err why) = refl

abbrev on_frame : World → ℕ → Option InFlight → Result Stepped Refusal
on_frame w ticket o = option_map_or (λ f. read_taken (without_ticket w ticket) f.to (node_at w f.to) (reading f.bytes)) o (Err NoSuchFrame)

deliver_on : (w : World) (ticket : ℕ) (o : Option InFlight) → maps.get w.link.frames ticket ≡ o → step w (Of ticket frame.Deliver) ≡ on_frame w ticket o
unfolding step deliver_step
deliver_on w ticket o at = ap (on_frame w ticket) at

deliver-by : (w : World) (ticket : ℕ) (f : InFlight) → maps.get w.link.frames ticket ≡ Some f
    → step w (Of ticket frame.Deliver) ≡ deliver_by w ticket f.to (node_at w f.to) (reading f.bytes)
deliver-by w ticket f at = deliver_on w ticket (Some f) at ∙ read-by w ticket f.to (node_at w f.to) (reading f.bytes)

deliver_acts : (w : World) (ticket : ℕ) (s : Stepped) (o : Option InFlight) → maps.get w.link.frames ticket ≡ o → step w (Of ticket frame.Deliver) ≡ Ok s
    → Acted w (Of ticket frame.Deliver)
deliver_acts w ticket s None at h = let no = deliver_on w ticket None at in absurd cc
deliver_acts w ticket s (Some f) at h =
    let n = node_at w f.to in
    let read = reading f.bytes in
    let none = unrefused (points_refusal (frame_points n read)) (deliver_gives w ticket f.to n read) s (sym (deliver-by w ticket f at) ∙ h) in
    record {
      effect = Arrives (record { id = f.to; former = n; new = arrived n read }) ticket f;
      acts = record {
        kind = refl;
        stood = λ next. refl;
        fits = record { nodes = refl; link = at; boot = tt };
        told = λ v. arrival read;
        does = λ v fits.
            deliver-by v ticket f fits.link ∙ ap (λ (m : Node). deliver_by v ticket f.to m read) fits.nodes
            ∙ ap (λ (o : Option Refusal). unless_refused o (deliver_gives v ticket f.to n read)) none;
        ranked = λ v fits. ap (λ (o : Option InFlight). option_map_or (λ g. node_rank g.to) o 0) fits.link;
      };
    }

-- a loss

abbrev lost : World → ℕ → Option InFlight → Result Stepped Refusal
lost w ticket o = option_map_or (λ f. Ok (record { world = without_ticket w ticket; outcome = outcome.Lost })) o (Err NoSuchFrame)

lose_on : (w : World) (ticket : ℕ) (o : Option InFlight) → maps.get w.link.frames ticket ≡ o → step w (Of ticket frame.Lose) ≡ lost w ticket o
unfolding step lose_step
lose_on w ticket o at = ap (lost w ticket) at

lose_acts : (w : World) (ticket : ℕ) (s : Stepped) (o : Option InFlight) → maps.get w.link.frames ticket ≡ o → step w (Of ticket frame.Lose) ≡ Ok s
    → Acted w (Of ticket frame.Lose)
lose_acts w ticket s None at h = let no = lose_on w ticket None at in absurd cc
lose_acts w ticket s (Some f) at h = record {
  effect = Vanishes ticket f;
  acts = record {
    kind = refl;
    stood = λ next. refl;
    fits = record { nodes = tt; link = at; boot = tt };
    told = λ v. outcome.Lost;
    does = λ v fits. lose_on v ticket (Some f) fits.link;
    ranked = λ v fits. refl;
  };
}

from_step : (w : World) (id : NodeId) (e : NodeEvent) → step w (At id e) ≡ from_node w id (node_step (node_at w id) e)
unfolding step
from_step w id e = refl

-- an event that is accepted, and is neither a copy nor a cut, has an effect
pub acted : (w : World) (e : Event) (s : Stepped) → step w e ≡ Ok s → kind_of e ≢ kind.Fixed → Acted w e
acted w (At id e) s h free = at_node w id e s (node_step (node_at w id) e) refl (sym (from_step w id e) ∙ h)
acted w (Flush id) s h free = flush_acts w id s h
acted w (Of ticket frame.Deliver) s h free = deliver_acts w ticket s (maps.get w.link.frames ticket) refl h
acted w (Of ticket frame.Lose) s h free = lose_acts w ticket s (maps.get w.link.frames ticket) refl h
acted w (Of ticket frame.Repeat) s h free = absurd (free refl)
acted w (Of ticket (frame.Cut len)) s h free = absurd (free refl)
acted w (Restart id) s h free = restart_acts w id s h

-- ---- two events

none_passes : (k : EventKind) → may_pass k kind.Fixed ≡ true → ⊥
none_passes kind.AtNode h = cc
none_passes kind.Flush h = cc
none_passes kind.Delivery h = cc
none_passes kind.Loss h = cc
none_passes kind.Restart h = cc
none_passes kind.Fixed h = cc

first_free : (k l : EventKind) → may_pass k l ≡ true → k ≢ kind.Fixed
first_free k l may = λ same. let no : may_pass kind.Fixed l ≡ true = subst (λ (x : EventKind). may_pass x l ≡ true) same may in absurd cc

second_free : (k l : EventKind) → may_pass k l ≡ true → l ≢ kind.Fixed
second_free k l may = λ same. none_passes k (subst (λ (x : EventKind). may_pass k x ≡ true) same may)

-- What came second comes first, and the other event after it, to the same world. Neither has another rank.
pub record Diamond (w : World) (f e : Event) (middle last : World) : Type 0 where
  pub first : Stepped
  pub first_is : step w e ≡ Ok first
  pub second : Stepped
  pub second_is : step first.world f ≡ Ok second
  pub same : second.world ≡ last
  pub same_rank : rank w e ≡ rank middle e
  pub same_rank_after : rank first.world f ≡ rank w f
  pub lower : rank middle e < rank w f
  pub no_later : w.link.next ≤ middle.link.next

-- where an event made the world, its effect did
pub made : (w : World) (e : Event) (s : Stepped) (x : Effect) → Acts w e x → step w e ≡ Ok s → s.world ≡ after x w
made w e s x acts h =
    let does = acts.does w acts.fits in
    let same : s ≡ record { world = after x w; outcome = acts.told w } = cc in
    ap (λ (t : Stepped). t.world) same

-- what the test says
record Test (last : ℕ) (k l : EventKind) (r : ℕ) (stood : Bool) : Type 0 where
  pub lower : r < last
  pub may : may_pass k l ≡ true
  pub stands : stood ≡ true

test : (last : ℕ) (k l : EventKind) (r : ℕ) (stood : Bool) → (nat_lt r last && may_pass k l && stood) ≡ true → Test last k l r stood
test last k l r stood h =
    let parts = and_parts (nat_lt r last && may_pass k l) stood h in
    let more = and_parts (nat_lt r last) (may_pass k l) parts.0 in
    record { lower = ltb-true r last more.0; may = more.1; stands = parts.1 }

pub diamond : (w : World) (f e : Event) (s t : Stepped) → IsCounted w.link → step w f ≡ Ok s → step s.world e ≡ Ok t
    → comes_first (last_of w f) s.world e ≡ true
    → Diamond w f e s.world t.world
diamond w f e s t is done then first =
    let tested = test (rank w f) (kind_of f) (kind_of e) (rank s.world e) (stood_at w.link.next e) first in
    let former = acted w f s done (first_free (kind_of f) (kind_of e) tested.may) in
    let later = acted s.world e t then (second_free (kind_of f) (kind_of e) tested.may) in
    let x = former.effect in
    let y = later.effect in
    let middle : s.world ≡ after x w = made w f s x former.acts done in
    let last : t.world ≡ after y s.world = made s.world e t y later.acts then in
    let may : may_pass (effect_kind x) (effect_kind y) ≡ true =
    subst (λ (k : EventKind). may_pass k (effect_kind y) ≡ true) former.acts.kind
    (subst (λ (k : EventKind). may_pass (kind_of f) k ≡ true) later.acts.kind tested.may) in
    let rank_x = former.acts.ranked w former.acts.fits in
    let rank_y = later.acts.ranked s.world later.acts.fits in
    let less = tested.lower in
    let lower : effect_rank y < effect_rank x = omega arith in
    let stands : effect_stood w.link.next y ≡ true = sym (later.acts.stood w.link.next) ∙ tested.stands in
    let swap = effects_swap x y w is may lower stands former.acts.fits (subst (Fits y) middle later.acts.fits) in
    record {
      first = record { world = after y w; outcome = later.acts.told w };
      first_is = later.acts.does w swap.before;
      second = record { world = after x (after y w); outcome = former.acts.told (after y w) };
      second_is = former.acts.does (after y w) swap.then;
      same = swap.same ∙ ap (after y) (sym middle) ∙ sym last;
      same_rank = later.acts.ranked w swap.before ∙ sym rank_y;
      same_rank_after = former.acts.ranked (after y w) swap.then ∙ sym rank_x;
      lower = tested.lower;
      no_later = subst (λ (v : World). w.link.next ≤ v.link.next) (sym middle) (link_rises (link_part x) w.link);
    }
