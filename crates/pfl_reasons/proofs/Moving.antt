-- What an event that is accepted does to the frames in flight.
use Rattle.std.specs.Prelude.{◌≡◌, ◌≢◌, ◌≤◌, ◌<◌, ◌+◌, ◌==◌, ◌⊎◌, ℕ, Bool, true, false, nat_le, [], ◌∷◌, length, Option, Some, None, Result, Ok, Err, refl}
use Rattle.std.specs.Option.{option_map_or}
use Rattle.std.proofs.Common.{◌∙◌, ap, sym, subst, inl, inr, arith}
use Rattle.std.proofs.lemmas.Bool.{eqb-false, eqb-true, leb-false}
use Rattle.std.proofs.lemmas.Cmp.{nat_cmp_total}
use Rattle.std.proofs.lemmas.Map.Lookups.{exact_unsigned}
use Rattle.pfl_base.specs.declared.node_id.NodeId.{NodeId}
use Rattle.pfl_base.specs.declared.refusal.Refusal.{Refusal}
use Rattle.pfl_base.specs.declared.refusal.Refusal.TheVariants.{CountFull, LinkFull, NoSuchFrame, NothingPending}
use Rattle.pfl_base.specs.Numbers.{greatest}
use Rattle.pfl_edits.specs.Maps as maps
use Rattle.pfl_edits.proofs.ForCallers.{get-set_at_cases, get-set_at_other, get-set_at_same}
use Rattle.pfl_wire.specs.declared.fault.BadFrame.{BadFrame}
use Rattle.pfl_wire.specs.Frames.{Frame, records_of}
use Rattle.pfl_wire.specs.Reading.{reading}
use Rattle.pfl_language.specs.declared.event.Event.{Event}
use Rattle.pfl_language.specs.declared.event.Event.TheVariants as event
use Rattle.pfl_language.specs.declared.event.FrameEvent.{FrameEvent}
use Rattle.pfl_language.specs.declared.event.FrameEvent.TheVariants as frame
use Rattle.pfl_language.specs.declared.outcome.Outcome.TheVariants as outcome
use Rattle.pfl_link.specs.Links.{InFlight, IsLink, Link, cut_to, is_counted_out, is_full, sent, with_frame, without_frame}
use Rattle.pfl_world.specs.desk.Changes.{count_broken}
use Rattle.pfl_world.specs.desk.Nodes.{Node, full_tests, refused_by, unless_refused}
use Rattle.pfl_world.specs.node.Events.{restarted}
use Rattle.pfl_world.specs.node.Flushing.{flushed}
use Rattle.pfl_world.specs.node.Stepping.{NodeStepped, node_step}
use Rattle.pfl_world.specs.queue.Queues.{pending}
use Rattle.pfl_world.specs.receive.Delivering.{receive_points, received}
use Rattle.pfl_world.specs.AtNodes.{from_node, stepped_at}
use Rattle.pfl_world.specs.Delivering.{deliver_step, read_taken}
use Rattle.pfl_world.specs.Events.{frame_event, step}
use Rattle.pfl_world.specs.Flushing.{flush_step, sent_frame}
use Rattle.pfl_world.specs.Meanings.{Stepped}
use Rattle.pfl_world.specs.Restarting.{restart_step}
use Rattle.pfl_world.specs.Tickets.{cut_step, lose_step, repeat_step, step_unless, without_ticket}
use Rattle.pfl_world.specs.Worlds.{World, node_at, with_link, with_node}
use Rattle.pfl_reasons.specs.Frames.{befalls, is_sent}
use Rattle.pfl_reasons.specs.Senders.{befallen, left_of, next_after, read_outcome, sends}

-- ---- what it is

-- the link stays, and the outcome is not that a frame was sent
pub record Stays (l : Link) (s : Stepped) : Type 0 where
  pub link : s.world.link ≡ l
  pub outcome : (ticket : ℕ) → is_sent ticket s.outcome ≡ false

-- the frame is sent under the next ticket, which is not the last number
pub record Sends (l : Link) (f : InFlight) (s : Stepped) : Type 0 where
  pub link : s.world.link ≡ sent l f
  pub outcome : s.outcome ≡ outcome.Sent l.next (length f.bytes)
  pub room : l.next < greatest

-- the link after an event that befalls the frame
abbrev pub link_after : Link → ℕ → InFlight → FrameEvent → Link
link_after l ticket f frame.Deliver = without_frame l ticket
link_after l ticket f frame.Lose = without_frame l ticket
link_after l ticket f frame.Repeat = sent l f
link_after l ticket f (frame.Cut len) = with_frame l ticket (cut_to f len)

-- where it sends one more, the next ticket is not the last number
abbrev pub HasNumber : Link → FrameEvent → Type 0
HasNumber l frame.Repeat = l.next < greatest
HasNumber l other = Unit {0}

-- the event befalls a frame in flight
pub record Befalls (l : Link) (ticket : ℕ) (e : FrameEvent) (s : Stepped) : Type 0 where
  pub frame : InFlight
  pub at : maps.get l.frames ticket ≡ Some frame
  pub link : s.world.link ≡ link_after l ticket frame e
  pub outcome : s.outcome ≡ befallen l.next frame e
  pub room : HasNumber l e

-- what the event does to the link
abbrev pub Moves : Link → Event → Stepped → Type 0
Moves l (event.At id e) s = Stays l s
Moves l (event.Flush id) s = (f : InFlight) × Sends l f s
Moves l (event.Of ticket e) s = Befalls l ticket e s
Moves l (event.Restart id) s = Stays l s

-- ---- that it is so

answered : (o : Option Refusal) (s t : Stepped) → unless_refused o s ≡ Ok t → s ≡ t
answered None s t is = cc
answered (Some r) s t is = absurd (cc)

at_node : (w : World) (id : NodeId) (r : Result NodeStepped Refusal) (s : Stepped) → from_node w id r ≡ Ok s → Stays w.link s
at_node w id (Ok n) s is = let same : stepped_at w id n ≡ s = cc in subst (Stays w.link) same (record { link = refl; outcome = λ ticket. refl })
at_node w id (Err r) s is = absurd (cc)

counted : (l : Link) → is_counted_out l ≡ false → l.next < greatest
counted l is = leb-false 4294967295 l.next is

goes_out : (none full counted : Bool) (s t : Stepped)
    → unless_refused (refused_by ((none, NothingPending) ∷ (full, LinkFull) ∷ (counted, CountFull) ∷ [])) s ≡ Ok t → (s ≡ t) × (counted ≡ false)
goes_out true full counted s t is = absurd (cc)
goes_out false true counted s t is = absurd (cc)
goes_out false false true s t is = absurd (cc)
goes_out false false false s t is = (cc, refl)

has_room : (full counted : Bool) (s t : Stepped) → unless_refused (refused_by ((full, LinkFull) ∷ (counted, CountFull) ∷ [])) s ≡ Ok t
    → (s ≡ t) × (counted ≡ false)
has_room true counted s t is = absurd (cc)
has_room false true s t is = absurd (cc)
has_room false false s t is = (cc, refl)

found : (o : Option InFlight) (done : InFlight → Result Stepped Refusal) (s : Stepped) → option_map_or done o (Err NoSuchFrame) ≡ Ok s
    → (f : InFlight) × (o ≡ Some f) × (done f ≡ Ok s)
found None done s is = absurd (cc)
found (Some f) done s is = (f, refl, is)

-- what came of a frame that was read, or not
came : (w : World) (to : NodeId) (n : Node) (r : Result Frame BadFrame) (s : Stepped) → read_taken w to n r ≡ Ok s
    → (s.world.link ≡ w.link) × (s.outcome ≡ read_outcome r)
came w to n (Ok f) s is =
    let same = answered (refused_by (full_tests (receive_points n f)))
    (record { world = with_node w to (received n f); outcome = outcome.Taken (length (records_of f)) }) s is in
    (ap (λ (t : Stepped). t.world.link) (sym same), ap (λ (t : Stepped). t.outcome) (sym same))
came w to n (Err why) s is =
    let same = answered (refused_by (full_tests (count_broken n ∷ [])))
    (record { world = with_node w to (count_broken n); outcome = outcome.Broken why }) s is in
    (ap (λ (t : Stepped). t.world.link) (sym same), ap (λ (t : Stepped). t.outcome) (sym same))

of_frame : (w : World) (ticket : ℕ) (e : FrameEvent) (s : Stepped) → frame_event w ticket e ≡ Ok s → Befalls w.link ticket e s
unfolding deliver_step lose_step repeat_step cut_step
of_frame w ticket frame.Deliver s is =
    let at = found (maps.get w.link.frames ticket) (λ f. read_taken (without_ticket w ticket) f.to (node_at w f.to) (reading f.bytes)) s is in
    let f = at.0 in
    let of = came (without_ticket w ticket) f.to (node_at w f.to) (reading f.bytes) s at.2 in
    record { frame = f; at = at.1; link = of.0; outcome = of.1; room = tt }
of_frame w ticket frame.Lose s is =
    let at = found (maps.get w.link.frames ticket) (λ f. step_unless [] (without_ticket w ticket) outcome.Lost) s is in
    let same = answered None (record { world = without_ticket w ticket; outcome = outcome.Lost }) s at.2 in
    record { frame = at.0; at = at.1; link = ap (λ (t : Stepped). t.world.link) (sym same); outcome = ap (λ (t : Stepped). t.outcome) (sym same); room = tt }
of_frame w ticket frame.Repeat s is =
    let at = found (maps.get w.link.frames ticket)
    (λ f. step_unless ((is_full w.link, LinkFull) ∷ (is_counted_out w.link, CountFull) ∷ []) (with_link w (sent w.link f))
    (outcome.Sent w.link.next (length f.bytes))) s is in
    let f = at.0 in
    let same = has_room (is_full w.link) (is_counted_out w.link)
    (record { world = with_link w (sent w.link f); outcome = outcome.Sent w.link.next (length f.bytes) }) s at.2 in
    record {
      frame = f;
      at = at.1;
      link = ap (λ (t : Stepped). t.world.link) (sym same.0);
      outcome = ap (λ (t : Stepped). t.outcome) (sym same.0);
      room = counted w.link same.1;
    }
of_frame w ticket (frame.Cut len) s is =
    let at = found (maps.get w.link.frames ticket)
    (λ f. step_unless [] (with_link w (with_frame w.link ticket (cut_to f len))) (outcome.CutTo (length (cut_to f len).bytes))) s is in
    let f = at.0 in
    let same = answered None (record {
      world = with_link w (with_frame w.link ticket (cut_to f len));
      outcome = outcome.CutTo (length (cut_to f len).bytes);
    }) s at.2 in
    record { frame = f; at = at.1; link = ap (λ (t : Stepped). t.world.link) (sym same); outcome = ap (λ (t : Stepped). t.outcome) (sym same); room = tt }

pub moves : (w : World) (e : Event) (s : Stepped) → step w e ≡ Ok s → Moves w.link e s
unfolding step flush_step restart_step
moves w (event.At id e) s is = at_node w id (node_step (node_at w id) e) s is
moves w (event.Flush id) s is =
    let same = goes_out (pending (node_at w id).queue == 0) (is_full w.link) (is_counted_out w.link)
    (record {
      world = with_link (with_node w id (flushed (node_at w id))) (sent w.link (sent_frame w id));
      outcome = outcome.Sent w.link.next (length (sent_frame w id).bytes);
    }) s is in (
      sent_frame w id,
      record {
        link = ap (λ (t : Stepped). t.world.link) (sym same.0);
        outcome = ap (λ (t : Stepped). t.outcome) (sym same.0);
        room = counted w.link same.1;
      },
    )
moves w (event.Of ticket e) s is = of_frame w ticket e s is
moves w (event.Restart id) s is =
    let same = answered (refused_by ((nat_le greatest w.next_boot, CountFull) ∷ []))
    (record {
      world = record (with_node w id (restarted (node_at w id) w.next_boot)) { next_boot = w.next_boot + 1 };
      outcome = outcome.Boot w.next_boot;
    }) s is in
    subst (Stays w.link) same (record { link = refl; outcome = λ ticket. refl })

-- ---- it sends a frame, or does not

-- it sends none
pub record IsQuiet (l : Link) (e : Event) (s : Stepped) : Type 0 where
  pub sends : sends e ≡ false
  pub next : s.world.link.next ≡ l.next
  pub outcome : (ticket : ℕ) → is_sent ticket s.outcome ≡ false

-- it sends one
pub record IsSender (l : Link) (e : Event) (s : Stepped) : Type 0 where
  pub sends : sends e ≡ true
  pub next : s.world.link.next ≡ l.next + 1
  pub frame : InFlight
  pub outcome : s.outcome ≡ outcome.Sent l.next (length frame.bytes)
  pub at : maps.get s.world.link.frames l.next ≡ Some frame
  pub room : l.next < greatest

quiet : (l : Link) (e : Event) (s : Stepped) → sends e ≡ false → Stays l s → IsQuiet l e s
quiet l e s none stays = record { sends = none; next = ap (λ (m : Link). m.next) stays.link; outcome = stays.outcome }

sender : (l : Link) (e : Event) (f : InFlight) (s : Stepped) → sends e ≡ true → Sends l f s → IsSender l e s
sender l e f s one does = record {
  sends = one;
  next = ap (λ (m : Link). m.next) does.link;
  frame = f;
  outcome = does.outcome;
  at = ap (λ (m : Link). maps.get m.frames l.next) does.link ∙ get-set_at_same nat_cmp_total exact_unsigned l.frames l.next (Some f);
  room = does.room;
}

-- what a frame gives that comes to its receiver is not that one was sent
read-unsent : (r : Result Frame BadFrame) (ticket : ℕ) → is_sent ticket (read_outcome r) ≡ false
read-unsent (Ok f) ticket = refl
read-unsent (Err why) ticket = refl

pub turns : (l : Link) (e : Event) (s : Stepped) → Moves l e s → IsQuiet l e s ⊎ IsSender l e s
turns l (event.At id e) s m = inl (quiet l (event.At id e) s refl m)
turns l (event.Flush id) s m = inr (sender l (event.Flush id) m.0 s refl m.1)
turns l (event.Of ticket frame.Deliver) s m = inl (record {
  sends = refl;
  next = ap (λ (k : Link). k.next) m.link;
  outcome = λ t. ap (is_sent t) m.outcome ∙ read-unsent (reading m.frame.bytes) t;
})
turns l (event.Of ticket frame.Lose) s m = inl (record { sends = refl; next = ap (λ (k : Link). k.next) m.link; outcome = λ t. ap (is_sent t) m.outcome })
turns l (event.Of ticket frame.Repeat) s m =
    inr (sender l (event.Of ticket frame.Repeat) m.frame s refl (record { link = m.link; outcome = m.outcome; room = m.room }))
turns l (event.Of ticket (frame.Cut len)) s m = inl (record { sends = refl; next = ap (λ (k : Link). k.next) m.link; outcome = λ t. ap (is_sent t) m.outcome })
turns l (event.Restart id) s m = inl (quiet l (event.Restart id) s refl m)

-- the next ticket after it
pub next-is : (l : Link) (e : Event) (s : Stepped) → Moves l e s → s.world.link.next ≡ next_after l.next e
next-is l e s m = elim (turns l e s m) [
  | inl q ↦ rw (q.sends) q.next
  | inr q ↦ rw (q.sends) q.next
]

-- ---- each ticket in flight was given

-- the tickets in flight are below the next one, which is a number
pub record AreGiven (l : Link) : Type 0 where
  pub below : (ticket : ℕ) (f : InFlight) → maps.get l.frames ticket ≡ Some f → ticket < l.next
  pub countable : l.next ≤ greatest

pub given : (l : Link) → IsLink l → AreGiven l
given l is = record { below = is.below; countable = is.countable }

sent-given : (l : Link) (f : InFlight) → l.next < greatest → AreGiven l → AreGiven (sent l f)
sent-given l f room are = record {
  below = λ ticket g at. elim (get-set_at_cases nat_cmp_total exact_unsigned l.frames l.next (Some f) ticket g at) [
    | inl own ↦ omega (arith, own.0)
    | inr other ↦ omega (arith, are.below ticket g other.1)
  ];
  countable = omega arith;
}

without-given : (l : Link) (ticket : ℕ) → AreGiven l → AreGiven (without_frame l ticket)
without-given l ticket are = record {
  below = λ t g at. elim (get-set_at_cases nat_cmp_total exact_unsigned l.frames ticket None t g at) [
    | inl own ↦ absurd (cc (own.1))
    | inr other ↦ are.below t g other.1
  ];
  countable = are.countable;
}

with-given : (l : Link) (ticket : ℕ) (f g : InFlight) → maps.get l.frames ticket ≡ Some f → AreGiven l → AreGiven (with_frame l ticket g)
with-given l ticket f g there are = record {
  below = λ t h at. elim (get-set_at_cases nat_cmp_total exact_unsigned l.frames ticket (Some g) t h at) [
    | inl own ↦ omega (arith, own.0, are.below ticket f there)
    | inr other ↦ are.below t h other.1
  ];
  countable = are.countable;
}

frame-given : (l : Link) (ticket : ℕ) (f : InFlight) (e : FrameEvent) → maps.get l.frames ticket ≡ Some f → HasNumber l e → AreGiven l
    → AreGiven (link_after l ticket f e)
frame-given l ticket f frame.Deliver at room are = without-given l ticket are
frame-given l ticket f frame.Lose at room are = without-given l ticket are
frame-given l ticket f frame.Repeat at room are = sent-given l f room are
frame-given l ticket f (frame.Cut len) at room are = with-given l ticket f (cut_to f len) at are

pub stay-given : (l : Link) (e : Event) (s : Stepped) → Moves l e s → AreGiven l → AreGiven s.world.link
stay-given l (event.At id e) s m are = subst AreGiven (sym m.link) are
stay-given l (event.Flush id) s m are = subst AreGiven (sym m.1.link) (sent-given l m.0 m.1.room are)
stay-given l (event.Of ticket e) s m are = subst AreGiven (sym m.link) (frame-given l ticket m.frame e m.at m.room are)
stay-given l (event.Restart id) s m are = subst AreGiven (sym m.link) are

-- ---- the frame of one ticket

-- no event befalls a frame that was not sent
pub not_yet : (l : Link) (e : Event) (s : Stepped) (ticket : ℕ) → Moves l e s → AreGiven l → l.next ≤ ticket → befalls ticket e ≡ false
not_yet l (event.At id e) s ticket m are later = refl
not_yet l (event.Flush id) s ticket m are later = refl
not_yet l (event.Restart id) s ticket m are later = refl
not_yet l (event.Of of e) s ticket m are later = elim (of == ticket) as (λ b. (of == ticket) ≡ b → b ≡ false) [
  | true ↦ λ is. let same : of ≡ ticket = eqb-true of ticket is in let there = are.below of m.frame m.at in absurd (omega arith)
  | false ↦ λ is. refl
] refl

-- an event that does not befall it leaves it
other-sent : (l : Link) (f : InFlight) (ticket : ℕ) → ticket < l.next → maps.get (sent l f).frames ticket ≡ maps.get l.frames ticket
other-sent l f ticket old = get-set_at_other nat_cmp_total exact_unsigned l.frames l.next (Some f) ticket (λ is. absurd (omega arith))

other-after : (l : Link) (of : ℕ) (f : InFlight) (e : FrameEvent) (ticket : ℕ) → ticket < l.next → ticket ≢ of
    → maps.get (link_after l of f e).frames ticket ≡ maps.get l.frames ticket
other-after l of f frame.Deliver ticket old apart = get-set_at_other nat_cmp_total exact_unsigned l.frames of None ticket apart
other-after l of f frame.Lose ticket old apart = get-set_at_other nat_cmp_total exact_unsigned l.frames of None ticket apart
other-after l of f frame.Repeat ticket old apart = other-sent l f ticket old
other-after l of f (frame.Cut len) ticket old apart = get-set_at_other nat_cmp_total exact_unsigned l.frames of (Some (cut_to f len)) ticket apart

pub left-alone : (l : Link) (e : Event) (s : Stepped) (ticket : ℕ) → Moves l e s → ticket < l.next → befalls ticket e ≡ false
    → maps.get s.world.link.frames ticket ≡ maps.get l.frames ticket
left-alone l (event.At id e) s ticket m old apart = ap (λ (k : Link). maps.get k.frames ticket) m.link
left-alone l (event.Flush id) s ticket m old apart = ap (λ (k : Link). maps.get k.frames ticket) m.1.link ∙ other-sent l m.0 ticket old
left-alone l (event.Restart id) s ticket m old apart = ap (λ (k : Link). maps.get k.frames ticket) m.link
left-alone l (event.Of of e) s ticket m old apart =
    ap (λ (k : Link). maps.get k.frames ticket) m.link ∙ other-after l of m.frame e ticket old (λ same. eqb-false of ticket apart (sym same))

-- one that befalls it leaves of it what it says, where it leaves it in flight
what_is_left : (l : Link) (ticket : ℕ) (f : InFlight) (e : FrameEvent) (g : InFlight) → maps.get l.frames ticket ≡ Some f → ticket < l.next
    → maps.get (link_after l ticket f e).frames ticket ≡ Some g → g ≡ left_of f e
what_is_left l ticket f frame.Deliver g at old is = let gone = get-set_at_same nat_cmp_total exact_unsigned l.frames ticket None in absurd (cc)
what_is_left l ticket f frame.Lose g at old is = let gone = get-set_at_same nat_cmp_total exact_unsigned l.frames ticket None in absurd (cc)
what_is_left l ticket f frame.Repeat g at old is = let there = other-sent l f ticket old in cc
what_is_left l ticket f (frame.Cut len) g at old is = let there = get-set_at_same nat_cmp_total exact_unsigned l.frames ticket (Some (cut_to f len)) in cc

pub left-after : (l : Link) (ticket : ℕ) (e : FrameEvent) (s : Stepped) (m : Befalls l ticket e s) → AreGiven l → (g : InFlight)
    → maps.get s.world.link.frames ticket ≡ Some g → g ≡ left_of m.frame e
left-after l ticket e s m are g is =
    what_is_left l ticket m.frame e g m.at (are.below ticket m.frame m.at) (ap (λ (k : Link). maps.get k.frames ticket) (sym m.link) ∙ is)
