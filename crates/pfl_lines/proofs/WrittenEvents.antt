-- Events that are written read back.
use Rattle.std.proofs.Common.{◌≡◌, ℕ, ◌^◌, ◌<◌, ◌≤◌, Bool, true, false, List, [], ◌∷◌, ◌++◌, length, refl, ◌∙◌, ap, sym, subst, arith, append_assoc}
use Rattle.std.proofs.Common.{length-append, le-ltb}
use Rattle.std.specs.Prelude.{◌&&◌, Ok, Option, Some, None, IfSome, is_some, nat_lt, not, codes, if◌then◌else◌}
use Rattle.std.specs.Fmt.{decimal}
use Rattle.std.proofs.lemmas.List.Folds.{list_all-append}
use Rattle.pfl_base.specs.declared.direction.Dir.{Dir}
use Rattle.pfl_base.specs.declared.direction.Dir.TheVariants.{Inbound, Outbound}
use Rattle.pfl_base.specs.declared.node_id.NodeId.{NodeId}
use Rattle.pfl_base.specs.declared.node_id.NodeId.TheVariants.{A, B}
use Rattle.pfl_base.specs.declared.fields.PacketFields.{PacketFields}
use Rattle.pfl_base.specs.declared.fields.BadPacket.TheVariants as bad
use Rattle.pfl_base.specs.declared.state_name.StateName.{StateName}
use Rattle.pfl_base.specs.Ends.{same_family}
use Rattle.pfl_base.specs.Numbers.{greatest}
use Rattle.pfl_base.specs.Packets.{bad_packet, is_tcp, has_tcp_part, ports_fit, scale_too_large, syn, IsPacket}
use Rattle.pfl_base.specs.Texts.{dir_text, name_text, node_text}
use Rattle.pfl_language.specs.declared.event.Event.{Event}
use Rattle.pfl_language.specs.declared.node_event.NodeEvent.TheVariants as own
use Rattle.pfl_language.specs.declared.event.Event.TheVariants as events
use Rattle.pfl_language.specs.declared.event.FrameEvent.TheVariants as frame
use Rattle.pfl_lines.specs.declared.draft.EventDraft.{EventDraft}
use Rattle.pfl_lines.specs.declared.draft.EventDraft.TheVariants as event_draft
use Rattle.pfl_lines.specs.Commands.{packet_at, tick_at, kill_at, bare_node_event_at, flush_at, restart_at, cut_event_at, bare_frame_event_at}
use Rattle.pfl_lines.specs.Commands.{event_at, whole_event, packet_unless}
use Rattle.pfl_lines.specs.EventWords.{frame_event_word, node_event_word}
use Rattle.pfl_lines.specs.Laws.{IsTyped, IsStateName, IsTypedEvent, is_mark}
use Rattle.pfl_lines.specs.Numbers.{number_of, cut_at}
use Rattle.pfl_lines.specs.Parts.{node_at, dir_at, name_of}
use Rattle.pfl_lines.specs.Written.{fields_words, event_words}
use Rattle.pfl_lines.proofs.WrittenNumbers.{and-both, number-reads, cut-reads, number_lacks}
use Rattle.pfl_lines.proofs.WrittenWords.{IsPlain, ArePlain}
use Rattle.pfl_lines.proofs.WrittenAddresses.{number-plain}
use Rattle.pfl_lines.proofs.WrittenPackets.{plain-is, fields-read, fields-plain, fields_bounds}

-- ---- words

node-reads : (node : NodeId) (ws : List (List ℕ)) → node_at (node_text node ∷ ws) ≡ Ok (node, ws)
node-reads A ws = refl
node-reads B ws = refl

dir-reads : (dir : Dir) (ws : List (List ℕ)) → dir_at (dir_text dir ∷ ws) ≡ Ok (dir, ws)
dir-reads Inbound ws = refl
dir-reads Outbound ws = refl

name-reads : (name : StateName) → IsStateName name → name_of (name_text name) ≡ Ok name
unfolding name_of
name-reads name is =
    let creator : name.creator ≤ greatest = is.creator in
    let id : name.id < 2 ^ 64 = is.id in
    let cut : cut_at 46 (decimal name.creator ++ 46 ∷ decimal name.id) ≡ Ok (decimal name.creator, decimal name.id) =
    cut-reads 46 (decimal name.creator) (decimal name.id) (number_lacks 46 name.creator (omega arith) (omega arith)) in
    ap name_of (append_assoc (decimal name.creator) (codes ".") (decimal name.id))
    ∙ rw (cut, number-reads greatest name.creator creator (omega arith), number-reads 18446744073709551615 name.id (omega arith) id) refl

-- ---- a packet is one

-- a test that fails gives way
unless : {X : Type 0} (b : Bool) (x y : X) → b ≡ false → (if b then x else y) ≡ y
unless b x y e = ap (λ t. if t then x else y) e

apart_from : (b c : Bool) → (b ≡ false → c ≡ false) → (not b && c) ≡ false
apart_from true c h = refl
apart_from false c h = h refl

only_with : (b c : Bool) → (b ≡ true → c ≡ true) → (b && not c) ≡ false
only_with true c h = ap not (h refl)
only_with false c h = refl

scale_fits : (scale : Option ℕ) → IfSome scale (λ s. s ≤ 14) → scale_too_large scale ≡ false
scale_fits None h = refl
scale_fits (Some s) h = le-ltb 14 s h

packet-is : (p : PacketFields) → IsPacket p → bad_packet p ≡ None
packet-is p is =
    let len : nat_lt 65495 p.len ≡ false = le-ltb 65495 p.len is.len in
    let flags : (not (is_tcp p.proto) && has_tcp_part p) ≡ false = apart_from (is_tcp p.proto) (has_tcp_part p) is.tcp_alone in
    let with_syn : (is_some p.scale && not (syn p)) ≡ false = only_with (is_some p.scale) (syn p) is.scale_with_syn in
    let family : not (same_family p.src.addr p.dst.addr) ≡ false = ap not is.family in
    let ports : not (ports_fit p.proto p.src.port p.dst.port) ≡ false = ap not is.ports in
    unless (nat_lt 65495 p.len) (Some bad.Length) _ len
    ∙ unless (not (is_tcp p.proto) && has_tcp_part p) (Some bad.Flags) _ flags
    ∙ unless (is_some p.scale && not (syn p)) (Some bad.ScaleWithoutSyn) _ with_syn
    ∙ unless (scale_too_large p.scale) (Some bad.ScaleTooLarge) _ (scale_fits p.scale is.scale)
    ∙ unless (not (same_family p.src.addr p.dst.addr)) (Some bad.Family) _ family
    ∙ unless (not (ports_fit p.proto p.src.port p.dst.port)) (Some bad.Ports) _ ports

-- ---- events

-- what the words of an event give before its packet is judged
abbrev pub draft_of : Event → EventDraft
draft_of (events.At node (own.Packet dir p)) = event_draft.Packet node dir p
draft_of e = event_draft.Whole e

packet_reads : (node : NodeId) (dir : Dir) (p : PacketFields) → IsTyped p
    → packet_at (node_text node ∷ dir_text dir ∷ fields_words p) ≡ Ok (event_draft.Packet node dir p, [])
unfolding packet_at
packet_reads node dir p is = rw (node-reads node (dir_text dir ∷ fields_words p), dir-reads dir (fields_words p), fields-read p is) refl

pub number : (n : ℕ) → n ≤ greatest → number_of greatest (decimal n) ≡ Ok n
number n small = number-reads greatest n small (omega arith)

pub event-reads : (e : Event) → IsTypedEvent e → event_at (event_words e) ≡ Ok (draft_of e, [])
unfolding event_at tick_at kill_at bare_node_event_at flush_at restart_at cut_event_at bare_frame_event_at
event-reads (events.At node (own.Packet dir p)) is = packet_reads node dir p is
event-reads (events.At node (own.Tick ms)) is = rw (node-reads node (decimal ms ∷ []), number-reads 18446744073709551615 ms (omega arith) is) refl
event-reads (events.At node (own.Kill name)) is = rw (node-reads node (name_text name ∷ []), name-reads name is) refl
event-reads (events.At node e) is = rw (node-reads node []) refl
event-reads (events.Of ticket (frame.Cut len)) is = rw (number ticket is.0, number len is.1) refl
event-reads (events.Of ticket e) is = rw (number ticket is.0) refl
event-reads (events.Flush node) is = rw (node-reads node []) refl
event-reads (events.Restart node) is = rw (node-reads node []) refl

pub whole-reads : (e : Event) → IsTypedEvent e → whole_event (draft_of e) ≡ Ok e
whole-reads (events.At node (own.Packet dir p)) is = ap (packet_unless node dir p) (packet-is p is.packet)
whole-reads e is = refl

-- ---- the words of an event

node-plain : (node : NodeId) → IsPlain 1 (node_text node)
node-plain A = plain-is 1 (codes "a") refl
node-plain B = plain-is 1 (codes "b") refl

dir-plain : (dir : Dir) → IsPlain 3 (dir_text dir)
dir-plain Inbound = plain-is 3 (codes "in") refl
dir-plain Outbound = plain-is 3 (codes "out") refl

pub number_plain : (n : ℕ) → n ≤ greatest → IsPlain 10 (decimal n)
number_plain n small = number-plain 10 n (omega arith) (omega arith) (omega arith)

long_plain : (n : ℕ) → n < 2 ^ 64 → IsPlain 20 (decimal n)
long_plain n small = number-plain 20 n (omega arith) (omega arith) small

name-plain : (name : StateName) → IsStateName name → IsPlain 31 (name_text name)
name-plain name is =
    let c : IsPlain 10 (decimal name.creator) = number_plain name.creator is.creator in
    let i : IsPlain 20 (decimal name.id) = long_plain name.id is.id in
    let cs : 0 < length (decimal name.creator) = c.some in
    let cl : length (decimal name.creator) ≤ 10 = c.short in
    let il : length (decimal name.id) ≤ 20 = i.short in
    subst (IsPlain 31) (sym (append_assoc (decimal name.creator) (codes ".") (decimal name.id))) (record {
      some = omega (arith, length-append (decimal name.creator) (46 ∷ decimal name.id));
      short = omega (arith, length-append (decimal name.creator) (46 ∷ decimal name.id));
      marks = list_all-append is_mark (decimal name.creator) (46 ∷ decimal name.id) ∙ and-both _ _ c.marks i.marks;
    })

abbrev pub event_bounds : Event → List ℕ
event_bounds (events.At node (own.Packet dir p)) = 6 ∷ 1 ∷ 3 ∷ fields_bounds p
event_bounds (events.At node (own.Tick ms)) = 4 ∷ 1 ∷ 20 ∷ []
event_bounds (events.At node (own.Kill name)) = 4 ∷ 1 ∷ 31 ∷ []
event_bounds (events.Of ticket (frame.Cut len)) = 3 ∷ 10 ∷ 10 ∷ []
event_bounds (events.Of ticket e) = 7 ∷ 10 ∷ []
event_bounds e = 7 ∷ 1 ∷ []

pub event-plain : (e : Event) → IsTypedEvent e → ArePlain (event_bounds e) (event_words e)
event-plain (events.At node (own.Packet dir p)) is = (plain-is 6 (codes "packet") refl, (node-plain node, (dir-plain dir, fields-plain p is)))
event-plain (events.At node (own.Tick ms)) is = (plain-is 4 (codes "tick") refl, (node-plain node, (long_plain ms is, tt)))
event-plain (events.At node (own.Kill name)) is = (plain-is 4 (codes "kill") refl, (node-plain node, (name-plain name is, tt)))
event-plain (events.At node e) is = (plain-is 7 (node_event_word e) refl, (node-plain node, tt))
event-plain (events.Of ticket (frame.Cut len)) is = (plain-is 3 (codes "cut") refl, (number_plain ticket is.0, (number_plain len is.1, tt)))
event-plain (events.Of ticket e) is = (plain-is 7 (frame_event_word e) refl, (number_plain ticket is.0, tt))
event-plain (events.Flush node) is = (plain-is 7 (codes "flush") refl, (node-plain node, tt))
event-plain (events.Restart node) is = (plain-is 7 (codes "restart") refl, (node-plain node, tt))
