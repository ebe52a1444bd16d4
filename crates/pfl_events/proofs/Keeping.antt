-- Events that are kept beside their packets, put after others and cut to the first of them.
use Rattle.std.specs.Prelude.{◌≡◌, ◌<◌, ◌≤◌, ◌+◌, ◌-◌, ℕ, zero, suc, List, [], ◌∷◌, ◌++◌, length, filter, map, take, drop, get_or, slice_get, Option}
use Rattle.std.specs.Prelude.{Some, refl}
use Rattle.std.specs.Option.{option_to_list}
use Rattle.std.proofs.Common.{◌∙◌, ap, sym, subst, arith, length-append}
use Rattle.std.proofs.lemmas.List.{length-map, length-take-le, map-append, take-append-drop, take-map, take_more, take_rest}
use Rattle.std.proofs.lemmas.List.Elements.{filter-append}
use Rattle.std.proofs.lemmas.Option.{get_or_from_slice_get, slice_get-get_or, slice_get_within}
use Rattle.pfl_base.specs.declared.direction.Dir.{Dir}
use Rattle.pfl_base.specs.declared.fields.PacketFields.{PacketFields}
use Rattle.pfl_base.specs.declared.node_id.NodeId.{NodeId}
use Rattle.pfl_language.specs.declared.event.Event.{Event}
use Rattle.pfl_language.specs.declared.event.Event.TheVariants as event
use Rattle.pfl_language.specs.declared.node_event.NodeEvent.TheVariants as at_node
use Rattle.pfl_events.specs.declared.kept_event.KeptEvent.{KeptEvent}
use Rattle.pfl_events.specs.declared.kept_event.KeptEvent.TheVariants as kept
use Rattle.pfl_events.specs.inner.KeptEvents.{AreKept, LieInOrder, events_of, is_packet, kept_of, packet_of, packets_among, whole, with_packet}

-- ---- packets at their indices

get-front : (ps more : List PacketFields) (i : ℕ) → i < length ps → slice_get (ps ++ more) i ≡ slice_get ps i
get-front [] more i within = absurd (omega (arith, within))
get-front (p ∷ ps) more zero within = refl
get-front (p ∷ ps) more (suc i) within = get-front ps more i (omega (arith, within))

get-seam : (ps : List PacketFields) (p : PacketFields) → slice_get (ps ++ p ∷ []) (length ps) ≡ Some p
get-seam [] p = refl
get-seam (q ∷ ps) p = get-seam ps p

-- ---- packets counted

among-append : (ks more : List KeptEvent) → packets_among (ks ++ more) ≡ packets_among ks + packets_among more
among-append ks more = ap length (filter-append is_packet ks more) ∙ length-append (filter is_packet ks) (filter is_packet more)

-- those of the first n events, and those after them
pub among-parts : (ks : List KeptEvent) (n : ℕ) → packets_among (take n ks) + packets_among (drop n ks) ≡ packets_among ks
among-parts ks n = sym (among-append (take n ks) (drop n ks)) ∙ ap packets_among (take-append-drop n ks)

-- ---- packets in order

order-front : (n : ℕ) (ks more : List KeptEvent) → LieInOrder n (ks ++ more) → LieInOrder n ks
order-front n [] more are = tt
order-front n (kept.Packet node dir index ∷ ks) more are = (are.0, order-front (n + 1) ks more are.1)
order-front n (kept.Plain e ∷ ks) more are = order-front n ks more are

-- each index is below how many there are
pub index-within : (n : ℕ) (ks : List KeptEvent) (i : ℕ) (node : NodeId) (dir : Dir) (index : ℕ) → LieInOrder n ks
    → slice_get ks i ≡ Some (kept.Packet node dir index) → index < n + packets_among ks
index-within n [] i node dir index are is = absurd (cc)
index-within n (kept.Packet m d j ∷ ks) zero node dir index are is =
    let same : j ≡ index = cc in
    let first = are.0 in
    omega arith
index-within n (kept.Packet m d j ∷ ks) (suc i) node dir index are is = let later = index-within (n + 1) ks i node dir index are.1 is in omega arith
index-within n (kept.Plain e ∷ ks) zero node dir index are is = absurd (cc)
index-within n (kept.Plain e ∷ ks) (suc i) node dir index are is = index-within n ks i node dir index are is

order-more : (n : ℕ) (ks : List KeptEvent) (k : KeptEvent) → LieInOrder n ks → LieInOrder (n + packets_among ks) (k ∷ []) → LieInOrder n (ks ++ k ∷ [])
order-more n [] k are lies = subst (λ (m : ℕ). LieInOrder m (k ∷ [])) (omega arith) lies
order-more n (kept.Packet node dir index ∷ ks) k are lies = (are.0, order-more (n + 1) ks k are.1 (subst (λ (m : ℕ). LieInOrder m (k ∷ [])) (omega arith) lies))
order-more n (kept.Plain e ∷ ks) k are lies = order-more n ks k are lies

-- packets that no event refers to add nothing
same-events : (n : ℕ) (ks : List KeptEvent) (ps more : List PacketFields) → LieInOrder n ks → n + packets_among ks ≤ length ps
    → events_of ks (ps ++ more) ≡ events_of ks ps
same-events n [] ps more are enough = refl
same-events n (kept.Packet node dir index ∷ ks) ps more are enough =
    let first = are.0 in
    ap (λ (p : Option PacketFields). with_packet node dir p ∷ events_of ks (ps ++ more)) (get-front ps more index (omega arith))
    ∙ ap (λ (es : List Event). with_packet node dir (slice_get ps index) ∷ es) (same-events (n + 1) ks ps more are.1 (omega arith))
same-events n (kept.Plain e ∷ ks) ps more are enough = ap (λ (es : List Event). whole ps (kept.Plain e) ∷ es) (same-events n ks ps more are enough)

-- ---- one of the events

get-map : {X Y : Type 0} (h : X → Y) (xs : List X) (i : ℕ) (x : X) → slice_get xs i ≡ Some x → slice_get (map h xs) i ≡ Some (h x)
get-map h [] i x is = absurd (cc)
get-map h (y ∷ xs) zero x is = let same : y ≡ x = cc in ap (λ (z : _). Some (h z)) same
get-map h (y ∷ xs) (suc i) x is = get-map h xs i x is

-- the event that is kept at the index
module _ (ks : List KeptEvent) (ps : List PacketFields) (are : AreKept ks ps) (i : ℕ) (k : KeptEvent)
    (within : i < length (events_of ks ps)) (is : k ≡ get_or ks i k) where
  among : i < length ks
  among = let long : length (events_of ks ps) ≡ length ks = length-map ks (whole ps) in omega arith

  there-kept : slice_get ks i ≡ Some k
  there-kept = slice_get-get_or ks i k among ∙ ap Some (sym is)

  pub got : (e : Event) → whole ps k ≡ e → slice_get (events_of ks ps) i ≡ Some e
  got e same = get-map (whole ps) ks i k there-kept ∙ ap Some same

  module _ (node : NodeId) (dir : Dir) (index : ℕ) (packet : k ≡ kept.Packet node dir index) where
    -- its packet is there
    pub packet-within : index < length ps
    packet-within =
        let below = index-within 0 ks i node dir index are.in_order (there-kept ∙ ap Some packet) in
        let all = are.each in
        omega arith

    pub got-packet : (p : PacketFields) → p ≡ get_or ps index p → slice_get (events_of ks ps) i ≡ Some (event.At node (at_node.Packet dir p))
    got-packet p here = got _ (ap (whole ps) packet ∙ ap (with_packet node dir) (slice_get-get_or ps index p packet-within ∙ ap Some (sym here)))

-- ---- one event

lies : (e : Event) (n i : ℕ) → i ≡ n → LieInOrder n (kept_of e i ∷ [])
lies (event.At node (at_node.Packet dir packet)) n i is = (is, tt)
lies (event.At node (at_node.Tick ms)) n i is = tt
lies (event.At node at_node.Purge) n i is = tt
lies (event.At node at_node.Release) n i is = tt
lies (event.At node (at_node.Kill name)) n i is = tt
lies (event.At node at_node.Clear) n i is = tt
lies (event.At node at_node.BulkTurn) n i is = tt
lies (event.At node at_node.BulkRetry) n i is = tt
lies (event.Flush node) n i is = tt
lies (event.Of ticket what) n i is = tt
lies (event.Restart node) n i is = tt

one : (e : Event) (i : ℕ) → length (option_to_list (packet_of e)) ≡ packets_among (kept_of e i ∷ [])
one (event.At node (at_node.Packet dir packet)) i = refl
one (event.At node (at_node.Tick ms)) i = refl
one (event.At node at_node.Purge) i = refl
one (event.At node at_node.Release) i = refl
one (event.At node (at_node.Kill name)) i = refl
one (event.At node at_node.Clear) i = refl
one (event.At node at_node.BulkTurn) i = refl
one (event.At node at_node.BulkRetry) i = refl
one (event.Flush node) i = refl
one (event.Of ticket what) i = refl
one (event.Restart node) i = refl

there : (e : Event) (ps : List PacketFields) → whole (ps ++ option_to_list (packet_of e)) (kept_of e (length ps)) ≡ e
there (event.At node (at_node.Packet dir packet)) ps = ap (with_packet node dir) (get-seam ps packet)
there (event.At node (at_node.Tick ms)) ps = refl
there (event.At node at_node.Purge) ps = refl
there (event.At node at_node.Release) ps = refl
there (event.At node (at_node.Kill name)) ps = refl
there (event.At node at_node.Clear) ps = refl
there (event.At node at_node.BulkTurn) ps = refl
there (event.At node at_node.BulkRetry) ps = refl
there (event.Flush node) ps = refl
there (event.Of ticket what) ps = refl
there (event.Restart node) ps = refl

-- ---- the first events, and one more

module _ (ks : List KeptEvent) (ps : List PacketFields) (are : AreKept ks ps) where
  -- the first n events with their packets, where c are among them
  module _ (n c : ℕ) (count : c ≡ packets_among (take n ks)) where
    few : c ≤ length ps
    few = let parts = among-parts ks n in let each = are.each in omega arith

    front-order : LieInOrder 0 (take n ks)
    front-order = order-front 0 (take n ks) (drop n ks) (subst (LieInOrder 0) (sym (take-append-drop n ks)) are.in_order)

    front-length : length (take c ps) ≡ c
    front-length = length-take-le c ps few

    pub kept-front : AreKept (take n ks) (take c ps)
    kept-front = record { in_order = front-order; each = front-length ∙ count }

    pub events-front : events_of (take n ks) (take c ps) ≡ take n (events_of ks ps)
    events-front =
        let all = front-length in
        sym (same-events 0 (take n ks) (take c ps) (drop c ps) front-order (omega arith))
        ∙ ap (events_of (take n ks)) (take-append-drop c ps)
        ∙ sym (take-map (whole ps) n ks)

  -- one event more
  module _ (e : Event) where
    pub kept-more : AreKept (ks ++ kept_of e (length ps) ∷ []) (ps ++ option_to_list (packet_of e))
    kept-more = record {
      in_order = order-more 0 ks (kept_of e (length ps)) are.in_order (lies e (0 + packets_among ks) (length ps) (let all = are.each in omega arith));
      each =
          length-append ps (option_to_list (packet_of e))
          ∙ ap (λ (m : ℕ). m + length (option_to_list (packet_of e))) are.each
          ∙ ap (λ (m : ℕ). packets_among ks + m) (one e (length ps))
          ∙ sym (among-append ks (kept_of e (length ps) ∷ []));
    }

    pub events-more : events_of (ks ++ kept_of e (length ps) ∷ []) (ps ++ option_to_list (packet_of e)) ≡ events_of ks ps ++ e ∷ []
    events-more =
        let all = are.each in
        map-append (whole (ps ++ option_to_list (packet_of e))) ks (kept_of e (length ps) ∷ [])
        ∙ ap (λ (es : List Event). es ++ whole (ps ++ option_to_list (packet_of e)) (kept_of e (length ps)) ∷ [])
        (same-events 0 ks ps (option_to_list (packet_of e)) are.in_order (omega arith))
        ∙ ap (λ (x : Event). events_of ks ps ++ x ∷ []) (there e ps)

-- after the first n events another one is put, in place of those after them: i packets are left, and its own comes after these
module _ (ks : List KeptEvent) (ps : List PacketFields) (are : AreKept ks ps) (n : ℕ) where
  pub later-few : packets_among (drop n ks) ≤ length ps
  later-few = let parts = among-parts ks n in let each = are.each in omega arith

  -- l packets, of which m are of the events after the first n, as they stand in the list d
  module _ (d : List KeptEvent) (stand : d ≡ ks) (m l : ℕ) (later : m ≡ packets_among (take (length d - n) (drop n d))) (all : l ≡ length ps) where
    counted : m ≡ packets_among (drop n ks)
    counted = later ∙ ap packets_among (take_rest d n) ∙ ap (λ (xs : List KeptEvent). packets_among (drop n xs)) stand

    pub some-left : m ≤ l
    some-left = let few = later-few in let count = counted in omega arith

    pub left-over : l - m ≡ length ps - packets_among (drop n ks)
    left-over = let count = counted in omega arith

  module _ (i : ℕ) (left : i ≡ length ps - packets_among (drop n ks)) where
    pub left-are : i ≡ packets_among (take n ks)
    left-are = let parts = among-parts ks n in let each = are.each in omega arith

    module _ (e : Event) (k : KeptEvent) (ks' : List KeptEvent) (ps' : List PacketFields) (kept_as : k ≡ kept_of e i)
        (events_are : ks' ≡ take n ks ++ k ∷ []) (packets_are : ps' ≡ take i ps ++ option_to_list (packet_of e)) where
      first : AreKept (take n ks) (take i ps)
      first = kept-front ks ps are n i left-are

      same : ks' ≡ take n ks ++ kept_of e (length (take i ps)) ∷ []
      same = events_are ∙ ap (λ (x : KeptEvent). take n ks ++ x ∷ []) (kept_as ∙ ap (kept_of e) (sym (front-length ks ps are n i left-are)))

      pub kept-put : AreKept ks' ps'
      kept-put = subst (λ (xs : List KeptEvent). AreKept xs ps') (sym same)
          (subst (AreKept (take n ks ++ kept_of e (length (take i ps)) ∷ [])) (sym packets_are) (kept-more (take n ks) (take i ps) first e))

      pub events-put : events_of ks' ps' ≡ take n (events_of ks ps) ++ e ∷ []
      events-put =
          (λ j. events_of (same j) (packets_are j))
          ∙ events-more (take n ks) (take i ps) first e
          ∙ ap (λ (es : List Event). es ++ e ∷ []) (events-front ks ps are n i left-are)

-- ---- events one after another

-- the first i events, and the one after them
pub taken-more : (es : List Event) (i : ℕ) (e : Event) → slice_get es i ≡ Some e → take i es ++ e ∷ [] ≡ take (i + 1) es
taken-more es i e is = ap (λ (x : Event). take i es ++ x ∷ []) (sym (get_or_from_slice_get es i e e is)) ∙ sym (take_more es i e (slice_get_within es i e is))
