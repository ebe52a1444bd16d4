-- The keys of a new state, by the ports of the pool: the packet's own key is the same at every port, and the translated key at one
-- port says what it is at another.
use Rattle.std.specs.Prelude.{◌≡◌, ℕ, ◌+◌, ◌-◌, Bool, true, false, ◌||◌, not, find, is_some, map, List, [], ◌∷◌, Option, Some, None, refl, unwrap_or}
use Rattle.std.specs.Prelude.{if◌then◌else◌}
use Rattle.std.specs.List.{range_with_len}
use Rattle.std.specs.Option.{option_map}
use Rattle.std.proofs.Common.{cond, ◌∙◌, ap, sym}
use Rattle.std.proofs.Math.Bool.{or_comm}
use Rattle.pfl_base.specs.declared.addr.End.{End}
use Rattle.pfl_base.specs.declared.direction.Dir.{Dir}
use Rattle.pfl_base.specs.declared.direction.Dir.TheVariants.{Inbound, Outbound}
use Rattle.pfl_base.specs.declared.fields.PacketFields.{PacketFields}
use Rattle.pfl_base.specs.declared.flow.Key.{Key}
use Rattle.pfl_base.specs.declared.proto.Proto.{Proto}
use Rattle.pfl_base.specs.declared.proto.Proto.TheVariants.{Tcp, Udp, Icmp, Other}
use Rattle.pfl_base.specs.Keys.{key as flow_of}
use Rattle.pfl_rules.specs.declared.pool.Pool.{Pool}
use Rattle.pfl_rules.specs.declared.ports.PortsFields.{PortsFields}
use Rattle.pfl_rules.specs.declared.rule.Rule.{Rule}
use Rattle.pfl_rules.specs.Pools.{end_at}
use Rattle.pfl_track.specs.declared.key_pair.KeyFields.{KeyFields}
use Rattle.pfl_track.specs.Keys.{translated_to, wire_key}
use Rattle.pfl_table.specs.Tables.{States, by_wire, by_stack}
use Rattle.pfl_table.specs.Translating.{free_end, is_taken, keys_to, new_keys, translation}
use Rattle.pfl_table.specs.inner.Translated.{first_port, free_port, is_free, own_in_use, takes_port, translated_in_use, translated_of, with_port}
use Rattle.pfl_table.proofs.Keyed.{true_is_false}
use Rattle.pfl_table.proofs.Pooled.{passes_here}

-- ---- which of the two keys is translated: the stack key, or the wire key

abbrev beside : Key → Key → Bool → KeyFields
beside own other on_stack = if on_stack then record { wire = own; stack = other } else record { wire = other; stack = own }

abbrev own_by : States → KeyFields → Bool → Bool
own_by m keys on_stack = if on_stack then is_some (by_wire m keys.wire) else is_some (by_stack m keys.stack)

abbrev other_of : KeyFields → Bool → Key
other_of keys on_stack = if on_stack then keys.stack else keys.wire

abbrev used_by : States → Key → Bool → Bool
used_by m k on_stack = if on_stack then is_some (by_stack m k) else is_some (by_wire m k)

one_of_two : (m : States) (keys : KeyFields) (on_stack : Bool) → is_taken m keys ≡ (own_by m keys on_stack || used_by m (other_of keys on_stack) on_stack)
one_of_two m keys true = refl
one_of_two m keys false = or_comm (is_some (by_wire m keys.wire)) (is_some (by_stack m keys.stack))

one_own : (m : States) (own k j : Key) (on_stack : Bool) → own_by m (beside own k on_stack) on_stack ≡ own_by m (beside own j on_stack) on_stack
one_own m own k j true = refl
one_own m own k j false = refl

other-beside : (own other : Key) (on_stack : Bool) → other_of (beside own other on_stack) on_stack ≡ other
other-beside own other true = refl
other-beside own other false = refl

-- ---- the translated key at one port and another

-- a flow is of its packet's protocol
pub proto-of_flow : (p : PacketFields) (dir : Dir) → (flow_of p dir).proto ≡ p.proto
proto-of_flow p Inbound = refl
proto-of_flow p Outbound = refl

proto-translated : (k : Key) (e : End) (p : Proto) → (translated_to k e p).proto ≡ k.proto
proto-translated k e Tcp = refl
proto-translated k e Udp = refl
proto-translated k e Icmp = refl
proto-translated k e (Other n) = refl

-- the translated key at one port, with another one, is that at the other
moved : (k : Key) (pool : Pool) (port other : ℕ) (p : Proto) → translated_to k (end_at pool other) p ≡ with_port (translated_to k (end_at pool port) p) other p
moved k pool port other Tcp = refl
moved k pool port other Udp = refl
moved k pool port other Icmp = refl
moved k pool port other (Other n) = refl

-- where the protocol takes no port, it is one at all ports
without_port : (k : Key) (pool : Pool) (port other : ℕ) (p : Proto) → takes_port p ≡ false
    → translated_to k (end_at pool port) p ≡ translated_to k (end_at pool other) p
without_port k pool port other Tcp none = true_is_false none
without_port k pool port other Udp none = true_is_false none
without_port k pool port other Icmp none = true_is_false none
without_port k pool port other (Other n) none = refl

-- ---- the first of some ends is that of the first of their ports

first-mapped : (passes : End → Bool) (f : ℕ → End) (ports : List ℕ) (last : ℕ)
    → unwrap_or (find passes (map f ports)) (f last) ≡ f (unwrap_or (find (λ port. passes (f port)) ports) last)
first-mapped passes f [] last = refl
first-mapped passes f (port ∷ ports) last =
    elim (passes (f port)) as (λ b. unwrap_or (cond b (Some (f port)) (find passes (map f ports))) (f last)
    ≡ f (unwrap_or (cond b (Some port) (find (λ port. passes (f port)) ports)) last)) [
      | true ↦ refl
      | false ↦ first-mapped passes f ports last
    ]

none-passes : (ports : List ℕ) → find (λ port. false) ports ≡ None
none-passes [] = refl
none-passes (port ∷ ports) = none-passes ports

first-none : (ports : PortsFields) → first_port (λ port. false) ports ≡ ports.last
first-none ports = ap (λ (found : Option ℕ). unwrap_or found ports.last) (none-passes (range_with_len ports.first (ports.last - ports.first + 1)))

module _ (m : States) (r : Rule) (k : Key) (pool : Pool) where
  -- the keys at a port of the pool
  abbrev pub keys_at : ℕ → KeyFields
  keys_at port = keys_to r k (Some (end_at pool port))

  -- both are free
  abbrev free_at : ℕ → Bool
  free_at port = not (is_taken m (keys_at port))

  -- the end that is given has the first port at which they are
  free_end-at : free_end m r k pool ≡ end_at pool (first_port free_at pool.ports)
  free_end-at = first-mapped (λ to. not (is_taken m (keys_to r k (Some to)))) (end_at pool) _ pool.ports.last

  -- the keys do not depend on the port where the protocol takes none
  pub at_any_port : (port : ℕ) → takes_port k.proto ≡ false → keys_at port ≡ keys_to r k (Some (free_end m r k pool))
  at_any_port port none =
      ap (λ (other : Key). beside k other (is_some r.rdr)) (without_port k pool port (first_port free_at pool.ports) k.proto none)
      ∙ ap (λ (e : End). keys_to r k (Some e)) (sym free_end-at)

  -- the first port is given where both keys are free with it
  pub at_first_port : is_taken m (keys_at pool.ports.first) ≡ false → keys_at pool.ports.first ≡ keys_to r k (Some (free_end m r k pool))
  at_first_port free = ap (λ (e : End). keys_to r k (Some e))
      (ap (end_at pool) (passes_here free_at pool.ports.last pool.ports.first (ap not free)) ∙ sym free_end-at)

  -- the keys at a port are taken where the packet's own key is in use, as seen at any port, or the translated key at this one
  taken_at : (port other : ℕ) → is_taken m (keys_at other) ≡ (own_in_use m r (keys_at port) || translated_in_use m r (translated_of r (keys_at other)))
  taken_at port other =
      one_of_two m (keys_at other) (is_some r.rdr)
      ∙ ap (λ own. own || translated_in_use m r (translated_of r (keys_at other)))
      (one_own m k (wire_key k (Some (end_at pool other))) (wire_key k (Some (end_at pool port))) (is_some r.rdr))

  -- no port helps where the own key is in use
  pub at_last_port : (port : ℕ) → own_in_use m r (keys_at port) ≡ true → end_at pool pool.ports.last ≡ free_end m r k pool
  at_last_port port used =
      let taken : (other : ℕ) → free_at other ≡ false =
      λ other. ap not (taken_at port other ∙ ap (λ own. own || translated_in_use m r (translated_of r (keys_at other))) used) in
      sym (free_end-at ∙ (ap (λ (passes : ℕ → Bool). end_at pool (first_port passes pool.ports)) (λ i other. taken other i)
      ∙ ap (end_at pool) (first-none pool.ports)))

  -- the translated key at a port is what translation makes of the flow's
  translated_at : (port : ℕ) → translated_of r (keys_at port) ≡ translated_to k (end_at pool port) k.proto
  translated_at port = other-beside k (wire_key k (Some (end_at pool port))) (is_some r.rdr)

  -- so it is that at another port, with this one
  translated-moved : (port other : ℕ)
      → translated_of r (keys_at other) ≡ with_port (translated_of r (keys_at port)) other (translated_of r (keys_at port)).proto
  translated-moved port other =
      let here = translated_of r (keys_at port) in
      let proto : k.proto ≡ here.proto = sym (ap (λ (t : Key). t.proto) (translated_at port) ∙ proto-translated k (end_at pool port) k.proto) in
      translated_at other ∙ (moved k pool port other k.proto
      ∙ (ap (λ (t : Key). with_port t other k.proto) (sym (translated_at port)) ∙ ap (with_port here other) proto))

  -- where the own key is free, the translated one decides
  pub at_free_port : (port : ℕ) → own_in_use m r (keys_at port) ≡ false
      → end_at pool (free_port m r (translated_of r (keys_at port)) pool.ports) ≡ free_end m r k pool
  at_free_port port unused =
      let free : (other : ℕ) → free_at other ≡ is_free m r (translated_of r (keys_at port)) other =
      λ other. ap not (taken_at port other
      ∙ (ap (λ own. own || translated_in_use m r (translated_of r (keys_at other))) unused
      ∙ ap (translated_in_use m r) (translated-moved port other))) in
      sym (free_end-at ∙ ap (λ (passes : ℕ → Bool). end_at pool (first_port passes pool.ports)) (λ i other. free other i))

  -- ---- the keys of a new state

  pub of_pool : translation r ≡ Some pool → keys_to r k (Some (free_end m r k pool)) ≡ new_keys m r k
  unfolding new_keys
  of_pool given = ap (λ (o : Option Pool). keys_to r k (option_map (free_end m r k) o)) (sym given)

pub of_none : (m : States) (r : Rule) (k : Key) → translation r ≡ None → keys_to r k None ≡ new_keys m r k
unfolding new_keys
of_none m r k none = ap (λ (o : Option Pool). keys_to r k (option_map (free_end m r k) o)) (sym none)
