-- Keys of one state: their families.
use Rattle.std.specs.Prelude.{◌≡◌, ℕ, Bool, true, false, ◌&&◌, ◌==◌, Option, Some, None, if◌then◌else◌, refl}
use Rattle.std.proofs.Common.{ap, sym, ◌∙◌, subst, T, arith}
use Rattle.std.proofs.lemmas.Bool.Decides.{nat_tests}
use Rattle.pfl_base.specs.declared.addr.Addr.{Addr}
use Rattle.pfl_base.specs.declared.addr.Addr.TheVariants.{V4, V6}
use Rattle.pfl_base.specs.declared.addr.End.{End}
use Rattle.pfl_base.specs.declared.flow.Key.{Key}
use Rattle.pfl_base.specs.declared.proto.Proto.{Proto}
use Rattle.pfl_base.specs.declared.proto.Proto.TheVariants.{Tcp, Udp, Icmp, Other}
use Rattle.pfl_base.specs.declared.direction.Dir.{Dir}
use Rattle.pfl_base.specs.declared.direction.Dir.TheVariants.{Inbound, Outbound}
use Rattle.pfl_base.specs.declared.fields.PacketFields.{PacketFields}
use Rattle.pfl_base.specs.Keys.{key}
use Rattle.pfl_base.specs.Ends.{same_family, proto_number}
use Rattle.pfl_track.specs.declared.key_pair.KeyFields.{KeyFields}
use Rattle.pfl_track.specs.Keys.{are_keys, fits_family, wire_key, translated_to}

-- the keys, if the test holds
abbrev pub pair_if : Bool → Key → Key → Option KeyFields
pair_if b wire stack = if b then Some (record { wire = wire; stack = stack }) else None

joined : (a b c d : Bool) → a ≡ true → b ≡ true → c ≡ true → d ≡ true → (a && b && c && d) ≡ true
joined true b c d p q r s = elim b as (λ b. b ≡ true → (true && b && c && d) ≡ true) [
  | true ↦ λ q. elim c as (λ c. c ≡ true → (true && true && c && d) ≡ true) [ true ↦ λ r. s | false ↦ λ r. r ] r
  | false ↦ λ q. q
] q
joined false b c d p q r s = p

itself : (a : Addr) → same_family a a ≡ true
itself (V4 a) = refl
itself (V6 a) = refl

beside : (a b e : Addr) → same_family a b ≡ true → same_family a e ≡ same_family b e
beside (V4 a) (V4 b) e h = by e
  where
    by : (e : Addr) → same_family (V4 a) e ≡ same_family (V4 b) e
    by (V4 e) = refl
    by (V6 e) = refl
beside (V6 a) (V6 b) e h = by e
  where
    by : (e : Addr) → same_family (V6 a) e ≡ same_family (V6 b) e
    by (V4 e) = refl
    by (V6 e) = refl
beside (V4 a) (V6 b) e h = absurd (subst T (sym h) tt)
beside (V6 a) (V4 b) e h = absurd (subst T (sym h) tt)

number-itself : (n : ℕ) → (n == n) ≡ true
number-itself n = grind (arith, nat_tests)

four : (a b c d : Bool) → a ≡ true → c ≡ true → d ≡ true → (a && b && c && d) ≡ b
four true true true true p r s = refl
four true false c d p r s = refl
four false b c d p r s = absurd (subst T (sym p) tt)
four true true false d p r s = absurd (subst T (sym r) tt)
four true true true false p r s = absurd (subst T (sym s) tt)

translated-keys : (p : Proto) (far near e : End) → same_family far.addr near.addr ≡ true
    → are_keys (translated_to (record { proto = p; far = far; near = near }) e p) (record { proto = p; far = far; near = near })
    ≡ same_family near.addr e.addr
translated-keys Tcp far near e h = four true (same_family far.addr e.addr) _ _ refl h (itself far.addr) ∙ beside far.addr near.addr e.addr h
translated-keys Udp far near e h = four true (same_family far.addr e.addr) _ _ refl h (itself far.addr) ∙ beside far.addr near.addr e.addr h
translated-keys Icmp far near e h = four true (same_family far.addr e.addr) _ _ refl h (itself far.addr) ∙ beside far.addr near.addr e.addr h
translated-keys (Other n) far near e h = four _ (same_family far.addr e.addr) _ _ (number-itself n) h (itself far.addr) ∙ beside far.addr near.addr e.addr h

-- a flow and what translation makes of it are keys of a state where the translation is to the flow's family
pub wire-keys : (k : Key) (nat : Option End) → same_family k.far.addr k.near.addr ≡ true → are_keys (wire_key k nat) k ≡ fits_family k nat
wire-keys k None h = joined _ _ _ _ (number-itself (proto_number k.proto)) h h (itself k.far.addr)
wire-keys k (Some e) h = translated-keys k.proto k.far k.near e h

turned : (a b : Addr) → same_family a b ≡ true → same_family b a ≡ true
turned (V4 a) (V4 b) h = refl
turned (V6 a) (V6 b) h = refl
turned (V4 a) (V6 b) h = h
turned (V6 a) (V4 b) h = h

flow-family : (p : PacketFields) (dir : Dir) → same_family p.src.addr p.dst.addr ≡ true → same_family (key p dir).far.addr (key p dir).near.addr ≡ true
flow-family p Inbound h = h
flow-family p Outbound h = turned p.src.addr p.dst.addr h

-- the same for the flow of a packet
pub packet-keys : (p : PacketFields) (dir : Dir) (nat : Option End) → same_family p.src.addr p.dst.addr ≡ true
    → are_keys (wire_key (key p dir) nat) (key p dir) ≡ fits_family (key p dir) nat
packet-keys p dir nat h = wire-keys (key p dir) nat (flow-family p dir h)

-- what the test of a packet's keys returns
pub packet-pair : (p : PacketFields) (dir : Dir) (nat : Option End) (stack wire : Key) (answer : Option KeyFields)
    → same_family p.src.addr p.dst.addr ≡ true → stack ≡ key p dir → wire ≡ wire_key stack nat
    → answer ≡ pair_if (are_keys wire stack) wire stack → answer ≡ pair_if (fits_family (key p dir) nat) (wire_key (key p dir) nat) (key p dir)
packet-pair p dir nat stack wire answer h at_stack at_wire e =
    e ∙ (ap (λ w. pair_if (are_keys w stack) w stack) at_wire
    ∙ (ap (λ s. pair_if (are_keys (wire_key s nat) s) (wire_key s nat) s) at_stack
    ∙ ap (λ b. pair_if b (wire_key (key p dir) nat) (key p dir)) (packet-keys p dir nat h)))
