-- Nets of addresses (RFC 4632, RFC 4291).
use Rattle.std.specs.Prelude.{ℕ, ◌-◌, ◌/◌, ◌^◌, ◌≤◌, Bool, false, ◌==◌, nat_le, Option, Some, None, if◌then◌else◌}
use Rattle.pfl_base.specs.declared.addr.Addr.{Addr}
use Rattle.pfl_base.specs.declared.addr.Addr.TheVariants.{V4, V6}
use Rattle.pfl_rules.specs.declared.net.NetFields.{NetFields}

-- how many bits an address has (RFC 791, RFC 8200)
abbrev pub addr_bits : Addr → ℕ
addr_bits (V4 a) = 32
addr_bits (V6 a) = 128

-- what a net is: no more bits than an address has
abbrev pub IsNet : NetFields → Type 0
IsNet n = n.len ≤ addr_bits n.addr

-- the net of the first `len` bits, if an address has that many
abbrev pub net_of : Addr → ℕ → Option NetFields
net_of addr len = if nat_le len (addr_bits addr) then Some (record { addr = addr; len = len }) else None

-- the address begins with the net's bits; one of the other family does not
abbrev pub in_net : Addr → ℕ → Addr → Bool
in_net (V4 net) len (V4 a) = (a / 2 ^ (32 - len)) == (net / 2 ^ (32 - len))
in_net (V6 net) len (V6 a) = (a / 2 ^ (128 - len)) == (net / 2 ^ (128 - len))
in_net _ len _ = false
