-- How addresses, ends, nets and ranges of ports are written (RFC 791, RFC 8200; eight full groups of IPv6 are this project's profile).
use Rattle.std.specs.Prelude.{ℕ, ◌+◌, ◌-◌, ◌*◌, ◌==◌, ◌&&◌, nat_le, List, [], ◌∷◌, if◌then◌else◌, Result, Ok, Err}
use Rattle.std.specs.Option.{ok_or}
use Rattle.pfl_base.specs.declared.addr.Addr.{Addr}
use Rattle.pfl_base.specs.declared.addr.Addr.TheVariants.{V4, V6}
use Rattle.pfl_base.specs.declared.addr.End.{End}
use Rattle.pfl_rules.specs.declared.net.NetFields.{NetFields}
use Rattle.pfl_rules.specs.declared.pool.Pool.{Pool}
use Rattle.pfl_rules.specs.declared.ports.PortsFields.{PortsFields}
use Rattle.pfl_rules.specs.Nets.{net_of}
use Rattle.pfl_rules.specs.Ports.{ports_of}
use Rattle.pfl_lines.specs.declared.fault.LineFault.{LineFault}
use Rattle.pfl_lines.specs.declared.fault.LineFault.TheVariants.{Number}
use Rattle.pfl_lines.specs.Readings.{◌>>=◌}
use Rattle.pfl_lines.specs.Numbers.{number_of, cut_at}

-- four numbers from 0 to 255 joined by dots
unfoldable pub v4_of : List ℕ → Result ℕ LineFault
v4_of word = do
  a ← cut_at 46 word
  b ← cut_at 46 a.1
  c ← cut_at 46 b.1
  p ← number_of 255 a.0
  q ← number_of 255 b.0
  r ← number_of 255 c.0
  s ← number_of 255 c.1
  Ok (((p * 256 + q) * 256 + r) * 256 + s)

-- one of 0 to 9 and a to f
abbrev pub hex_digit : ℕ → Result ℕ LineFault
hex_digit b =
    if nat_le 48 b && nat_le b 57 then Ok (b - 48) else
    if nat_le 97 b && nat_le b 102 then Ok (b - 87) else Err Number

-- the first byte, and the others
abbrev pub byte_at : List ℕ → Result (ℕ × List ℕ) LineFault
byte_at [] = Err Number
byte_at (b ∷ bytes) = Ok (b, bytes)

-- this byte comes first
abbrev pub mark_at : ℕ → List ℕ → Result (List ℕ) LineFault
mark_at mark [] = Err Number
mark_at mark (b ∷ bytes) = if b == mark then Ok bytes else Err Number

-- the hexadecimal digit that comes first
unfoldable pub hex_at : List ℕ → Result (ℕ × List ℕ) LineFault
hex_at bytes = do
  b ← byte_at bytes
  n ← hex_digit b.0
  Ok (n, b.1)

-- exactly four hexadecimal digits
unfoldable pub group_at : List ℕ → Result (ℕ × List ℕ) LineFault
group_at bytes = do
  a ← hex_at bytes
  b ← hex_at a.1
  c ← hex_at b.1
  d ← hex_at c.1
  Ok (((a.0 * 16 + b.0) * 16 + c.0) * 16 + d.0, d.1)

-- two groups joined by a colon
unfoldable pub pair_at : List ℕ → Result (ℕ × List ℕ) LineFault
pair_at bytes = do
  a ← group_at bytes
  rest ← mark_at 58 a.1
  b ← group_at rest
  Ok (a.0 * 65536 + b.0, b.1)

-- four groups joined by colons
unfoldable pub quad_at : List ℕ → Result (ℕ × List ℕ) LineFault
quad_at bytes = do
  a ← pair_at bytes
  rest ← mark_at 58 a.1
  b ← pair_at rest
  Ok (a.0 * 4294967296 + b.0, b.1)

-- eight groups joined by colons
unfoldable pub v6_at : List ℕ → Result (ℕ × List ℕ) LineFault
v6_at bytes = do
  a ← quad_at bytes
  rest ← mark_at 58 a.1
  b ← quad_at rest
  Ok (a.0 * 18446744073709551616 + b.0, b.1)

-- nothing is left
abbrev pub ended : ℕ × List ℕ → Result ℕ LineFault
ended (n, []) = Ok n
ended (n, b ∷ bytes) = Err Number

-- a whole word of eight groups
unfoldable pub v6_of : List ℕ → Result ℕ LineFault
v6_of word = do
  addr ← v6_at word
  ended addr

-- ADDR:PORT
unfoldable pub v4_end : List ℕ → Result End LineFault
v4_end word = do
  parts ← cut_at 58 word
  addr ← v4_of parts.0
  port ← number_of 65535 parts.1
  Ok (record { addr = V4 addr; port = port })

-- ADDR]:PORT, after [
unfoldable pub v6_end : List ℕ → Result End LineFault
v6_end word = do
  addr ← v6_at word
  rest ← mark_at 93 addr.1
  digits ← mark_at 58 rest
  port ← number_of 65535 digits
  Ok (record { addr = V6 addr.0; port = port })

-- ADDR:PORT, for IPv6 [ADDR]:PORT
unfoldable pub end_of : List ℕ → Result End LineFault
end_of [] = Err Number
end_of (b ∷ bytes) = if b == 91 then v6_end bytes else v4_end (b ∷ bytes)

-- the first of the two forms that the word has
abbrev pub addr_by : Result ℕ LineFault → Result ℕ LineFault → Result Addr LineFault
addr_by (Ok n) _ = Ok (V4 n)
addr_by (Err e) (Ok n) = Ok (V6 n)
addr_by (Err e) (Err f) = Err f

-- an address of either family
unfoldable pub addr_of : List ℕ → Result Addr LineFault
addr_of word = addr_by (v4_of word) (v6_of word)

-- ADDR/LEN, LEN at most 32 or 128
unfoldable pub net_at_word : List ℕ → Result NetFields LineFault
net_at_word word = do
  parts ← cut_at 47 word
  addr ← addr_of parts.0
  len ← number_of 128 parts.1
  ok_or (net_of addr len) Number

-- one port
unfoldable pub single_port_of : List ℕ → Result PortsFields LineFault
single_port_of word = do
  port ← number_of 65535 word
  ok_or (ports_of port port) Number

-- FIRST:LAST, FIRST not above LAST
unfoldable pub port_range_of : List ℕ → Result PortsFields LineFault
port_range_of word = do
  parts ← cut_at 58 word
  first ← number_of 65535 parts.0
  last ← number_of 65535 parts.1
  ok_or (ports_of first last) Number

-- the first of the two forms that the word has
abbrev pub ports_by : Result PortsFields LineFault → Result PortsFields LineFault → Result PortsFields LineFault
ports_by (Ok ports) _ = Ok ports
ports_by (Err e) range = range

-- a port, or the first and the last of a range (pf.conf(5))
abbrev pub ports_at_word : List ℕ → Result PortsFields LineFault
ports_at_word word = ports_by (single_port_of word) (port_range_of word)

-- ADDR:PORTS
unfoldable pub v4_pool : List ℕ → Result Pool LineFault
v4_pool word = do
  parts ← cut_at 58 word
  addr ← v4_of parts.0
  ports ← ports_at_word parts.1
  Ok (record { addr = V4 addr; ports = ports })

-- ADDR]:PORTS, after [
unfoldable pub v6_pool : List ℕ → Result Pool LineFault
v6_pool word = do
  addr ← v6_at word
  rest ← mark_at 93 addr.1
  text ← mark_at 58 rest
  ports ← ports_at_word text
  Ok (record { addr = V6 addr.0; ports = ports })

-- ADDR:PORTS, for IPv6 [ADDR]:PORTS
unfoldable pub pool_at_word : List ℕ → Result Pool LineFault
pool_at_word [] = Err Number
pool_at_word (b ∷ bytes) = if b == 91 then v6_pool bytes else v4_pool (b ∷ bytes)
