-- Ranges of ports (pf.conf(5), `port 1024:65535`).
use Rattle.std.specs.Prelude.{ℕ, ◌≤◌, Bool, ◌&&◌, nat_le, Option, Some, None, if◌then◌else◌}
use Rattle.pfl_rules.specs.declared.ports.PortsFields.{PortsFields}

-- what a range is: its last port does not come before its first
abbrev pub ArePorts : PortsFields → Type 0
ArePorts p = p.first ≤ p.last

-- the ports from the first to the last, if there are any
abbrev pub ports_of : ℕ → ℕ → Option PortsFields
ports_of first last = if nat_le first last then Some (record { first = first; last = last }) else None

-- the port is one of the range, both its ends among them
abbrev pub in_ports : ℕ → ℕ → ℕ → Bool
in_ports first last port = nat_le first port && nat_le port last
