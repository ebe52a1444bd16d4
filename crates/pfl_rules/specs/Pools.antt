-- What translation puts in the place of an end (pf.conf(5), `nat` and `rdr`).
use Rattle.std.specs.Prelude.{ℕ, ◌+◌, ◌-◌, List, map}
use Rattle.std.specs.List.{range_with_len}
use Rattle.pfl_base.specs.declared.addr.End.{End}
use Rattle.pfl_rules.specs.declared.pool.Pool.{Pool}

-- the pool's address with this port
abbrev pub end_at : Pool → ℕ → End
end_at pool port = record { addr = pool.addr; port = port }

-- its ends, from the first port to the last
abbrev pub ends_of : Pool → List End
ends_of pool = map (end_at pool) (range_with_len pool.ports.first (pool.ports.last - pool.ports.first + 1))
