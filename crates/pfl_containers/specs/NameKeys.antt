-- Names of states as keys of maps.
use Rattle.std.specs.Prelude.{ℕ}
use Rattle.std.specs.declared.cmp.Ordering.{Ordering}
use Rattle.std.specs.Ordering.{on}
use Rattle.pfl_base.specs.Names.{name_cmp}
use Rattle.pfl_containers.specs.declared.by_name.ByName.{ByName}
use Rattle.pfl_containers.specs.Hashes.{mixed}

-- the order of these keys is that of names
abbrev pub by_name_cmp : ByName → ByName → Ordering
by_name_cmp = on (λ n. n.0) name_cmp

-- the hash of a name mixes its creator and its id
abbrev pub by_name_hash : ByName → ℕ
by_name_hash n = mixed (mixed 0 n.0.creator) n.0.id
