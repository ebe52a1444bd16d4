-- The keys of a new state, where its rule translates one end (pf.conf(5), `nat` and `rdr`; which port is taken is this project's
-- profile).
use Rattle.std.specs.Prelude.{Bool, true, not, find, Option, Some, None, is_some, if◌then◌else◌, unwrap_or}
use Rattle.std.specs.Option.{option_map, option_map_or, option_or}
use Rattle.pfl_base.specs.declared.addr.End.{End}
use Rattle.pfl_base.specs.declared.flow.Key.{Key}
use Rattle.pfl_base.specs.Ends.{same_family}
use Rattle.pfl_rules.specs.declared.pool.Pool.{Pool}
use Rattle.pfl_rules.specs.declared.rule.Rule.{Rule}
use Rattle.pfl_rules.specs.Pools.{ends_of, end_at}
use Rattle.pfl_track.specs.declared.key_pair.KeyFields.{KeyFields}
use Rattle.pfl_track.specs.Keys.{wire_key}
use Rattle.pfl_table.specs.Tables.{States, key_in_use}

-- what the rule translates to; no rule of a set translates on both ways
abbrev pub translation : Rule → Option Pool
translation r = option_or r.rdr r.nat

-- a translation is to an address of the flow's own family
abbrev pub fits_translation : Key → Rule → Bool
fits_translation k r = option_map_or (λ pool. same_family k.near.addr pool.addr) (translation r) true

-- the keys of a flow whose near end is translated to this one, if to any: on the stack for `rdr`, else on the wire
abbrev pub keys_to : Rule → Key → Option End → KeyFields
keys_to r k to = if is_some r.rdr then record { wire = k; stack = wire_key k to } else record { wire = wire_key k to; stack = k }

-- a state has one of the two keys
abbrev pub is_taken : States → KeyFields → Bool
is_taken m keys = key_in_use m keys.wire keys.stack

-- of the ends of a pool, from its first port on: the first with which both keys are free, and where there is none, the last
abbrev pub free_end : States → Rule → Key → Pool → End
free_end m r k pool = unwrap_or (find (λ to. not (is_taken m (keys_to r k (Some to)))) (ends_of pool)) (end_at pool pool.ports.last)

-- the keys that the rule gives a new state of the flow
unfoldable pub new_keys : States → Rule → Key → KeyFields
new_keys m r k = keys_to r k (option_map (free_end m r k) (translation r))
