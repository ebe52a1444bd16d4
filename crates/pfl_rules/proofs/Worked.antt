-- Worked examples, computed.
use Rattle.std.specs.Prelude.{◌≡◌, true, false, Some, None, [], ◌∷◌, ◌++◌, replicate, refl, codes}
use Rattle.pfl_rules.specs.declared.rule.Rule.{Rule}
use Rattle.pfl_rules.specs.declared.action.Action.TheVariants.{Pass, Block}
use Rattle.pfl_base.specs.declared.addr.Addr.TheVariants.{V4}
use Rattle.pfl_rules.specs.declared.rule_dir.RuleDir.TheVariants.{Out, Any}
use Rattle.pfl_rules.specs.declared.fault.RuleFault.TheVariants.{TooMany, NatNotOut, ZeroMax, RdrNotIn}
use Rattle.std.specs.Fmt.{decimal}
use Rattle.pfl_base.specs.declared.class.Class.TheVariants.{TcpEstablished, TcpClosing}
use Rattle.pfl_rules.specs.Pools.{ends_of}
use Rattle.pfl_rules.specs.Ports.{in_ports, ports_of}
use Rattle.pfl_rules.specs.Rules.{Rules, rule_fault, rule_set, timed, timeout}
use Rattle.pfl_rules.specs.Scaling.{scaled}
use Rattle.pfl_rules.specs.Texts.{canonical_text, ports_text}
use Rattle.md5.specs.Md5.{md5, digest_bytes, hash_after, compress, rounds, block_words}
use Rattle.pfl_rules.proofs.Cases.{plain_rule}

abbrev pass_out : Rule
pass_out = plain_rule Pass Out

text : canonical_text (pass_out ∷ []) ≡ codes "pass out\n"
unfolding canonical_text
text = refl

no_rules : md5 [] ≡ 0xd4 ∷ 0x1d ∷ 0x8c ∷ 0xd9 ∷ 0x8f ∷ 0x00 ∷ 0xb2 ∷ 0x04 ∷ 0xe9 ∷ 0x80 ∷ 0x09 ∷ 0x98 ∷ 0xec ∷ 0xf8 ∷ 0x42 ∷ 0x7e ∷ []
unfolding md5 digest_bytes hash_after compress rounds block_words
no_rules = refl

-- ---- ranges of ports

range_text : ports_text (record { first = 1024; last = 65535 }) ≡ decimal 1024 ++ codes ":" ++ decimal 65535
range_text = refl

single_text : ports_text (record { first = 53; last = 53 }) ≡ decimal 53
single_text = refl

first_port : in_ports 1024 2048 1024 ≡ true
first_port = refl

last_port : in_ports 1024 2048 2048 ≡ true
last_port = refl

port_before : in_ports 1024 2048 1023 ≡ false
port_before = refl

port_after : in_ports 1024 2048 2049 ≡ false
port_after = refl

one_port : ports_of 53 53 ≡ Some (record { first = 53; last = 53 })
one_port = refl

no_ports : ports_of 53 52 ≡ None
no_ports = refl

pool : ends_of (record { addr = V4 0xc6336401; ports = record { first = 4000; last = 4002 } })
    ≡ record { addr = V4 0xc6336401; port = 4000 } ∷ record { addr = V4 0xc6336401; port = 4001 } ∷ record { addr = V4 0xc6336401; port = 4002 } ∷ []
pool = refl

-- ---- timeouts: the rule's come first, then the set's, then the defaults

abbrev hour : Rules
hour = timed
    (None ∷ None ∷ Some 3600 ∷ None ∷ None ∷ None ∷ None ∷ None ∷ None ∷ None ∷ None ∷ None ∷ None ∷ None ∷ [])
    (rule_set (pass_out ∷ record pass_out { timeouts = None ∷ None ∷ Some 60 ∷ replicate 11 None }
    ∷ record pass_out { action = Block; timeouts = replicate 14 (Some 1) } ∷ []))

set_timeout : timeout hour (Some 0) TcpEstablished ≡ 3600
unfolding rule_set
set_timeout = refl

rule_timeout : timeout hour (Some 1) TcpEstablished ≡ 60
unfolding rule_set
rule_timeout = refl

block_timeout : timeout hour (Some 2) TcpEstablished ≡ 3600
unfolding rule_set
block_timeout = refl

no_rule_timeout : timeout hour None TcpEstablished ≡ 3600
unfolding rule_set
no_rule_timeout = refl

other_class : timeout hour (Some 0) TcpClosing ≡ 900
unfolding rule_set
other_class = refl

-- ---- faults: the first that holds of the whole set

abbrev any_nat : Rule
any_nat = record pass_out { direction = Any; nat = Some (record { addr = V4 0xc6336401; ports = record { first = 4000; last = 4000 } }) }

abbrev no_states : Rule
no_states = record pass_out { max = Some 0 }

fine : rule_fault (pass_out ∷ []) ≡ None
fine = refl

nat_on_any : rule_fault (any_nat ∷ []) ≡ Some NatNotOut
nat_on_any = refl

rdr_on_out : rule_fault (record pass_out { rdr = Some (record { addr = V4 0xc6336401; ports = record { first = 80; last = 80 } }) } ∷ []) ≡ Some RdrNotIn
rdr_on_out = refl

zero_max : rule_fault (no_states ∷ []) ≡ Some ZeroMax
zero_max = refl

lower_first : rule_fault (no_states ∷ any_nat ∷ []) ≡ Some NatNotOut
lower_first = refl

too_many : rule_fault (replicate 257 no_states) ≡ Some TooMany
too_many = refl

-- ---- timeouts that shorten

up_to_the_start : scaled 60 (record { start = 2; end = 4 }) 2 ≡ 60
up_to_the_start = refl

half_way : scaled 60 (record { start = 2; end = 4 }) 3 ≡ 30
half_way = refl

at_the_end : scaled 60 (record { start = 2; end = 4 }) 4 ≡ 0
at_the_end = refl

past_the_end : scaled 60 (record { start = 2; end = 4 }) 5 ≡ 0
past_the_end = refl

-- 240 / 7, and not 4 times 60 / 7
truncated_last : scaled 60 (record { start = 0; end = 7 }) 3 ≡ 34
truncated_last = refl

turned_off : scaled 60 (record { start = 0; end = 0 }) 3 ≡ 60
turned_off = refl

end_at_the_start : scaled 60 (record { start = 4; end = 4 }) 9 ≡ 60
end_at_the_start = refl

greatest_timeout : scaled 4294967295 (record { start = 0; end = 131072 }) 65536 ≡ 2147483647
greatest_timeout = refl
