-- Which packets a rule matches (pf.conf(5)).
use Rattle.std.specs.Prelude.{Bool, true, false, not, ◌&&◌, ◌||◌, ◌==◌, Option, Some, None, is_some}
use Rattle.pfl_base.specs.declared.direction.Dir.{Dir}
use Rattle.pfl_base.specs.declared.direction.Dir.TheVariants.{Inbound, Outbound}
use Rattle.pfl_base.specs.declared.packet.Packet.{Packet}
use Rattle.pfl_base.specs.Ends.{same_family, proto_number}
use Rattle.pfl_base.specs.Packets.{is_tcp, has_ports, is_request}
use Rattle.pfl_rules.specs.declared.action.Action.{Action}
use Rattle.pfl_rules.specs.declared.action.Action.TheVariants.{Pass, Block}
use Rattle.pfl_rules.specs.declared.rule_dir.RuleDir.{RuleDir}
use Rattle.pfl_rules.specs.declared.rule_dir.RuleDir.TheVariants.{In, Out, Any}
use Rattle.pfl_rules.specs.declared.rule.Rule.{Rule}
use Rattle.pfl_rules.specs.Nets.{in_net}
use Rattle.pfl_rules.specs.Ports.{in_ports}

-- the rule is for this way
abbrev pub goes : RuleDir → Dir → Bool
goes In Inbound = true
goes Out Outbound = true
goes Any _ = true
goes _ _ = false

-- what is not said is met by all
abbrev pub if_said : {X : Type 0} → Option X → (X → Bool) → Bool
if_said None test = true
if_said (Some x) test = test x

-- the rule passes
abbrev pub is_pass : Action → Bool
is_pass Pass = true
is_pass Block = false

-- a rule with ports matches only protocols that have ports
abbrev pub ports_match : Rule → Packet → Bool
ports_match r p =
    (has_ports p.proto || (not (is_some r.from_port) && not (is_some r.to_port)))
    && if_said r.from_port (λ n. in_ports n.first n.last p.src.port) && if_said r.to_port (λ n. in_ports n.first n.last p.dst.port)

-- a pass rule matches only the TCP packets that ask for a connection, unless it says `flags any`, and a translation only packets of its family
abbrev pub can_start : Rule → Packet → Bool
can_start r p =
    (not (is_tcp p.proto) || r.any_flags || is_request p)
    && if_said r.nat (λ pool. same_family pool.addr p.src.addr)
    && if_said r.rdr (λ pool. same_family pool.addr p.src.addr)

-- the rule matches the packet on its way
abbrev pub matches : Rule → Packet → Dir → Bool
matches r p dir =
    goes r.direction dir
    && if_said r.proto (λ q. proto_number q == proto_number p.proto)
    && if_said r.from (λ n. in_net n.addr n.len p.src.addr)
    && if_said r.to (λ n. in_net n.addr n.len p.dst.addr)
    && ports_match r p
    && (not (is_pass r.action) || can_start r p)
