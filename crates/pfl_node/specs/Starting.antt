-- Packets that no state takes: rules, translation and new states (pf.c, pf.conf(5); what a new state is refused for is this
-- project's profile).
use Rattle.std.specs.Prelude.{ℕ, ◌+◌, Bool, true, false, ◌&&◌, nat_le, Option, Some, None, if◌then◌else◌, unwrap_or}
use Rattle.std.specs.Option.{option_map_or}
use Rattle.pfl_base.specs.declared.direction.Dir.{Dir}
use Rattle.pfl_base.specs.declared.direction.Dir.TheVariants.{Outbound}
use Rattle.pfl_base.specs.declared.packet.Packet.{Packet}
use Rattle.pfl_base.specs.declared.state_name.StateName.{StateName}
use Rattle.pfl_base.specs.Keys.{key, is_dir}
use Rattle.pfl_edits.specs.Maps as maps
use Rattle.pfl_rules.specs.declared.rule.Rule.{Rule}
use Rattle.pfl_rules.specs.declared.verdict.Verdict.{Verdict}
use Rattle.pfl_rules.specs.Rules.{verdict, rule_at}
use Rattle.pfl_track.specs.declared.state.State.{State}
use Rattle.pfl_track.specs.Rules.{started_by}
use Rattle.pfl_track.specs.Tracking.{start_state}
use Rattle.pfl_receive.specs.table.Tables.{by_stack, by_wire, count_of_rule}
use Rattle.pfl_receive.specs.table.Translating.{new_keys}
use Rattle.pfl_receive.specs.queue.declared.Kind.TheVariants.{Insert}
use Rattle.pfl_receive.specs.defer.Deferring.{pushed_out, with_held}
use Rattle.pfl_language.specs.declared.fate.Fate.{Fate}
use Rattle.pfl_language.specs.declared.fate.Fate.TheVariants as fate
use Rattle.pfl_language.specs.declared.fate.Reason.{Reason}
use Rattle.pfl_language.specs.declared.fate.Reason.TheVariants as reason
use Rattle.pfl_receive.specs.desk.Nodes.{Node}
use Rattle.pfl_receive.specs.desk.Changes.{put_state, mark, push_if, count_passed, count_blocked, released}
use Rattle.pfl_node.specs.declared.packet.ruling.Ruling.{Ruling}
use Rattle.pfl_node.specs.declared.packet.ruling.Ruling.TheVariants as ruling

-- what a packet gives: its fate, and the node after it
pub record Handled : Type 0 where
  pub fate : Fate
  pub node : Node

-- the packet goes on
abbrev pub pass : Node → Option StateName → Handled
pass n name = record { fate = fate.Pass name; node = count_passed n }

-- the packet is dropped
abbrev pub drop : Node → Reason → Handled
drop n why = record { fate = fate.Dropped why; node = count_blocked n }

-- the node's next name
abbrev pub next_name : Node → StateName
next_name n = record { creator = n.creator; id = n.next_id }

-- the node with a state that it gave its next name
abbrev pub with_new : Node → State → Node
with_new n s = record (put_state n s) { next_id = n.next_id + 1 }

-- a full list lets its oldest packet go
abbrev pub with_room : Node → Node
with_room n = option_map_or (λ h. released n h.name) (pushed_out n.held) n

-- the first packet of s is held until the peer knows of s
abbrev pub hold : Node → State → Packet → Handled
hold n s p = record {
  fate = fate.Held s.name;
  node = push_if true (put_state (record n { held = with_held n.held s.name p n.clock }) (record s { ack_wanted = true }));
}

-- a packet is held on its way out, where deferring is on
abbrev pub is_deferred : Node → Dir → Bool
is_deferred n dir = n.limits.defer && is_dir dir Outbound

-- the packet of a new state
abbrev pub announced : Node → State → Dir → Packet → Handled
announced n s dir p =
    if s.no_sync then pass n (Some s.name) else
    if is_deferred n dir then hold (with_room (mark n s.name Insert)) s p else pass (mark n s.name Insert) (Some s.name)

-- ---- what the rules make of it

-- the rule has as many states as it may
abbrev pub is_at_max : Node → ℕ → Rule → Bool
is_at_max n number r = option_map_or (λ m. nat_le m (count_of_rule n.states number)) r.max false

-- the state that the packet makes, under the keys that its rule gives it
abbrev pub new_state : Node → Dir → Packet → ℕ → Rule → State
new_state n dir p number r =
    let keys = new_keys n.states r (key p dir) in
    started_by n.limits.kernel (start_state (next_name n) keys.wire keys.stack dir p (Some number) r.no_sync n.clock)

-- a state that has a key of the new one stands against it, the one with the wire key first; where a rule has several ports, this is about
-- the last of them
abbrev pub by_keys : ℕ → Option State → Option State → State → Ruling
by_keys rule (Some s) on_stack new = ruling.WireInUse rule s.name
by_keys rule None (Some s) new = ruling.StackInUse rule s.name
by_keys rule None None new = ruling.Starts rule new

-- a packet that the rule of this number passes: the first of these lines that applies
abbrev pub starting : Node → Dir → Packet → ℕ → Rule → Ruling
starting n dir p number r =
    if is_at_max n number r then ruling.AtMax number (unwrap_or r.max 0) (count_of_rule n.states number) else
    if nat_le n.limits.states (maps.len n.states) then ruling.Full number n.limits.states (maps.len n.states) else
    let keys = new_keys n.states r (key p dir) in
    by_keys number (by_wire n.states keys.wire) (by_stack n.states keys.stack) (new_state n dir p number r)

-- the rule that decided, by its number
abbrev pub by_rule : Node → Dir → Packet → Verdict → ℕ → Ruling
by_rule n dir p v number =
    if v.pass then option_map_or (starting n dir p number) (rule_at n.rules.list (Some number)) ruling.Unmatched else ruling.Blocked number

-- what the rules make of a packet that no state takes
unfoldable pub ruled : Node → Dir → Packet → Ruling
ruled n dir p = let v = verdict n.rules.list p dir in option_map_or (by_rule n dir p v) v.rule ruling.Unmatched

-- ---- what that does

-- the packet after it: without a rule it goes on, and what keeps it from a state drops it
abbrev pub carried : Node → Dir → Packet → Ruling → Handled
carried n dir p ruling.Unmatched = pass n None
carried n dir p (ruling.Blocked rule) = drop n reason.Block
carried n dir p (ruling.AtMax rule most states) = drop n reason.Max
carried n dir p (ruling.Full rule limit states) = drop n reason.Full
carried n dir p (ruling.WireInUse rule name) = drop n reason.Key
carried n dir p (ruling.StackInUse rule name) = drop n reason.Key
carried n dir p (ruling.Starts rule s) = announced (with_new n s) s dir p

-- a packet that no state takes
unfoldable pub judged : Node → Dir → Packet → Handled
judged n dir p = carried n dir p (ruled n dir p)
