-- Why a packet has its fate (pf.c, pf.conf(5); that it is shown is this project's profile).
use Rattle.std.specs.Prelude.{◌≡◌, ◌≤◌, ◌⊎◌, ℕ, Bool, true, false, Option, Some, None, IsSomeAnd, is_some, if◌then◌else◌}
use Rattle.std.specs.Option.{option_map_or}
use Rattle.pfl_base.specs.declared.direction.Dir.{Dir}
use Rattle.pfl_base.specs.declared.kernel.Kernel.{Kernel}
use Rattle.pfl_base.specs.declared.packet.Packet.{Packet}
use Rattle.pfl_base.specs.declared.state_name.StateName.{StateName}
use Rattle.pfl_base.specs.Keys.{is_key, key}
use Rattle.pfl_base.specs.Packets.{is_request, is_tcp}
use Rattle.pfl_edits.specs.Maps as maps
use Rattle.pfl_rules.specs.declared.rule.Rule.{Rule}
use Rattle.pfl_rules.specs.Matching.{is_pass}
use Rattle.pfl_track.specs.declared.judgement.Judgement.{Judgement}
use Rattle.pfl_track.specs.declared.state.State.{State}
use Rattle.pfl_track.specs.declared.tracked.Tracked.{Tracked}
use Rattle.pfl_track.specs.declared.tracked.Tracked.TheVariants.{Reused}
use Rattle.pfl_track.specs.Judging.{branch_of, window_test_by}
use Rattle.pfl_track.specs.Rules.{tracked_by}
use Rattle.pfl_track.specs.Tracking.{is_closed}
use Rattle.pfl_language.specs.declared.fate.Fate.TheVariants as fate
use Rattle.pfl_language.specs.declared.fate.Reason.TheVariants as reason
use Rattle.pfl_world.specs.desk.Changes.{deleted}
use Rattle.pfl_world.specs.desk.Nodes.{Node}
use Rattle.pfl_world.specs.node.declared.packet.ruling.Ruling.{Ruling}
use Rattle.pfl_world.specs.node.declared.packet.ruling.Ruling.TheVariants as ruling
use Rattle.pfl_world.specs.node.Starting.{Handled, drop, next_name, pass, ruled}
use Rattle.pfl_world.specs.table.Tables.{count_of_rule, found}
use Rattle.pfl_world.specs.table.Translating.{new_keys}
use Rattle.pfl_reasons.specs.declared.packet_reason.Judged.{Judged}
use Rattle.pfl_reasons.specs.declared.packet_reason.Judged.TheVariants as judged
use Rattle.pfl_reasons.specs.declared.packet_reason.PacketReason.{PacketReason}
use Rattle.pfl_reasons.specs.declared.packet_reason.PacketReason.TheVariants.{OfState, ByRules}
use Rattle.pfl_reasons.specs.Deciding.{Decides, NoneMatches}

-- what is shown of what the rules make of a packet: of a new state its name
abbrev pub shown_ruling : Ruling → Judged
shown_ruling ruling.Unmatched = judged.Unmatched
shown_ruling (ruling.Blocked rule) = judged.Blocked rule
shown_ruling (ruling.AtMax rule most states) = judged.AtMax rule most states
shown_ruling (ruling.Full rule limit states) = judged.Full rule limit states
shown_ruling (ruling.WireInUse rule name) = judged.WireInUse rule name
shown_ruling (ruling.StackInUse rule name) = judged.StackInUse rule name
shown_ruling (ruling.Starts rule s) = judged.Makes rule s.name

-- what the rules make of a packet that no state takes
unfoldable pub judged_reason : Node → Dir → Packet → Judged
judged_reason n dir p = shown_ruling (ruled n dir p)

-- what a packet of TCP is tested against; one of another protocol is not tested
abbrev pub tested : Kernel → State → Dir → Packet → Option Judgement
tested k s dir p = if is_tcp p.proto then Some (window_test_by k s dir p) else None

-- the packet of the state s: a new connection over a closed one is judged without that
abbrev pub by_tracked : Node → Dir → Packet → State → Tracked → PacketReason
by_tracked n dir p s Reused = ByRules (Some s.name) (judged_reason (deleted n s) dir p)
by_tracked n dir p s other = OfState s.name (tested n.limits.kernel s dir p)

-- the state that was found, if one was
abbrev pub by_found : Node → Dir → Packet → Option State → PacketReason
by_found n dir p None = ByRules None (judged_reason n dir p)
by_found n dir p (Some s) = by_tracked n dir p s (tracked_by n.limits.kernel s p dir n.clock)

-- why the packet has its fate at the node
unfoldable pub packet_reason : Node → Dir → Packet → PacketReason
packet_reason n dir p = by_found n dir p (found n.states (key p dir) dir)

-- ---- what follows

-- a rule of the node with this number decides about the packet, and passes it; and of that rule this is so
abbrev pub IsPassedBy : Node → Dir → Packet → ℕ → (Rule → Type 0) → Type 0
IsPassedBy n dir p number P = (r : Rule) × Decides n.rules.list p dir number r × (is_pass r.action ≡ true) × P r

-- a rule of the node with this number decides about the packet, and blocks it
abbrev pub IsBlockedBy : Node → Dir → Packet → ℕ → Type 0
IsBlockedBy n dir p number = (r : Rule) × Decides n.rules.list p dir number r × (is_pass r.action ≡ false)

-- the node has a state of this name of which this is so
abbrev pub HasState : Node → StateName → (State → Type 0) → Type 0
HasState n name P = (at : StateName) × (s : State) × (maps.get n.states at ≡ Some s) × (s.name ≡ name) × P s

-- From what the rules of the node made of it: what the packet gives, its fate with the node after it. No rule matches a packet that goes on
-- without a state; any other has the rule that decides about it, and what prevents a new state is so at the node: the rule's limit and the
-- number of its states, the table's, or the state that has a key which the new one would have. Where nothing prevents it, the new state
-- has the node's next name and this rule, and its packet goes on or is held
abbrev pub JudgedSo : Node → Dir → Packet → Judged → Handled → Type 0
JudgedSo n dir p judged.Unmatched h = (h ≡ pass n None) × NoneMatches n.rules.list p dir
JudgedSo n dir p (judged.Blocked rule) h = (h ≡ drop n reason.Block) × IsBlockedBy n dir p rule
JudgedSo n dir p (judged.AtMax rule most states) h =
    (h ≡ drop n reason.Max)
    × IsPassedBy n dir p rule (λ r. (r.max ≡ Some most) × (states ≡ count_of_rule n.states rule) × (most ≤ states))
JudgedSo n dir p (judged.Full rule limit states) h =
    (h ≡ drop n reason.Full)
    × IsPassedBy n dir p rule (λ r. (limit ≡ n.limits.states) × (states ≡ maps.len n.states) × (limit ≤ states))
JudgedSo n dir p (judged.WireInUse rule name) h =
    (h ≡ drop n reason.Key)
    × IsPassedBy n dir p rule (λ r. HasState n name (λ s. is_key s.wire (new_keys n.states r (key p dir)).wire ≡ true))
JudgedSo n dir p (judged.StackInUse rule name) h =
    (h ≡ drop n reason.Key)
    × IsPassedBy n dir p rule (λ r. HasState n name (λ s. is_key s.stack (new_keys n.states r (key p dir)).stack ≡ true))
JudgedSo n dir p (judged.Makes rule name) h =
    ((h.fate ≡ fate.Pass (Some name)) ⊎ (h.fate ≡ fate.Held name))
    × IsSomeAnd (maps.get h.node.states name) (λ s. s.rule ≡ Some rule)
    × IsPassedBy n dir p rule (λ r. name ≡ next_name n)

-- a packet of TCP asks for a new connection over this one, which is closed
abbrev pub IsReuse : State → Packet → Type 0
IsReuse s p = (is_tcp p.proto ≡ true) × (is_request p ≡ true) × (is_closed s ≡ true)

-- by its tests there is a way in which the packet passes: inside the window, or loosely
abbrev pub passes : Judgement → Bool
passes j = is_some (branch_of j)

-- of a packet of the state, by whether it passes its tests: it goes on, or is dropped and counted, and nothing else
abbrev pub TestedSo : Node → StateName → Bool → Handled → Type 0
TestedSo n name true h = h.fate ≡ fate.Pass (Some name)
TestedSo n name false h = h ≡ drop n reason.Window

-- From the reason, at the node before it. The state that has the packet's key is of that name, and the tests are those of its window by the
-- node's rules of the kernel; a packet that is not tested passes. Without such a state the rules decide; and over a closed connection they
-- decide as they do at the node without that
abbrev pub HandledSo : Node → Dir → Packet → PacketReason → Handled → Type 0
HandledSo n dir p (OfState name judgement) h =
    IsSomeAnd (found n.states (key p dir) dir) (λ s. (s.name ≡ name) × (judgement ≡ tested n.limits.kernel s dir p))
    × TestedSo n name (option_map_or passes judgement true) h
HandledSo n dir p (ByRules None made) h = (found n.states (key p dir) dir ≡ None) × JudgedSo n dir p made h
HandledSo n dir p (ByRules (Some name) made) h =
    IsSomeAnd (found n.states (key p dir) dir) (λ s. (s.name ≡ name) × IsReuse s p × JudgedSo (deleted n s) dir p made h)
