-- What records are about, one after another, and what they pay for.
use Rattle.std.specs.Prelude.{◌≡◌, ◌≤◌, ℕ, suc, ◌+◌, ◌*◌, ◌/◌, Bool, List, [], ◌∷◌, length}
use Rattle.std.specs.List.{zip, sum_by}
use Rattle.std.proofs.Common.{◌∙◌, ap, lit≤, arith}
use Rattle.std.proofs.lemmas.List.Sums.{sum_by-cons, sum_by-append}
use Rattle.pfl_wire.specs.declared.action.Action.{Action}
use Rattle.pfl_wire.specs.declared.action.Action.TheVariants as action
use Rattle.pfl_wire.specs.declared.message.Message.{Message}
use Rattle.pfl_wire.specs.Actions.{record_len}
use Rattle.pfl_wire.specs.Frames.{Frame, action_of, all_of, frame_len, group_len, records_of}
use Rattle.pfl_desk.specs.Nodes.{Node}
use Rattle.pfl_receive.specs.inner.Delivering.{paid_by, paid_edits}
use Rattle.pfl_receive.specs.Delivering.{cleared_by, records_work, taken_points}
use Rattle.pfl_receive.specs.Receiving.{taken}

-- ---- what they are about

-- the states that a record clears at the node before it
abbrev clears : Node × Message → ℕ
clears at = cleared_by at.0 at.1

move : (l c s : ℕ) → suc l + (c + s) ≡ 1 + c + (l + s)
move l c s = omega arith

-- the first, and the others at the node that it makes
pub work-next : (n : Node) (same_rules : Bool) (d : Message) (ms : List Message)
    → records_work n same_rules (d ∷ ms) ≡ 1 + cleared_by n d + records_work (taken n same_rules d) same_rules ms
unfolding records_work
work-next n same_rules d ms =
    let others = zip (taken n same_rules d ∷ taken_points (taken n same_rules d) same_rules ms) ms in
    ap (λ (k : ℕ). suc (length ms) + k) (sum_by-cons clears (n, d) others) ∙ move (length ms) (cleared_by n d) (sum_by clears others)

-- ---- what they pay for

-- a record pays for two edits at least
pays-two : (a : Action) → 2 ≤ record_len a / 4
pays-two action.Clear = lit≤ tt
pays-two action.Insert = lit≤ tt
pays-two action.InsertAck = lit≤ tt
pays-two action.Update = lit≤ tt
pays-two action.UpdateShort = lit≤ tt
pays-two action.UpdateRequest = lit≤ tt
pays-two action.Delete = lit≤ tt
pays-two action.DeleteShort = lit≤ tt
pays-two action.Bulk = lit≤ tt

pub paid-next : (d : Message) (ms : List Message) → paid_by (d ∷ ms) ≡ paid_edits d + paid_by ms
paid-next d ms = sum_by-cons paid_edits d ms

-- so that there are not more records than edits
pub paid-each : (ms : List Message) → 2 * length ms ≤ paid_by ms
paid-each [] = omega arith
paid-each (d ∷ ms) = omega (arith, pays-two (action_of d), paid-next d ms, paid-each ms)

abbrev len_of : Message → ℕ
len_of m = record_len (action_of m)

-- four bytes pay for one
paid-bytes : (ms : List Message) → 4 * paid_by ms ≤ sum_by len_of ms
paid-bytes [] = omega arith
paid-bytes (d ∷ ms) = omega (arith, paid-next d ms, sum_by-cons len_of d ms, paid-bytes ms)

paid-groups : (gs : List (List Message)) → 4 * paid_by (all_of gs) ≤ sum_by group_len gs
paid-groups [] = omega arith
paid-groups (ms ∷ gs) =
    let parts : paid_by (all_of (ms ∷ gs)) ≡ paid_by ms + paid_by (all_of gs) = sum_by-append paid_edits ms (all_of gs) in
    omega (arith, parts, sum_by-cons group_len ms gs, paid-bytes ms, paid-groups gs)

-- the bytes of a frame pay for what its records pay for
pub paid-frame : (f : Frame) → paid_by (records_of f) ≤ frame_len f.groups / 4
paid-frame f = omega (arith, paid-groups f.groups)
