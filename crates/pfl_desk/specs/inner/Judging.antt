-- How an event is judged that was carried out: by the points that it went through.
use Rattle.std.specs.Prelude.{◌≡◌, List, Result, Ok, Err, Bool, true, false, Option, Some, None, if◌then◌else◌}
use Rattle.std.specs.List.{list_any}
use Rattle.pfl_base.specs.declared.refusal.Refusal.{Refusal}
use Rattle.pfl_base.specs.declared.refusal.Refusal.TheVariants.{QueueFull, CountFull}
use Rattle.pfl_desk.specs.declared.parts.judge.Overfull.{Overfull}
use Rattle.pfl_desk.specs.Nodes.{Node, is_overfull, is_overcounted}

-- an event went through these points: it stopped where too much was pending at one, and else says whether at one a number was too high
abbrev pub Went : {T : Type 0} → Result (T × Bool) Overfull → List Node → Type 0
Went (Ok r) points = (list_any is_overfull points ≡ false) × (r.1 ≡ list_any is_overcounted points)
Went (Err _) points = list_any is_overfull points ≡ true

-- why it is refused, if there is a reason
abbrev pub judgement : {T : Type 0} → Result (T × Bool) Overfull → Option Refusal
judgement (Ok r) = if r.1 then Some CountFull else None
judgement (Err _) = Some QueueFull

-- the same of an event that goes through no point before its end: it stopped where too much was pending, or ended at the node n
abbrev pub end_judgement : {T : Type 0} → Result T Overfull → Node → Option Refusal
end_judgement (Ok answer) n = if is_overcounted n then Some CountFull else None
end_judgement (Err _) n = Some QueueFull

-- the refusal of an event that was judged, if there is one
abbrev pub judged_as : {T : Type 0} → Result T Refusal → Option Refusal
judged_as (Ok answer) = None
judged_as (Err refusal) = Some refusal
