-- What records are for (if_pfsync.h), and how long they are (this project's profile).
use Rattle.std.specs.Prelude.{ℕ, ◌==◌, Option, List, [], ◌∷◌, find}
use Rattle.pfl_wire.specs.declared.action.Action.{Action}
use Rattle.pfl_wire.specs.declared.action.Action.TheVariants as action

-- the numbers of pfsync version 5 (if_pfsync.h)
abbrev pub action_number : Action → ℕ
action_number action.Clear = 0
action_number action.Insert = 1
action_number action.InsertAck = 2
action_number action.Update = 3
action_number action.UpdateShort = 4
action_number action.UpdateRequest = 5
action_number action.Delete = 6
action_number action.DeleteShort = 7
action_number action.Bulk = 10

-- all actions that are taken (this project's profile)
abbrev pub actions : List Action
actions = action.Clear ∷ action.Insert ∷ action.InsertAck ∷ action.Update ∷ action.UpdateShort ∷ action.UpdateRequest ∷ action.Delete
    ∷ action.DeleteShort ∷ action.Bulk ∷ []

-- the action with the number, if there is one (this project's profile)
abbrev pub action_with : ℕ → Option Action
action_with n = find (λ a. action_number a == n) actions

-- how many bytes a record has (this project's profile)
abbrev pub record_len : Action → ℕ
record_len action.Clear = 12
record_len action.Insert = 124
record_len action.InsertAck = 12
record_len action.Update = 124
record_len action.UpdateShort = 44
record_len action.UpdateRequest = 12
record_len action.Delete = 124
record_len action.DeleteShort = 12
record_len action.Bulk = 8
