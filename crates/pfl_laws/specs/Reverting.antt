-- What a run of events is refused for, and what its edits do (this project's profile).
use Rattle.std.specs.Prelude.{◌⊎◌, List, [], ◌∷◌, IsSomeAnd}
use Rattle.pfl_base.specs.declared.refusal.Refusal.{Refusal}
use Rattle.pfl_language.specs.declared.event.Event.{Event}
use Rattle.pfl_world.specs.Events.{step, IsEventRefusal}
use Rattle.pfl_world.specs.Runs.{world_after}
use Rattle.pfl_world.specs.Worlds.{World}

-- a run that is refused reports the refusal of its first event that has one, or one of its events wanted memory
abbrev pub IsRefusalAlong : World → List Event → Refusal → Type 0
IsRefusalAlong w [] r = ⊥
IsRefusalAlong w (e ∷ es) r = IsEventRefusal w e r ⊎ IsSomeAnd (world_after (step w e)) (λ v. IsRefusalAlong v es r)
