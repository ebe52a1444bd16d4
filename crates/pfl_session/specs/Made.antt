-- A journal's entries as a session that follows is shown them, one after another (this project's profile).
use Rattle.std.specs.Prelude.{ℕ, ◌+◌, List, slice_get, Option}
use Rattle.std.specs.Option.{option_map}
use Rattle.pfl_session.specs.declared.entry.Entry.{Entry}
use Rattle.pfl_session.specs.declared.made.Made.{Made}

-- the entry after the first `from`, if there is one
abbrev pub made_after : {M : Type 0} → ℕ → List (Entry M) → Option Made
made_after from js = option_map (λ e. record { number = from + 1; session = e.session; command = e.command }) (slice_get js from)
