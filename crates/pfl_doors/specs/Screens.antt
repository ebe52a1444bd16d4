-- A reader that gives nothing of what a browser sends (this project's profile).
use Rattle.std.specs.Prelude.{ℕ, Bool, true, false, List, [], ◌++◌, Option, Some, None, if◌then◌else◌}
use Rattle.std.specs.Option.{option_map}
use Rattle.pfl_doors.specs.Requests.{is_request}

-- what is taken of a text: nothing of one that begins as a request does
abbrev pub screened : List ℕ → List ℕ
screened bytes = if is_request bytes then [] else bytes

-- what the device has left, where that is known; what was read of its front and not given; whether that begins a request, once it is
-- known; whether a call of the device has failed
pub record Screen : Type 0 where
  pub rest : Option (List ℕ)
  pub front : List ℕ
  pub verdict : Option Bool
  pub failed : Bool

-- what is left to give
abbrev pub left_after : Option Bool → List ℕ → List ℕ → List ℕ
left_after None front rest = screened (front ++ rest)
left_after (Some false) front rest = front ++ rest
left_after (Some true) front rest = []

abbrev pub left_in : Screen → Option (List ℕ)
left_in s = option_map (left_after s.verdict s.front) s.rest

-- a browser was turned away
abbrev pub is_turned : Option Bool → Bool
is_turned None = false
is_turned (Some request) = request
