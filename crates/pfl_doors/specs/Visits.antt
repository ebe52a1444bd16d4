-- Who comes through doors.
use Rattle.std.specs.Prelude.{◌≡◌, ℕ, suc, Bool, false, List, [], ◌∷◌, ◌++◌, Option, Result, Ok, Err}
use Rattle.pfl_doors.specs.declared.doors.DoorFault.{DoorFault}
use Rattle.pfl_doors.specs.declared.doors.Sides.{Sides}
use Rattle.pfl_doors.specs.declared.doors.Visit.{Visit}
use Rattle.pfl_doors.specs.declared.doors.Visit.TheVariants.{Browser, Session}

module _ {I O : Type 0} where
  -- the connections that were given, after one more visit
  abbrev pub given_after : List (Sides I O) → Result (Visit I O) DoorFault → List (Sides I O)
  given_after given (Ok (Session sides)) = given ++ sides ∷ []
  given_after given (Ok Browser) = given
  given_after given (Err why) = given

  -- how many browsers were turned away, after one more visit
  abbrev pub turned_after : ℕ → Result (Visit I O) DoorFault → ℕ
  turned_after turned (Ok Browser) = suc turned
  turned_after turned (Ok (Session sides)) = turned
  turned_after turned (Err why) = turned

  -- no call of either side has failed
  abbrev pub IsUnfailed : (I → Bool) → (O → Bool) → Visit I O → Type 0
  IsUnfailed reader writer (Session sides) = (reader sides.reader ≡ false) × (writer sides.writer ≡ false)
  IsUnfailed reader writer Browser = Unit {0}

-- what is seen of doors: the port that is listened on, the connections that were given since, how many browsers were turned away, and what
-- came back of the connections
pub record Entrance (I W : Type 0) : Type 0 where
  pub port : Option ℕ
  pub given : List (Sides I W)
  pub turned : ℕ
  pub returned : List (Sides I W)

abbrev pub entrance : {D I W : Type 0} → (D → Option ℕ) → (D → List (Sides I W)) → (D → ℕ) → (D → List (Sides I W)) → D → Entrance I W
entrance listens given turned returned d = record { port = listens d; given = given d; turned = turned d; returned = returned d }
