-- What the parts of decoding answer.
use Rattle.std.specs.Prelude.{◌≡◌, Result, Ok, Err, ℕ, List, Option, Some, None, [], ◌∷◌, ◌++◌, Vec, IsOk}
use Rattle.pfl_wire.specs.declared.fault.BadFrame.{BadFrame}
use Rattle.pfl_wire.specs.declared.message.Message.{Message}
use Rattle.pfl_wire.specs.Fields.{Read}
use Rattle.pfl_wire.specs.Frames.{lists, Frame}

-- ---- the parts of decoding

-- a function returned what reading gives, seen by view
abbrev pub Gives : {X Y : Type 0} → (X → Y) → Result X BadFrame → Result Y BadFrame → Type 0
Gives view (Ok x) read = read ≡ Ok (view x)
Gives view (Err e) read = read ≡ Err e

-- what is left after a read
abbrev pub left_by : {X : Type 0} → Read X → Result (List ℕ) BadFrame
left_by (Ok x) = Ok x.1
left_by (Err e) = Err e

-- what was read is kept, or lost for want of memory, and the rest is read on
abbrev pub Keeps : {X : Type 0} → Option X → List ℕ → Read X → Type 0
Keeps (Some x) rest read = read ≡ Ok (x, rest)
Keeps None rest read = left_by read ≡ Ok rest

-- a function returned what reading gives, though what was read may be lost
abbrev pub GivesKept : {X Y : Type 0} → (Y → Option X) → (Y → List ℕ) → Result Y BadFrame → Read X → Type 0
GivesKept kept rest (Ok y) read = Keeps (kept y) (rest y) read
GivesKept kept rest (Err e) read = read ≡ Err e

-- what was kept before, and the item, are kept after, or nothing is
abbrev pub Joins : {X : Type 0} → Option (List X) → Option X → Option (List X) → Type 0
Joins old item None = Unit {0}
Joins (Some xs) (Some x) (Some ys) = ys ≡ xs ++ x ∷ []
Joins (Some xs) None (Some ys) = ⊥
Joins None item (Some ys) = ⊥

-- what a vector contains, if it is kept
abbrev pub kept_items : {X A : Type 0} → Option (Vec X A) → Option (List X)
kept_items None = None
kept_items (Some v) = Some v.items

-- what vectors in a vector contain, if they are kept
abbrev pub kept_lists : {A : Type 0} → Option (Vec (Vec Message A) A) → Option (List (List Message))
kept_lists None = None
kept_lists (Some v) = Some (lists v.items)

-- the frame that was read, or that there is one though it was lost
abbrev pub FrameKept : Option Frame → Result Frame BadFrame → Type 0
FrameKept (Some f) read = read ≡ Ok f
FrameKept None read = IsOk read

-- a frame, if it is kept, or the fault of the bytes
abbrev pub GivesFrame : {Y : Type 0} → (Y → Option Frame) → Result Y BadFrame → Result Frame BadFrame → Type 0
GivesFrame kept (Ok y) read = FrameKept (kept y) read
GivesFrame kept (Err e) read = read ≡ Err e
