-- What decoding returns, and its parts (this project's profile).
use Rattle.std.specs.Prelude.{◌≡◌, IsOk, Result, Ok, Err}
use Rattle.pfl_wire.specs.declared.fault.BadFrame.{BadFrame}
use Rattle.pfl_wire.specs.declared.fault.BadFrame.TheVariants as bad
use Rattle.pfl_wire.specs.declared.fault.FrameFault.{FrameFault}
use Rattle.pfl_wire.specs.declared.fault.FrameFault.TheVariants as fault
use Rattle.pfl_wire.specs.Frames.{Frame}

-- what decoding returns: the frame; want of memory, and only where there is a frame; or the first fault
abbrev pub Decodes : {Y : Type 0} → (Y → Frame) → Result Y FrameFault → Result Frame BadFrame → Type 0
Decodes view (Ok y) read = read ≡ Ok (view y)
Decodes view (Err fault.NoMemory) read = IsOk read
Decodes view (Err fault.Short) read = read ≡ Err bad.Short
Decodes view (Err fault.Version) read = read ≡ Err bad.Version
Decodes view (Err fault.Length) read = read ≡ Err bad.Length
Decodes view (Err fault.Action) read = read ≡ Err bad.Action
Decodes view (Err fault.Count) read = read ≡ Err bad.Count
Decodes view (Err fault.Value) read = read ≡ Err bad.Value
