-- Why a frame was not decoded (this project's profile).
use Rattle.std.specs.Prelude.{ℕ, List, codes}
use Rattle.pfl_wire.specs.declared.fault.BadFrame.{BadFrame}
use Rattle.pfl_wire.specs.declared.fault.BadFrame.TheVariants as bad
use Rattle.pfl_wire.specs.declared.fault.FrameFault.{FrameFault}
use Rattle.pfl_wire.specs.declared.fault.FrameFault.TheVariants as fault

-- a fault of the bytes, as decoding returns it
abbrev pub frame_fault : BadFrame → FrameFault
frame_fault bad.Short = fault.Short
frame_fault bad.Version = fault.Version
frame_fault bad.Length = fault.Length
frame_fault bad.Action = fault.Action
frame_fault bad.Count = fault.Count
frame_fault bad.Value = fault.Value

-- the number by which a reply names the fault
abbrev pub fault_number : FrameFault → ℕ
fault_number fault.Short = 1
fault_number fault.Version = 2
fault_number fault.Length = 3
fault_number fault.Action = 4
fault_number fault.Count = 5
fault_number fault.Value = 6
fault_number fault.NoMemory = 7

-- the fault's word
abbrev pub fault_text : FrameFault → List ℕ
fault_text fault.Short = codes "Short"
fault_text fault.Version = codes "Version"
fault_text fault.Length = codes "Length"
fault_text fault.Action = codes "Action"
fault_text fault.Count = codes "Count"
fault_text fault.Value = codes "Value"
fault_text fault.NoMemory = codes "NoMemory"
