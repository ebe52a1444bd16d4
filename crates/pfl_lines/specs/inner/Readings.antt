-- What a function returned, beside what is read.
use Rattle.std.specs.Prelude.{◌≡◌, Result, Ok, Err}
use Rattle.pfl_lines.specs.declared.fault.LineFault.{LineFault}

-- what a function returned, seen by `view`, is what the definition reads
abbrev pub Gives : {X Y : Type 0} → (X → Y) → Result X LineFault → Result Y LineFault → Type 0
Gives view (Ok x) read = read ≡ Ok (view x)
Gives view (Err e) read = read ≡ Err e
