-- What was served over a reader of lines, once its device is given back, and how it is reported.
use Rattle.std.specs.Prelude.{◌≡◌, ◌++◌, ◌+◌, ◌⊎◌, ℕ, Bool, List, Option}
use Rattle.std.proofs.Common.{append_assoc, subst, sym, ◌∙◌, ap}
use Rattle.pfl_base.specs.declared.input.Input as Input
use Rattle.pfl_base.specs.declared.output.Output as Output
use Rattle.pfl_doors.specs.Visits.{Entrance}
use Rattle.pfl_run.specs.reader.Readers.{Releases}
use Rattle.pfl_run.specs.Runs.{IsPrinted}
use Rattle.pfl_run.specs.script.declared.fault.EngineFault.{EngineFault}
use Rattle.pfl_host.specs.Reports.{browser_lines, first_text, PrintsOn}
use Rattle.pfl_host.specs.Servers.{ServesFromDevice, ServesToEnd}
use Rattle.pfl_host.proofs.Printing.{lines_add, prints_then, prints_whole}

module _ {I W : Type 0} (i : Input.Ghosts I) (o : Output.Ghosts W) (heard : ℕ → Type 0) (doors : Entrance I W) (port n : ℕ) where
  -- the lines that were not taken are left in the device
  pub from_device : (old rest new : Option (List ℕ)) (w v : Option (List ℕ)) (first : Option EngineFault) →
      ServesToEnd i o heard doors port n old rest w v first → Releases rest new → ServesFromDevice i o heard doors port n old new w v first
  from_device old rest new w v first serves releases = record { rest = rest; serves = serves; releases = releases }

-- lines of browsers, and then a text
pub lines_then : (k : ℕ) (text : List ℕ) (w m v : Option (List ℕ)) (a b c : Bool) → PrintsOn (browser_lines k) w m a b → PrintsOn text m v b c
    → IsPrinted (browser_lines k ++ text) w v c
lines_then k text w m v a b c first second =
    prints_whole (browser_lines k ++ text) w v a c (prints_then (browser_lines k) text w m v a b c first second)

-- lines of browsers, and then more of them and a text
pub lines_on : (k l : ℕ) (text : List ℕ) (w m v : Option (List ℕ)) (a b c : Bool) → PrintsOn (browser_lines k) w m a b
    → PrintsOn (browser_lines l ++ text) m v b c → IsPrinted (browser_lines (k + l) ++ text) w v c
lines_on k l text w m v a b c first second =
    let same : browser_lines k ++ (browser_lines l ++ text) ≡ browser_lines (k + l) ++ text =
    sym (append_assoc (browser_lines k) (browser_lines l) text) ∙ ap (λ lines. lines ++ text) (lines_add k l) in
    subst (λ (all : List ℕ). IsPrinted all w v c) same (lines_then k (browser_lines l ++ text) w m v a b c first second)
