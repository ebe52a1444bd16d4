-- How a run of the laboratory that stopped is reported (this project's profile).
use Rattle.std.specs.Prelude.{ℕ, List, ◌++◌, codes}
use Rattle.std.specs.Fmt.{decimal}
use Rattle.pfl_rules.specs.Faults.{fault_number as rule_number}
use Rattle.pfl_script.specs.world.Faults.{fault_number as world_number}
use Rattle.pfl_script.specs.lines.Faults.{fault_number as line_number}
use Rattle.pfl_script.specs.declared.fault.EngineFault.{EngineFault}
use Rattle.pfl_script.specs.declared.fault.EngineFault.TheVariants as engine
use Rattle.pfl_script.specs.declared.setup_fault.SetupFault.{SetupFault}
use Rattle.pfl_script.specs.declared.setup_fault.SetupFault.TheVariants as setup
use Rattle.pfl_run.specs.declared.fault.RunFault.{RunFault}
use Rattle.pfl_run.specs.declared.fault.RunFault.TheVariants as lab

-- a fault of the setup, at the line with the number
abbrev pub at_line : ℕ → List ℕ → List ℕ
at_line n what = codes "pfl_lab: setup line " ++ decimal n ++ codes ": " ++ what

-- the line that reports why a run stopped
abbrev pub fault_text : RunFault → List ℕ
fault_text (lab.Line n why) = at_line n (codes "line " ++ decimal (line_number why) ++ codes "\n")
fault_text (lab.Rule n why) = at_line n (codes "rule " ++ decimal (rule_number why) ++ codes "\n")
fault_text (lab.World n why) = at_line n (codes "world " ++ decimal (world_number why) ++ codes "\n")
fault_text (lab.NoOpen n) = at_line n (codes "no open\n")
fault_text lab.Read = codes "pfl_lab: read\n"
fault_text lab.Write = codes "pfl_lab: write\n"
fault_text lab.TooManyTurns = codes "pfl_lab: too many turns\n"
fault_text lab.Network = codes "pfl_lab: network\n"
fault_text lab.NoThread = codes "pfl_lab: no thread\n"
fault_text lab.NoMemory = codes "pfl_lab: no memory\n"

-- the exit status of a run that stopped
abbrev pub fault_status : RunFault → ℕ
fault_status lab.NoMemory = 3
fault_status _ = 1

-- a fault of the setup as one of the run
abbrev pub of_setup : SetupFault → RunFault
of_setup (setup.Line n why) = lab.Line n why
of_setup (setup.Rule n why) = lab.Rule n why
of_setup (setup.NoOpen n) = lab.NoOpen n
of_setup setup.Read = lab.Read
of_setup setup.TooManyTurns = lab.TooManyTurns
of_setup setup.NoMemory = lab.NoMemory

-- a fault of the engine as one of the run
abbrev pub of_engine : EngineFault → RunFault
of_engine engine.Read = lab.Read
of_engine engine.Write = lab.Write
of_engine engine.TooManyTurns = lab.TooManyTurns
of_engine engine.NoMemory = lab.NoMemory
