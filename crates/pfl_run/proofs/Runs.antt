-- Why a run of the laboratory stops, from why its parts do.
use Rattle.std.proofs.Common.{◌≡◌, ℕ, ◌≤◌, Bool, true, false, List, length, take, Option, Some, None, inr, refl, sym, arith, ◌∙◌}
use Rattle.std.specs.Prelude.{Result, Ok, Err, OnOk, OnErr}
use Rattle.std.proofs.lemmas.List.{take_all}
use Rattle.std.specs.Io.KnownBytes.{Keeps, Appends}
use Rattle.pfl_script.specs.timeline.Timelines.{Timeline}
use Rattle.pfl_script.specs.declared.fault.EngineFault.{EngineFault}
use Rattle.pfl_script.specs.declared.fault.EngineFault.TheVariants as engine
use Rattle.pfl_script.specs.Answers.{RunsUntil}
use Rattle.pfl_script.specs.reader.Readers.{Source}
use Rattle.pfl_script.specs.Readers.{IsRunFault}
use Rattle.pfl_run.specs.Faults.{of_engine}
use Rattle.pfl_run.specs.Runs.{IsDeviceFault, IsStop, IsPrinted, SetsUp}

-- nothing is written where nothing is done
pub keeps_same : (w : Option (List ℕ)) → Keeps w w
keeps_same None = tt
keeps_same (Some xs) = refl

-- a run that stops after its setup
pub stops_engine : (e : EngineFault) (old mid new : Option (List ℕ)) (n : ℕ) (t u : Timeline) (w v : Option (List ℕ)) →
    SetsUp old mid n t → RunsUntil e mid new t u w v → IsStop (of_engine e) old w v
stops_engine e old mid new n t u w v sets runs = inr (record {
  why = e;
  fault_is = refl;
  mid = mid;
  new = new;
  number = n;
  first = t;
  last = u;
  sets_up = sets;
  until = runs;
})

-- its devices
pub device_engine : (e : EngineFault) (s : Source) (failed : Bool) → IsRunFault e s failed → IsDeviceFault (of_engine e) s.failed (s.turns ≡ 16777216) failed
device_engine engine.Read s failed h = h
device_engine engine.Write s failed h = h
device_engine engine.TooManyTurns s failed h = h
device_engine engine.NoMemory s failed h = tt

-- a text was reported, whole or in part
pub printed_by : {T E : Type 0} (r : Result T E) (text : List ℕ) (w v : Option (List ℕ)) (failed : Bool) →
    OnOk r (Appends w v text) → OnErr r ((n : ℕ) × (n ≤ length text) × Appends w v (take n text)) → OnErr r (failed ≡ true) → IsPrinted text w v failed
printed_by (Ok x) text w v failed whole part fails = record {
  whole = λ quiet. whole;
  part = (length text, rw (take_all (length text) text (omega arith)) whole);
}
printed_by (Err e) text w v failed whole part fails = record {
  whole = λ quiet. let bad : true ≡ false = sym fails ∙ quiet in cc;
  part = (part.0, part.2);
}
