-- What a reader of lines did with its device, once that is given back.
use Rattle.std.proofs.Common.{◌≡◌, ℕ, Bool, ◌+◌, ◌*◌, ◌≤◌, List, [], ◌∷◌, ◌++◌, Option, Some, None, refl, sym, ap, arith, drop, ◌∙◌}
use Rattle.std.specs.Prelude.{unwrap_or}
use Rattle.pfl_base.specs.Counts.{Calls, Counts, CountsWithin, lent_calls}
use Rattle.pfl_script.proofs.ForCallers.reader.{Counts-then}
use Rattle.pfl_script.specs.reader.Readers.{Releases}
use Rattle.pfl_script.specs.Answers.{Drains}
use Rattle.pfl_run.specs.Checks.{ChecksToEnd}
use Rattle.pfl_run.specs.Runs.{HasFailed, IsDeviceFault, RunsToEnd}
use Rattle.pfl_run.specs.declared.fault.RunFault.{RunFault}
use Rattle.pfl_run.specs.declared.fault.RunFault.TheVariants as fault

-- the calls of a setup alone
pub of_setup : (old new : Calls) (n : ℕ) → n ≤ 16777216 → Counts old new n → CountsWithin n (2 * 16777216) old new
of_setup old new n few h = record { calls = n; enough = omega (arith); few = omega (arith, few); counted = h }

-- the calls of a setup, and of what comes after it
pub of_both : (old mid new : Calls) (m n : ℕ) → m ≤ 16777216 → n ≤ 16777216 → Counts old mid m → Counts mid new n → CountsWithin n (2 * 16777216) old new
of_both old mid new m n few more h i = record {
  calls = m + n;
  enough = omega (arith);
  few = omega (arith, few, more);
  counted = Counts-then old mid new m n (m + n) refl h i;
}

-- calls through a reference are calls of the device
pub of_lent : (old new : Calls) (x y least lower most : ℕ) → lower ≤ least → CountsWithin least most (lent_calls x old) (lent_calls y new)
    → CountsWithin lower most old new
of_lent old new x y least lower most low h = record {
  calls = h.calls;
  enough = omega (arith, low, h.enough);
  few = h.few;
  counted = record { made = h.counted.made; same = ap (λ (xs : List ℕ). drop 1 xs) h.counted.same };
}

-- a device has failed, or its calls were too many, where its reader of lines says so
pub has_failed : (why : RunFault) (was is broken : Bool) (turns : ℕ) (old new : Calls) (x y : ℕ) →
    is ≡ was → CountsWithin turns (2 * 16777216) (lent_calls x old) (lent_calls y new) →
    IsDeviceFault why was (turns ≡ 16777216) broken → HasFailed why is old new broken
has_failed (fault.Line n e) was is broken turns old new x y same counted h = tt
has_failed (fault.Rule n e) was is broken turns old new x y same counted h = tt
has_failed (fault.World n e) was is broken turns old new x y same counted h = tt
has_failed (fault.NoOpen n) was is broken turns old new x y same counted h = tt
has_failed fault.Read was is broken turns old new x y same counted h = same ∙ h
has_failed fault.Write was is broken turns old new x y same counted h = h
has_failed fault.TooManyTurns was is broken turns old new x y same counted h = of_lent old new x y turns 16777216 (2 * 16777216) (omega (arith, h)) counted
has_failed fault.NoMemory was is broken turns old new x y same counted h = tt
has_failed fault.Network was is broken turns old new x y same counted h = tt
has_failed fault.NoThread was is broken turns old new x y same counted h = tt

-- the same of a reader of lines that read a setup alone
pub setup_calls : (old new : Calls) (x y n : ℕ) → n ≤ 16777216 → Counts (lent_calls x old) (lent_calls y new) n → CountsWithin 0 16777216 old new
setup_calls old new x y n few h =
    of_lent old new x y n 0 16777216 (omega (arith)) (record { calls = n; enough = omega (arith); few = few; counted = h })

pub setup_has_failed : (why : RunFault) (was is broken : Bool) (turns : ℕ) (old new : Calls) (x y : ℕ) →
    is ≡ was → turns ≤ 16777216 → Counts (lent_calls x old) (lent_calls y new) turns →
    IsDeviceFault why was (turns ≡ 16777216) broken → HasFailed why is old new broken
setup_has_failed why was is broken turns old new x y same few counted h =
    has_failed why was is broken turns old new x y same (of_setup (lent_calls x old) (lent_calls y new) turns few counted) h

-- where no byte is left to the reader, none is left to its device
drains : (mid left after : Option (List ℕ)) → Drains mid left → Releases left after → Drains mid after
drains None left after h r = tt
drains (Some xs) None after h r = absurd h
drains (Some xs) (Some ys) None h (lost, few, is) = cc
drains (Some xs) (Some ys) (Some zs) h ([], few, is) = sym (ap (λ (o : Option (List ℕ)). unwrap_or o []) is) ∙ h
drains (Some xs) (Some ys) (Some zs) h (x ∷ lost, few, is) = let over : x ∷ (lost ++ zs) ≡ [] = sym (ap (λ (o : Option (List ℕ)). unwrap_or o []) is) ∙ h in cc

-- all lines were executed
pub runs_to_end : (old left after w v : Option (List ℕ)) (bad : ℕ) → RunsToEnd old left w v bad → Releases left after → RunsToEnd old after w v bad
runs_to_end old left after w v bad h r = record {
  mid = h.mid;
  number = h.number;
  first = h.first;
  last = h.last;
  lines = h.lines;
  sets_up = h.sets_up;
  runs = record {
    lines = h.runs.lines;
    all = h.runs.all;
    end = drains h.mid left after h.runs.end r;
    timeline = h.runs.timeline;
    written = h.runs.written;
    counted = h.runs.counted;
    faulty = h.runs.faulty;
  };
}

-- all lines were checked
pub checks_to_end : (old left after w v : Option (List ℕ)) (bad : ℕ) → ChecksToEnd old left w v bad → Releases left after → ChecksToEnd old after w v bad
checks_to_end old left after w v bad h r = record {
  mid = h.mid;
  number = h.number;
  limits = h.limits;
  rules_a = h.rules_a;
  rules_b = h.rules_b;
  good = h.good;
  setup = h.setup;
  checks = record {
    lines = h.checks.lines;
    all = h.checks.all;
    end = drains h.mid left after h.checks.end r;
    written = h.checks.written;
    commands = h.checks.commands;
    faulty = h.checks.faulty;
  };
}
