use Rattle.std.proofs.Common.{◌≡◌, find, drop}
use Rattle.pfl_language.specs.BranchWords.{same_name}
use Rattle.pfl_session.proofs.room.events_of.Given as goal

-- the branch of the name is among those that are left, if it is among all
abbrev pub invariant-loop-branch : goal.invariant-loop-branch
invariant-loop-branch g l = find (λ r. same_name r.branch.name l.name) (drop l.branch-index l.branches) ≡ find (λ r. same_name r.branch.name l.name) l.branches
