use Rattle.std.specs.Prelude.{length}
use Rattle.std.proofs.Common.{◌∙◌, ap, sym}
use Rattle.std.proofs.lemmas.Bool.{ltb-false}
use Rattle.indexmap.specs.IndexMap.{insert_entry}
use Rattle.pfl_language.specs.BranchWords.{is_branch_name, same_name}
use Rattle.pfl_timeline.proofs.Answering.{fork-asks}
use Rattle.pfl_timeline.proofs.Forking.{told-why, told-forked, kept-forked, accepted-free}
use Rattle.pfl_timeline.proofs.Keeping.{fork_known, is_one}
use Rattle.pfl_timeline.proofs.Places.{Entries, told-none}
use Rattle.pfl_timeline.proofs.Results.{anyway}
use Rattle.pfl_timeline.proofs.timeline.Timeline.fork.Goals as goal

pub returns-in_default-clause-step : goal.returns-in_default-clause-step
returns-in_default-clause-step g c =
    fork-asks _ _ _ _ ∙ told-none c.args.from.now _ _ c.self.view_is c.self.invariant c.in_default.ensures.value _

pub returns-in-Some-fork_refusal-clause-step : goal.returns-in-Some-fork_refusal-clause-step
returns-in-Some-fork_refusal-clause-step g c =
    fork-asks _ _ _ _ ∙ told-why c.args.from.now _ _ _ c.self.view_is c.self.invariant c.in-Some.ensures.value c.args.place c.args.name _
    c.in-Some-fork_refusal.ensures

pub forked-requires : goal.forked-requires
forked-requires g c =
    let known = fork_known c.args.self.now c.args.place c.args.name c.in-Some.from.now.branch (sym c.in_default-fork_refusal.ensures) in
    record {
      within = ltb-false (length c.in-Some.from.now.branch.events) c.args.place known.2;
      named = is_one (is_branch_name c.args.name) known.1;
    }

pub returns-in_err-branch-clause-memory : goal.returns-in_err-branch-clause-memory
returns-in_err-branch-clause-memory g c =
    anyway _ (accepted-free c.args.from.now _ _ _ c.self.view_is c.self.invariant c.in-Some.ensures.value c.args.place c.args.name
    c.in_default-fork_refusal.ensures)

pub returns-in_err-reserve-clause-memory : goal.returns-in_err-reserve-clause-memory
returns-in_err-reserve-clause-memory g c =
    anyway _ (accepted-free c.args.from.now _ _ _ c.self.view_is c.self.invariant c.in-Some.ensures.value c.args.place c.args.name
    c.in_default-fork_refusal.ensures)

pub invariant_of-self-2 : goal.invariant_of-self-2
invariant_of-self-2 g c =
    let last = (rw c.unwrap.ensures at c.insert.ensures.entries)
    ∙ ap (λ (es : Entries). insert_entry same_name es c.args.name c.in_ok-branch.branch) c.in_ok-reserve.ensures.entries in
    kept-forked c.args.from.now _ _ _ c.self.view_is c.self.invariant c.in-Some.ensures.value c.args.place c.args.name
    c.in_default-fork_refusal.ensures _ _ c.in_ok-branch.ensures.branch last

pub returns-clause-step : goal.returns-clause-step
returns-clause-step g c =
    let last = (rw c.unwrap.ensures at c.insert.ensures.entries)
    ∙ ap (λ (es : Entries). insert_entry same_name es c.args.name c.in_ok-branch.branch) c.in_ok-reserve.ensures.entries in
    fork-asks _ _ _ _
    ∙ told-forked c.args.from.now _ _ _ c.self.view_is c.self.invariant c.in-Some.ensures.value c.args.place c.args.name
    c.in_default-fork_refusal.ensures _ _ c.in_ok-branch.ensures.branch last
