-- A command makes each branch longer by one event at most, or as long as it was before an excision.
use Rattle.std.specs.Prelude.{◌≡◌, ◌≤◌, ℕ, ◌+◌, List}
use Rattle.std.specs.Prelude.{Option, Some, None, IfSome}
use Rattle.std.specs.Option.{option_map_or}
use Rattle.std.proofs.Common.{ap, subst, arith}
use Rattle.pfl_base.proofs.ForCallers.{each-weaker}
use Rattle.pfl_language.specs.declared.command.Command.{Command}
use Rattle.pfl_language.specs.BranchWords.{same_name}
use Rattle.pfl_timeline.specs.Answers.{answer}
use Rattle.pfl_timeline.specs.Commands.{replied, with_changed, first_events, command_step}
use Rattle.pfl_timeline.specs.Replies.{Reply, Replied}
use Rattle.pfl_timeline.specs.Timelines.{Branch, Timeline, branch_of}
use Rattle.pfl_timeline.proofs.ForCallers.{all_behind, all_others, all_put, each-command, found_is}
use Rattle.pfl_session.specs.Totals.{HasFew, HasFewEvents}
use Rattle.pfl_session.proofs.Answered.{answer-few, length-front, more_here}

pub more_room : (n m : ℕ) (t : Timeline) → n ≤ m → HasFewEvents n t → HasFewEvents m t
more_room n m t le few = each-weaker (HasFew n) (HasFew m) (λ b h. more_here n m b le h) t.branches few

module _ (t : Timeline) (n : ℕ) (few : HasFewEvents n t) where
  roomy : HasFewEvents (n + 1) t
  roomy = more_room n (n + 1) t (omega arith) few

  changed : (b : Branch) → HasFew (n + 1) b → HasFewEvents (n + 1) (with_changed t b)
  changed b is = all_put (HasFew (n + 1)) b t.branches is roomy

  placed : (o : Option Branch) → IfSome o (HasFew (n + 1)) → HasFewEvents (n + 1) (option_map_or (with_changed t) o t)
  placed None few = roomy
  placed (Some b) few = changed b few

  named-few : (name : List ℕ) (b : Branch) → branch_of t name ≡ Some b → HasFew n b
  named-few name b here = found_is (HasFew n) (λ c. same_name c.name name) t.branches b few here

  pub command-grows : (c : Command) → HasFewEvents (n + 1) (command_step t c).timeline
  command-grows = each-command (λ done. HasFewEvents (n + 1) done.timeline) t (record {
    refused = λ _. roomy;
    answered = λ name b q here. placed (answer t.opening b q).changed (answer-few n t.opening b (named-few name b here) q);
    forked = λ from k name b here.
        let is : HasFew n b = named-few from b here in
        all_behind (HasFew (n + 1)) t.branches (first_events k name b) roomy (omega (arith, is.0, length-front k b.events), tt);
    dropped = λ b. all_others b.name (HasFew (n + 1)) t.branches roomy;
    names = roomy;
  })

-- ... and so the timeline after it
pub grown : (t u : Timeline) (n m : ℕ) (c : Command) (r : Reply) → HasFewEvents n t → command_step t c ≡ replied u r → n + 1 ≤ m → HasFewEvents m u
grown t u n m c r few step le = more_room (n + 1) m u le (subst (HasFewEvents (n + 1)) (ap (λ (d : Replied). d.timeline) step) (command-grows t n few c))
