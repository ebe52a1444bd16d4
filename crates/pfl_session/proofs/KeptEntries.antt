-- An entry that wants memory, since it does not fit, is of a command that changes nothing.
use Rattle.std.specs.Prelude.{◌≡◌, true, false, ◌||◌, IsTrue, refl}
use Rattle.std.proofs.Common.{sym, ◌∙◌, ap}
use Rattle.pfl_language.specs.declared.command.Command.{Command}
use Rattle.pfl_timeline.specs.Commands.{replied, command_step}
use Rattle.pfl_timeline.specs.Replies.{Reply, Replied}
use Rattle.pfl_timeline.specs.Sizes.{is_large, tells_at_length}
use Rattle.pfl_timeline.specs.Timelines.{Timeline, IsTimeline}
use Rattle.pfl_timeline.proofs.ForCallers.{listing-keeps}
use Rattle.pfl_session.specs.inner.Fitting.{has_long_word, is_kept_whole}
use Rattle.pfl_session.proofs.LongWords.{long-word-keeps}

-- the timeline after a command whose entry does not fit
pub whole-keeps : (t u : Timeline) (c : Command) (r : Reply) → IsTimeline t → command_step t c ≡ replied u r → IsTrue (is_kept_whole c r) → u ≡ t
whole-keeps t u c r timeline is whole =
    elim (has_long_word c) as (λ long. has_long_word c ≡ long → IsTrue (long || is_large r) → u ≡ t) [
      | true ↦ λ long _. ap (λ (d : Replied). d.timeline) (sym is) ∙ long-word-keeps t c timeline long
      | false ↦ λ _ large. listing-keeps t u c r is (ap (λ l. l || tells_at_length r) large)
    ] refl whole
