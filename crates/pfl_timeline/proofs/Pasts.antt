-- What is seen of a branch at a place is what it shows when it stands there.
use Rattle.std.specs.Prelude.{◌≡◌, ℕ, ◌≤◌, false, nat_lt, List, [], ◌∷◌, length, take, Option, Some, None, refl}
use Rattle.std.proofs.Common.{sym, ◌∙◌, ap, arith}
use Rattle.pfl_language.specs.declared.ask.Ask.TheVariants as ask
use Rattle.pfl_language.specs.declared.refused.Refused.TheVariants as refused
use Rattle.pfl_search.specs.world.Runs.{run}
use Rattle.pfl_search.specs.world.Worlds.{World}
use Rattle.pfl_timeline.specs.Answers.{Answer, says, answer_unless, answer_in, shown_at, answer}
use Rattle.pfl_timeline.specs.Commands.{replied, with_changed, in_place, past_command, show_command}
use Rattle.pfl_timeline.specs.Laws.{PastsAreShown}
use Rattle.pfl_timeline.specs.Replies.{Replied}
use Rattle.pfl_timeline.specs.Timelines.{Branch, Timeline, branch_of}
use Rattle.pfl_timeline.proofs.Answering.{asked-there}
use Rattle.pfl_timeline.proofs.Excised.{changed_there}

module _ (t : Timeline) (name : List ℕ) (k : ℕ) (b : Branch) (here : branch_of t name ≡ Some b) (within : k ≤ length b.events) where
  abbrev moved : Timeline
  moved = with_changed t (record b { cursor = k })

  -- what is seen in a world of the first k events
  abbrev seen : Option World → Answer
  seen o = answer_in o (λ w. says (shown_at b k w))

  past_is : past_command t name k ≡ in_place t (seen (run t.opening (take k b.events)))
  unfolding answer
  past_is =
      let near : nat_lt (length b.events) k ≡ false = search arith in
      asked-there t name b (ask.Past k) here
      ∙ ap (λ far. in_place t (answer_unless ((far, refused.NothingForward) ∷ []) (seen (run t.opening (take k b.events))))) near

  shown_is : show_command moved name ≡ in_place moved (seen (run t.opening (take k b.events)))
  unfolding answer
  shown_is = asked-there moved name (record b { cursor = k }) ask.Show (changed_there t name b (record b { cursor = k }) here refl)

  same_reply : (o : Option World) → in_place t (seen o) ≡ replied t (in_place moved (seen o)).reply
  same_reply None = refl
  same_reply (Some w) = refl

  pub past-shown : past_command t name k ≡ replied t (show_command moved name).reply
  past-shown = past_is ∙ (same_reply (run t.opening (take k b.events)) ∙ ap (λ (r : Replied). replied t r.reply) (sym shown_is))

pub pasts-are-shown : PastsAreShown
pasts-are-shown = past-shown
