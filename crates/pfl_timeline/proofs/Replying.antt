-- What comes of each command: one that is refused changes nothing, and one whose reply may want memory for its text changes nothing, and may
-- want memory itself.
use Rattle.std.specs.Prelude.{◌≡◌, ◌++◌, ℕ, false, not, nat_le, nat_lt, List, [], ◌∷◌, length, map, filter, Option, Some, None}
use Rattle.std.specs.Prelude.{IsFalse, IsTrue, refl}
use Rattle.std.specs.Option.{option_map_or}
use Rattle.std.proofs.Common.{sym, ◌∙◌, ap, subst}
use Rattle.std.proofs.lemmas.Bool.{both_ways}
use Rattle.pfl_language.specs.declared.ask.Ask.{Ask}
use Rattle.pfl_language.specs.declared.ask.Ask.TheVariants as ask
use Rattle.pfl_language.specs.declared.command.Command.{Command}
use Rattle.pfl_language.specs.declared.command.Command.TheVariants as command
use Rattle.pfl_language.specs.declared.refused.Refused.{Refused}
use Rattle.pfl_language.specs.declared.refused.Refused.TheVariants as refused
use Rattle.pfl_language.specs.BranchWords.{same_name}
use Rattle.pfl_search.specs.world.desk.Nodes.{refused_by}
use Rattle.pfl_search.specs.world.Worlds.{World}
use Rattle.pfl_timeline.specs.Answers.{Answer, answer}
use Rattle.pfl_timeline.specs.Commands.{replied, reply_unless, with_changed, in_place, first_events, fork_refusal, fork_reply, drop_reply, command_step}
use Rattle.pfl_timeline.specs.Laws.{RefusedCommandsChangeNothing}
use Rattle.pfl_timeline.specs.Memory.{is_refusal, makes, makes_something, MayWantMemory}
use Rattle.pfl_timeline.specs.Replies.{Reply, Replied, Stepped, At, Forked, Removed, Shown, Names, Excised, Restored, Logged, Explained, Traced}
use Rattle.pfl_timeline.specs.Replies.{Refused as Refusing}
use Rattle.pfl_timeline.specs.Sizes.{is_listing}
use Rattle.pfl_timeline.specs.Timelines.{Branch, Timeline, branch_of}
use Rattle.pfl_timeline.proofs.Answering.{brought, listing-stays, named, refusing-stays, unless}

-- so it is with all that may come of a command
pub record Comes (P : Replied → Type 0) (t : Timeline) : Type 0 where
  pub refused : (why : Refused) → P (replied t (Refusing why))
  pub answered : (name : List ℕ) (b : Branch) (q : Ask) → branch_of t name ≡ Some b → P (in_place t (answer t.opening b q))
  pub forked : (from : List ℕ) (k : ℕ) (name : List ℕ) (b : Branch) → branch_of t from ≡ Some b
      → P (replied (record t { branches = t.branches ++ first_events k name b ∷ [] }) Forked)
  pub dropped : (b : Branch) → P (replied (record t { branches = filter (λ c. not (same_name c.name b.name)) t.branches }) Removed)
  pub names : P (replied t (Names (map (λ b. b.name) t.branches)))

refused_or : (P : Replied → Type 0) (t : Timeline) (o : Option Refused) (done : Replied) → ((why : Refused) → P (replied t (Refusing why))) → P done
    → P (reply_unless t o done)
refused_or P t None done refusal is = is
refused_or P t (Some why) done refusal is = refusal why

pub each-command : (P : Replied → Type 0) (t : Timeline) → Comes P t → (c : Command) → P (command_step t c)
unfolding command_step
each-command P t comes (command.On name q) =
    named P t name (λ b. in_place t (answer t.opening b q)) (comes.refused refused.NoBranch) (λ b here. comes.answered name b q here)
each-command P t comes (command.Fork from k name) =
    named P t from (fork_reply t k name) (comes.refused refused.NoBranch)
    (λ b here. refused_or P t (fork_refusal t k name b) _ comes.refused (comes.forked from k name b here))
each-command P t comes (command.Drop name) =
    named P t name (drop_reply t) (comes.refused refused.NoBranch)
    (λ b _. refused_or P t (refused_by ((nat_le (length t.branches) 1, refused.LastBranch) ∷ [])) _ comes.refused (comes.dropped b))
each-command P t comes command.Names = comes.names

-- a reply that may want memory for its text leaves the timeline as it is
pub listing-keeps : (t u : Timeline) (c : Command) (r : Reply) → command_step t c ≡ replied u r → IsTrue (is_listing r) → u ≡ t
listing-keeps t u c r is =
    subst (λ (d : Replied). IsTrue (is_listing d.reply) → d.timeline ≡ t) is
    (each-command (λ d. IsTrue (is_listing d.reply) → d.timeline ≡ t) t (record {
      refused = λ _ _. refl;
      answered = λ _ b q _ listing. ap (λ (o : Option Branch). option_map_or (with_changed t) o t) (listing-stays t.opening b q listing);
      forked = λ _ _ _ _ _ listing. absurd (both_ways false refl listing);
      dropped = λ _ listing. absurd (both_ways false refl listing);
      names = λ _. refl;
    }) c)

-- a refusal leaves the timeline as it is
pub refused-keeps : RefusedCommandsChangeNothing
refused-keeps t c =
    each-command (λ d. IsTrue (is_refusal d.reply) → d.timeline ≡ t) t (record {
      refused = λ _ _. refl;
      answered = λ _ b q _ refusal. ap (λ (o : Option Branch). option_map_or (with_changed t) o t) (refusing-stays t.opening b q refusal);
      forked = λ _ _ _ _ _ refusal. absurd (both_ways false refl refusal);
      dropped = λ _ refusal. absurd (both_ways false refl refusal);
      names = λ _. refl;
    }) c

-- ---- where a reply may want memory for its text, the command makes something, and nothing refuses it

-- the answer wants no memory for its text
abbrev WantsNone : Answer → Type 0
WantsNone a = IsTrue (is_listing a.reply) → ⊥

back-wants-none : (opening : World) (b : Branch) (n : ℕ) → WantsNone (answer opening b (ask.Back n))
unfolding answer
back-wants-none opening b n = unless WantsNone (nat_lt b.cursor n) refused.TooFarBack _ (both_ways false refl) (λ _. both_ways false refl)

restore-wants-none : (opening : World) (b : Branch) → WantsNone (answer opening b ask.Restore)
unfolding answer
restore-wants-none opening b = brought WantsNone b (both_ways false refl) (λ _ _. both_ways false refl)

drop-wants-none : (t : Timeline) (name : List ℕ) → IsTrue (is_listing (command_step t (command.Drop name)).reply) → ⊥
unfolding command_step
drop-wants-none t name =
    named (λ d. IsTrue (is_listing d.reply) → ⊥) t name (drop_reply t) (both_ways false refl)
    (λ b _. refused_or (λ d. IsTrue (is_listing d.reply) → ⊥) t (refused_by ((nat_le (length t.branches) 1, refused.LastBranch) ∷ [])) _
    (λ _. both_ways false refl) (both_ways false refl))

listing-asks : (opening : World) (b : Branch) (q : Ask) → IsTrue (is_listing (answer opening b q).reply) → IsTrue (makes q)
listing-asks opening b (ask.Step e) is = refl
listing-asks opening b (ask.Back n) is = absurd (back-wants-none opening b n is)
listing-asks opening b (ask.Forward n) is = refl
listing-asks opening b ask.Show is = refl
listing-asks opening b (ask.Past k) is = refl
listing-asks opening b (ask.Why k) is = refl
listing-asks opening b (ask.WhyStep e) is = refl
listing-asks opening b (ask.Frame ticket) is = refl
listing-asks opening b (ask.Excise k) is = refl
listing-asks opening b ask.Restore is = absurd (restore-wants-none opening b is)
listing-asks opening b ask.Log is = refl

listing-makes : (t : Timeline) (c : Command) → IsTrue (is_listing (command_step t c).reply) → IsTrue (makes_something c)
unfolding command_step
listing-makes t (command.On name q) is =
    named (λ d. IsTrue (is_listing d.reply) → IsTrue (makes q)) t name (λ b. in_place t (answer t.opening b q))
    (λ listing. absurd (both_ways false refl listing)) (λ b _. listing-asks t.opening b q) is
listing-makes t (command.Fork from k name) is = refl
listing-makes t (command.Drop name) is = absurd (drop-wants-none t name is)
listing-makes t command.Names is = refl

listing-accepts : (r : Reply) → IsTrue (is_listing r) → IsFalse (is_refusal r)
listing-accepts (Stepped outcome dropped) is = refl
listing-accepts (At cursor) is = refl
listing-accepts Forked is = refl
listing-accepts Removed is = refl
listing-accepts (Shown name events cursor w) is = refl
listing-accepts (Names names) is = refl
listing-accepts (Excised places) is = refl
listing-accepts (Restored cursor) is = refl
listing-accepts (Logged name events cursor) is = refl
listing-accepts (Explained name k e came why) is = refl
listing-accepts (Traced name ticket trace) is = refl
listing-accepts (Refusing why) is = absurd (both_ways false refl is)

pub listing-wants : (t u : Timeline) (c : Command) (r : Reply) → command_step t c ≡ replied u r → IsTrue (is_listing r) → MayWantMemory t c
listing-wants t u c r is listing =
    let here : IsTrue (is_listing (command_step t c).reply) = subst (λ (d : Replied). IsTrue (is_listing d.reply)) (sym is) listing in
    record { makes = listing-makes t c here; not_refused = listing-accepts (command_step t c).reply here }
