-- What a pass has seen and counted once it has met, and what one entry more makes of journal, counts and pass.
use Rattle.std.proofs.Common.{◌≡◌, ℕ, ◌+◌, ◌-◌, ◌<◌, ◌≤◌, List, [], ◌∷◌, ◌++◌, length, set, Some, sym, ap, subst, ◌∙◌, arith, length-append}
use Rattle.std.specs.Prelude.{slice_get, slice_set}
use Rattle.std.proofs.lemmas.Option.{slice_get_within}
use Rattle.atomic_table.specs.Seated.{TableId}
use Rattle.pfl_language.specs.declared.command.Command.{Command}
use Rattle.pfl_publish.specs.Count.{Count}
use Rattle.pfl_publish.specs.Revisions.{Log, StartsWith}
use Rattle.pfl_timeline.specs.Commands.{command_step, replied}
use Rattle.pfl_timeline.specs.Replies.{Reply, Replied, reply_of}
use Rattle.pfl_timeline.specs.Timelines.{Timeline}
use Rattle.pfl_session.specs.declared.entry.Entry.{Entry}
use Rattle.pfl_session.specs.declared.mark.Mark.{Mark}
use Rattle.pfl_session.specs.Totals.{HasFewEvents}
use Rattle.pfl_session.specs.Journals.{after_entry, replay, IsRight, IsJournal, revisions_of, calls_in, count_of, counts_of}
use Rattle.pfl_session.specs.Passes.{Seen, seen_in, GoesOn, HasSeenItsCalls, HasSeenJournal, AddsOthers, AddsCall}
use Rattle.pfl_session.specs.Labs.{HasSeenOwn}
use Rattle.pfl_session.specs.Ledgers.{one_more_counted, HasMet, IsEntered}
use Rattle.pfl_session.proofs.Replays.{some_same, replay-snoc, legal-snoc, calls-history, count-own, counts-get, counts-set, all-seen, seen-is}
use Rattle.pfl_session.proofs.Replays.{seen-journal, others-since, call-since}
use Rattle.pfl_timeline.proofs.ForCallers.{all_behind}
use Rattle.pfl_session.proofs.Growth.{grown}

module _ {M : Type 0} where
  -- a pass that was compared, and has then met
  pub has-met : (opening : Timeline) (n limit : ℕ) (js js' js'' : List (Entry M)) (old compared met : Seen M) → js' ≡ js → js'' ≡ js'
      → compared ≡ old → old.half.count ≤ count_of old.session (seen_in old) → old.half.count ≡ count_of old.session js
      → GoesOn compared met → met.half ≡ compared.half → IsJournal opening n limit js' → met.viewer.seen ≡ revisions_of opening js'
      → HasMet opening n limit js'' old met
  has-met opening n limit js js' js'' old compared met same same' is below all on half journal seen = record {
    goes_on = subst (λ (p : Seen M). GoesOn p met) is on;
    half = half ∙ ap (λ (p : Seen M). p.half) is;
    journal = subst (IsJournal opening n limit) (sym same') journal;
    seen = seen ∙ ap (revisions_of opening) (sym same');
    below = below;
    all = all ∙ ap (count_of old.session) (sym (same' ∙ same));
  }

  module _ (opening : Timeline) (n limit : ℕ) (js : List (Entry M)) (old met : Seen M) (is : HasMet opening n limit js old met) where
    pub met-journal : HasSeenJournal opening n limit met
    met-journal = seen-journal opening n limit js met is.seen is.journal

    pub met-seen : seen_in met ≡ js
    met-seen = seen-is opening js met is.seen

    pub met-length : length (seen_in met) ≡ length js
    met-length = ap (λ (l : List (Entry M)). length l) (seen-is opening js met is.seen)

    pub met-others : AddsOthers old met
    met-others = others-since opening js old met is.seen is.goes_on.seen is.below is.all

    begun : StartsWith (revisions_of opening js) old.viewer.seen
    begun = subst (λ (l : Log (Mark M)). StartsWith l old.viewer.seen) is.seen is.goes_on.seen

    all_own : count_of old.session (seen_in old) ≡ count_of old.session js
    all_own = all-seen old.session old.half.count opening js old.viewer.seen begun is.below is.all

    pub met-counted : HasSeenItsCalls old
    met-counted = is.all ∙ sym all_own

    pub met-own : HasSeenOwn opening js old
    met-own = record { begun = begun; all_own = all_own; called = met-counted }

    pub met-called : (js' : List (Entry M)) (new : Seen M) (c : Command) (r : Reply) → IsEntered opening n limit js js' met new c r → AddsCall old new c r
    met-called js' new c r entered = call-since opening n limit js js' old met new c r met-others is.seen is.goes_on.session entered

  pub entered-journal : (opening : Timeline) (n limit : ℕ) (js js' : List (Entry M)) (old new : Seen M) (c : Command) (r : Reply)
      → IsEntered opening n limit js js' old new c r → HasSeenJournal opening n limit new
  entered-journal opening n limit js js' old new c r entered = seen-journal opening n limit js' new entered.seen entered.journal

  -- the session's half, where its lab's counts are those of the journal
  half-is : (ts : List TableId) (hs : List Count) (js : List (Entry M)) (t : TableId) (mine : Count) (s : ℕ) → 1 ≤ s
      → slice_get ts (s - 1) ≡ Some t → hs ≡ counts_of 1 ts js → slice_get hs (s - 1) ≡ Some mine
      → mine ≡ record { table = t; count = count_of (1 + (s - 1)) js }
  half-is ts hs js t mine s first there are same =
      some_same _ _ (sym same ∙ (ap (λ (l : List Count). slice_get l (s - 1)) are ∙ counts-get 1 (s - 1) ts js t there))

-- the entry keeps what session s asked of the timeline t, which it made u, and what it replied
pub record IsKept {M : Type 0} (t u : Timeline) (e : Entry M) (c : Command) (r : Reply) (s : ℕ) : Type 0 where
  pub step : command_step t c ≡ replied u r
  pub entry : (e.session ≡ s) × (e.command ≡ c) × (reply_of e.reply ≡ r)

-- ---- an entry more
module _ {M : Type 0} (opening t u : Timeline) (js : List (Entry M)) (e : Entry M) (c : Command) (r : Reply) (s : ℕ)
    (was : t ≡ replay opening js) (is : IsKept t u e c r s) where
  pub kept-after : u ≡ after_entry (replay opening js) e
  kept-after = sym (ap (λ (d : Replied). d.timeline) is.step) ∙ (λ z. (command_step (was z) (sym is.entry.1 z)).timeline)

  right : IsRight (replay opening js) e
  right = is.entry.2 ∙ (sym (ap (λ (d : Replied). d.reply) is.step) ∙ (λ z. (command_step (was z) (sym is.entry.1 z)).reply))

  pub kept-few : (n m : ℕ) → n + 1 ≤ m → HasFewEvents n t → HasFewEvents m u
  kept-few n m le few = grown t u n m c r few is.step le

  module _ (items : List (Entry M)) (more : items ≡ js ++ e ∷ []) where
    pub kept-many : length items ≡ length js + 1
    kept-many = omega (arith, ap (λ (l : List (Entry M)). length l) more, length-append js (e ∷ []))

    pub kept-journal : (ts : List TableId) (limit : ℕ) (tally : TableId) → 1 ≤ s → slice_get ts (s - 1) ≡ Some tally → length js < limit
        → IsJournal opening (length ts) limit js → IsJournal opening (length ts) limit items
    kept-journal ts limit tally first there room journal =
        let own = is.entry.0 in
        let within : s - 1 < length ts = slice_get_within ts (s - 1) tally there in
        subst (IsJournal opening (length ts) limit) (sym more) (record {
          legal = legal-snoc opening js e journal.legal right;
          sessions = all_behind _ js e journal.sessions (omega (arith, first, own), omega (arith, first, own, within));
          short = omega (arith, room, length-append js (e ∷ []));
        })

    pub kept-replay : u ≡ replay opening items
    kept-replay = kept-after ∙ (sym (replay-snoc opening js e) ∙ ap (replay opening) (sym more))

    pub kept-counts : (ts : List TableId) (hs hs' : List Count) (tally : TableId) (mine : Count) → 1 ≤ s
        → slice_get ts (s - 1) ≡ Some tally → hs ≡ counts_of 1 ts js → slice_get hs (s - 1) ≡ Some mine
        → hs' ≡ slice_set hs (s - 1) (one_more_counted mine)
        → hs' ≡ counts_of 1 ts items
    kept-counts ts hs hs' tally mine first there are same kept =
        let mine_is = half-is ts hs js tally mine s first there are same in
        let own = is.entry.0 in
        kept ∙ ((λ z. set (are z) (s - 1) (one_more_counted (mine_is z)))
        ∙ (counts-set 1 (s - 1) ts js e tally there (omega (arith, own, first)) ∙ ap (counts_of 1 ts) (sym more)))

    pub kept-below : (ts : List TableId) (hs : List Count) (tally : TableId) (mine result : Count) (seen : Log (Mark M)) → 1 ≤ s
        → slice_get ts (s - 1) ≡ Some tally → hs ≡ counts_of 1 ts js → slice_get hs (s - 1) ≡ Some mine → result ≡ one_more_counted mine
        → seen ≡ revisions_of opening items
        → result.count ≤ count_of s (calls_in seen)
    kept-below ts hs tally mine result seen first there are same one shown =
        let mine_is = ap (λ (h : Count). h.count) (half-is ts hs js tally mine s first there are same) in
        let place : 1 + (s - 1) ≡ s = omega (arith, first) in
        let here = ap (λ (n : ℕ). count_of n js) place in
        omega (
          arith,
          ap (λ (h : Count). h.count) one,
          mine_is,
          here,
          ap (λ (l : Log (Mark M)). count_of s (calls_in l)) shown,
          ap (count_of s) (calls-history opening items),
          ap (count_of s) more,
          count-own s js e is.entry.0,
        )
