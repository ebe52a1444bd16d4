-- What is sent to a session are the replies of its own entries.
use Rattle.std.proofs.Common.{◌≡◌, ℕ, ◌+◌, ◌≤◌, Bool, true, false, cond, List, [], ◌∷◌, ◌++◌, length, drop, refl, sym, ◌∙◌, ap, subst, arith}
use Rattle.std.proofs.Common.{length-append, append_assoc, eq-eqb, inl, inr, Option, Some, None, Ok, Err}
use Rattle.std.specs.Prelude.{nat_eq, Result, ◌⊎◌}
use Rattle.std.proofs.lemmas.List.{append-nil}
use Rattle.pfl_language.specs.declared.command.Command.{Command}
use Rattle.pfl_script.specs.timeline.Replies.{Reply, reply_of}
use Rattle.pfl_script.specs.timeline.Timelines.{Timeline}
use Rattle.pfl_session.specs.declared.entry.Entry.{Entry}
use Rattle.pfl_session.specs.Journals.{revisions_of, calls_in, count_of}
use Rattle.pfl_session.specs.Labs.{HasSeenOwn}
use Rattle.pfl_session.specs.Passes.{Seen, seen_in, GoesOn, HasSeenItsCalls}
use Rattle.pfl_session.proofs.ForCallers.{calls-history, calls-since, count-append, count-begun, count-own, goes-on}
use Rattle.pfl_script.specs.lines.declared.fault.LineFault.{LineFault}
use Rattle.pfl_script.specs.lines.declared.session.SessionLine.{SessionLine}
use Rattle.pfl_script.specs.lines.declared.session.SessionLine.TheVariants.{View, Setup, Follow, Ask}
use Rattle.pfl_serve.proofs.Entries.{sent-in-longer}
use Rattle.pfl_serve.proofs.Passed.{goes-none, not-called-own, own}
use Rattle.pfl_serve.specs.Sessions.{said, sent_lines, IsAnswer, IsFollowed, IsViewed, IsReplied, IsCalled, SendsRevision, SendsOvertaken, Serves, Site}
use Rattle.pfl_serve.specs.Texts.{first_sent, followed_text, following_text}
use Rattle.pfl_serve.specs.Laws.{Call, calls_of, ShowsEntries, AnswersLine, AnswersView, AnswersLines, SessionsSeeTheirCalls}
use Rattle.pfl_serve.specs.Laws.{SessionsSeeAllTheirCalls, RunsAreOne}

-- a list that may begin with one element more, before another list
cond-append : {X : Type 0} (b : Bool) (x : X) (xs ys : List X) → cond b (x ∷ xs ++ ys) (xs ++ ys) ≡ cond b (x ∷ xs) xs ++ ys
cond-append true x xs ys = refl
cond-append false x xs ys = refl

-- where nothing is counted, nothing is there
cond-none : {X : Type 0} (b : Bool) (x : X) (xs : List X) (n : ℕ) → cond b 1 0 + n ≡ 0 → (n ≡ 0 → xs ≡ []) → cond b (x ∷ xs) xs ≡ []
cond-none true x xs n none others = absurd (omega (arith, none))
cond-none false x xs n none others = others (omega (arith, none))

module _ {M : Type 0} where
  abbrev call_in : Entry M → Call
  call_in e = record { command = e.command; reply = reply_of e.reply }

  calls_of-append : (s : ℕ) (xs ys : List (Entry M)) → calls_of s (xs ++ ys) ≡ calls_of s xs ++ calls_of s ys
  calls_of-append s [] ys = refl
  calls_of-append s (e ∷ xs) ys =
      let b = nat_eq e.session s in
      ap (λ (l : List Call). cond b (call_in e ∷ l) l) (calls_of-append s xs ys) ∙ cond-append b (call_in e) (calls_of s xs) (calls_of s ys)

  calls_of-none : (s : ℕ) (js : List (Entry M)) → count_of s js ≡ 0 → calls_of s js ≡ []
  calls_of-none s [] none = refl
  calls_of-none s (e ∷ js) none = cond-none (nat_eq e.session s) (call_in e) (calls_of s js) (count_of s js) none (calls_of-none s js)

  calls_of-one : (s : ℕ) (e : Entry M) → e.session ≡ s → calls_of s (e ∷ []) ≡ call_in e ∷ []
  calls_of-one s e own = let hit : nat_eq e.session s ≡ true = eq-eqb e.session s own in ap {B = List Call} (λ (b : Bool). cond b (call_in e ∷ []) []) hit

  -- the calls after entries of others
  calls-others : (s : ℕ) (js others : List (Entry M)) → count_of s others ≡ 0 → calls_of s (js ++ others) ≡ calls_of s js
  calls-others s js others none = calls_of-append s js others
      ∙ (ap (λ (l : List Call). calls_of s js ++ l) (calls_of-none s others none) ∙ append-nil (calls_of s js))

  -- the calls after entries of others, and one of the session
  calls-call : (s : ℕ) (js others : List (Entry M)) (e : Entry M) → count_of s others ≡ 0 → e.session ≡ s
      → calls_of s ((js ++ others) ++ e ∷ []) ≡ calls_of s js ++ call_in e ∷ []
  calls-call s js others e none own =
      calls_of-append s (js ++ others) (e ∷ [])
      ∙ (ap (λ (l : List Call). l ++ calls_of s (e ∷ [])) (calls-others s js others none) ∙ ap (λ (l : List Call). calls_of s js ++ l) (calls_of-one s e own))

  view-sent : {old new : Seen M} {text : List ℕ} → (SendsRevision old new text ⊎ SendsOvertaken old new text) → AnswersView text
  view-sent (inl t) = inl (t.words, t.sent)
  view-sent (inr t) = inr (t.at, t.now, t.sent)

  -- ---- a call, and none

  called-own : (old new : Seen M) (c : Command) (r : Reply) → new.session ≡ old.session → IsCalled old new c r → own new ≡ own old + 1
  called-own old new c r same is =
      let js = seen_in old ++ is.call.others in
      omega (
        arith,
        ap (λ (s : ℕ). count_of s (seen_in new)) same,
        ap (count_of old.session) is.call.seen,
        count-own old.session js is.call.entry is.call.session,
        count-append old.session (seen_in old) is.call.others,
        is.call.none_own,
      )

  module _ (site : Site) where
    -- whoever had the reply to a command has seen its calls
    replied-seen : (old new : Seen M) (c : Command) (text : List ℕ) → IsReplied site old new c text → HasSeenItsCalls new
    replied-seen old new c text is = elim is.sent [
      | inl t ↦ omega (arith, called-own old new c t.reply is.asked.goes_on.session t.called, is.asked.own, ap (λ h. h.count) t.called.half)
      | inr t ↦ omega (arith, not-called-own old new is.asked.goes_on.session t.not_called, is.asked.own, ap (λ h. h.count) t.not_called.half)
    ]

    -- no pass has called more than it has seen of its session
    forward : (what : Option (Result SessionLine LineFault)) (old new : Seen M) (text : List ℕ) → IsAnswer site what old new text
        → old.half.count ≤ own old → new.half.count ≤ own new
    forward None old new text is below = subst (λ (p : Seen M). p.half.count ≤ own p) (sym is.0) below
    forward (Some (Err fault)) old new text is below = subst (λ (p : Seen M). p.half.count ≤ own p) (sym is.0) below
    forward (Some (Ok Setup)) old new text is below = subst (λ (p : Seen M). p.half.count ≤ own p) (sym is.0) below
    forward (Some (Ok (Follow k))) old new text is below =
        let sends = is.follows.sends in
        omega (arith, below, not-called-own old new sends.asked.goes_on.session sends.not_called, ap (λ h. h.count) sends.not_called.half)
    forward (Some (Ok View)) old new text is below =
        let more = count-begun old.session old.half.count new.viewer.seen old.viewer.seen is.goes_on.seen below in
        omega (arith, more, ap (λ h. h.count) is.half, ap (λ (s : ℕ). count_of s (seen_in new)) is.goes_on.session)
    forward (Some (Ok (Ask command))) old new text is below = let same = replied-seen old new command text is in omega (arith, same)

    -- an answer, where the pass has seen its calls after it, and a journal that begins with what it has seen then: so it has before it,
    -- and the line's reply is that of the calls between
    pub record Told (js : List (Entry M)) (what : Option (Result SessionLine LineFault)) (old new : Seen M) (text : List ℕ) : Type 0 where
      pub before : HasSeenItsCalls old
      pub calls : List Call
      pub all : calls_of new.session (seen_in new) ≡ calls_of old.session (seen_in old) ++ calls
      pub sends : (rest : List Call) → AnswersLine site js what (calls ++ rest) rest text

    sent-same : (js : List (Entry M)) (what : Option (Result SessionLine LineFault)) (old new : Seen M) (text : List ℕ) → new ≡ old
        → HasSeenItsCalls new → ((rest : List Call) → AnswersLine site js what rest rest text) → Told js what old new text
    sent-same js what old new text same seen sends = record {
      before = subst HasSeenItsCalls same seen;
      calls = [];
      all = ap (λ (p : Seen M). calls_of p.session (seen_in p)) same ∙ sym (append-nil (calls_of old.session (seen_in old)));
      sends = sends;
    }

    sent-view : (js : List (Entry M)) (old new : Seen M) (text : List ℕ) → IsViewed old new text → old.half.count ≤ own old
        → HasSeenItsCalls new → Told js (Some (Ok View)) old new text
    sent-view js old new text is below seen =
        let later = calls_in (drop (length old.viewer.seen) new.viewer.seen) in
        let parts : seen_in new ≡ seen_in old ++ later = calls-since new.viewer.seen old.viewer.seen is.goes_on.seen in
        let s = ap (λ (s : ℕ). count_of s (seen_in new)) is.goes_on.session in
        let count = ap (count_of old.session) parts in
        let sum = count-append old.session (seen_in old) later in
        let half = ap (λ h. h.count) is.half in
        let none : count_of old.session later ≡ 0 = omega (arith, below, seen, s, count, sum, half) in
        record {
          before = omega (arith, below, seen, s, count, sum, half, none);
          calls = [];
          all = ap (λ (s : ℕ). calls_of s (seen_in new)) is.goes_on.session
              ∙ (ap (calls_of old.session) parts
              ∙ (calls-others old.session (seen_in old) later none ∙ sym (append-nil (calls_of old.session (seen_in old)))));
          sends = λ rest. (refl, view-sent is.sent);
        }

    sent-reply : (js : List (Entry M)) (old new : Seen M) (c : Command) (text : List ℕ) → IsReplied site old new c text
        → Told js (Some (Ok (Ask c))) old new text
    sent-reply js old new c text is = elim is.sent [
      | inl t ↦ record {
        before = is.asked.own;
        calls = record { command = c; reply = t.reply } ∷ [];
        all = ap (λ (s : ℕ). calls_of s (seen_in new)) is.asked.goes_on.session
            ∙ (ap (calls_of old.session) t.called.call.seen
            ∙ (calls-call old.session (seen_in old) t.called.call.others t.called.call.entry t.called.call.none_own t.called.call.session
            ∙ (λ z. calls_of old.session (seen_in old) ++ record { command = t.called.call.command_is z; reply = t.called.call.reply_is z } ∷ [])));
        sends = λ rest. inl (t.reply, refl, t.sent);
      }
      | inr t ↦ record {
        before = is.asked.own;
        calls = [];
        all = ap (λ (s : ℕ). calls_of s (seen_in new)) is.asked.goes_on.session
            ∙ (ap (calls_of old.session) t.not_called.others.seen
            ∙ (calls-others old.session (seen_in old) t.not_called.others.others t.not_called.others.none_own
            ∙ sym (append-nil (calls_of old.session (seen_in old)))));
        sends = λ rest. inr (refl, t.sent);
      }
    ]

    -- the entries that are sent are the journal's
    sent-follow : (js more : List (Entry M)) (k : Option ℕ) (old new : Seen M) (text : List ℕ) → js ≡ seen_in new ++ more
        → IsFollowed site k old new text → Told js (Some (Ok (Follow k))) old new text
    sent-follow js more k old new text begins is =
        let sends = is.follows.sends in
        let others = sends.not_called.others in
        let n = first_sent k is.start in
        let lines : is.first ≡ following_text n ++ sent_lines n sends.sendings = is.follows.sent ∙ ap (λ (t : List ℕ). following_text n ++ t) sends.sent in
        let there : is.start ≤ length js = omega (arith, is.follows.within, ap (λ (l : List (Entry M)). length l) begins, length-append (seen_in new) more) in
        let shown : ShowsEntries is.start n js text = (
          sends.sendings,
          sent-in-longer is.start n sends.sendings (seen_in new) more js begins sends.are,
          omega (arith, is.all, sends.number),
          is.sent ∙ (ap (λ (t : List ℕ). t ++ followed_text is.number) lines
              ∙ ap (λ (m : ℕ). (following_text n ++ sent_lines n sends.sendings) ++ followed_text m) sends.number),
        ) in
        record {
          before = sends.asked.own;
          calls = [];
          all = ap (λ (s : ℕ). calls_of s (seen_in new)) sends.asked.goes_on.session
              ∙ (ap (calls_of old.session) others.seen
              ∙ (calls-others old.session (seen_in old) others.others others.none_own ∙ sym (append-nil (calls_of old.session (seen_in old)))));
          sends = λ rest. (refl, (is.start, there, shown));
        }

    sent : (js more : List (Entry M)) (what : Option (Result SessionLine LineFault)) (old new : Seen M) (text : List ℕ) → js ≡ seen_in new ++ more
        → IsAnswer site what old new text → old.half.count ≤ own old → HasSeenItsCalls new → Told js what old new text
    sent js more None old new text begins is below seen = sent-same js None old new text is.0 seen (λ rest. (refl, is.1))
    sent js more (Some (Err fault)) old new text begins is below seen = sent-same js (Some (Err fault)) old new text is.0 seen (λ rest. (refl, is.1))
    sent js more (Some (Ok View)) old new text begins is below seen = sent-view js old new text is below seen
    sent js more (Some (Ok Setup)) old new text begins is below seen = sent-same js (Some (Ok Setup)) old new text is.0 seen (λ rest. (refl, is.1))
    sent js more (Some (Ok (Follow k))) old new text begins is below seen = sent-follow js more k old new text begins is
    sent js more (Some (Ok (Ask command))) old new text begins is below seen = sent-reply js old new command text is

    -- a pass goes on with each answer
    answered-on : (what : Option (Result SessionLine LineFault)) (old new : Seen M) (text : List ℕ) → IsAnswer site what old new text → GoesOn old new
    answered-on None old new text is = subst (GoesOn old) (sym is.0) (goes-none old)
    answered-on (Some (Err fault)) old new text is = subst (GoesOn old) (sym is.0) (goes-none old)
    answered-on (Some (Ok View)) old new text is = is.goes_on
    answered-on (Some (Ok Setup)) old new text is = subst (GoesOn old) (sym is.0) (goes-none old)
    answered-on (Some (Ok (Follow k))) old new text is = is.follows.sends.asked.goes_on
    answered-on (Some (Ok (Ask command))) old new text is = is.asked.goes_on

    served-on : (lines : List (List ℕ)) (old new : Seen M) (text : List ℕ) → Serves site lines old new text → GoesOn old new
    served-on [] old new text is = subst (GoesOn old) (sym is.0) (goes-none old)
    served-on (line ∷ lines) old new text is = goes-on old is.0 new (answered-on (said line) old is.0 is.1 is.3) (served-on lines is.0 new is.2 is.4)

    -- a journal that begins with what the pass has seen at the end begins with what it had seen before
    began-with : (js more : List (Entry M)) (old new : Seen M) → GoesOn old new → js ≡ seen_in new ++ more → (later : List (Entry M))
        × (js ≡ seen_in old ++ later)
    began-with js more old new on begins =
        let later = calls_in (drop (length old.viewer.seen) new.viewer.seen) in
        let parts : seen_in new ≡ seen_in old ++ later = calls-since new.viewer.seen old.viewer.seen on.seen in
        (later ++ more, begins ∙ (ap (λ (l : List (Entry M)). l ++ more) parts ∙ append_assoc (seen_in old) later more))

    -- the same of lines
    sent-lines : (js more : List (Entry M)) (lines : List (List ℕ)) (old new : Seen M) (text : List ℕ) → js ≡ seen_in new ++ more
        → Serves site lines old new text → old.half.count ≤ own old → HasSeenItsCalls new
        → HasSeenItsCalls old × ((calls : List Call) × (calls_of new.session (seen_in new) ≡ calls_of old.session (seen_in old) ++ calls)
        × AnswersLines site js lines calls text)
    sent-lines js more [] old new text begins is below seen = (
      subst HasSeenItsCalls is.0 seen,
      (
        [],
        ap (λ (p : Seen M). calls_of p.session (seen_in p)) is.0
            ∙ sym (append-nil (calls_of old.session (seen_in old))),
        (refl, is.1),
      ),
    )
    sent-lines js more (line ∷ lines) old new text begins is below seen =
        let mid = is.0 in
        let first = is.1 in
        let others = is.2 in
        let next = sent-lines js more lines mid new others begins is.4 (forward (said line) old mid first is.3 below) seen in
        let began = began-with js more mid new (served-on lines mid new others is.4) begins in
        let here = sent js began.0 (said line) old mid first began.1 is.3 below next.0 in (
          here.before,
          (
            here.calls ++ next.1.0,
            next.1.1 ∙ (ap (λ (l : List Call). l ++ next.1.0) here.all ∙ append_assoc (calls_of old.session (seen_in old)) here.calls next.1.0),
            (next.1.0, first, others, here.sends next.1.0, next.1.2, is.5),
          ),
        )

  -- what the pass has seen begins the journal
  seen-begins : (opening : Timeline) (js : List (Entry M)) (p : Seen M) → HasSeenOwn opening js p
      → js ≡ seen_in p ++ calls_in (drop (length p.viewer.seen) (revisions_of opening js))
  seen-begins opening js p is = sym (calls-history opening js) ∙ calls-since (revisions_of opening js) p.viewer.seen is.begun

  -- the pass has seen all calls of its session in the journal
  calls-seen : (opening : Timeline) (js : List (Entry M)) (p : Seen M) → HasSeenOwn opening js p → calls_of p.session (seen_in p) ≡ calls_of p.session js
  calls-seen opening js p is =
      let later = calls_in (drop (length p.viewer.seen) (revisions_of opening js)) in
      let parts = seen-begins opening js p is in
      let none : count_of p.session later ≡ 0 = omega (arith, is.all_own, ap (count_of p.session) parts, count-append p.session (seen_in p) later) in
      sym (ap (calls_of p.session) parts ∙ calls-others p.session (seen_in p) later none)

  pub sessions-are-sent : SessionsSeeTheirCalls M
  sessions-are-sent site lines old new text serves below behind =
      (sent-lines site (seen_in new) [] lines old new text (sym (append-nil (seen_in new))) serves below behind).1

  pub sessions-are-sent-all : SessionsSeeAllTheirCalls M
  sessions-are-sent-all site session publisher tally lines old new text js fresh serves back =
      let sent = (sent-lines site js _ lines old new text (seen-begins site.opening js new back) serves (omega (arith, fresh.called)) back.called).1 in
      let none : calls_of old.session (seen_in old) ≡ [] = ap (λ l. calls_of old.session (calls_in l)) fresh.seen_is in
      let same : new.session ≡ session = (served-on site lines old new text serves).session ∙ fresh.session_is in
      let calls : sent.0 ≡ calls_of session js =
      sym (sent.1 ∙ ap (λ (l : List Call). l ++ sent.0) none) ∙ (calls-seen site.opening js new back ∙ ap (λ (s : ℕ). calls_of s js) same) in
      subst (λ (l : List Call). AnswersLines site js lines l text) calls sent.2

  pub runs-are-one : RunsAreOne M
  runs-are-one site [] more old mid new text rest first second =
      subst (λ (t : List ℕ). Serves site more old new (t ++ rest)) (sym first.1) (subst (λ (p : Seen M). Serves site more p new rest) first.0 second)
  runs-are-one site (line ∷ lines) more old mid new text rest first second = (
    first.0,
    first.1,
    first.2 ++ rest,
    first.3,
    runs-are-one site lines more first.0 mid new first.2 rest first.4 second,
    ap (λ (t : List ℕ). t ++ rest) first.5 ∙ append_assoc first.1 first.2 rest,
  )
