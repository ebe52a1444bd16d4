-- Entries of the journal that are sent to a session.
use Rattle.std.proofs.Common.{◌≡◌, ◌≤◌, ℕ, zero, suc, ◌+◌, List, [], ◌∷◌, ◌++◌, length, take, refl, sym, ◌∙◌, ap, subst, arith, length-append}
use Rattle.std.proofs.Common.{append_assoc, inl, inr, Option, Some, None, Ok, Err}
use Rattle.std.specs.Prelude.{slice_get, map, min, Result, IfErr, IfOk, OnErr, OnOk}
use Rattle.std.specs.Io.KnownBytes.{Appends}
use Rattle.std.proofs.Math.Seq.{take-append-add}
use Rattle.std.proofs.lemmas.List.{append-nil, map-append, take-append-le, take_min}
use Rattle.std.proofs.lemmas.Option.{slice_get_within}
use Rattle.pfl_script.specs.declared.fault.EngineFault.{EngineFault}
use Rattle.pfl_script.specs.declared.fault.EngineFault.TheVariants as engine
use Rattle.pfl_script.proofs.ForCallers.{appends_none, appends_then}
use Rattle.std.specs.Option.{option_map}
use Rattle.pfl_session.specs.declared.entry.Entry.{Entry}
use Rattle.pfl_session.specs.declared.made.Made.{Made}
use Rattle.pfl_session.specs.declared.mark.Mark.{Mark}
use Rattle.pfl_session.specs.Made.{made_after}
use Rattle.pfl_session.specs.Journals.{count_of}
use Rattle.pfl_session.specs.Passes.{Seen, seen_in, GoesOn, HasSeenItsCalls}
use Rattle.pfl_session.specs.publish.Revisions.{Log}
use Rattle.pfl_session.specs.publish.Seats.{LoadsOnce}
use Rattle.pfl_session.proofs.ForCallers.{count-append, goes-on, length-history}
use Rattle.pfl_serve.proofs.Passed.{goes-none, not-called-own}
use Rattle.pfl_serve.specs.Sessions.{nows, sent_lines, AreAmong, AreSent, Follows, HasAsked, IsFollowed, IsFollowing, IsNotCalled, IsSent, Site, Sending}
use Rattle.pfl_serve.specs.Texts.{first_sent, followed_text, following_text, sent_text}
use Rattle.pfl_serve.specs.inner.Answers.{Breaks, IsFollowingOn, IsSentOn, Writes}

-- a text, and then a first part of another one
part-then : (w v x : Option (List ℕ)) (t u : List ℕ) (part : ℕ) → Appends w v t → Appends v x (take part u) → Appends w x (take (length t + part) (t ++ u))
part-then w v x t u part begins is = rw (take-append-add t u part) (appends_then w v x t (take part u) begins is)

-- a first part of a text is one of the text that goes on
part-on : (w v : Option (List ℕ)) (text more : List ℕ) (part : ℕ) → Appends w v (take part text) → (n : ℕ) × Appends w v (take n (text ++ more))
part-on w v text more part is =
    let n = min part (length text) in
    let within : n ≤ length text = omega arith in
    (n, rw (take-append-le n text more within, take_min part text) is)

-- an element that is there stays where a list grows
got-in-longer : {X : Type 0} (xs ys : List X) (n : ℕ) (x : X) → slice_get xs n ≡ Some x → slice_get (xs ++ ys) n ≡ Some x
got-in-longer [] ys n x is = absurd cc
got-in-longer (z ∷ xs) ys zero x is = is
got-in-longer (z ∷ xs) ys (suc n) x is = got-in-longer xs ys n x is

-- numbers that are among others are among more that come later
among-later : (ns before others : List ℕ) → AreAmong ns others → AreAmong ns (before ++ others)
among-later ns [] others are = are
among-later [] (b ∷ before) others are = tt
among-later (n ∷ ns) (b ∷ before) others are = inr (among-later (n ∷ ns) before others are)

-- numbers among others, and then more among more
among-then : (ns ms others more : List ℕ) → AreAmong ns others → AreAmong ms more → AreAmong (ns ++ ms) (others ++ more)
among-then [] ms others more ns-are ms-are = among-later ms others more ms-are
among-then (n ∷ ns) ms [] more ns-are ms-are = absurd ns-are
among-then (n ∷ ns) ms (o ∷ others) more ns-are ms-are = elim ns-are [
  | inl here ↦ inl (here.0, among-then ns ms others more here.1 ms-are)
  | inr later ↦ inr (among-then (n ∷ ns) ms others more later ms-are)
]

-- loads, and then more
loads-then : (a b c ab bc : List ℕ) → b ≡ a ++ ab → c ≡ b ++ bc → c ≡ a ++ (ab ++ bc)
loads-then a b c ab bc first then = then ∙ (ap (λ (l : List ℕ). l ++ bc) first ∙ append_assoc a ab bc)

module _ {M : Type 0} where
  sent-more : (low n : ℕ) (ts : List (Sending M)) (js more : List (Entry M)) → AreSent low n ts js → AreSent low n ts (js ++ more)
  sent-more low n [] js more are = tt
  sent-more low n (t ∷ ts) js more are =
      (got-in-longer js more n t.entry are.0, are.1, are.2, omega (arith, are.3, length-append js more), sent-more low (n + 1) ts js more are.4)

  -- there were fewer entries at least
  sent-lower : (low less n : ℕ) (ts : List (Sending M)) (js : List (Entry M)) → less ≤ low → AreSent low n ts js → AreSent less n ts js
  sent-lower low less n [] js below are = tt
  sent-lower low less n (t ∷ ts) js below are = (are.0, are.1, omega (arith, below, are.2), are.3, sent-lower low less (n + 1) ts js below are.4)

  -- the entries that were sent are those of a journal that goes on
  pub sent-in-longer : (low n : ℕ) (ts : List (Sending M)) (js more all : List (Entry M)) → all ≡ js ++ more → AreSent low n ts js → AreSent low n ts all
  sent-in-longer low n ts js more all is are = subst (AreSent low n ts) (sym is) (sent-more low n ts js more are)

  -- entries, and then others from there on
  sent-append : (low n : ℕ) (ts us : List (Sending M)) (js : List (Entry M)) → AreSent low n ts js → AreSent low (n + length ts) us js
      → AreSent low n (ts ++ us) js
  sent-append low n [] us js ts-are us-are = let same : n + 0 ≡ n = omega arith in subst (λ (m : ℕ). AreSent low m us js) same us-are
  sent-append low n (t ∷ ts) us js ts-are us-are =
      let same : n + suc (length ts) ≡ (n + 1) + length ts = omega arith in
      (ts-are.0, ts-are.1, ts-are.2, ts-are.3, sent-append low (n + 1) ts us js ts-are.4 (subst (λ (m : ℕ). AreSent low m us js) same us-are))

  -- a pass that has not called has seen no less
  pub grown : (a b : Seen M) → IsNotCalled a b → length (seen_in a) ≤ length (seen_in b)
  grown a b met = omega (arith, ap (λ (l : List (Entry M)). length l) met.others.seen, length-append (seen_in a) met.others.others)

  lines-append : (n : ℕ) (ts us : List (Sending M)) → sent_lines n (ts ++ us) ≡ sent_lines n ts ++ sent_lines (n + length ts) us
  lines-append n [] us = let same : n ≡ n + 0 = omega arith in ap (λ (m : ℕ). sent_lines m us) same
  lines-append n (t ∷ ts) us =
      let same : (n + 1) + length ts ≡ n + suc (length ts) = omega arith in
      let text = sent_text (n + 1) t.now t.entry.session t.entry.command in
      ap (λ (l : List ℕ). text ++ l) (lines-append (n + 1) ts us)
      ∙ (sym (append_assoc text (sent_lines (n + 1) ts) (sent_lines ((n + 1) + length ts) us))
      ∙ ap (λ (m : ℕ). (text ++ sent_lines (n + 1) ts) ++ sent_lines m us) same)

  module _ (site : Site) where
    asked-on : (a b c : Seen M) → HasAsked site a b → HasAsked site b c → HasAsked site a c
    asked-on a b c ab bc = record { goes_on = goes-on a b c ab.goes_on bc.goes_on; journal = bc.journal; own = ab.own }

    others-on : (a b c : Seen M) → b.session ≡ a.session → IsNotCalled a b → IsNotCalled b c → IsNotCalled a c
    others-on a b c same ab bc = record {
      others = record {
        others = ab.others.others ++ bc.others.others;
        seen = bc.others.seen ∙ (ap (λ (l : List (Entry M)). l ++ bc.others.others) ab.others.seen
            ∙ append_assoc (seen_in a) ab.others.others bc.others.others);
        none_own = omega (
          arith,
          count-append a.session ab.others.others bc.others.others,
          ab.others.none_own,
          bc.others.none_own,
          ap
              (λ (s : ℕ). count_of s bc.others.others) same,
        );
      };
      half = bc.half ∙ ab.half;
    }

    -- the number that a pass loads once is that of the last entry that it has seen then
    loaded-number : (a b : Seen M) → HasAsked site a b → (looked : LoadsOnce a.viewer b.viewer) → looked.0 ≡ length (seen_in b)
    loaded-number a b asked looked =
        omega (arith, looked.2, ap (λ (l : Log (Mark M)). length l) asked.journal.revisions, length-history site.opening (seen_in b))

    -- no entry yet: the pass has met
    pub sent-none : (low n : ℕ) (a b : Seen M) → HasAsked site a b → IsNotCalled a b → IsSent site low n n a b []
    sent-none low n a b asked met = record {
      asked = asked;
      not_called = met;
      sendings = [];
      are = tt;
      number = omega arith;
      loads = asked.goes_on.loads.0;
      loaded = asked.goes_on.loads.1;
      among = tt;
      sent = refl;
    }

    -- one entry
    pub sent-one : (n now : ℕ) (a b : Seen M) (e : Entry M) (text : List ℕ) → HasAsked site a b → IsNotCalled a b
        → slice_get (seen_in b) n ≡ Some e → now ≡ length (seen_in b) → LoadsOnce a.viewer b.viewer
        → text ≡ sent_text (n + 1) now e.session e.command → IsSent site (length (seen_in a)) n (n + 1) a b text
    sent-one n now a b e text asked met there all looked is = record {
      asked = asked;
      not_called = met;
      sendings = record { entry = e; now = now } ∷ [];
      are = (there, omega (arith, slice_get_within (seen_in b) n e there, all), omega (arith, all, grown a b met), omega (arith, all), tt);
      number = refl;
      loads = looked.0 ∷ [];
      loaded = looked.1;
      among = inl (all ∙ sym (loaded-number a b asked looked), tt);
      sent = is ∙ sym (append-nil (sent_text (n + 1) now e.session e.command));
    }

    -- the entry that a lab gives
    made-at : (n : ℕ) (m : Made) (o : Option (Entry M)) → Some m ≡ option_map (λ e. record { number = n + 1; session = e.session; command = e.command }) o
        → (e : Entry M) × (o ≡ Some e) × (m ≡ record { number = n + 1; session = e.session; command = e.command })
    made-at n m None is = absurd cc
    made-at n m (Some e) is = (e, refl, cc)

    pub sent-made : (n now : ℕ) (a b : Seen M) (m : Made) (text : List ℕ) → HasAsked site a b → IsNotCalled a b
        → Some m ≡ made_after n (seen_in b) → now ≡ length (seen_in b) → LoadsOnce a.viewer b.viewer
        → text ≡ sent_text m.number now m.session m.command → IsSent site (length (seen_in a)) n m.number a b text
    sent-made n now a b m text asked met made all looked is =
        let one = made-at n m (slice_get (seen_in b) n) made in
        let same : m.number ≡ n + 1 = ap (λ (x : Made). x.number) one.2 in
        let sent = sent-one n now a b one.0 text asked met one.1 all looked (is ∙ (λ z. sent_text (one.2 z).number now (one.2 z).session (one.2 z).command)) in
        subst (λ (k : ℕ). IsSent site (length (seen_in a)) n k a b text) (sym same) sent

    -- the lines of entries were written in part
    pub breaks-sent : (n m : ℕ) (a b : Seen M) (text : List ℕ) (e : EngineFault) (w v : Option (List ℕ)) (part : ℕ)
        → IsSent site (length (seen_in a)) n m a b text → e ≡ engine.Write → Appends w v (take part text)
        → Breaks (IsSentOn site n a b) (IsSentOn site n a b) e w v
    breaks-sent n m a b text e w v part sent is some =
        subst (λ (x : EngineFault). Breaks (IsSentOn site n a b) (IsSentOn site n a b) x w v) (sym is) (text, (m, sent), (part, some))

    -- memory was wanting for the first line
    pub lacks-sent : (n : ℕ) (a b : Seen M) (w : Option (List ℕ)) → HasAsked site a b → IsNotCalled a b
        → Breaks (IsSentOn site n a b) (IsSentOn site n a b) engine.NoMemory w w
    lacks-sent n a b w asked met = ([], (n, sent-none (length (seen_in a)) n a b asked met), appends_none w)

    -- a pass has seen no less
    pub seen-more : (low n m : ℕ) (a b : Seen M) (text : List ℕ) (k : ℕ) → IsSent site low n m a b text → k ≤ length (seen_in a) → k ≤ length (seen_in b)
    seen-more low n m a b text k sent within = omega (arith, within, grown a b sent.not_called)

    -- some entries, and then others
    pub sent-then : (low n m k : ℕ) (a b c : Seen M) (text more : List ℕ) → low ≤ length (seen_in b) → IsSent site low n m a b text
        → IsSent site (length (seen_in b)) m k b c more → IsSent site low n k a c (text ++ more)
    sent-then low n m k a b c text more below ab bc =
        let ts = ab.sendings in
        let us = bc.sendings in
        let more-are : AreSent low m us (seen_in c) = sent-lower (length (seen_in b)) low m us (seen_in c) below bc.are in
        let us-are : AreSent low (n + length ts) us (seen_in c) = subst (λ (i : ℕ). AreSent low i us (seen_in c)) ab.number more-are in
        let ts-are = sent-in-longer low n ts (seen_in b) bc.not_called.others.others (seen_in c) bc.not_called.others.seen ab.are in
        record {
          asked = asked-on a b c ab.asked bc.asked;
          not_called = others-on a b c ab.asked.goes_on.session ab.not_called bc.not_called;
          sendings = ts ++ us;
          are = sent-append low n ts us (seen_in c) ts-are us-are;
          number = omega (arith, ab.number, bc.number, length-append ts us);
          loads = ab.loads ++ bc.loads;
          loaded = loads-then a.viewer.loads b.viewer.loads c.viewer.loads ab.loads bc.loads ab.loaded bc.loaded;
          among = rw map-append (among-then (nows ts) (nows us) ab.loads bc.loads ab.among bc.among);
          sent = ap (λ (t : List ℕ). t ++ more) ab.sent
              ∙ (ap (λ (t : List ℕ). sent_lines n ts ++ t) (bc.sent ∙ ap (λ (i : ℕ). sent_lines i us) ab.number)
              ∙ sym (lines-append n ts us));
        }

    module _ (n m : ℕ) (a b c : Seen M) (w v x : Option (List ℕ)) (so_far : Writes (IsSent site (length (seen_in a)) n m a b) w v) where
      -- the pass has seen no less meanwhile
      below : length (seen_in a) ≤ length (seen_in b)
      below = grown a b so_far.1.not_called

      -- what was written so far, and then more
      pub writes-then : (k : ℕ) → Writes (IsSent site (length (seen_in b)) m k b c) v x → Writes (IsSent site (length (seen_in a)) n k a c) w x
      writes-then k more = (
        so_far.0
            ++ more.0,
        sent-then (length (seen_in a)) n m k a b c so_far.0 more.0 below so_far.1 more.1,
        appends_then w v x so_far.0 more.0
            so_far.2 more.2,
      )

      -- ... and then a part of more, or what came before memory was wanting
      pub breaks-then : (e : EngineFault) → Breaks (IsSentOn site m b c) (IsSentOn site m b c) e v x → Breaks (IsSentOn site n a c) (IsSentOn site n a c) e w x
      breaks-then engine.Write more =
          let t = so_far.0 in
          let u = more.0 in
          let part = more.2.0 in (
            t ++ u,
            (more.1.0, sent-then (length (seen_in a)) n m more.1.0 a b c t u below so_far.1 more.1.1),
            (length t + part, part-then w v x t u part so_far.2 more.2.1),
          )
      breaks-then engine.NoMemory more = (
        so_far.0 ++ more.0,
        (more.1.0, sent-then (length (seen_in a)) n m more.1.0 a b c so_far.0 more.0 below so_far.1 more.1.1),
        appends_then w v x so_far.0 more.0 so_far.2 more.2,
      )
      breaks-then engine.Read more = absurd more
      breaks-then engine.TooManyTurns more = absurd more

    -- ---- an answer to `follow`

    module _ (k : Option ℕ) (start : ℕ) (a b : Seen M) (asked : HasAsked site a b) (met : IsNotCalled a b)
        (looked : LoadsOnce a.viewer b.viewer) (all : start ≡ length (seen_in b)) where
      abbrev first : ℕ
      first = first_sent k start

      own-met : HasSeenItsCalls b
      own-met = omega (arith, asked.own, not-called-own a b asked.goes_on.session met, ap (λ h. h.count) met.half)

      looks : (c : Seen M) (later : List ℕ) → c.viewer.loads ≡ b.viewer.loads ++ later → c.viewer.loads ≡ a.viewer.loads ++ start ∷ later
      looks c later on =
          let number : looked.0 ≡ start = loaded-number a b asked looked ∙ sym all in
          let once : b.viewer.loads ≡ a.viewer.loads ++ start ∷ [] = looked.1 ∙ ap (λ (n : ℕ). a.viewer.loads ++ n ∷ []) number in
          on ∙ (ap (λ (l : List ℕ). l ++ later) once ∙ append_assoc a.viewer.loads (start ∷ []) later)

      follows : (m : ℕ) (c : Seen M) (lines : List ℕ) → IsSent site (length (seen_in b)) first m b c lines
          → Follows site k start m a c (following_text first ++ lines)
      unfolding sent-none sent-then
      follows m c lines sent =
          let whole = sent-then start first first m a b c [] lines (omega (arith, all)) (sent-none start first a b asked met) sent in
          record {
            since = omega (arith, all, grown a b met);
            within = omega (arith, all, grown b c sent.not_called);
            looked = (sent.loads, looks c sent.loads sent.loaded);
            lines = lines;
            sends = whole;
            among = sent.among;
            sent = refl;
          }

      -- the whole answer: what begins it, the lines of entries, and its end
      pub whole-follow : (m : ℕ) (c : Seen M) (w v x y : Option (List ℕ)) → Appends w v (following_text first)
          → Writes (IsSent site (length (seen_in b)) first m b c) v x → start ≤ m
          → Appends x y (followed_text m) → Writes (IsFollowed site k a c) w y
      whole-follow m c w v x y begins lines enough ends =
          let t = following_text first ++ lines.0 in (
            t ++ followed_text m,
            record { start = start; number = m; first = t; follows = follows m c lines.0 lines.1; all = enough; sent = refl },
            appends_then w x y t (followed_text m) (appends_then w v x (following_text first) lines.0 begins lines.2) ends,
          )

      following : (m : ℕ) (c : Seen M) (lines : List ℕ) → IsSent site (length (seen_in b)) first m b c lines
          → IsFollowing site k a c (following_text first ++ lines)
      following m c lines sent = record { start = start; number = m; follows = follows m c lines sent }

      -- a pass that has met has met again
      again : HasAsked site b b
      again = record { goes_on = goes-none b; journal = asked.journal; own = own-met }

      none : IsNotCalled b b
      none = record { others = record { others = []; seen = sym (append-nil (seen_in b)); none_own = refl }; half = refl }

      -- its first line was written in part
      pub breaks-begin : (e : EngineFault) (w v : Option (List ℕ)) (part : ℕ) → e ≡ engine.Write
          → Appends w v (take part (following_text first)) → Breaks (IsFollowingOn site k a b) (IsFollowing site k a b) e w v
      breaks-begin e w v part fault is =
          let sent = sent-none (length (seen_in b)) first b b again none in
          let t = following_text first in
          subst (λ (x : EngineFault). Breaks (IsFollowingOn site k a b) (IsFollowing site k a b) x w v) (sym fault)
          (t ++ [], inl (following first b [] sent), part-on w v t [] part is)

      -- the lines of entries were written in part
      pub breaks-lines : (c : Seen M) (e : EngineFault) (w v x : Option (List ℕ)) → Appends w v (following_text first)
          → Breaks (IsSentOn site first b c) (IsSentOn site first b c) e v x → Breaks (IsFollowingOn site k a c) (IsFollowing site k a c) e w x
      breaks-lines c engine.Write w v x begins breaks =
          let t = following_text first in
          let lines = breaks.0 in
          let part = breaks.2.0 in
          (t ++ lines, inl (following breaks.1.0 c lines breaks.1.1), (length t + part, part-then w v x t lines part begins breaks.2.1))
      breaks-lines c engine.NoMemory w v x begins breaks =
          let t = following_text first in
          (t ++ breaks.0, following breaks.1.0 c breaks.0 breaks.1.1, appends_then w v x t breaks.0 begins breaks.2)
      breaks-lines c engine.Read w v x begins breaks = absurd breaks
      breaks-lines c engine.TooManyTurns w v x begins breaks = absurd breaks

      -- its last line was written in part
      pub breaks-end : (m : ℕ) (c : Seen M) (w v x y : Option (List ℕ)) (part : ℕ) → Appends w v (following_text first)
          → Writes (IsSent site (length (seen_in b)) first m b c) v x → start ≤ m
          → Appends x y (take part (followed_text m)) → Breaks (IsFollowingOn site k a c) (IsFollowing site k a c) engine.Write w y
      breaks-end m c w v x y part begins lines enough ends =
          let t = following_text first ++ lines.0 in
          let whole : IsFollowed site k a c (t ++ followed_text m) =
          record { start = start; number = m; first = t; follows = follows m c lines.0 lines.1; all = enough; sent = refl } in (
            t ++ followed_text m,
            inr whole,
            (length t + part, part-then w x y t (followed_text m) part (appends_then w v x (following_text first) lines.0 begins lines.2) ends),
          )

      -- the answer, whether its last line was written whole or not
      pub ends-whole : {X : Type 0} (r : Result X EngineFault) (m : ℕ) (c : Seen M) (w v x y : Option (List ℕ))
          → Appends w v (following_text first) → Writes (IsSent site (length (seen_in b)) first m b c) v x → start ≤ m
          → OnOk r (Appends x y (followed_text m)) → IfOk r (λ _. Writes (IsFollowed site k a c) w y)
      ends-whole (Ok z) m c w v x y begins lines enough ends = whole-follow m c w v x y begins lines enough ends
      ends-whole (Err e) m c w v x y begins lines enough ends = tt

      pub ends-broken : {X : Type 0} (r : Result X EngineFault) (m : ℕ) (c : Seen M) (w v x y : Option (List ℕ))
          → Appends w v (following_text first) → Writes (IsSent site (length (seen_in b)) first m b c) v x → start ≤ m
          → IfErr r (λ e. e ≡ engine.Write) → OnErr r ((part : ℕ) × (part ≤ length (followed_text m)) × Appends x y (take part (followed_text m)))
          → IfErr r (λ e. Breaks (IsFollowingOn site k a c) (IsFollowing site k a c) e w y)
      ends-broken (Ok z) m c w v x y begins lines enough fault part = tt
      ends-broken (Err e) m c w v x y begins lines enough fault part =
          subst (λ (f : EngineFault). Breaks (IsFollowingOn site k a c) (IsFollowing site k a c) f w y) (sym fault)
          (breaks-end m c w v x y part.0 begins lines enough part.2)
