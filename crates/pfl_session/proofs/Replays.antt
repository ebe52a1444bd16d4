-- A journal that is one entry longer, and what a pass has seen of it.
use Rattle.std.proofs.Common.{◌≡◌, ℕ, zero, suc, ◌+◌, ◌-◌, ◌<◌, ◌≤◌, List, [], ◌∷◌, ◌++◌, length, take, drop, set, Some, Bool, true, false, cond}
use Rattle.std.proofs.Common.{refl, sym, ap, subst, ◌∙◌, eq-eqb, ne_eqb, arith}
use Rattle.std.specs.Prelude.{nat_eq, slice_get}
use Rattle.std.proofs.lemmas.List.{append_assoc, take-append-drop}
use Rattle.atomic_table.specs.Seated.{TableId}
use Rattle.pfl_language.specs.declared.command.Command.{Command}
use Rattle.pfl_publish.specs.Count.{Count}
use Rattle.pfl_publish.proofs.ForCallers.{begun_since, loads-since}
use Rattle.pfl_publish.specs.Revisions.{Log, published, StartsWith}
use Rattle.pfl_publish.specs.Seats.{Viewer}
use Rattle.pfl_timeline.specs.Replies.{Reply}
use Rattle.pfl_timeline.specs.Summaries.{summary}
use Rattle.pfl_timeline.specs.Timelines.{Timeline}
use Rattle.pfl_session.specs.declared.entry.Entry.{Entry}
use Rattle.pfl_session.specs.declared.mark.Mark.{Mark}
use Rattle.pfl_session.specs.declared.mark.Mark.TheVariants.{Start, Call}
use Rattle.pfl_session.specs.Ledgers.{IsEntered}
use Rattle.pfl_session.specs.Passes.{Seen, seen_in, GoesOn, HasSeenJournal, AddsOthers, AddsCall}
use Rattle.pfl_session.specs.Journals.{after_entry, replay, IsRight, IsLegal, IsJournal, following, revisions_of, call_of, calls_in, count_of, counts_of}

pub some_same : {A : Type 0} (a b : A) → Some a ≡ Some b → a ≡ b
some_same a b e = cc

-- what stands at a place, put there again
pub set-same : {X : Type 0} (xs : List X) (i : ℕ) (x : X) → slice_get xs i ≡ Some x → set xs i x ≡ xs
set-same [] i x h = refl
set-same (y ∷ xs) zero x h = let e : y ≡ x = cc in λ z. sym e z ∷ xs
set-same (y ∷ xs) (suc i) x h = ap (λ l. y ∷ l) (set-same xs i x h)

module _ {M : Type 0} where
  pub replay-snoc : (t : Timeline) (js : List (Entry M)) (e : Entry M) → replay t (js ++ e ∷ []) ≡ after_entry (replay t js) e
  replay-snoc t [] e = refl
  replay-snoc t (x ∷ js) e = replay-snoc (after_entry t x) js e

  pub legal-snoc : (t : Timeline) (js : List (Entry M)) (e : Entry M) → IsLegal t js → IsRight (replay t js) e → IsLegal t (js ++ e ∷ [])
  legal-snoc t [] e legal right = (right, tt)
  legal-snoc t (x ∷ js) e legal right = (legal.0, legal-snoc (after_entry t x) js e legal.1 right)

  pub length-following : (t : Timeline) (n : ℕ) (js : List (Entry M)) → length (following t n js) ≡ length js
  length-following t n [] = refl
  length-following t n (x ∷ js) = let h = length-following (after_entry t x) (n + 1) js in omega arith

  pub length-history : (t : Timeline) (js : List (Entry M)) → length (revisions_of t js) ≡ length js + 1
  length-history t js = omega (arith, length-following t 0 js)

  following-snoc : (t : Timeline) (n : ℕ) (js : List (Entry M)) (e : Entry M)
      → following t n (js ++ e ∷ []) ≡ following t n js ++ published (summary (after_entry (replay t js) e) (n + length js + 1)) (Call e) ∷ []
  following-snoc t n [] e = let a : n + 1 ≡ n + 0 + 1 = omega arith in λ z. published (summary (after_entry t e) (a z)) (Call e) ∷ []
  following-snoc t n (x ∷ js) e =
      let h = following-snoc (after_entry t x) (n + 1) js e in
      let a : (n + 1) + length js + 1 ≡ n + length (x ∷ js) + 1 = omega arith in
      ap (λ (l : Log (Mark M)). published (summary (after_entry t x) (n + 1)) (Call x) ∷ l)
      (h ∙ (λ z. following (after_entry t x) (n + 1) js ++ published (summary (after_entry (replay (after_entry t x) js) e) (a z)) (Call e) ∷ []))

  -- the revision of one entry more, after the others
  pub extends : (t u : Timeline) (js items : List (Entry M)) (e : Entry M) (words : List ℕ) (number : ℕ) (list list' : Log (Mark M))
      → list ≡ revisions_of t js → u ≡ after_entry (replay t js) e → words ≡ summary u number → number ≡ length js + 1
      → list' ≡ list ++ published words (Call e) ∷ [] → items ≡ js ++ e ∷ [] → list' ≡ revisions_of t items
  extends t u js items e words number list list' is then shows count longer more =
      let n : number ≡ 0 + length js + 1 = omega (arith, count) in
      let row : words ≡ summary (after_entry (replay t js) e) (0 + length js + 1) = shows ∙ (λ z. summary (then z) (n z)) in
      longer
      ∙ ((λ z. is z ++ published (row z) (Call e) ∷ [])
      ∙ (ap (λ (l : Log (Mark M)). published (summary t 0) (Start t) ∷ l) (sym (following-snoc t 0 js e)) ∙ ap (revisions_of t) (sym more)))

  -- ---- calls

  pub calls-append : (xs ys : Log (Mark M)) → calls_in (xs ++ ys) ≡ calls_in xs ++ calls_in ys
  calls-append [] ys = refl
  calls-append (x ∷ xs) ys = ap (λ (l : List (Entry M)). call_of x.named ++ l) (calls-append xs ys)
      ∙ sym (append_assoc (call_of x.named) (calls_in xs) (calls_in ys))

  calls-following : (t : Timeline) (n : ℕ) (js : List (Entry M)) → calls_in (following t n js) ≡ js
  calls-following t n [] = refl
  calls-following t n (x ∷ js) = ap (λ (l : List (Entry M)). x ∷ l) (calls-following (after_entry t x) (n + 1) js)

  pub calls-history : (t : Timeline) (js : List (Entry M)) → calls_in (revisions_of t js) ≡ js
  calls-history t js = calls-following t 0 js

  pub count-append : (s : ℕ) (xs ys : List (Entry M)) → count_of s (xs ++ ys) ≡ count_of s xs + count_of s ys
  count-append s [] ys = omega arith
  count-append s (x ∷ xs) ys = let h = count-append s xs ys in omega arith

  pub count-snoc : (s : ℕ) (js : List (Entry M)) (e : Entry M) → count_of s (js ++ e ∷ []) ≡ count_of s js + cond (nat_eq e.session s) 1 0
  count-snoc s js e = let h = count-append s js (e ∷ []) in omega arith

  pub count-own : (s : ℕ) (js : List (Entry M)) (e : Entry M) → e.session ≡ s → count_of s (js ++ e ∷ []) ≡ count_of s js + 1
  count-own s js e is = let hit : nat_eq e.session s ≡ true = eq-eqb e.session s is
      in omega (arith, count-snoc s js e, ap {B = ℕ} (λ (b : Bool). cond b 1 0) hit)

  -- what was seen, and what came since
  pub calls-since : (list seen : Log (Mark M)) → StartsWith list seen → calls_in list ≡ calls_in seen ++ calls_in (drop (length seen) list)
  calls-since list seen begun =
      ap calls_in (sym (take-append-drop (length seen) list))
      ∙ (calls-append (take (length seen) list) (drop (length seen) list) ∙ ap (λ (l : Log (Mark M)). calls_in l ++ calls_in (drop (length seen) list)) begun)

  pub count-since : (s : ℕ) (list seen : Log (Mark M)) → StartsWith list seen
      → count_of s (calls_in seen) + count_of s (calls_in (drop (length seen) list)) ≡ count_of s (calls_in list)
  count-since s list seen begun = sym (ap (count_of s) (calls-since list seen begun) ∙ count-append s (calls_in seen) (calls_in (drop (length seen) list)))

  -- a beginning has no more calls of a session
  pub count-begun : (s n : ℕ) (list seen : Log (Mark M)) → StartsWith list seen → n ≤ count_of s (calls_in seen) → n ≤ count_of s (calls_in list)
  count-begun s n list seen begun below = omega (arith, count-since s list seen begun, below)

  -- all of a session's entries were seen, so what came since is of others
  pub none-since : (s n : ℕ) (t : Timeline) (js : List (Entry M)) (list seen : Log (Mark M)) → list ≡ revisions_of t js
      → StartsWith list seen → n ≤ count_of s (calls_in seen) → n ≡ count_of s js
      → count_of s (calls_in (drop (length seen) list)) ≡ 0
  none-since s n t js list seen is begun below all =
      omega (arith, count-since s list seen begun, below, all, ap (λ (l : Log (Mark M)). count_of s (calls_in l)) is, ap (count_of s) (calls-history t js))

  -- ... and all of them were seen
  pub all-seen : (s n : ℕ) (t : Timeline) (js : List (Entry M)) (seen : Log (Mark M)) → StartsWith (revisions_of t js) seen
      → n ≤ count_of s (calls_in seen) → n ≡ count_of s js → count_of s (calls_in seen) ≡ count_of s js
  all-seen s n t js seen begun below all = omega (arith, count-since s (revisions_of t js) seen begun, below, all, ap (count_of s) (calls-history t js))

  -- ---- the counts of all sessions

  -- sessions further on count no more
  counts-same : (k : ℕ) (ts : List TableId) (js : List (Entry M)) (e : Entry M) → e.session < k → counts_of k ts js ≡ counts_of k ts (js ++ e ∷ [])
  counts-same k [] js e h = refl
  counts-same k (t ∷ ts) js e h =
      let other : nat_eq e.session k ≡ false = ne_eqb e.session k (λ is. omega arith) in
      let same : count_of k js ≡ count_of k (js ++ e ∷ []) = omega (arith, count-snoc k js e, ap {B = ℕ} (λ (b : Bool). cond b 1 0) other) in
      λ z. record { table = t; count = same z } ∷ counts-same (suc k) ts js e (omega arith) z

  pub counts-get : (k i : ℕ) (ts : List TableId) (js : List (Entry M)) (t : TableId) → slice_get ts i ≡ Some t
      → slice_get (counts_of k ts js) i ≡ Some (record { table = t; count = count_of (k + i) js })
  counts-get k i [] js t h = absurd (cc)
  counts-get k zero (s ∷ ts) js t h = let e : s ≡ t = cc in let n : k ≡ k + 0 = omega arith in λ z. Some (record { table = e z; count = count_of (n z) js })
  counts-get k (suc i) (s ∷ ts) js t h = let n : suc k + i ≡ k + suc i = omega arith in counts-get (suc k) i ts js t h
      ∙ (λ z. Some (record { table = t; count = count_of (n z) js }))

  pub counts-set : (k i : ℕ) (ts : List TableId) (js : List (Entry M)) (e : Entry M) (t : TableId) → slice_get ts i ≡ Some t → e.session ≡ k + i
      → set (counts_of k ts js) i (record { table = t; count = count_of (k + i) js + 1 }) ≡ counts_of k ts (js ++ e ∷ [])
  counts-set k i [] js e t h is = refl
  counts-set k zero (s ∷ ts) js e t h is =
      let here : s ≡ t = cc in
      let hit : nat_eq e.session k ≡ true = eq-eqb e.session k (omega arith) in
      let n : k + 0 ≡ k = omega arith in
      let more : count_of (k + 0) js + 1 ≡ count_of k (js ++ e ∷ []) = ap (λ (m : ℕ). count_of m js + 1) n
      ∙ omega (arith, count-snoc k js e, ap {B = ℕ} (λ (b : Bool). cond b 1 0) hit) in
      λ z. record { table = sym here z; count = more z } ∷ counts-same (suc k) ts js e (omega arith) z
  counts-set k (suc i) (s ∷ ts) js e t h is =
      let other : nat_eq e.session k ≡ false = ne_eqb e.session k (λ e'. omega arith) in
      let same : count_of k js ≡ count_of k (js ++ e ∷ []) = omega (arith, count-snoc k js e, ap {B = ℕ} (λ (b : Bool). cond b 1 0) other) in
      let n : k + suc i ≡ suc k + i = omega arith in
      (λ z. record { table = s; count = same z } ∷ set (counts_of (suc k) ts js) i (record { table = t; count = count_of (n z) js + 1 }))
      ∙ ap (λ (l : List Count). record { table = s; count = count_of k (js ++ e ∷ []) } ∷ l) (counts-set (suc k) i ts js e t h (omega arith))

  -- ---- passes

  -- who sees on has seen as many calls
  pub seen-on : (s n : ℕ) (v w : Viewer (Mark M)) (list : Log (Mark M)) → Some v ≡ Some w → StartsWith list v.seen
      → n ≤ count_of s (calls_in w.seen) → n ≤ count_of s (calls_in list)
  seen-on s n v w list same begun below = count-begun s n list w.seen (subst (λ (x : Viewer (Mark M)). StartsWith list x.seen) (some_same v w same) begun) below

  -- a pass that has seen all revisions of a journal
  pub seen-is : (t : Timeline) (js : List (Entry M)) (p : Seen M) → p.viewer.seen ≡ revisions_of t js → seen_in p ≡ js
  seen-is t js p is = ap calls_in is ∙ calls-history t js

  pub seen-journal : (t : Timeline) (n limit : ℕ) (js : List (Entry M)) (p : Seen M) → p.viewer.seen ≡ revisions_of t js
      → IsJournal t n limit js → HasSeenJournal t n limit p
  seen-journal t n limit js p is journal =
      record {
        journal = subst (IsJournal t n limit) (sym (seen-is t js p is)) journal;
        revisions = is
            ∙ ap (revisions_of t) (sym (seen-is t js p is));
      }

  -- what came since is of others
  pub others-since : (t : Timeline) (js : List (Entry M)) (old new : Seen M) → new.viewer.seen ≡ revisions_of t js
      → StartsWith new.viewer.seen old.viewer.seen → old.half.count ≤ count_of old.session (seen_in old) → old.half.count ≡ count_of old.session js
      → AddsOthers old new
  others-since t js old new is begun below all = record {
    others = calls_in (drop (length old.viewer.seen) new.viewer.seen);
    seen = calls-since new.viewer.seen old.viewer.seen begun;
    none_own = none-since old.session old.half.count t js new.viewer.seen old.viewer.seen is begun below all;
  }

  -- ... and then the call
  pub call-since : (t : Timeline) (n limit : ℕ) (js js' : List (Entry M)) (old met new : Seen M) (c : Command) (r : Reply)
      → AddsOthers old met → met.viewer.seen ≡ revisions_of t js → met.session ≡ old.session → IsEntered t n limit js js' met new c r
      → AddsCall old new c r
  call-since t n limit js js' old met new c r adds is same entered = record {
    others = adds.others;
    entry = entered.entry;
    seen = seen-is t js' new entered.seen ∙ (entered.longer ∙ ap (λ (l : List (Entry M)). l ++ entered.entry ∷ []) (sym (seen-is t js met is) ∙ adds.seen));
    none_own = adds.none_own;
    session = entered.session ∙ same;
    command_is = entered.command_is;
    reply_is = entered.reply_is;
  }

  -- passes go on
  pub goes-on : (a b c : Seen M) → GoesOn a b → GoesOn b c → GoesOn a c
  goes-on a b c ab bc = record {
    session = bc.session ∙ ab.session;
    tally = bc.tally ∙ ab.tally;
    publisher = bc.publisher ∙ ab.publisher;
    seen = begun_since c.viewer.seen b.viewer.seen a.viewer.seen bc.seen ab.seen;
    loads = loads-since a.viewer b.viewer c.viewer ab.loads bc.loads;
  }
