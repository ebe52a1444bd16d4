-- Each kind of step keeps the rule of the words.
use Rattle.std.proofs.Common.{◌≡◌, ℕ, zero, suc, replicate, ◌+◌, ◌-◌, ◌<◌, ◌≢◌, Bool, true, false, cond, ◌||◌, List, [], ◌∷◌, ◌++◌, map, length}
use Rattle.std.proofs.Common.{get_or, take, set, refl, sym, ap, ◌∙◌, subst, ⊎_elim, arith, length-set, get_or-set_other, get_or-set_same}
use Rattle.std.proofs.lemmas.List.{length-take-le, take_more, get_or_append_left, get_or_push, length_push}
use mathlib.Core.Logic.{dite}
use mathlib.Core.Option.{none, some, some-injective, some-ne-none}
use native.Mathlib.Decide.{ℕ_discrete}
use lib.ListN.{get_elem?}
use lib.Seq.{set-get_or}
use Rattle.std.proofs.lemmas.Bool.{false≢true}
use Rattle.atomic_table.proofs.Lists.{set_else, at_last, at_longer}
use Rattle.atomic_table.specs.Table.{State, Me, step, Act, keeps, Valid, carried_after, stepped, Allows, Splits, Joins, opening}
use Rattle.pfl_publish.specs.declared.view.Published.{Published}
use Rattle.pfl_publish.specs.declared.view.View.{View}
use Rattle.pfl_publish.specs.Revisions.{Log, word_index, IsRevision, published, words_at, StartsWith}
use Rattle.pfl_publish.specs.Views.{blank, with_word, with_next, with_names, with_seen, with_held, without_writer, without_try, united, idle}
use Rattle.pfl_publish.specs.Rule.{HasWriter, Knows, IsKept}
use Rattle.pfl_publish.specs.Steps.{StoresWord, StoresNumber, LoadsWord, LoadsNumber}
use Rattle.pfl_publish.proofs.Lists.{at_end, word_index_apart, word_index_apart_words, word_index_within, each_set, words_at-append, words_at-last}
use Rattle.pfl_publish.proofs.Lists.{begun_length, begun_append, begun_all}

-- a seat that is not of the two joined has the writer's part after the join only if it had it before
others_part : (a b : Bool) (j id other writer : ℕ) → (b ≡ true → other ≡ writer) → j ≢ other → j ≡ writer → j ≡ cond a writer (cond b id writer)
others_part true b j id other writer q ne e = e
others_part false true j id other writer q ne e = absurd (ne (e ∙ sym (q refl)))
others_part false false j id other writer q ne e = e

-- a seat other than the one split has the writer's part after the split only if it had it before
split_part : (a : Bool) (j id end writer : ℕ) → (a ≡ true → id ≡ writer) → j ≢ id → j ≡ writer → j ≡ cond a end writer
split_part true j id end writer p ne e = absurd (ne (e ∙ sym (p refl)))
split_part false j id end writer p ne e = e

-- the new seat of a split has the writer's part if the one split had it
given_part : (a : Bool) (j end writer : ℕ) → a ≡ true → j ≡ end → j ≡ cond a end writer
given_part true j end writer t e = e
given_part false j end writer t e = absurd (false≢true t)

module _ {A : Type 0} where
  -- what stands at a place is what was set there
  set_at_some : (l : List A) (i : ℕ) (a b : A) → get_elem? l i ≡ some a → get_elem? (set l i b) i ≡ some b
  set_at_some [] i a b e = absurd (some-ne-none a (sym e))
  set_at_some (x ∷ xs) zero a b e = refl
  set_at_some (x ∷ xs) (suc i) a b e = set_at_some xs i a b e

module _ {H : Type 0} where
  -- what a seat knows stays true once a revision was added
  grown : (list : Log H) (next next' : List ℕ) (writer seat : ℕ) (x : Published H) (v w : View H) → Knows list next writer seat v
      → (w.writes ≡ true → (seat ≡ writer) × (w.list ≡ list ++ x ∷ []) × (w.next ≡ next'))
      → w.seen ≡ v.seen → w.old ≡ v.old → w.held ≡ v.held → Knows (list ++ x ∷ []) next' writer seat w
  grown list next next' writer seat x v w k part seen old held = record {
    part = part;
    begun = subst (StartsWith (list ++ x ∷ [])) (sym seen) (begun_append list (x ∷ []) v.seen k.begun);
    older = subst (StartsWith (list ++ x ∷ [])) (sym old) (begun_append list (x ∷ []) v.old k.older);
    whole = λ some_seen recent.
        let l : length w.seen ≡ length v.seen = ap (λ (z : Log H). length z) seen in
        let within : length v.seen - 1 < length list = omega (arith, begun_length list v.seen k.begun) in
        let was = k.whole (omega arith) (omega (arith, length_push list x)) in
        (λ z. take (length (held z)) (words_at (length (seen z) - 1) (list ++ x ∷ [])))
        ∙ (ap (take (length v.held)) (words_at-append (length v.seen - 1) list (x ∷ []) within) ∙ (was ∙ sym held));
  }

  -- the writer's part of two seats that are joined is true
  joined_part : (a b : Bool) (id other writer : ℕ) (vl wl list : Log H) (vn wn next : List ℕ)
      → (a ≡ true → (id ≡ writer) × (vl ≡ list) × (vn ≡ next)) → (b ≡ true → (other ≡ writer) × (wl ≡ list) × (wn ≡ next))
      → (a || b) ≡ true → (id ≡ cond a writer (cond b id writer)) × (cond a vl wl ≡ list) × (cond a vn wn ≡ next)
  joined_part true b id other writer vl wl list vn wn next p q t = p refl
  joined_part false true id other writer vl wl list vn wn next p q t = (refl, (q refl).1, (q refl).2)
  joined_part false false id other writer vl wl list vn wn next p q t = absurd (false≢true t)

  -- the list begins with either of two of its beginnings
  either_begun : (list : Log H) (b : Bool) (x y : Log H) → StartsWith list x → StartsWith list y → StartsWith list (cond b x y)
  either_begun list true x y p q = p
  either_begun list false x y p q = q

  -- a seat that moves keeps the writer's part, or is another one
  keeps_one : (views : List (View H)) (id writer : ℕ) (v w : View H) → get_elem? views id ≡ some v → w.writes ≡ v.writes
      → HasWriter views writer → HasWriter (set views id w) writer
  keeps_one views id writer v w at same one = dite (ℕ_discrete writer id)
      (λ e. let here : some v ≡ some one.0 = sym at ∙ (ap (get_elem? views) (sym e) ∙ one.1) in (
        w,
        subst (λ (i : ℕ). get_elem? (set views id w) i ≡ some w) (sym e) (set_at_some views id v w at),
        same
            ∙ (ap (λ (x : View H). x.writes) (some-injective v one.0 here) ∙ one.2),
      ))
      (λ other. (one.0, set_else views id writer w other ∙ one.1, one.2))

  -- a seat that does not write is not the writer's
  not_writer : (views : List (View H)) (id writer : ℕ) (v : View H) → get_elem? views id ≡ some v → v.writes ≡ false
      → (one : HasWriter views writer) → writer ≢ id
  not_writer views id writer v at no_part one e =
      let here : some v ≡ some one.0 = sym at ∙ (ap (get_elem? views) (sym e) ∙ one.1) in
      false≢true (sym no_part ∙ (ap (λ (x : View H). x.writes) (some-injective v one.0 here) ∙ one.2))

  -- after a split some seat has the writer's part
  split_one : (a : Bool) (views : List (View H)) (id writer : ℕ) (v left right : View H) → get_elem? views id ≡ some v → v.writes ≡ a
      → right.writes ≡ a → HasWriter views writer
      → HasWriter (set views id left ++ right ∷ []) (cond a (length (set views id left)) writer)
  split_one true views id writer v left right at is right_is one = (right, at_last (set views id left) right _ refl, right_is)
  split_one false views id writer v left right at is right_is one =
      (one.0, at_longer (set views id left) (right ∷ []) writer one.0 (set_else views id writer left (not_writer views id writer v at is one) ∙ one.1), one.2)

  -- after a join some seat has the writer's part
  join_one : (a b : Bool) (views : List (View H)) (id other writer : ℕ) (v w both spent : View H) → other ≢ id
      → get_elem? views id ≡ some v → get_elem? views other ≡ some w → v.writes ≡ a → w.writes ≡ b → both.writes ≡ (a || b)
      → (a ≡ true → id ≡ writer) → get_elem? (set (set views id both) other spent) id ≡ some both → HasWriter views writer
      → HasWriter (set (set views id both) other spent) (cond a writer (cond b id writer))
  join_one true b views id other writer v w both spent apart at there is w_is both_is own stands one =
      (both, subst (λ (i : ℕ). get_elem? (set (set views id both) other spent) i ≡ some both) (own refl) stands, both_is)
  join_one false true views id other writer v w both spent apart at there is w_is both_is own stands one = (both, stands, both_is)
  join_one false false views id other writer v w both spent apart at there is w_is both_is own stands one = (
    one.0,
    set_else (set views id both) other writer spent (not_writer views other writer w there w_is one)
        ∙ (set_else views id writer both (not_writer views id writer v at is one) ∙ one.1),
    one.2,
  )

  -- after a join the seat that stays knows what both knew
  joined_here : (views : List (View H)) (id other : ℕ) (v both spent : View H) → other ≢ id → get_elem? views id ≡ some v
      → get_elem? (set (set views id both) other spent) id ≡ some both
  joined_here views id other v both spent apart at = set_else (set views id both) other id spent (λ e. apart (sym e)) ∙ set_at_some views id v both at

  -- the first seat has the writer's part
  each_blank : (j : ℕ) (v : View H) → get_elem? (blank ∷ []) j ≡ some v → Knows [] [] 0 j v
  each_blank zero v e = subst (Knows [] [] 0 zero) (some-injective blank v e) record {
    part = λ _. (refl, refl, refl);
    begun = refl;
    older = refl;
    whole = λ _ _. refl;
  }
  each_blank (suc j) v e = absurd (some-ne-none v (sym e))

module _ {S H : Type 0} where
  -- a step that changes no word
  unmoved : (s : State S (View H)) (r : IsKept s) (i id : ℕ) (cs : List (ℕ × S)) (v w : View H) → get_elem? s.views id ≡ some v
      → w.writes ≡ v.writes → Knows r.list r.next r.writer id w → IsKept (stepped s i (get_or s.words i 0) id cs w keeps)
  unmoved s r i id cs v w at same mine =
      subst (λ (ws : List ℕ). IsKept record { words = ws; homes = s.homes; views = set s.views id w }) (sym (set-get_or s.words i 0)) record {
        list = r.list;
        next = r.next;
        writer = r.writer;
        wide = r.wide;
        number = r.number;
        revisions = r.revisions;
        whole = r.whole;
        stored = r.stored;
        room = r.room;
        one = keeps_one s.views id r.writer v w at same r.one;
        each = each_set (Knows r.list r.next r.writer) s.views id w mine (λ j d _. r.each j d);
      }

  -- the writer stores a word of the next revision
  pub stores : (slots id : ℕ) (me : Me S (View H)) (word b : ℕ) → me.0.writes ≡ true → length me.0.next < 8
      → word ≡ word_index (length me.0.list) (length me.0.next)
      → Allows IsKept slots id me word (λ _. b) (λ _. StoresWord (step slots word b 0 none) me b)
  stores slots id me word b writes some_room at_index s r _ at _ =
      let k = r.each id me.0 at in let known = k.part writes in
      let w : View H = with_word me.0 b in
      let i : ℕ = length r.next in
      let p : ℕ = word_index (length r.list) i in
      let here : word ≡ p = at_index ∙ (λ z. word_index (length (known.1 z)) (length (known.2 z))) in
      let some_room' : i < 8 = subst (λ (l : List ℕ). length l < 8) known.2 some_room in
      let wide = r.wide in
      let within : p < length s.words = omega (arith, word_index_within (length r.list) i some_room') in (
        w,
        keeps,
        tt,
        subst (λ (q : ℕ). IsKept (stepped s q b id me.1 w keeps)) (sym here) record {
          list = r.list;
          next = r.next ++ b ∷ [];
          writer = r.writer;
          wide = length-set s.words p b ∙ r.wide;
          number = get_or-set_other s.words p 0 b 0 (λ e. omega arith) ∙ r.number;
          revisions = r.revisions;
          whole = λ n j inside recent hj. get_or-set_other s.words p (word_index n j) b 0
              (word_index_apart n (length r.list) j i hj some_room' (omega arith) (omega arith) (λ e. omega arith)) ∙ r.whole n j inside recent hj;
          stored = λ j h. dite (ℕ_discrete j i)
              (λ e. ap (λ (z : ℕ). get_or (set s.words p b) (word_index (length r.list) z) 0) e
              ∙ (get_or-set_same s.words p b 0 within ∙ sym (get_or_push r.next b 0 j (sym e))))
              (λ other. let l : j < i = omega (arith, length_push r.next b)
              in get_or-set_other s.words p (word_index (length r.list) j) b 0 (word_index_apart_words (length r.list) j i other)
              ∙ (r.stored j l ∙ sym (get_or_append_left r.next (b ∷ []) 0 j l)));
          room = omega (arith, length_push r.next b);
          one = keeps_one s.views id r.writer me.0 w at refl r.one;
          each = each_set (Knows r.list (r.next ++ b ∷ []) r.writer) s.views id w
              record { part = λ _. (known.0, known.1, ap (λ (l : List ℕ). l ++ b ∷ []) known.2); begun = k.begun; older = k.older; whole = k.whole }
              (λ j d other e. let q = r.each j d e
              in record { part = λ t. absurd (other ((q.part t).0 ∙ sym known.0)); begun = q.begun; older = q.older; whole = q.whole });
        },
        refl,
      )

  -- the writer stores the number of the next revision, which gets the name h
  pub publishes : (slots id : ℕ) (me : Me S (View H)) (n : ℕ) (names : List H) (h : H) → me.0.writes ≡ true → names ≡ h ∷ []
      → IsRevision (length me.0.list) me.0.next → n ≡ length me.0.list
      → Allows IsKept slots id me 0 (λ _. n) (λ _. StoresNumber names (step slots 0 n 0 none) me n)
  publishes slots id me n names h writes names_is revision number s r _ at _ =
      let k = r.each id me.0 at in let known = k.part writes in
      let w : View H = with_names me.0 names in
      let x : Published H = published r.next h in
      let P : Log H × List ℕ → Type 0 = λ p. IsRevision (length p.0) p.1 in
      let rev : IsRevision (length r.list) r.next = subst P (λ z. (known.1 z, known.2 z)) revision in
      let full : length r.next ≡ 8 = rev.0 in
      let count : n ≡ length r.list = number ∙ ap (λ (l : Log H). length l) known.1 in
      let wide = r.wide in
      let list' : Log H = r.list ++ x ∷ [] in
      let long : length list' ≡ length r.list + 1 = length_push r.list x in (
        w,
        keeps,
        tt,
        record {
          list = list';
          next = [];
          writer = r.writer;
          wide = length-set s.words 0 n ∙ r.wide;
          number = get_or-set_same s.words 0 n 0 (omega arith) ∙ omega arith;
          revisions = λ m inside. dite (ℕ_discrete m (length r.list))
              (λ e. subst (IsRevision m) (sym (words_at-last m r.list x e)) (subst (λ (z : ℕ). IsRevision z r.next) (sym e) rev))
              (λ other. let l : m < length r.list = omega arith in subst (IsRevision m) (sym (words_at-append m r.list (x ∷ []) l)) (r.revisions m l));
          whole = λ m i inside recent hi. get_or-set_other s.words 0 (word_index m i) n 0 (λ e. omega arith) ∙ dite (ℕ_discrete m (length r.list))
              (λ e. ap (λ (z : ℕ). get_or s.words (word_index z i) 0) e
              ∙ (r.stored i (omega arith) ∙ ap (λ (ws : List ℕ). get_or ws i 0) (sym (words_at-last m r.list x e))))
              (λ other. let l : m < length r.list = omega arith in r.whole m i l (omega arith) hi
              ∙ ap (λ (ws : List ℕ). get_or ws i 0) (sym (words_at-append m r.list (x ∷ []) l)));
          stored = λ i h. absurd (omega arith);
          room = omega arith;
          one = keeps_one s.views id r.writer me.0 w at refl r.one;
          each = each_set (Knows list' [] r.writer) s.views id w
              (grown r.list r.next [] r.writer id x me.0 w k
              (λ _. (known.0, (λ z. known.1 z ++ map (published (known.2 z)) (names_is z)), refl)) refl refl refl)
              (λ j d other e. let q = r.each j d e
              in grown r.list r.next [] r.writer j x d d q (λ t. absurd (other ((q.part t).0 ∙ sym known.0))) refl refl refl);
        },
        refl,
      )

  -- a seat loads the number, where some revision is published: it then has seen the whole list
  looks_at : (s : State S (View H)) (r : IsKept s) (slots id : ℕ) (me : Me S (View H)) (trying : Bool) → get_elem? s.views id ≡ some me.0 → 0 < length r.list
      → (w : View H) × (a : Act S) × Valid s.homes me.1 a × IsKept (stepped s 0 (get_or s.words 0 0) id me.1 w a)
      × LoadsNumber trying (step slots 0 0 0 none) me (get_or s.words 0 0) (w, carried_after me.1 a)
  looks_at s r slots id me trying at some_revision =
      let k = r.each id me.0 at in
      let w : View H = with_seen me.0 (get_or s.words 0 0) r.list trying in
      let count = r.number in (
        w,
        keeps,
        tt,
        unmoved s r 0 id me.1 me.0 w at refl record { part = k.part; begun = begun_all r.list; older = refl; whole = λ _ _. refl },
        (
          refl,
          record {
            number = omega arith;
            begun = k.begun;
            older = k.older;
            revisions = r.revisions;
            whole = k.whole;
            all = λ t. sym (k.part t).1;
          },
        ),
      )

  -- a viewer loads the number
  pub looks : (slots id : ℕ) (me : Me S (View H)) (trying : Bool) → 0 < length me.0.seen
      → Allows IsKept slots id me 0 (λ n. n) (LoadsNumber trying (step slots 0 0 0 none) me)
  looks slots id me trying some_seen s r _ at _ = let k =
      r.each id me.0 at in looks_at s r slots id me trying at (omega (arith, begun_length r.list me.0.seen k.begun))

  -- the writer, who has seen nothing yet, loads the number
  pub looks_all : (slots id : ℕ) (me : Me S (View H)) (trying : Bool) → me.0.writes ≡ true → 0 < length me.0.list
      → Allows IsKept slots id me 0 (λ n. n) (LoadsNumber trying (step slots 0 0 0 none) me)
  looks_all slots id me trying writes some_list s r _ at _ = let k =
      r.each id me.0 at in looks_at s r slots id me trying at (subst (λ (l : Log H). 0 < length l) (k.part writes).1 some_list)

  -- a viewer loads a word of the revision at its floor
  pub loads : (slots id : ℕ) (me : Me S (View H)) (word : ℕ) → 0 < length me.0.seen → length me.0.held < 8
      → word ≡ word_index (length me.0.seen - 1) (length me.0.held)
      → Allows IsKept slots id me word (λ n. n) (LoadsWord (step slots word 0 0 none) me)
  loads slots id me word some_seen some_left at_index s r _ at _ =
      let k = r.each id me.0 at in
      let n : ℕ = length me.0.seen - 1 in
      let i : ℕ = length me.0.held in
      let found : ℕ = get_or s.words word 0 in
      let w : View H = with_held me.0 found in
      let ws : List ℕ = words_at n r.list in (
        w,
        keeps,
        tt,
        unmoved s r word id me.1 me.0 w at refl record {
          part = k.part;
          begun = k.begun;
          older = k.older;
          whole = λ _ recent.
              let within : n < length r.list = omega (arith, begun_length r.list me.0.seen k.begun) in
              let long = (r.revisions n within).0 in
              let read : found ≡ get_or ws i 0 = ap (λ (z : ℕ). get_or s.words z 0) at_index ∙ r.whole n i within (omega arith) some_left in
              let l : i < length ws = omega arith in
              let was = k.whole some_seen recent in
              ap (λ (m : ℕ). take m ws) (length_push me.0.held found) ∙ (take_more ws i 0 l ∙ (λ z. was z ++ sym read z ∷ []));
        },
        refl,
      )

  -- the first table has no revision yet
  pub begins : IsKept {H = H} {S = S} (opening (replicate 33 0) [] blank)
  begins = record {
    list = [];
    next = [];
    writer = 0;
    wide = refl;
    number = refl;
    revisions = λ n h. absurd (omega arith);
    whole = λ n i h. absurd (omega arith);
    stored = λ i h. absurd (omega arith);
    room = omega arith;
    one = (blank, refl, refl);
    each = each_blank;
  }

  -- a seat is split, and a writer's part goes to the new one
  pub splits : (id : ℕ) (v : View H) → Splits (IsKept {H = H} {S = S}) id v (without_writer v) (without_try v)
  splits id v s r at =
      let k = r.each id v at in
      let left : View H = without_writer v in
      let right : View H = without_try v in
      let end : ℕ = length (set s.views id left) in
      let writer : ℕ = cond v.writes end r.writer in
      record {
        list = r.list;
        next = r.next;
        writer = writer;
        wide = r.wide;
        number = r.number;
        revisions = r.revisions;
        whole = r.whole;
        stored = r.stored;
        room = r.room;
        one = split_one v.writes s.views id r.writer v left right at refl refl r.one;
        each = λ j d e. ⊎_elim
            (each_set (Knows r.list r.next writer) s.views id left
            record { part = λ t. absurd (false≢true t); begun = k.begun; older = k.older; whole = k.whole }
            (λ i u other there. let q = r.each i u there in record {
              part = λ t. (split_part v.writes i id end r.writer (λ a. (k.part a).0) other (q.part t).0, (q.part t).1, (q.part t).2);
              begun = q.begun;
              older = q.older;
              whole = q.whole;
            }) j d)
            (λ (t : (j ≡ end) × (right ≡ d)). subst (Knows r.list r.next writer j) t.1
            record {
              part = λ a. (given_part v.writes j end r.writer a t.0, (k.part a).1, (k.part a).2);
              begun = k.begun;
              older = k.older;
              whole = λ _ _. refl;
            })
            (at_end (set s.views id left) right d j e);
      }

  -- a seat takes in another, which is spent
  pub joins : (id : ℕ) (v : View H) (other : ℕ) (w : View H) → Joins (IsKept {H = H} {S = S}) id v other w (united v w) idle
  joins id v other w s r at apart there =
      let both : View H = united v w in
      let k = r.each id v at in
      let here = sym (set_else s.views id other both apart) ∙ there in
      let l = r.each other w here in
      let writer : ℕ = cond v.writes r.writer (cond w.writes id r.writer) in
      let middle : List (View H) = set s.views id both in
      record {
        list = r.list;
        next = r.next;
        writer = writer;
        wide = r.wide;
        number = r.number;
        revisions = r.revisions;
        whole = r.whole;
        stored = r.stored;
        room = r.room;
        one = join_one v.writes w.writes s.views id other r.writer v w both idle apart at here refl refl refl
            (λ a. (k.part a).0) (joined_here s.views id other v both idle apart at) r.one;
        each = each_set (Knows r.list r.next writer) middle other idle
            record { part = λ t. absurd (false≢true t); begun = refl; older = refl; whole = λ _ _. refl }
            (λ j d not_other e. each_set (λ i u. i ≢ other → Knows r.list r.next writer i u) s.views id both
            (λ _. record {
              part = joined_part v.writes w.writes id other r.writer v.list w.list r.list v.next w.next r.next k.part l.part;
              begun = either_begun r.list _ v.seen w.seen k.begun l.begun;
              older = either_begun r.list _ w.seen v.seen l.begun k.begun;
              whole = λ _ _. refl;
            })
            (λ i u _ e' not_o. let q = r.each i u e' in record {
              part = λ t. (others_part v.writes w.writes i id other r.writer (λ a. (l.part a).0) not_o (q.part t).0, (q.part t).1, (q.part t).2);
              begun = q.begun;
              older = q.older;
              whole = q.whole;
            }) j d e not_other);
      }

  -- the writer stores the word i of a revision whose words before it are stored
  pub stores_next : (slots id : ℕ) (me : Me S (View H)) (v : View H) (cs : List (ℕ × S)) (words : List ℕ) (number i word : ℕ)
      → me ≡ (with_next v (take i words), cs) → v.writes ≡ true → length v.list ≡ number → length words ≡ 8 → i < 8 → word ≡ word_index number i
      → Allows IsKept slots id me word (λ _. get_or words i 0) (λ _. StoresWord (step slots word (get_or words i 0) 0 none) me (get_or words i 0))
  stores_next slots id me v cs words number i word is writes count long some_room at_index =
      let stored_is : length me.0.next ≡ i = ap (λ (x : Me S (View H)). length x.0.next) is ∙ length-take-le i words (omega arith) in
      let list_is : length me.0.list ≡ number = ap (λ (x : Me S (View H)). length x.0.list) is ∙ count in
      stores slots id me word (get_or words i 0) (ap (λ (x : Me S (View H)). x.0.writes) is ∙ writes) (omega arith)
      (at_index ∙ (λ z. word_index (sym list_is z) (sym stored_is z)))

  -- what was stored, once the word i is stored too
  pub stored_next : (me me' : Me S (View H)) (v : View H) (cs : List (ℕ × S)) (words : List ℕ) (i n : ℕ)
      → me ≡ (with_next v (take i words), cs) → me' ≡ (with_word me.0 n, me.1) → n ≡ get_or words i 0 → i < length words
      → me' ≡ (with_next v (take (i + 1) words), cs)
  stored_next me me' v cs words i n is next n_is inside =
      next ∙ ((λ z. (with_word (is z).0 (n_is z), (is z).1)) ∙ (λ z. (with_next v (sym (take_more words i 0 inside) z), cs)))

  -- the writer stores the number of a revision whose words are all stored
  pub publishes_next : (slots id : ℕ) (me : Me S (View H)) (number : ℕ) (names : List H) (h : H) → me.0.writes ≡ true
      → length me.0.list ≡ number → IsRevision number me.0.next → names ≡ h ∷ []
      → Allows IsKept slots id me 0 (λ _. number) (λ _. StoresNumber names (step slots 0 number 0 none) me number)
  publishes_next slots id me number names h writes count revision names_is =
      publishes slots id me number names h writes names_is (subst (λ (n : ℕ). IsRevision n me.0.next) (sym count) revision) (sym count)

  -- a viewer loads the word i of the revision at its floor
  pub loads_next : (slots id : ℕ) (me : Me S (View H)) (number i word : ℕ) → number + 1 ≡ length me.0.seen → i ≡ length me.0.held → i < 8
      → word ≡ word_index number i → Allows IsKept slots id me word (λ n. n) (LoadsWord (step slots word 0 0 none) me)
  loads_next slots id me number i word floor held some_left at_index =
      let number_is : number ≡ length me.0.seen - 1 = omega arith in
      loads slots id me word (omega arith) (omega arith) (at_index ∙ (λ z. word_index (number_is z) (held z)))

  -- nothing is stored at first
  pub start_next : (me : Me S (View H)) (words : List ℕ) → me.0.next ≡ [] → me ≡ (with_next me.0 (take 0 words), me.1)
  start_next me words is z = (with_next me.0 (is z), me.1)
