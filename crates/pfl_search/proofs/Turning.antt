-- Turns: each is of a choice that has a use left, and a use that was taken is given back.
use Rattle.std.specs.Prelude.{◌≡◌, ℕ, zero, suc, ◌+◌, ◌<◌, ◌≤◌, Bool, true, false, ◌&&◌, nat_le, nat_lt, cond, List, [], ◌∷◌, ◌++◌, length, map, Contains}
use Rattle.std.specs.Prelude.{slice_get, slice_index_or, slice_set, drop, Option, Some, refl}
use Rattle.std.proofs.Common.{◌∙◌, ap, sym, subst, inl, inr, arith, lt-ltb, ltb-true, append_assoc}
use Rattle.std.proofs.lemmas.Bool.{and_parts, le-leb, leb-true}
use Rattle.std.proofs.lemmas.List.{append-nil, at_drop_more, at_drop_all}
use Rattle.std.proofs.lemmas.List.Elements.{Contains-append_cases, Contains-append_left, Contains-append_right, filter-append}
use Rattle.pfl_language.specs.declared.event.Event.{Event}
use Rattle.pfl_world.specs.Worlds.{World}
use Rattle.pfl_edits.specs.Maps as maps
use Rattle.pfl_language.specs.declared.event.Event.TheVariants as event
use Rattle.pfl_language.specs.declared.event.FrameEvent.{FrameEvent}
use Rattle.pfl_link.specs.Framed.{Ticketed, entry_of}
use Rattle.pfl_link.specs.Links.{InFlight}
use Rattle.pfl_search.proofs.Lists.{from_map, in_map, nothing_in}
use Rattle.pfl_language.specs.declared.choice.Move.{Move}
use Rattle.pfl_language.specs.declared.choice.Move.TheVariants.{AnyFrame}
use Rattle.pfl_search.specs.Choices.{Stage, instances, once_less, stage, turn, turn_on, turns, turns_from, turns_of, used}
use Rattle.pfl_language.specs.declared.choice.Choice.{Choice}
use Rattle.pfl_search.specs.declared.turns.Candidate.{Candidate}
use Rattle.pfl_search.specs.declared.order.Last.{Last}
use Rattle.pfl_search.specs.Orders.{in_phase, is_in_turn}
use Rattle.pfl_search.specs.Visits.{in_turn}
use Rattle.pfl_search.specs.inner.Turns.{IsOf}

-- the turn is of a choice in a list whose first one stands at this place
record Of (begun place : ℕ) (w : World) (cs : List Choice) (t : Candidate) : Type 0 where
  pub index : ℕ
  pub is : t.place ≡ place + index
  pub choice : Choice
  pub at : slice_get cs index ≡ Some choice
  pub not_over : begun ≤ choice.phase
  pub left : 0 < choice.uses
  pub same_phase : t.phase ≡ choice.phase
  pub fits : Contains (instances w choice.what) t.event

own : (begun place : ℕ) (w : World) (c : Choice) (cs : List Choice) (t : Candidate) (b : Bool) → nat_le begun c.phase && nat_lt 0 c.uses ≡ b
    → Contains (cond b (map (turn place c.phase) (instances w c.what)) []) t → Of begun place w (c ∷ cs) t
own begun place w c cs t true at h =
    let from = from_map (turn place c.phase) (instances w c.what) t h in
    let both = and_parts (nat_le begun c.phase) (nat_lt 0 c.uses) at in
    record {
      index = 0;
      is = sym (ap (λ (s : Candidate). s.place) from.2) ∙ (omega arith);
      choice = c;
      at = refl;
      not_over = leb-true begun c.phase both.0;
      left = ltb-true 0 c.uses both.1;
      same_phase = sym (ap (λ (s : Candidate). s.phase) from.2);
      fits = subst (λ (s : Candidate). Contains (instances w c.what) s.event) from.2 from.1;
    }
own begun place w c cs t false at h = absurd (nothing_in t h)

of_from : (begun place : ℕ) (w : World) (cs : List Choice) (t : Candidate) → Contains (turns_from begun place w cs) t → Of begun place w cs t
of_from begun place w [] t h = absurd (nothing_in t h)
of_from begun place w (c ∷ cs) t h = elim (Contains-append_cases (turns_of begun w place c) (turns_from begun (place + 1) w cs) t h) [
  | inl l ↦ own begun place w c cs t (nat_le begun c.phase && nat_lt 0 c.uses) refl l
  | inr r ↦
      let later = of_from begun (place + 1) w cs t r in
      let is = later.is in
      record {
        index = suc later.index;
        is = omega arith;
        choice = later.choice;
        at = later.at;
        not_over = later.not_over;
        left = later.left;
        same_phase = later.same_phase;
        fits = later.fits;
      }
]

-- an event of a choice whose phase is not over and that has a use left, at the place and in the phase of the turn
pub record Tried (st : Stage) (w : World) (t : Candidate) : Type 0 where
  pub choice : Choice
  pub at : slice_get st.choices t.place ≡ Some choice
  pub not_over : st.phase ≤ choice.phase
  pub left : 0 < choice.uses
  pub same_phase : t.phase ≡ choice.phase
  pub fits : Contains (instances w choice.what) t.event

-- each turn is one
pub tried : (st : Stage) (w : World) (t : Candidate) → Contains (turns st w) t → Tried st w t
unfolding turns
tried st w t h =
    let from = of_from st.phase 0 w st.choices t h in
    let e = from.is in
    let same : from.index ≡ t.place = omega arith in
    record {
      choice = from.choice;
      at = subst (λ (n : ℕ). slice_get st.choices n ≡ Some from.choice) same from.at;
      not_over = from.not_over;
      left = from.left;
      same_phase = from.same_phase;
      fits = from.fits;
    }

pub of_turns : (st : Stage) (w : World) (t : Candidate) → Contains (turns st w) t → IsOf st.choices t
of_turns st w t h = let parts = tried st w t h in record { choice = parts.choice; at = parts.at; left = parts.left }

both_true : (a b : Bool) → a ≡ true → b ≡ true → a && b ≡ true
both_true true true p q = refl
both_true true false p q = absurd cc
both_true false b p q = absurd cc

has_own : (begun place : ℕ) (w : World) (c : Choice) (e : Event) → begun ≤ c.phase → 0 < c.uses → Contains (instances w c.what) e
    → Contains (turns_of begun w place c) (turn place c.phase e)
has_own begun place w c e not_over left h =
    rw (both_true (nat_le begun c.phase) (nat_lt 0 c.uses) (le-leb begun c.phase not_over) (lt-ltb 0 c.uses left))
    (in_map (turn place c.phase) (instances w c.what) e h)

has_from : (cs : List Choice) (begun place : ℕ) (w : World) (n : ℕ) (c : Choice) (e : Event) → slice_get cs n ≡ Some c → begun ≤ c.phase → 0 < c.uses
    → Contains (instances w c.what) e → (m : ℕ) → m ≡ place + n → Contains (turns_from begun place w cs) (turn m c.phase e)
has_from [] begun place w n c e at not_over left h m is = absurd cc
has_from (d ∷ cs) begun place w zero c e at not_over left h m is =
    let same : c ≡ d = cc in
    let here : place ≡ m = omega arith in
    subst (λ (n : ℕ). Contains (turns_from begun place w (d ∷ cs)) (turn n c.phase e)) here
    (Contains-append_left (turns_of begun w place d) (turns_from begun (place + 1) w cs) (turn place c.phase e)
    (subst (λ (x : Choice). Contains (turns_of begun w place x) (turn place c.phase e)) same (has_own begun place w c e not_over left h)))
has_from (d ∷ cs) begun place w (suc n) c e at not_over left h m is =
    Contains-append_right (turns_of begun w place d) (turns_from begun (place + 1) w cs) (turn m c.phase e)
    (has_from cs begun (place + 1) w n c e at not_over left h m (omega arith))

-- and each such event is a turn
pub has_turn : (st : Stage) (w : World) (place : ℕ) (c : Choice) (e : Event) → slice_get st.choices place ≡ Some c → st.phase ≤ c.phase → 0 < c.uses
    → Contains (instances w c.what) e → Contains (turns st w) (turn place c.phase e)
unfolding turns
has_turn st w place c e at not_over left h = has_from st.choices st.phase 0 w place c e at not_over left h place (omega arith)

-- ---- at a place

pub get_within : {X : Type 0} (xs : List X) (n : ℕ) (x : X) → slice_get xs n ≡ Some x → n < length xs
get_within [] n x e = absurd cc
get_within (y ∷ ys) zero x e = omega arith
get_within (y ∷ ys) (suc n) x e = let lt = get_within ys n x e in omega arith

pub get_read : {X : Type 0} (xs : List X) (n : ℕ) (x y : X) → slice_get xs n ≡ Some x → y ≡ slice_index_or xs n y → y ≡ x
get_read [] n x y e is = absurd cc
get_read (z ∷ zs) zero x y e is = is ∙ (cc)
get_read (z ∷ zs) (suc n) x y e is = get_read zs n x y e is

-- a use is taken
pub used-is : (cs : List Choice) (n : ℕ) (c : Choice) → slice_get cs n ≡ Some c → slice_set cs n (once_less c) ≡ used cs n
unfolding used
used-is [] n c e = absurd cc
used-is (d ∷ cs) zero c e = let same : c ≡ d = cc in ap (λ (x : Choice). once_less x ∷ cs) same
used-is (d ∷ cs) (suc n) c e = ap (λ (xs : List Choice). d ∷ xs) (used-is cs n c e)

-- and given back
pub given_back : (cs : List Choice) (n : ℕ) (c : Choice) → slice_get cs n ≡ Some c → slice_set (used cs n) n c ≡ cs
unfolding used
given_back [] n c e = absurd cc
given_back (d ∷ cs) zero c e = let same : c ≡ d = cc in ap (λ (x : Choice). x ∷ cs) same
given_back (d ∷ cs) (suc n) c e = ap (λ (xs : List Choice). d ∷ xs) (given_back cs n c e)

pub length-used : (cs : List Choice) (n : ℕ) → length (used cs n) ≡ length cs
unfolding used
length-used [] n = refl
length-used (d ∷ cs) zero = refl
length-used (d ∷ cs) (suc n) = ap suc (length-used cs n)

-- ---- as they are listed

by_rows : (place phase : ℕ) (e : FrameEvent) (rows : List Ticketed)
    → map (λ t. turn_on place phase e t.ticket) rows ≡ map (turn place phase) (map (λ ticket. event.Of ticket e) (map (λ x. x.0) (map entry_of rows)))
by_rows place phase e [] = refl
by_rows place phase e (r ∷ rows) = ap (λ (ts : List Candidate). turn_on place phase e r.ticket ∷ ts) (by_rows place phase e rows)

-- the turns of the frames in flight
pub frame_turns : (place phase : ℕ) (w : World) (e : FrameEvent) (what : Move) (rows : List Ticketed) → what ≡ AnyFrame e
    → map entry_of rows ≡ maps.entries w.link.frames
    → map (λ t. turn_on place phase e t.ticket) rows ≡ map (turn place phase) (instances w what)
frame_turns place phase w e what rows is all =
    by_rows place phase e rows
    ∙ ap (λ (es : List (ℕ × InFlight)). map (turn place phase) (map (λ ticket. event.Of ticket e) (map (λ x. x.0) es))) all
    ∙ ap (λ (m : Move). map (turn place phase) (instances w m)) (sym is)

module _ (last : Option Last) (begun : ℕ) (w : World) where
  -- a choice more
  pub turns_more : (cs : List Choice) (place : ℕ) (c : Choice) (ts us : List Candidate) → place < length cs
      → c ≡ slice_index_or cs place c → us ≡ ts ++ in_turn last begun w (turns_of begun w place c)
      → us ++ in_turn last begun w (turns_from begun (place + 1) w (drop (place + 1) cs))
      ≡ ts ++ in_turn last begun w (turns_from begun place w (drop place cs))
  turns_more cs place c ts us within is added =
      let p : Candidate → Bool = λ t. is_in_turn (in_phase last begun t.phase) w t.event in
      let others = turns_from begun (place + 1) w (drop (place + 1) cs) in
      let here : turns_of begun w place c ++ others ≡ turns_from begun place w (drop place cs) =
      ap (λ (d : Choice). turns_of begun w place d ++ others) is ∙ sym (at_drop_more (turns_from begun place w) cs place c within) in
      ap (λ (xs : List Candidate). xs ++ in_turn last begun w others) added
      ∙ append_assoc ts (in_turn last begun w (turns_of begun w place c)) (in_turn last begun w others)
      ∙ ap (λ (xs : List Candidate). ts ++ xs) (sym (filter-append p (turns_of begun w place c) others) ∙ ap (in_turn last begun w) here)

  -- no choice is left
  pub turns_all : (cs : List Choice) (place : ℕ) (before ts : List Candidate) → length cs ≤ place
      → ts ++ in_turn last begun w (turns_from begun place w (drop place cs)) ≡ before ++ in_turn last begun w (turns_from begun 0 w cs)
      → ts ≡ before ++ in_turn last begun w (turns (stage cs begun) w)
  unfolding turns
  turns_all cs place before ts past is =
      let none = at_drop_all (λ (ds : List Choice). in_turn last begun w (turns_from begun place w ds)) cs place past in
      sym (append-nil ts) ∙ ap (λ (xs : List Candidate). ts ++ xs) (sym none) ∙ is
