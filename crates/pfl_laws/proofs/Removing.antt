-- What takes a state out with its held packet: a deletion, a forgetting, and many of them, one after another.
use Rattle.std.specs.Prelude.{◌≡◌, ◌≢◌, ◌⊎◌, Bool, true, false, List, [], ◌∷◌, Option, Some, None, refl}
use Rattle.std.specs.List.{fold}
use Rattle.std.proofs.Common.{◌∙◌, cond, ap, sym, subst, arith, inl, inr}
use Rattle.pfl_base.specs.declared.state_name.StateName.{StateName}
use Rattle.pfl_base.proofs.ForCallers.{names_total, names_exact}
use Rattle.pfl_edits.specs.Maps as maps
use Rattle.pfl_edits.proofs.ForCallers.{get-set_at_same, key_cases, some_is_none}
use Rattle.pfl_world.specs.track.declared.state.State.{State}
use Rattle.pfl_world.specs.table.Tables.{States, AreStates}
use Rattle.pfl_world.proofs.ForCallers.table.{AreStates-without}
use Rattle.pfl_world.specs.defer.declared.Held.{Held}
use Rattle.pfl_world.specs.desk.Nodes.{Node}
use Rattle.pfl_world.specs.desk.Changes.{is_held, count_lost, without_held, deleted, forgotten}
use Rattle.pfl_world.proofs.ForCallers.desk.{Rest, deleted-rest}
use Rattle.pfl_laws.specs.Laws.{IsTied, Holds}
use Rattle.pfl_laws.proofs.Following.{Alike, Alike-itself, comes-removed}
use Rattle.pfl_laws.proofs.Keeping.{Keeps, alike-then, keeps-itself, deleted-states, forgotten-states}
use Rattle.pfl_laws.proofs.Tied.{without, tied-out, lost-held, deleted-held, forgotten-held}
use Rattle.pfl_laws.proofs.Holding.{other-holds}

-- no state stands under the name any more, and no packet of it is held; no name is given
pub record Removes (n : Node) (name : StateName) (m : Node) : Type 0 where
  pub creator : m.creator ≡ n.creator
  pub next : m.next_id ≡ n.next_id
  pub limits : m.limits ≡ n.limits
  pub states : m.states ≡ maps.remove n.states name
  pub held : m.held ≡ without n.held name

pub deleted-removes : (n : Node) (s : State) → Removes n s.name (deleted n s)
deleted-removes n s = record {
  creator = ap (λ (r : Rest). r.1.1.1.1.0) (deleted-rest n s);
  next = ap (λ (r : Rest). r.1.1.1.1.1) (deleted-rest n s);
  limits = ap (λ (r : Rest). r.0) (deleted-rest n s);
  states = deleted-states n s;
  held = deleted-held n s ∙ lost-held n s.name;
}

pub forgotten-removes : (n : Node) (name : StateName) → Removes n name (forgotten n name)
unfolding forgotten
forgotten-removes n name = record {
  creator = creator_by (is_held n name);
  next = next_by (is_held n name);
  limits = limits_by (is_held n name);
  states = forgotten-states n name;
  held = forgotten-held n name ∙ lost-held n name;
}
  where
    creator_by : (b : Bool) → (cond b (count_lost (without_held n name)) n).creator ≡ n.creator
    creator_by true = refl
    creator_by false = refl

    next_by : (b : Bool) → (cond b (count_lost (without_held n name)) n).next_id ≡ n.next_id
    next_by true = refl
    next_by false = refl

    limits_by : (b : Bool) → (cond b (count_lost (without_held n name)) n).limits ≡ n.limits
    limits_by true = refl
    limits_by false = refl

-- ---- one

pub removed-keeps : (q : StateName) (n m : Node) (name : StateName) → Removes n name m → Keeps Alike q n m
removed-keeps q n m name out =
    let next = out.next in
    record {
      creator = out.creator;
      next = omega arith;
      limits = out.limits;
      comes = λ t at. comes-removed n.states name q t (ap (λ (l : States). maps.get l q) (sym out.states) ∙ at);
    }

removed-apart : (n m : Node) (name : StateName) → Removes n name m → AreStates n.states → AreStates m.states
removed-apart n m name out are = subst AreStates (sym out.states) (AreStates-without n.states name are)

removed-tied : (n m : Node) (name : StateName) → Removes n name m → IsTied n → IsTied m
removed-tied n m name out tied = tied-out n m name None tied out.states refl out.held

pub removed-none : (n m : Node) (name : StateName) → Removes n name m → maps.get m.states name ≡ None
removed-none n m name out = ap (λ (l : States). maps.get l name) out.states ∙ get-set_at_same names_total names_exact n.states name None

pub removed-holds : (n m : Node) (name : StateName) (h : Held) → Removes n name m → h.name ≢ name → Holds n h → Holds m h
removed-holds n m name h out other holds = other-holds h n m name out.held other holds

-- nothing stands where nothing stood
pub nothing : (q : StateName) (n m : Node) → Keeps Alike q n m → maps.get n.states q ≡ None → maps.get m.states q ≡ None
nothing q n m keeps none = by (maps.get m.states q) refl
  where
    by : (o : Option State) → maps.get m.states q ≡ o → o ≡ None
    by None e = refl
    by (Some t) e = let from = keeps.comes t e in absurd (some_is_none from.state (sym from.at ∙ none))

-- ---- many

module _ {X : Type 0} (out : Node → X → Node) (name : X → StateName) (removes : (n : Node) (x : X) → Removes n (name x) (out n x)) where
  pub all-keep : (q : StateName) (xs : List X) (n : Node) → Keeps Alike q n (fold out n xs)
  all-keep q [] n = keeps-itself Alike q n Alike-itself
  all-keep q (x ∷ xs) n =
      alike-then q n (out n x) (fold out (out n x) xs) (removed-keeps q n (out n x) (name x) (removes n x)) (all-keep q xs (out n x))

  pub all-apart : (xs : List X) (n : Node) → AreStates n.states → AreStates (fold out n xs).states
  all-apart [] n are = are
  all-apart (x ∷ xs) n are = all-apart xs (out n x) (removed-apart n (out n x) (name x) (removes n x) are)

  pub all-tied : (xs : List X) (n : Node) → IsTied n → IsTied (fold out n xs)
  all-tied [] n tied = tied
  all-tied (x ∷ xs) n tied = all-tied xs (out n x) (removed-tied n (out n x) (name x) (removes n x) tied)

  -- a packet stays held where its state stands
  pub all-let : (xs : List X) (n : Node) (h : Held) → Holds n h → Holds (fold out n xs) h ⊎ (maps.get (fold out n xs).states h.name ≡ None)
  all-let [] n h holds = inl holds
  all-let (x ∷ xs) n h holds = elim (key_cases names_total names_exact h.name (name x)) [
    | inl same ↦
        let none = ap (maps.get (out n x).states) same ∙ removed-none n (out n x) (name x) (removes n x) in
        inr (nothing h.name (out n x) (fold out (out n x) xs) (all-keep h.name xs (out n x)) none)
    | inr other ↦ all-let xs (out n x) h (removed-holds n (out n x) (name x) h (removes n x) other holds)
  ]
