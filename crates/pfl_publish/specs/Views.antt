-- What a seat knows, and how each kind of step changes it.
use Rattle.std.specs.Prelude.{ℕ, Bool, true, false, cond, ◌||◌, List, [], ◌∷◌, ◌++◌, map}
use Rattle.pfl_publish.specs.declared.view.Published.{Published}
use Rattle.pfl_publish.specs.declared.view.View.{View}
use Rattle.pfl_publish.specs.Revisions.{Log, published, longer, shorter}

module _ {H : Type 0} where
  -- what the first seat knows before revision 0 is published
  abbrev pub blank : View H
  blank = record { writes = true; list = []; next = []; seen = []; old = []; trying = false; held = []; loads = [] }

  -- what a seat knows that was given up in a join: nothing
  abbrev pub idle : View H
  idle = record { writes = false; list = []; next = []; seen = []; old = []; trying = false; held = []; loads = [] }

  -- these words of the next revision are stored
  abbrev pub with_next : View H → List ℕ → View H
  with_next v words = record { writes = v.writes; list = v.list; next = words; seen = v.seen; old = v.old; trying = v.trying; held = v.held; loads = v.loads }

  -- one word more of the next revision is stored
  abbrev pub with_word : View H → ℕ → View H
  with_word v n = with_next v (v.next ++ n ∷ [])

  -- the list is one longer, and nothing is stored of the next revision
  abbrev pub with_entry : View H → Published H → View H
  with_entry v entry = record {
    writes = v.writes;
    list = v.list ++ entry ∷ [];
    next = [];
    seen = v.seen;
    old = v.old;
    trying = v.trying;
    held = v.held;
    loads = v.loads;
  }

  -- the words that were stored are published, under the name picked
  abbrev pub with_names : View H → List H → View H
  with_names v names = record {
    writes = v.writes;
    list = v.list ++ map (published v.next) names;
    next = [];
    seen = v.seen;
    old = v.old;
    trying = v.trying;
    held = v.held;
    loads = v.loads;
  }

  -- the number n is loaded: this much is seen, and nothing is held
  abbrev pub with_seen : View H → ℕ → Log H → Bool → View H
  with_seen v n seen trying =
      record { writes = v.writes; list = v.list; next = v.next; seen = seen; old = []; trying = trying; held = []; loads = v.loads ++ n ∷ [] }

  -- one word more is held
  abbrev pub with_held : View H → ℕ → View H
  with_held v n = record {
    writes = v.writes;
    list = v.list;
    next = v.next;
    seen = v.seen;
    old = v.old;
    trying = v.trying;
    held = v.held ++ n ∷ [];
    loads = v.loads;
  }

  -- what stays with a seat that is split
  abbrev pub without_writer : View H → View H
  without_writer v = record { writes = false; list = []; next = []; seen = v.seen; old = v.old; trying = v.trying; held = v.held; loads = v.loads }

  -- what the new seat of a split gets
  abbrev pub without_try : View H → View H
  without_try v = record { writes = v.writes; list = v.list; next = v.next; seen = v.seen; old = v.old; trying = false; held = []; loads = [] }

  -- what one seat of two knows: the writer's part of either, the longer list, and the loads of the first
  abbrev pub united : View H → View H → View H
  united v w = record {
    writes = v.writes || w.writes;
    list = cond v.writes v.list w.list;
    next = cond v.writes v.next w.next;
    seen = longer v.seen w.seen;
    old = shorter v.seen w.seen;
    trying = false;
    held = [];
    loads = v.loads;
  }
