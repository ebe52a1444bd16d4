-- Which held packets stay held, where a node's list of them changes at one name.
use Rattle.std.specs.Prelude.{◌≡◌, ◌≢◌, Bool, true, false, List, [], ◌∷◌, ◌++◌, find, Some}
use Rattle.std.proofs.Common.{◌∙◌, cond, ap, sym}
use Rattle.pfl_base.specs.declared.state_name.StateName.{StateName}
use Rattle.pfl_base.specs.Names.{is_name}
use Rattle.pfl_edits.proofs.ForCallers.{some_is_none}
use Rattle.pfl_world.specs.defer.declared.Held.{Held}
use Rattle.pfl_world.specs.defer.Deferring.{Deferrals, held_of}
use Rattle.pfl_world.specs.desk.Nodes.{Node}
use Rattle.pfl_world.specs.desk.Changes.{freed, released}
use Rattle.pfl_laws.specs.Laws.{Holds}
use Rattle.pfl_laws.proofs.Tied.{without, others-stay, freed-held, not_waiting-held}

-- what is held stays held where one more is
pub found-on : (hs ks : List Held) (q : StateName) (h : Held) → find (λ k. is_name q k.name) hs ≡ Some h → find (λ k. is_name q k.name) (hs ++ ks) ≡ Some h
found-on [] ks q h e = absurd (some_is_none h (sym e))
found-on (x ∷ hs) ks q h e = by (is_name q x.name) (found-on hs ks q h) e
  where
    by : (b : Bool) → (find (λ k. is_name q k.name) hs ≡ Some h → find (λ k. is_name q k.name) (hs ++ ks) ≡ Some h)
        → cond b (Some x) (find (λ k. is_name q k.name) hs) ≡ Some h → cond b (Some x) (find (λ k. is_name q k.name) (hs ++ ks)) ≡ Some h
    by true rest f = f
    by false rest f = rest f

-- the same packets are held
pub same-holds : (h : Held) (n m : Node) → m.held ≡ n.held → Holds n h → Holds m h
same-holds h n m e holds = ap (λ (d : Deferrals). held_of d h.name) e ∙ holds

-- the packet of another name goes
pub other-holds : (h : Held) (n m : Node) (name : StateName) → m.held ≡ without n.held name → h.name ≢ name → Holds n h → Holds m h
other-holds h n m name e other holds = ap (λ (d : Deferrals). held_of d h.name) e ∙ others-stay n.held name h.name other ∙ holds

pub released-held : (n : Node) (name : StateName) → (released n name).held ≡ without n.held name
released-held n name = not_waiting-held (freed n name) name ∙ freed-held n name
