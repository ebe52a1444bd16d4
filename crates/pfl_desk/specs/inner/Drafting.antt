-- What is true of each draft, and what one change of the parts adds to it.
use Rattle.std.specs.Prelude.{◌≡◌, ◌≤◌, ℕ, ◌+◌, ◌^◌, false, List, [], ◌∷◌, ◌++◌, length, Option, Some, None}
use Rattle.pfl_edits.specs.Changes.{Edits, Fits, LeadsBack}
use Rattle.pfl_desk.specs.declared.edit.NodeEdit.{NodeEdit}
use Rattle.pfl_desk.specs.Drafts.{Draft, began}
use Rattle.pfl_desk.specs.Edits.{Finds, put_back, total}
use Rattle.pfl_desk.specs.Nodes.{Node, AreParts, is_overcounted}

-- a draft never has room for more edits: so no number comes near the last one that the code has
abbrev pub most_room : ℕ
most_room = 2 ^ 40

-- The edits can be taken back, the event began with numbers that are not past the greatest, and each edit counts at most one more.
pub record IsDraft (d : Draft) : Type 0 where
  pub fits : Fits Finds AreParts put_back d.edits.list d.node
  pub start : is_overcounted (began d) ≡ false
  pub counted : total d.node ≤ total (began d) + length d.edits.list
  pub room : d.edits.spare + length d.edits.list ≤ most_room

-- edits were made on the way from one node to another
pub record Makes (es : List NodeEdit) (a b : Node) : Type 0 where
  pub leads_back : LeadsBack Finds AreParts put_back es a b
  pub counted : total b ≤ total a + length es

-- one edit was made, if any
abbrev pub MakesIf : Option NodeEdit → Node → Node → Type 0
MakesIf (Some e) a b = Makes (e ∷ []) a b
MakesIf None a b = b ≡ a

-- one edit was recorded, if any
abbrev pub Wrote : Option NodeEdit → Edits NodeEdit → Edits NodeEdit → Type 0
Wrote (Some e) x y = (y.list ≡ x.list ++ e ∷ []) × (y.spare + 1 ≡ x.spare)
Wrote None x y = y ≡ x
