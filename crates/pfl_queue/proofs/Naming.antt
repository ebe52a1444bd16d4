-- The slot of a name is found among those of the name's tag.
use Rattle.std.specs.Prelude.{◌≡◌, ◌↔◌, ℕ, Bool, true, false, Option, IsTrue, refl}
use Rattle.std.specs.Ordering.{nat_cmp}
use Rattle.std.proofs.Common.{◌∙◌, ap, sym}
use Rattle.pfl_base.specs.declared.state_name.StateName.{StateName}
use Rattle.pfl_base.proofs.ForCallers.{names_total, names_exact}
use Rattle.pfl_edits.specs.Maps.{Map}
use Rattle.pfl_containers.specs.Lists.{Lists, Place}
use Rattle.pfl_containers.specs.Slots.{HasTag, FindsBy}
use Rattle.pfl_containers.proofs.ForCallers.{tagged-found, tagged-stands}
use Rattle.pfl_queue.specs.declared.Mark.{Mark}
use Rattle.pfl_queue.specs.inner.Marked.{mark_name, name_tag, all_links, slot_named, AreTagged}
use Rattle.pfl_queue.proofs.Joined.{place}

-- the answer for a slot says whether its mark has the name
abbrev IsNamed : Lists Mark → StateName → ℕ → Bool → Type 0
IsNamed c name slot is_it = (at : Place c slot) → IsTrue is_it ↔ (at.value.name ≡ name)

module _ (c : Lists Mark) (tags : Map nat_cmp ℕ) (tagged : AreTagged c.lists tags) where
  -- a slot with a tag stands in a list
  pub tag-place : (slot t : ℕ) → HasTag tags t slot → Place c slot
  tag-place slot t has =
      let s = tagged-stands names_total names_exact mark_name name_tag (all_links c.lists) tags slot t tagged has in
      (place c slot s.0 s.1).at

  -- a search among the slots of a name's tag finds the slot of the mark that has the name
  pub slot-found : (name : StateName) (t : ℕ) (found : Option ℕ) → t ≡ name_tag name → FindsBy (IsNamed c name) tags t found
      → found ≡ slot_named (all_links c.lists) name
  slot-found name t found is finds =
      tagged-found names_total names_exact mark_name name_tag (IsNamed c name) (all_links c.lists) tags name t found tagged is finds
      (λ slot v s its. let p = place c slot v s in sym (ap mark_name p.is) ∙ (its p.at).0 refl)
      (λ slot v s other its. let p = place c slot v s in never ((other p.at).1 (ap mark_name p.is ∙ its)))
    where
      never : false ≡ true → ⊥
      never e = cc
