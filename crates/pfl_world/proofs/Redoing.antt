-- What is kept of an edit of the link, as what is kept of one of the pair.
use Rattle.std.specs.Prelude.{◌≡◌}
use Rattle.std.proofs.Common.{◌∙◌, ap, sym, subst}
use Rattle.pfl_link.specs.LinkEdits as links
use Rattle.pfl_link.specs.LinkEdits.{LinkEdit}
use Rattle.pfl_link.specs.Links.{Link, IsLink}
use Rattle.pfl_link.specs.Undone as links_undone
use Rattle.pfl_link.specs.Undone.{LinkUndone}
use Rattle.pfl_world.specs.declared.edit.WorldEdit.{WorldEdit}
use Rattle.pfl_world.specs.declared.edit.WorldEdit.TheVariants.{OfNode, OfLink, OfRestart}
use Rattle.pfl_world.specs.declared.undone.WorldUndone.{WorldUndone}
use Rattle.pfl_world.specs.declared.undone.WorldUndone.TheVariants as kept
use Rattle.pfl_world.specs.WorldEdits.{FindsFormer, redone, undone}
use Rattle.pfl_world.specs.Worlds.{World, IsWorld, PartsAgree, with_link}

-- some edit, of which this is kept, can be redone
abbrev pub IsAsked : {M : Type 0} → WorldUndone M → World → Type 0
IsAsked {M = M} was w = (e : WorldEdit M) × (undone e ≡ was) × FindsFormer e w × IsWorld (redone e w)

same_kept : {M : Type 0} (k m : LinkUndone) → ◌≡◌ {A = WorldUndone M} (kept.OfLink k) (kept.OfLink m) → k ≡ m
same_kept k m e = cc

-- The link of a world w, which is the old one, and what was kept of an edit of the link.
module _ {M : Type 0} (w old : World) (view : w ≡ old) (k : LinkUndone) (was : WorldUndone M) (of_link : was ≡ kept.OfLink k) where
  asked_of : (e : WorldEdit M) → undone e ≡ kept.OfLink k → FindsFormer e w → IsWorld (redone e w)
      → (l : LinkEdit) × (links_undone.undone l ≡ k) × links.FindsFormer l w.link × IsLink (links.redone l w.link)
  asked_of (OfNode id n) is found allowed = absurd cc
  asked_of (OfLink l) is found allowed = (l, same_kept {M = M} _ _ is, found, allowed.link)
  asked_of (OfRestart r) is found allowed = absurd cc

  -- some edit of the link can be redone
  pub link_asked : IsAsked was old → (l : LinkEdit) × (links_undone.undone l ≡ k) × links.FindsFormer l w.link × IsLink (links.redone l w.link)
  link_asked asked =
      let here : IsAsked was w = subst (IsAsked was) (sym view) asked in
      asked_of here.0 (here.1 ∙ of_link) here.2 here.3

  module _ (new : Link) (made : LinkEdit) (ensured : (l : LinkEdit) → links_undone.undone l ≡ k → links.FindsFormer l w.link
      → (new ≡ links.redone l w.link) × (made ≡ l)) where
    redone_of : (e : WorldEdit M) → undone e ≡ kept.OfLink k → FindsFormer e w → (with_link w new ≡ redone e w) × ◌≡◌ {A = WorldEdit M} (OfLink made) e
    redone_of (OfNode id n) is found = absurd cc
    redone_of (OfLink l) is found = let r = ensured l (same_kept {M = M} _ _ is) found in (ap (with_link w) r.0, ap OfLink r.1)
    redone_of (OfRestart r) is found = absurd cc

    -- it is redone at the pair
    pub link_redone : (e : WorldEdit M) → undone e ≡ was → FindsFormer e old → (with_link w new ≡ redone e old) × ◌≡◌ {A = WorldEdit M} (OfLink made) e
    link_redone e is found =
        let r = redone_of e (is ∙ of_link) (subst (FindsFormer e) (sym view) found) in
        (r.0 ∙ ap (redone e) view, r.1)

    -- and the parts agree
    pub link_agrees : IsAsked was old → PartsAgree (with_link w new)
    link_agrees asked = subst PartsAgree (sym (link_redone asked.0 asked.1 asked.2).0) asked.3.parts
