use Rattle.pfl_world.specs.Worlds.{joined}
use Rattle.pfl_world.proofs.Redoing.{link_asked, link_redone, link_agrees}
use Rattle.pfl_world.proofs.world.World.redo_edit.Goals as goal

pub redo-requires : goal.redo-requires
redo-requires g c =
    let w = joined c.self.inside.nodes c.self.inside.link c.self.inside.next_boot in
    record { edit = link_asked w _ c.self.view_is c.in-OfLink.kept _ c.in-OfLink.is c.requires.edit }

pub invariant_of-self : goal.invariant_of-self
invariant_of-self g c =
    let w = joined c.self.inside.nodes c.self.inside.link c.self.inside.next_boot in
    link_agrees w _ c.self.view_is c.in-OfLink.kept _ c.in-OfLink.is c.redo.new.self c.redo.result c.redo.ensures.redone c.requires.edit

pub returns-in-OfLink : goal.returns-in-OfLink
returns-in-OfLink g c =
    let w = joined c.self.inside.nodes c.self.inside.link c.self.inside.next_boot in
    record { redone = link_redone w _ c.self.view_is c.in-OfLink.kept _ c.in-OfLink.is c.redo.new.self c.redo.result c.redo.ensures.redone }
