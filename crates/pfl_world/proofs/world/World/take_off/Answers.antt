use Rattle.std.specs.Prelude.{is_some, IsTrue, refl}
use Rattle.std.proofs.Common.{sym, ap, subst, ◌∙◌}
use Rattle.pfl_edits.specs.Maps as maps
use Rattle.pfl_link.specs.Links.{Link}
use Rattle.pfl_world.specs.Worlds.{World, IsWorld, joined}
use Rattle.pfl_world.proofs.Delivered.{not_missing}
use Rattle.pfl_world.proofs.Recording.{recorded_link, recorded-as}
use Rattle.pfl_world.proofs.world.World.take_off.Goals as goal

pub unreachable-requires : goal.unreachable-requires
unreachable-requires g c =
    let w = joined c.self.inside.nodes c.self.inside.link c.self.inside.next_boot in
    not_missing w c.args.ticket _
    (subst (λ (v : World). IsTrue (is_some (maps.get v.link.frames c.args.ticket)))
    (sym c.self.view_is) c.requires.there) c.in_default.ensures.refused

pub invariant_of-self : goal.invariant_of-self
invariant_of-self g c = record {
  nodes = c.self.invariant.nodes;
  link = ap (λ (l : Link). l.limit) c.in-Ok.ensures.link ∙ c.self.invariant.link;
  mtu = ap (λ (l : Link). l.mtu) c.in-Ok.ensures.link ∙ c.self.invariant.mtu;
  countable = c.self.invariant.countable;
}

pub returns-clause-recorded : goal.returns-clause-recorded
returns-clause-recorded g c =
    let w = joined c.self.inside.nodes c.self.inside.link c.self.inside.next_boot in
    recorded-as (recorded_link _ _ w
    (subst IsWorld (sym c.self.view_is) c.known.ensures.world) c.in-Ok.edit c.take.new.self c.in-Ok.ensures.leads_back
    c.push.ensures.list) c.self.view_is refl
