-- An edit of the pair knows both values of its place.
use Rattle.std.specs.Prelude.{ℕ, refl, ◌+◌}
use Rattle.std.proofs.Common.{sym}
use Rattle.pfl_base.specs.declared.node_id.NodeId.{NodeId}
use Rattle.pfl_base.specs.declared.node_id.NodeId.TheVariants.{A, B}
use Rattle.pfl_edits.specs.Changes.{LeadsBothWays}
use Rattle.pfl_edits.proofs.ForCallers.{part-both_ways}
use Rattle.pfl_node.specs.desk.Nodes.{Node}
use Rattle.pfl_node.specs.desk.inner.BothWays as nodes
use Rattle.pfl_node.specs.Events.{restarted}
use Rattle.pfl_link.specs.inner.BothWays as links
use Rattle.pfl_world.specs.declared.edit.WorldEdit.{WorldEdit}
use Rattle.pfl_world.specs.declared.edit.WorldEdit.TheVariants.{OfNode, OfLink, OfRestart}
use Rattle.pfl_world.specs.WorldEdits.{Boots, with_boot, Finds, FindsFormer, put_back, redone}
use Rattle.pfl_world.specs.Worlds.{World}

-- a node with the next boot leads both ways
boot-both_ways : (id : NodeId) (before after : Node) (former next : ℕ)
    → LeadsBothWays (Boots id before former) (Boots id after next) (λ w. with_boot w id before former) (λ w. with_boot w id after next)
boot-both_ways A before after former next = record {
  put_back_finds = λ w is. record { node = refl; next = refl };
  redone_finds = λ w is. record { node = refl; next = refl };
  redone_put_back = λ w is. λ i. record { a = sym is.node i; b = w.b; link = w.link; next_boot = sym is.next i };
  put_back_redone = λ w is. λ i. record { a = sym is.node i; b = w.b; link = w.link; next_boot = sym is.next i };
}
boot-both_ways B before after former next = record {
  put_back_finds = λ w is. record { node = refl; next = refl };
  redone_finds = λ w is. record { node = refl; next = refl };
  redone_put_back = λ w is. λ i. record { a = w.a; b = sym is.node i; link = w.link; next_boot = sym is.next i };
  put_back_redone = λ w is. λ i. record { a = w.a; b = sym is.node i; link = w.link; next_boot = sym is.next i };
}

-- each edit leads both ways
pub edit-both_ways : {M : Type 0} (e : WorldEdit M) → LeadsBothWays (FindsFormer e) (Finds e) (put_back e) (redone e)
edit-both_ways (OfNode A e) = part-both_ways (λ (w : World). w.a) (λ w n. record w { a = n }) (λ w n. refl) (λ w. refl)
    (λ w n m. refl) _ _ _ _ (nodes.edit-both_ways e)
edit-both_ways (OfNode B e) = part-both_ways (λ (w : World). w.b) (λ w n. record w { b = n }) (λ w n. refl) (λ w. refl)
    (λ w n m. refl) _ _ _ _ (nodes.edit-both_ways e)
edit-both_ways (OfLink e) = part-both_ways (λ (w : World). w.link) (λ w l. record w { link = l }) (λ w l. refl) (λ w. refl)
    (λ w l m. refl) _ _ _ _ (links.edit-both_ways e)
edit-both_ways (OfRestart e) = boot-both_ways e.node e.former (restarted e.former e.boot) e.boot (e.boot + 1)
