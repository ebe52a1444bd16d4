use Rattle.std.proofs.Common.{◌≡◌, true, false, None, rules, ◌∙◌, ap, sym, subst, arith}
use Rattle.std.specs.Prelude.{OnOk, OnErr, Option}
use Rattle.pfl_base.proofs.ForCallers.{names_total, names_exact}
use Rattle.pfl_edits.proofs.ForCallers.{get-set_at_same}
use Rattle.pfl_desk.proofs.Recording.{writes-then, writes-more}
use Rattle.pfl_queue.specs.declared.Kind.{Kind}
use Rattle.pfl_queue.specs.declared.Kind.TheVariants.{Delete}
use Rattle.pfl_queue.specs.Queues.{kind_of}
use Rattle.pfl_desk.specs.Changes as to
use Rattle.pfl_desk.specs.Nodes.{Node, is_overfull}
use Rattle.pfl_desk.proofs.Deletions.{gone-told, gone-unannounced, is_deletion_announced}
use Rattle.pfl_desk.proofs.Putting.{gone-may}
use Rattle.pfl_desk.proofs.desk.Desk.announce_deletion.Goals as goal

pub returns-then-not-told-clause-node : goal.returns-then-not-told-clause-node
returns-then-not-told-clause-node g c =
    let n = c.args.self.now.node in
    let s = c.args.state.now in
    let kind : c.kind_of-kind.result ≡ kind_of n.queue s.name = search rules in
    let unannounced : c.is_deletion_announced-told.result ≡ false = search rules in
    let told = ap (λ (k : Option Kind). is_deletion_announced k s) (sym kind) ∙ (sym c.is_deletion_announced-told.ensures ∙ unannounced) in
    let out = c.take_out.ensures.node ∙ ap (λ name. to.withdraw (to.without_state n name) name) c.name-name.ensures in
    out ∙ sym (gone-unannounced n s c.known.ensures.parts c.requires.stands told)

pub returns-then-not-told-clause-writes : goal.returns-then-not-told-clause-writes
returns-then-not-told-clause-writes g c = writes-more 2 3 _ _ (omega arith) c.take_out.ensures.writes

pub mark-requires-clause-may : goal.mark-requires-clause-may
mark-requires-clause-may g c =
    let n = c.args.self.now.node in
    let s = c.args.state.now in
    let m = to.withdraw (to.without_state n s.name) s.name in
    let gone = get-set_at_same names_total names_exact n.states s.name None in
    rw c.take_out.ensures.node
    (rw c.name-name.ensures (gone-may m s.name gone (c.known.ensures.parts.each s.name s c.requires.stands).given))

pub returns-clause-full : goal.returns-clause-full
returns-clause-full g c =
    let n = c.args.self.now.node in
    let s = c.args.state.now in
    let kind : c.kind_of-kind.result ≡ kind_of n.queue s.name = search rules in
    let told : c.is_deletion_announced-told.result ≡ true = search rules in
    let announced = ap (λ (k : Option Kind). is_deletion_announced k s) (sym kind) ∙ (sym c.is_deletion_announced-told.ensures ∙ told) in
    let out = c.take_out.ensures.node ∙ ap (λ name. to.withdraw (to.without_state n name) name) c.name-name.ensures in
    let same = (λ i. to.mark (out i) (c.name-name.ensures i) Delete) ∙ sym (gone-told n s c.known.ensures.parts c.requires.stands announced) in
    subst (λ (m : Node). OnErr c.mark.result (is_overfull m ≡ true)) same c.mark.ensures.full

pub returns-clause-node : goal.returns-clause-node
returns-clause-node g c =
    let n = c.args.self.now.node in
    let s = c.args.state.now in
    let kind : c.kind_of-kind.result ≡ kind_of n.queue s.name = search rules in
    let told : c.is_deletion_announced-told.result ≡ true = search rules in
    let announced = ap (λ (k : Option Kind). is_deletion_announced k s) (sym kind) ∙ (sym c.is_deletion_announced-told.ensures ∙ told) in
    let out = c.take_out.ensures.node ∙ ap (λ name. to.withdraw (to.without_state n name) name) c.name-name.ensures in
    let same = (λ i. to.mark (out i) (c.name-name.ensures i) Delete) ∙ sym (gone-told n s c.known.ensures.parts c.requires.stands announced) in
    subst (λ (m : Node). OnOk c.mark.result (c.mark.new.self.node ≡ m)) same c.mark.ensures.node

pub returns-clause-writes : goal.returns-clause-writes
returns-clause-writes g c = writes-then 2 1 _ _ _ c.take_out.ensures.writes c.mark.ensures.writes
