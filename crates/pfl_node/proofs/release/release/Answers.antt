use Rattle.std.proofs.Common.{◌≡◌, ◌∷◌, [], length, true, false, ◌∙◌, ap, sym, arith}
use Rattle.std.proofs.lemmas.Result.{IfOk-weaker}
use Rattle.std.specs.Prelude.{◌==◌}
use Rattle.pfl_base.specs.declared.refusal.Refusal.TheVariants.{NothingPending, CountFull, TooEarly}
use Rattle.pfl_language.specs.declared.node_event.NodeOutcome.TheVariants.{Released}
use Rattle.pfl_receive.specs.defer.Deferring.{Deferrals}
use Rattle.pfl_receive.specs.desk.inner.Judging.{judged_as}
use Rattle.pfl_receive.specs.desk.Nodes.{is_overcounted, refused_by, Node}
use Rattle.pfl_node.specs.Releasing.{release_refusal, released_due, due_names}
use Rattle.pfl_node.proofs.Judged.{at-once, by-judgement}
use Rattle.pfl_node.proofs.Ready.{begins}
use Rattle.pfl_node.proofs.Released.{due-few}
use Rattle.pfl_node.proofs.release.release.Goals as goal

pub returns-then-is_empty : goal.returns-then-is_empty
returns-then-is_empty g c =
    let n = c.args.desk.now.node in
    let none : (length n.held.list == 0) ≡ true = ap (λ (d : Deferrals). length d.list == 0) (sym (c.held.ensures.held ∙ ap (λ (k : Node). k.held) c.parts.ensures.parts))
    ∙ (sym c.is_empty.ensures.none ∙ c.if-is_empty.true) in
    at-once _ _ _ _ c.args.desk.now NothingPending
    (ap (λ t. refused_by ((t, NothingPending) ∷ (length (due_names n) == 0, TooEarly) ∷ (is_overcounted (released_due n), CountFull) ∷ [])) none)

pub release_due-count-requires : goal.release_due-count-requires
release_due-count-requires g c =
    let n = c.args.desk.now.node in
    let room = (begins c.args.desk.now c.requires.idle.ready).held in
    let few = due-few n c.requires.idle.node.parts in
    record { parts = c.requires.idle.node.parts; room = omega (arith, room, few) }

pub returns : goal.returns
returns g c =
    let a = c.args.desk.now in
    let n = a.node in
    let b = c.release_due-count.new.desk in
    let d = c.release_due-count.ensures in
    let j = c.judge.ensures in
    let count = length (due_names n) in
    let some : (length n.held.list == 0) ≡ false = ap (λ (l : Deferrals). length l.list == 0) (sym (c.held.ensures.held ∙ ap (λ (k : Node). k.held) c.parts.ensures.parts))
    ∙ (sym c.is_empty.ensures.none ∙ c.if-is_empty.false) in
    let why : release_refusal n ≡ judged_as c.judge.result =
    ap (λ t. refused_by ((t, NothingPending) ∷ (count == 0, TooEarly) ∷ (is_overcounted (released_due n), CountFull) ∷ [])) some
    ∙ sym (j.refused ∙ (λ i. refused_by ((d.count i == 0, TooEarly) ∷ (is_overcounted (d.node i), CountFull) ∷ []))) in
    by-judgement _ (release_refusal n) (released_due n) (λ k. Released k ≡ Released count) a b c.judge.result why d.node
    (IfOk-weaker c.judge.result (λ k. k ≡ c.release_due-count.result) (λ k. Released k ≡ Released count) (λ k same. ap Released (same ∙ d.count)) j.count)
    j.counted d.writes
