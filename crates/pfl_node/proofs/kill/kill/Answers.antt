use Rattle.std.proofs.Common.{◌≡◌, ◌∷◌, [], None, Some, Option, ◌∙◌, ap, sym, refl, arith}
use Rattle.std.proofs.lemmas.Result.{IfOk-weaker}
use Rattle.std.specs.Prelude.{is_none}
use Rattle.std.specs.Option.{option_map_or}
use Rattle.pfl_base.specs.declared.refusal.Refusal.TheVariants.{NoSuchState}
use Rattle.pfl_edits.specs.Maps as maps
use Rattle.pfl_language.specs.declared.node_event.NodeOutcome.TheVariants.{Killed}
use Rattle.pfl_track.specs.declared.state.State.{State}
use Rattle.pfl_receive.specs.table.Tables.{States}
use Rattle.pfl_receive.specs.desk.Changes.{deleted}
use Rattle.pfl_receive.specs.desk.Nodes.{points_refusal, refused_by, full_tests, Node}
use Rattle.pfl_node.specs.Killing.{kill_refusal, killed}
use Rattle.pfl_node.proofs.Judged.{at-once, by-end, moved-to}
use Rattle.pfl_node.proofs.Ready.{begins}
use Rattle.pfl_node.proofs.kill.kill.Goals as goal

pub returns-in_default : goal.returns-in_default
returns-in_default g c =
    let n = c.args.desk.now.node in
    let at : maps.get n.states c.args.name ≡ None = ap (λ (m : States). maps.get m c.args.name) (sym (c.states.ensures.states ∙ ap (λ (k : Node). k.states) c.parts.ensures.parts))
    ∙ (sym c.by_name.ensures.state ∙ (sym c.copied.ensures ∙ c.in_default.is)) in
    at-once _ _ _ _ c.args.desk.now NoSuchState
    (ap (λ (o : Option State). refused_by ((is_none o, NoSuchState) ∷ full_tests (option_map_or (deleted n) o n ∷ []))) at)

pub delete-tried-requires : goal.delete-tried-requires
delete-tried-requires g c =
    let n = c.args.desk.now.node in
    let room = (begins c.args.desk.now c.requires.idle.ready).room in
    let at : maps.get n.states c.args.name ≡ Some c.in-Some.state = ap (λ (m : States). maps.get m c.args.name) (sym (c.states.ensures.states ∙ ap (λ (k : Node). k.states) c.parts.ensures.parts))
    ∙ (sym c.by_name.ensures.state ∙ (sym c.copied.ensures ∙ c.in-Some.is)) in
    record { room = omega (arith, room); stands = ap (maps.get n.states) (c.requires.idle.node.parts.states.filed c.args.name c.in-Some.state at) ∙ at }

pub returns : goal.returns
returns g c =
    let n = c.args.desk.now.node in
    let d = c.delete-tried.ensures in
    let j = c.judge.ensures in
    let s = c.in-Some.state in
    let at : maps.get n.states c.args.name ≡ Some s = ap (λ (m : States). maps.get m c.args.name) (sym (c.states.ensures.states ∙ ap (λ (k : Node). k.states) c.parts.ensures.parts))
    ∙ (sym c.by_name.ensures.state ∙ (sym c.copied.ensures ∙ c.in-Some.is)) in
    let why : kill_refusal n c.args.name ≡ points_refusal (deleted n s ∷ []) =
    ap (λ (o : Option State). refused_by ((is_none o, NoSuchState) ∷ full_tests (option_map_or (deleted n) o n ∷ []))) at in
    let meant : killed n c.args.name ≡ deleted n s = ap (λ (o : Option State). option_map_or (deleted n) o n) at in
    moved-to (sym meant) (by-end _ (kill_refusal n c.args.name) (deleted n s) (λ _. Killed ≡ Killed) c.args.desk.now c.delete-tried.new.self
    c.delete-tried.result c.judge.result j.refused j.answer j.fits why d.full d.node (IfOk-weaker c.delete-tried.result
    (λ _. c.delete-tried.new.self.node ≡ deleted n s) (λ _. Killed ≡ Killed) (λ _ _. refl) d.node) d.writes)
