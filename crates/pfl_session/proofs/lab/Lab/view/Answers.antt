use Rattle.std.proofs.Common.{◌≡◌, refl, ap, sym, subst, ◌∙◌, ℕ, ◌-◌, ◌≤◌}
use Rattle.std.specs.Prelude.{IfOk, slice_index}
use Rattle.pfl_publish.specs.Seats.{Viewer, MakesTries}
use Rattle.pfl_session.specs.declared.mark.Mark.{Mark}
use Rattle.pfl_session.specs.Passes.{Seen, viewer_in}
use Rattle.pfl_session.proofs.Replays.{seen-on}
use Rattle.pfl_session.proofs.Looks.{loads-of}
use Rattle.pfl_session.proofs.lab.Lab.view.Goals as goal

pub invariant_of-pass : goal.invariant_of-pass
invariant_of-pass g c = (
  c.read-read.new.viewer,
  c.pass.invariant.1,
  refl,
  c.pass.invariant.3,
  c.read-read.ensures.closed,
  seen-on _ _ c.in-Some.viewer c.pass.invariant.0 _ (sym c.in-Some.is
      ∙ (c.take.ensures.value ∙ c.pass.invariant.2)) c.read-read.ensures.seen.1 c.pass.invariant.5,
  c.pass.invariant.6,
)

pub returns-clause-loaded : goal.returns-clause-loaded
returns-clause-loaded g c =
    let same : c.in-Some.viewer ≡ c.args.pass.now.viewer = ap viewer_in (sym c.in-Some.is ∙ c.take.ensures.value)
    ∙ ap (λ (s : Seen g.row.A.Denot). s.viewer) c.pass.view_is in
    subst
    (λ (v : Viewer (Mark g.row.A.Denot)). IfOk c.read-read.result (λ r. (now : ℕ) × (count : ℕ)
    × MakesTries v c.read-read.new.viewer count (slice_index r.words 0) now × (count ≤ c.args.tries - 1)))
    same
    (loads-of (λ r. r.words) c.read-read.result c.in-Some.viewer c.read-read.new.viewer (c.args.tries - 1) c.read-read.ensures.ok)
