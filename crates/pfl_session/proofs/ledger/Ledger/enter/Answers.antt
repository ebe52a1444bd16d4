use Rattle.std.proofs.Common.{◌≡◌, ◌+◌, ◌-◌, ℕ, List, [], ◌∷◌, ◌++◌, length, Some, refl, ap, sym, ◌∙◌, arith}
use Rattle.std.specs.Prelude.{slice_get}
use Rattle.pfl_publish.specs.Count.{Count}
use Rattle.pfl_publish.specs.Seats.{Writer}
use Rattle.pfl_timeline.specs.Replies.{reply_of}
use Rattle.pfl_session.specs.declared.entry.Entry.{Entry}
use Rattle.pfl_session.specs.declared.mark.Mark.{Mark}
use Rattle.pfl_session.specs.Journals.{revisions_of, after_entry, replay, count_of}
use Rattle.pfl_session.specs.Passes.{Seen}
use Rattle.pfl_session.proofs.Replays.{some_same, counts-get}
use Rattle.pfl_session.proofs.Asked.{IsKept, kept-after, kept-few, kept-journal, kept-replay, kept-many, kept-counts, kept-below}
use Rattle.pfl_session.proofs.ledger.Ledger.enter.Goals as goal

pub invariant_of-self : goal.invariant_of-self
invariant_of-self g c = rw c.in_err-reserve.ensures.items c.self.invariant

pub invariant_of-self-in_err-reply : goal.invariant_of-self-in_err-reply
invariant_of-self-in_err-reply g c = rw (c.in_ok-reserve.ensures.items, c.in_err-reply.ensures.unchanged) c.self.invariant

pub append-writer-requires-clause-list : goal.append-writer-requires-clause-list
append-writer-requires-clause-list g c =
    let same : c.in-Some.writer ≡ c.self.invariant.0.0 = some_same _ _ (sym c.in-Some.is ∙ (c.take.ensures.value ∙ c.self.invariant.0.1)) in
    ap (λ (w : Writer (Mark g.row.A.Denot)). w.list) same ∙ (c.self.invariant.0.3 ∙ ap (revisions_of g.J.Which.opening) (sym c.in_ok-reserve.ensures.items))

pub append-writer-requires-clause-executed : goal.append-writer-requires-clause-executed
append-writer-requires-clause-executed g c =
    kept-after g.J.Which.opening c.self.inside.timeline c.execute.new.timeline c.self.inside.journal.items c.in_ok-reply.entry
    c.args.command.now (reply_of c.in_ok-reply.reply) c.pass.inside.session c.self.invariant.2.timeline_is
    (record { step = c.in_ok-reply.ensures.step; entry = c.in_ok-reply.ensures.entry })
    ∙ ap (λ (js : List (Entry g.row.A.Denot)). after_entry (replay g.J.Which.opening js) c.in_ok-reply.entry) (sym c.in_ok-reserve.ensures.items)

pub append-writer-requires-clause-few : goal.append-writer-requires-clause-few
append-writer-requires-clause-few g c =
    let short = c.self.invariant.2.journal.short in
    let small = c.self.invariant.2.small in
    kept-few g.J.Which.opening c.self.inside.timeline c.execute.new.timeline c.self.inside.journal.items c.in_ok-reply.entry
    c.args.command.now (reply_of c.in_ok-reply.reply) c.pass.inside.session c.self.invariant.2.timeline_is
    (record { step = c.in_ok-reply.ensures.step; entry = c.in_ok-reply.ensures.entry })
    (length c.self.inside.journal.items + 4294967295) 8589934592 (omega (arith, short, small)) c.self.invariant.2.few

pub count_one-mine-requires-clause-kept : goal.count_one-mine-requires-clause-kept
count_one-mine-requires-clause-kept g c =
    let named : c.pass.inside.session ≡ c.args.pass.now.session = ap (λ (s : Seen g.row.A.Denot). s.session) c.pass.view_is in
    let there : slice_get g.J.Which.tallies (c.pass.inside.session - 1) ≡ Some c.args.tally.now =
    ap (λ (n : ℕ). slice_get g.J.Which.tallies (n - 1)) named ∙ c.requires.place in (
      record { table = c.args.tally.now; count = count_of (1 + (c.pass.inside.session - 1)) c.self.inside.journal.items },
      ap (λ (l : List Count). slice_get l (c.pass.inside.session - 1)) c.self.invariant.1
          ∙ counts-get 1 (c.pass.inside.session - 1) g.J.Which.tallies c.self.inside.journal.items c.args.tally.now there,
      refl,
    )

pub invariant_of-self-2 : goal.invariant_of-self-2
invariant_of-self-2 g c =
    let opening = g.J.Which.opening in
    let is = c.self.invariant in
    let js = c.self.inside.journal.items in
    let items = c.append-writer.new.journal.items in
    let entry = c.in_ok-reply.entry in
    let named : c.pass.inside.session ≡ c.args.pass.now.session = ap (λ (s : Seen g.row.A.Denot). s.session) c.pass.view_is in
    let there : slice_get g.J.Which.tallies (c.pass.inside.session - 1) ≡ Some c.args.tally.now =
    ap (λ (n : ℕ). slice_get g.J.Which.tallies (n - 1)) named ∙ c.requires.place in
    let more : items ≡ js ++ entry ∷ [] = c.append-writer.ensures.items
    ∙ ap (λ (l : List (Entry g.row.A.Denot)). l ++ entry ∷ []) c.in_ok-reserve.ensures.items in
    let kept : IsKept c.self.inside.timeline c.execute.new.timeline entry c.args.command.now
    (reply_of c.in_ok-reply.reply) c.pass.inside.session = record { step = c.in_ok-reply.ensures.step; entry = c.in_ok-reply.ensures.entry } in
    let room = c.requires.room in
    let view = ap (λ (l : List (Entry g.row.A.Denot)). length l) c.self.view_is in
    let many = kept-many opening c.self.inside.timeline c.execute.new.timeline js entry c.args.command.now
    (reply_of c.in_ok-reply.reply) c.pass.inside.session is.2.timeline_is kept items more in (
      (c.append-writer.result.0, refl, c.append-writer.ensures.tables.0 ∙ c.requires.publisher.0, c.append-writer.ensures.list),
      kept-counts opening c.self.inside.timeline c.execute.new.timeline js entry c.args.command.now
          (reply_of c.in_ok-reply.reply) c.pass.inside.session is.2.timeline_is kept items more g.J.Which.tallies _ _ c.args.tally.now _
          c.pass.invariant.6 there is.1 c.count_one-mine.ensures.same c.count_one-mine.ensures.kept,
      record {
        journal = kept-journal opening c.self.inside.timeline c.execute.new.timeline js entry c.args.command.now
            (reply_of c.in_ok-reply.reply) c.pass.inside.session is.2.timeline_is kept items more g.J.Which.tallies g.J.Which.limit
            c.args.tally.now c.pass.invariant.6 there (omega (arith, room, view)) is.2.journal;
        timeline_is = kept-replay opening c.self.inside.timeline c.execute.new.timeline js entry c.args.command.now
            (reply_of c.in_ok-reply.reply) c.pass.inside.session is.2.timeline_is kept items more;
        few = kept-few opening c.self.inside.timeline c.execute.new.timeline js entry c.args.command.now
            (reply_of c.in_ok-reply.reply) c.pass.inside.session is.2.timeline_is kept (length js + 4294967295) _ (omega (arith, many)) is.2.few;
        bound_is = is.2.bound_is;
        small = is.2.small;
      },
    )

pub invariant_of-pass : goal.invariant_of-pass
invariant_of-pass g c =
    let opening = g.J.Which.opening in
    let is = c.self.invariant in
    let js = c.self.inside.journal.items in
    let items = c.append-writer.new.journal.items in
    let entry = c.in_ok-reply.entry in
    let named : c.pass.inside.session ≡ c.args.pass.now.session = ap (λ (s : Seen g.row.A.Denot). s.session) c.pass.view_is in
    let there : slice_get g.J.Which.tallies (c.pass.inside.session - 1) ≡ Some c.args.tally.now =
    ap (λ (n : ℕ). slice_get g.J.Which.tallies (n - 1)) named ∙ c.requires.place in
    let more : items ≡ js ++ entry ∷ [] = c.append-writer.ensures.items
    ∙ ap (λ (l : List (Entry g.row.A.Denot)). l ++ entry ∷ []) c.in_ok-reserve.ensures.items in
    let kept : IsKept c.self.inside.timeline c.execute.new.timeline entry c.args.command.now
    (reply_of c.in_ok-reply.reply) c.pass.inside.session = record { step = c.in_ok-reply.ensures.step; entry = c.in_ok-reply.ensures.entry } in (
      c.append-writer.result.1,
      c.count_one-mine.result,
      refl,
      refl,
      c.append-writer.ensures.closed,
      kept-below opening c.self.inside.timeline c.execute.new.timeline js entry c.args.command.now
          (reply_of c.in_ok-reply.reply) c.pass.inside.session is.2.timeline_is kept items more g.J.Which.tallies _ c.args.tally.now _ _ _
          c.pass.invariant.6 there is.1 c.count_one-mine.ensures.same c.count_one-mine.ensures.mine (c.append-writer.ensures.seen
          ∙ c.append-writer.ensures.list),
      c.pass.invariant.6,
    )

pub returns-clause-entered : goal.returns-clause-entered
returns-clause-entered g c =
    let opening = g.J.Which.opening in
    let is = c.self.invariant in
    let js = c.self.inside.journal.items in
    let items = c.append-writer.new.journal.items in
    let entry = c.in_ok-reply.entry in
    let named : c.pass.inside.session ≡ c.args.pass.now.session = ap (λ (s : Seen g.row.A.Denot). s.session) c.pass.view_is in
    let there : slice_get g.J.Which.tallies (c.pass.inside.session - 1) ≡ Some c.args.tally.now =
    ap (λ (n : ℕ). slice_get g.J.Which.tallies (n - 1)) named ∙ c.requires.place in
    let more : items ≡ js ++ entry ∷ [] = c.append-writer.ensures.items
    ∙ ap (λ (l : List (Entry g.row.A.Denot)). l ++ entry ∷ []) c.in_ok-reserve.ensures.items in
    let kept : IsKept c.self.inside.timeline c.execute.new.timeline entry c.args.command.now
    (reply_of c.in_ok-reply.reply) c.pass.inside.session = record { step = c.in_ok-reply.ensures.step; entry = c.in_ok-reply.ensures.entry } in
    let room = c.requires.room in
    let view = ap (λ (l : List (Entry g.row.A.Denot)). length l) c.self.view_is in
    record {
      entry = entry;
      session = c.in_ok-reply.ensures.entry.0 ∙ named;
      command_is = c.in_ok-reply.ensures.entry.1;
      reply_is = c.in_ok-reply.ensures.entry.2;
      longer = more ∙ ap (λ (l : List (Entry g.row.A.Denot)). l ++ entry ∷ []) c.self.view_is;
      journal = kept-journal opening c.self.inside.timeline c.execute.new.timeline js entry c.args.command.now
          (reply_of c.in_ok-reply.reply) c.pass.inside.session is.2.timeline_is kept items more g.J.Which.tallies g.J.Which.limit
          c.args.tally.now c.pass.invariant.6 there (omega (arith, room, view)) is.2.journal;
      seen = c.append-writer.ensures.seen ∙ c.append-writer.ensures.list;
    }
