use Rattle.std.proofs.Common.{arith, refl, ℕ, Some, Option, subst, ap, sym, ◌≡◌, ◌∙◌, inl, inr, IfSome, ◌<◌}
use Rattle.std.specs.Prelude.{MatchOption, ⊤}
use Rattle.pfl_reader.specs.inner.Scans.{TakesByte}
use Rattle.pfl_reader.specs.inner.Feeds.{idle}
use Rattle.pfl_reader.specs.Readers.{room}
use Rattle.pfl_reader.proofs.Keeping.{added-some}
use Rattle.pfl_reader.proofs.Taking.{Reads-added, Reads-end, Reads-last, Reads-none, Reads-start}
use Rattle.pfl_reader.proofs.Turns.{CountsTurns-none, CountsTurns-then}
use Rattle.pfl_reader.proofs.carry.Carry.read.Goals as goal

-- no byte yet
pub loop-byte-init : goal.loop-byte-init
loop-byte-init g c = record {
  reads = rw c.clear.ensures (Reads-start _);
  within = omega arith;
  less = inl c.clear.ensures;
  awaited = λ _. refl;
  turns = CountsTurns-none _ _ refl refl;
  few = λ few. few;
  stays = refl;
}

-- a line with its end
pub returns-then-byte-eq-LINE_FEED-clause-line : goal.returns-then-byte-eq-LINE_FEED-clause-line
returns-then-byte-eq-LINE_FEED-clause-line g c =
    let is = c.in-Some.is ∙ ap Some c.if-byte-eq-LINE_FEED.true in
    let taken = subst (TakesByte c.loop-byte.feed.left c.take_byte.new.self.left) is c.in_ok-byte.ensures.byte in
    Reads-end _ _ _ _ c.loop-byte.invariant.reads taken

pub returns-then-byte-eq-LINE_FEED-clause-turns : goal.returns-then-byte-eq-LINE_FEED-clause-turns
returns-then-byte-eq-LINE_FEED-clause-turns g c = CountsTurns-then _ _ _ c.loop-byte.invariant.turns c.take_byte.ensures.turns

-- one more byte of the line
pub loop-byte-preserved : goal.loop-byte-preserved
loop-byte-preserved g c =
    let taken = subst (TakesByte c.loop-byte.feed.left c.take_byte.new.self.left) c.in-Some.is c.in_ok-byte.ensures.byte in
    let less : room (idle c.take_byte.new.self) < room (idle c.loop-byte.feed) =
    subst (λ (o : Option ℕ). IfSome o (λ _. room (idle c.take_byte.new.self) < room (idle c.loop-byte.feed))) c.in-Some.is
    c.in_ok-byte.ensures.room in
    record {
      reads = rw c.add.ensures (Reads-added _ _ _ _ _ c.loop-byte.invariant.reads taken c.if-byte-eq-LINE_FEED.false);
      within = omega (arith, less);
      less = inr (omega (arith, less));
      awaited = λ none. absurd (added-some c.loop-byte.self c.in-Some.byte (sym c.add.ensures ∙ none));
      turns = CountsTurns-then _ _ _ c.loop-byte.invariant.turns c.take_byte.ensures.turns;
      few = λ few. c.take_byte.ensures.few (c.loop-byte.invariant.few few);
      stays = c.in_ok-byte.ensures.stays ∙ c.loop-byte.invariant.stays;
    }

-- the end of the bytes, with no line before it
pub returns-then-is_empty-clause-line : goal.returns-then-is_empty-clause-line
returns-then-is_empty-clause-line g c =
    let over = subst (TakesByte c.loop-byte.feed.left c.take_byte.new.self.left) c.in_default.is c.in_ok-byte.ensures.byte in
    Reads-none _ _ _ _ c.loop-byte.invariant.reads over (c.is_empty.ensures.empty c.if-is_empty.true)

-- ... and then no byte waited at first
pub returns-then-is_empty-clause-awaited : goal.returns-then-is_empty-clause-awaited
returns-then-is_empty-clause-awaited g c =
    let same = c.loop-byte.invariant.awaited (c.is_empty.ensures.empty c.if-is_empty.true) in
    let none : c.loop-byte.feed.waiting ≡ 0 =
    subst (λ (o : Option ℕ). MatchOption o (c.loop-byte.feed.waiting ≡ 0) (λ _. ⊤)) c.in_default.is c.in_ok-byte.ensures.awaited in
    λ _. sym same ∙ none

pub returns-then-is_empty-clause-turns : goal.returns-then-is_empty-clause-turns
returns-then-is_empty-clause-turns g c = CountsTurns-then _ _ _ c.loop-byte.invariant.turns c.take_byte.ensures.turns

-- the last line, which has no end
pub returns-clause-line : goal.returns-clause-line
returns-clause-line g c =
    let over = subst (TakesByte c.loop-byte.feed.left c.take_byte.new.self.left) c.in_default.is c.in_ok-byte.ensures.byte in
    rw c.settle.ensures (Reads-last _ _ _ _ c.loop-byte.invariant.reads over (c.is_empty.ensures.some c.if-is_empty.false))

pub returns-clause-turns : goal.returns-clause-turns
returns-clause-turns g c = CountsTurns-then _ _ _ c.loop-byte.invariant.turns c.take_byte.ensures.turns

-- the device failed
pub returns-in_err-byte-clause-turns : goal.returns-in_err-byte-clause-turns
returns-in_err-byte-clause-turns g c = CountsTurns-then _ _ _ c.loop-byte.invariant.turns c.take_byte.ensures.turns

-- a line has a byte
pub returns-clause-room : goal.returns-clause-room
returns-clause-room g c = elim c.loop-byte.invariant.less [
  | inl h ↦ absurd (c.is_empty.ensures.some c.if-is_empty.false h)
  | inr h ↦ λ _. omega (arith, h, c.in_ok-byte.ensures.spent)
]
