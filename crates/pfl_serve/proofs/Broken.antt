-- An answer that is written whole, and one that is not.
use Rattle.std.proofs.Common.{◌≡◌, ℕ, ◌≤◌, Bool, true, false, List, [], length, take, refl, sym, subst, inl, inr, Option, Ok, Err}
use Rattle.std.specs.Prelude.{Result, IfErr, IfOk, OnErr, OnOk}
use Rattle.std.specs.Io.KnownBytes.{Appends}
use Rattle.std.proofs.lemmas.Bool.{both_ways}
use Rattle.pfl_language.specs.declared.command.Command.{Command}
use Rattle.pfl_script.specs.timeline.declared.reply.Reply.{Reply as GivenReply}
use Rattle.pfl_script.specs.timeline.Replies.{reply_of}
use Rattle.pfl_session.specs.declared.fault.AskFault.{AskFault}
use Rattle.pfl_session.specs.declared.fault.AskFault.TheVariants as ask
use Rattle.pfl_session.specs.Ledgers.{one_more_counted}
use Rattle.pfl_session.specs.Passes.{Seen, GoesOn, HasSeenItsCalls, HasSeenJournal, AddsCall, AddsOthers, IsAskFault}
use Rattle.pfl_script.specs.lines.declared.fault.LineFault.{LineFault}
use Rattle.pfl_script.specs.lines.declared.session.SessionLine.{SessionLine}
use Rattle.pfl_script.specs.declared.fault.EngineFault.{EngineFault}
use Rattle.pfl_script.specs.declared.fault.EngineFault.TheVariants as engine
use Rattle.pfl_script.specs.Readers.{IsWriteFault}
use Rattle.pfl_script.proofs.ForCallers.{appends_none}
use Rattle.pfl_serve.specs.Sessions.{HasAsked, IsBegun, IsReplied, IsUnanswered, Lacks, Site}
use Rattle.pfl_serve.specs.inner.Answers.{asked_text, has_answer, may_lack, Breaks, Unanswered, Writes}

-- a text was written in part
pub breaks-text : {X : Type 0} (r : Result X EngineFault) (Is Lacks : List ℕ → Type 0) (text : List ℕ) (w v : Option (List ℕ)) →
    Is text → IfErr r (λ e. e ≡ engine.Write) → OnErr r ((n : ℕ) × (n ≤ length text) × Appends w v (take n text)) → IfErr r (λ e. Breaks Is Lacks e w v)
breaks-text (Ok x) Is Lacks text w v is fault part = tt
breaks-text (Err engine.Write) Is Lacks text w v is fault part = (text, is, (part.0, part.2))
breaks-text (Err engine.NoMemory) Is Lacks text w v is fault part = absurd cc
breaks-text (Err engine.Read) Is Lacks text w v is fault part = absurd cc
breaks-text (Err engine.TooManyTurns) Is Lacks text w v is fault part = absurd cc

module _ {M : Type 0} where
  -- what a line says is what its arm says: its answer was written in part
  pub breaks-said : {X : Type 0} (site : Site) (said what : Option (Result SessionLine LineFault)) (old new : Seen M)
      (r : Result X EngineFault) (w v : Option (List ℕ)) →
      said ≡ what → IfErr r (λ e. Breaks (IsBegun site what old new) (Lacks site what old new) e w v) →
      IfErr r (λ e. Breaks (IsBegun site said old new) (Lacks site said old new) e w v)
  breaks-said site said what old new r w v same breaks =
      subst (λ s. IfErr r (λ e. Breaks (IsBegun site s old new) (Lacks site s old new) e w v)) (sym same) breaks

-- what is known of a command that was asked
pub record Asks {M : Type 0} (site : Site) (old new : Seen M) (command : Command) (asked : Result (GivenReply M) AskFault) : Type 0 where
  pub goes_on : GoesOn old new
  pub journal : HasSeenJournal site.opening site.sessions site.limit new
  pub own : HasSeenItsCalls old
  pub called : IfOk asked (λ reply. AddsCall old new command (reply_of reply))
  pub one_more : OnOk asked (new.half ≡ one_more_counted old.half)
  pub refused : IfErr asked (IsAskFault site.limit new)
  pub not_called : OnErr asked (AddsOthers old new)
  pub no_more : OnErr asked (new.half ≡ old.half)

module _ {M : Type 0} (site : Site) (old new : Seen M) (command : Command) where
  has_asked : (asked : Result (GivenReply M) AskFault) → Asks site old new command asked → HasAsked site old new
  has_asked asked is = record { goes_on = is.goes_on; journal = is.journal; own = is.own }

  -- what is written is the answer
  replied : (asked : Result (GivenReply M) AskFault) → Asks site old new command asked → has_answer asked ≡ true
      → IsReplied site old new command (asked_text asked)
  replied (Ok reply) is answered = record {
    asked = has_asked (Ok reply) is;
    sent = inl (record { reply = reply_of reply; called = record { call = is.called; half = is.one_more }; sent = refl });
  }
  replied (Err ask.JournalFull) is answered = record {
    asked = has_asked (Err ask.JournalFull) is;
    sent = inr (record { not_called = record { others = is.not_called; half = is.no_more }; full = is.refused; sent = refl });
  }
  replied (Err ask.NoMemory) is answered = absurd (both_ways false refl answered)

  -- there is none, for want of memory
  unanswered : (asked : Result (GivenReply M) AskFault) → Asks site old new command asked → may_lack asked ≡ true → IsUnanswered site old new command
  unanswered (Ok reply) is memory = record {
    asked = has_asked (Ok reply) is;
    done = inl (reply_of reply, record { call = is.called; half = is.one_more }, memory);
  }
  unanswered (Err ask.JournalFull) is memory = absurd (both_ways false refl memory)
  unanswered (Err ask.NoMemory) is memory = record {
    asked = has_asked (Err ask.NoMemory) is;
    done = inr (record { others = is.not_called; half = is.no_more }, is.refused);
  }

  -- the answer was written whole
  pub whole-asked : {X D : Type 0} (asked : Result (GivenReply M) AskFault) → Asks site old new command asked
      → (r : Result X EngineFault) (written : D → Option (List ℕ)) (before after : D) → OnOk r (has_answer asked ≡ true)
      → OnOk r (Appends (written before) (written after) (asked_text asked))
      → IfOk r (λ _. Writes (IsReplied site old new command) (written before) (written after))
  whole-asked asked is (Ok x) written before after answered whole = (asked_text asked, replied asked is answered, whole)
  whole-asked asked is (Err e) written before after answered whole = tt

  -- the answer was written in part, or for want of memory not at all
  pub breaks-asked : {X D : Type 0} (asked : Result (GivenReply M) AskFault) → Asks site old new command asked
      → (r : Result X EngineFault) (written : D → Option (List ℕ)) (before after : D) (failed : Bool) →
      IfErr r (λ e. IsWriteFault e failed) → IfErr r (λ e. e ≡ engine.Write → has_answer asked ≡ true)
      → OnErr r ((part : ℕ) × Appends (written before) (written after) (take part (asked_text asked)))
      → IfErr r (λ e. e ≡ engine.NoMemory → after ≡ before) → IfErr r (λ e. e ≡ engine.NoMemory → may_lack asked ≡ true)
      → IfErr r (λ e. Breaks (IsReplied site old new command) (Unanswered site command old new) e (written before) (written after))
  breaks-asked asked is (Ok x) written before after failed fault begun part same memory = tt
  breaks-asked asked is (Err engine.Write) written before after failed fault begun part same memory =
      (asked_text asked, replied asked is (begun refl), part)
  breaks-asked asked is (Err engine.NoMemory) written before after failed fault begun part same memory = (
    [],
    (unanswered asked is (memory refl), refl),
    subst (λ d. Appends (written before) (written d) []) (sym (same refl)) (appends_none (written before)),
  )
  breaks-asked asked is (Err engine.Read) written before after failed fault begun part same memory = absurd fault
  breaks-asked asked is (Err engine.TooManyTurns) written before after failed fault begun part same memory = absurd fault
