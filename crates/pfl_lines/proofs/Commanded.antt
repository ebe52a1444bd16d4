-- Commands that end with their line, and the word of a packet.
use Rattle.std.proofs.Common.{◌≡◌, ℕ, List, [], ◌∷◌, Result, Ok, Err, refl, false, true}
use Rattle.std.specs.Prelude.{is_ok, bytes_eq, codes}
use Rattle.std.proofs.lemmas.Slice.Eq.{bytes_eq-Decides}
use Rattle.pfl_lines.specs.declared.fault.LineFault.{LineFault}
use Rattle.pfl_lines.specs.declared.draft.CommandDraft.{CommandDraft}
use Rattle.pfl_lines.specs.Commands.{command_at, command_of, event_by, packet_at, whole_command}
use Rattle.pfl_lines.specs.Readings.{word_at}
use Rattle.pfl_lines.specs.inner.Readings.{Gives}

-- a command with no word after it is what the words say
pub command_of-whole : (ws rest : List (List ℕ)) (draft : CommandDraft) → command_at ws ≡ Ok (draft, rest) → is_ok (word_at rest) ≡ false →
    whole_command draft ≡ command_of ws
unfolding command_of
command_of-whole ws [] draft read none = rw read refl
command_of-whole ws (word ∷ rest) draft read none = cc

-- what a function did not return is not read
pub Gives-none : {X Y : Type 0} (view : X → Y) (result : Result X LineFault) (read : Result Y LineFault) → Gives view result read →
    is_ok result ≡ false → is_ok read ≡ false
Gives-none view (Ok x) read gives none = cc
Gives-none view (Err e) read gives none = rw gives refl

-- `packet` is none of the words that the definition tries before it
pub packet_first : (word : List ℕ) (ws : List (List ℕ)) → bytes_eq word (codes "packet") ≡ true → event_by word ws ≡ packet_at ws
packet_first word ws is = rw ((bytes_eq-Decides word (codes "packet")).0 is) refl
