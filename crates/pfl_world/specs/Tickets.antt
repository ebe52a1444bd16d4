-- A frame in flight, by its ticket: it is lost, copied or cut (this project's profile).
use Rattle.std.specs.Prelude.{ℕ, Bool, List, [], ◌∷◌, length, Result, Err}
use Rattle.std.specs.Option.{option_map_or}
use Rattle.pfl_base.specs.declared.refusal.Refusal.{Refusal}
use Rattle.pfl_base.specs.declared.refusal.Refusal.TheVariants.{NoSuchFrame, LinkFull, CountFull}
use Rattle.pfl_edits.specs.Maps as maps
use Rattle.pfl_language.specs.declared.outcome.Outcome.{Outcome}
use Rattle.pfl_language.specs.declared.outcome.Outcome.TheVariants.{Sent, Lost, CutTo}
use Rattle.pfl_node.specs.desk.Nodes.{refused_by, unless_refused}
use Rattle.pfl_link.specs.Links.{InFlight, is_full, is_counted_out, sent, without_frame, with_frame, cut_to}
use Rattle.pfl_world.specs.Meanings.{Meaning, Stepped}
use Rattle.pfl_world.specs.Worlds.{World, with_link}

-- the first refusal whose test holds, or else what the event gives
abbrev pub step_unless : List (Bool × Refusal) → World → Outcome → Result Stepped Refusal
step_unless tests w o = unless_refused (refused_by tests) (record { world = w; outcome = o })

-- the world without a frame of the link
abbrev pub without_ticket : World → ℕ → World
without_ticket w ticket = with_link w (without_frame w.link ticket)

-- what is done with the frame of the ticket
abbrev pub with_ticket : World → ℕ → (InFlight → Result Stepped Refusal) → Result Stepped Refusal
with_ticket w ticket done = option_map_or done (maps.get w.link.frames ticket) (Err NoSuchFrame)

-- a frame is lost
unfoldable pub lose_step : World → ℕ → Result Stepped Refusal
lose_step w ticket = with_ticket w ticket (λ f. step_unless [] (without_ticket w ticket) Lost)

-- a frame is copied under the next ticket
unfoldable pub repeat_step : World → ℕ → Result Stepped Refusal
repeat_step w ticket = with_ticket w ticket (λ f.
    step_unless ((is_full w.link, LinkFull) ∷ (is_counted_out w.link, CountFull) ∷ [])
    (with_link w (sent w.link f)) (Sent w.link.next (length f.bytes)))

-- a frame keeps its first bytes
unfoldable pub cut_step : World → ℕ → ℕ → Result Stepped Refusal
cut_step w ticket len = with_ticket w ticket (λ f.
    step_unless [] (with_link w (with_frame w.link ticket (cut_to f len))) (CutTo (length (cut_to f len).bytes)))

-- what an event of the link alone means: no node goes through any point, and no state, record or packet has to do with it
abbrev pub link_meaning : Result Stepped Refusal → Meaning
link_meaning step = record { gives = step; points = λ at. []; work = 0 }
