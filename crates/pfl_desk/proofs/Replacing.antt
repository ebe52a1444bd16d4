-- A state takes the place of one of its name, or moves there, and that is recorded.
use Rattle.std.specs.Prelude.{◌≡◌, [], ◌∷◌, Option, Some, None, MatchOption, IfNone, IfSome}
use Rattle.std.specs.Option.{option_map}
use Rattle.std.proofs.Common.{◌∙◌, ap, sym, subst}
use Rattle.pfl_base.specs.declared.state_name.StateName.{StateName}
use Rattle.pfl_base.proofs.ForCallers.{names_total, names_exact}
use Rattle.pfl_edits.specs.Maps as maps
use Rattle.pfl_edits.specs.Maps.{set_at}
use Rattle.pfl_edits.proofs.ForCallers.{set_at-same}
use Rattle.pfl_track.specs.declared.motion.Motion.{Motion}
use Rattle.pfl_track.specs.declared.state.State.{State}
use Rattle.pfl_track.specs.Motions.{motion, with_motion}
use Rattle.pfl_table.specs.Tables.{States}
use Rattle.pfl_desk.specs.declared.edit.MotionEdit.{MotionEdit}
use Rattle.pfl_desk.specs.declared.edit.NodeEdit.{NodeEdit}
use Rattle.pfl_desk.specs.declared.edit.NodeEdit.TheVariants.{OfState, Moved, OfQueue, OfHeld, Server, Client, Clock, NextId, Push, Count}
use Rattle.pfl_desk.specs.inner.Kept.{Replaces}
use Rattle.pfl_desk.specs.Changes.{put_state}
use Rattle.pfl_desk.specs.Edits.{moved_at}
use Rattle.pfl_desk.specs.inner.Drafting.{Makes}
use Rattle.pfl_desk.specs.Nodes.{Node, AreParts}
use Rattle.pfl_desk.proofs.Recording.{makes_as}

-- a state that stands already, put in its place
pub put_again : (n : Node) (s : State) → maps.get n.states s.name ≡ Some s → n ≡ put_state n s
put_again n s there = ap (λ (m : States). record n { states = m }) (sym (set_at-same names_total names_exact n.states s.name (Some s) there))

-- no state is moved
pub moved_none : (n : Node) (name : StateName) (to : Motion) → maps.get n.states name ≡ None → n ≡ record n { states = moved_at n.states name to }
moved_none n name to none =
    ap (λ (m : States). record n { states = m })
    (sym (set_at-same names_total names_exact n.states name (option_map (with_motion to) (maps.get n.states name))
    (none ∙ sym (ap (option_map (with_motion to)) none))))

-- what is recorded where a state takes the place of a former one: nothing where it is that one,
pub replaced-same : (n : Node) (former s : State) (edit : Option NodeEdit) → maps.get n.states s.name ≡ Some former
    → MatchOption edit (s ≡ former) (Replaces former s) → IfNone edit (maps.get n.states s.name ≡ Some s)
replaced-same n former s None there same = there ∙ ap (λ (t : State). Some t) (sym same)
replaced-same n former s (Some e) there replaces = tt

-- and else an edit that replaces it
pub replaced-edit : (n : Node) (former s : State) (edit : Option NodeEdit) → maps.get n.states s.name ≡ Some former
    → MatchOption edit (s ≡ former) (Replaces former s)
    → IfSome edit (λ e. (was : State) × (maps.get n.states s.name ≡ Some was) × Replaces was s e)
replaced-edit n former s None there same = tt
replaced-edit n former s (Some e) there replaces = (former, there, replaces)

-- a state that moved, and how
pub replaced-moved : (n : Node) (former s : State) (edit : NodeEdit) (e : MotionEdit) → edit ≡ Moved e → Replaces former s edit
    → maps.get n.states s.name ≡ Some former
    → record n { states = moved_at n.states s.name e.after } ≡ put_state n s
replaced-moved n former s edit e is replaces there =
    let how = subst (Replaces former s) is replaces in
    ap (λ (at : Option State). record n { states = set_at n.states s.name at })
    (ap (option_map (with_motion e.after)) there
    ∙ (ap (λ (m : Motion). Some (with_motion m former)) (ap (λ (d : MotionEdit). d.after) how.0) ∙ ap (λ (t : State). Some t) (sym how.1)))

-- a state that replaces the one of its name is recorded
pub replaced-makes : (n : Node) (former s : State) (e : NodeEdit) → Replaces former s e → AreParts n → maps.get n.states s.name ≡ Some former
    → Makes (e ∷ []) n (put_state n s)
replaced-makes n former s (OfState e) is parts there =
    makes_as n (OfState e) (OfState (record { name = s.name; before = Some former; after = Some s })) (ap OfState is) parts there tt
replaced-makes n former s (Moved e) is parts there =
    let moved : option_map (with_motion (motion s)) (maps.get n.states s.name) ≡ Some s =
    ap (option_map (with_motion (motion s))) there ∙ ap (λ (t : State). Some t) (sym is.1) in
    subst (λ (at : Option State). Makes (Moved e ∷ []) n (record n { states = set_at n.states s.name at })) moved
    (makes_as n (Moved e) (Moved (record { name = s.name; slot = e.slot; before = motion former; after = motion s })) (ap Moved is.0) parts
    (ap (option_map motion) there) tt)
replaced-makes n former s (OfQueue e) is parts there = absurd is
replaced-makes n former s (OfHeld e) is parts there = absurd is
replaced-makes n former s (Server before after) is parts there = absurd is
replaced-makes n former s (Client before after) is parts there = absurd is
replaced-makes n former s (Clock before after) is parts there = absurd is
replaced-makes n former s (NextId before after) is parts there = absurd is
replaced-makes n former s (Push before after) is parts there = absurd is
replaced-makes n former s (Count counter before after) is parts there = absurd is
