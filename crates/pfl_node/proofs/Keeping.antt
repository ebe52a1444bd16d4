-- What a record from the peer leaves alone: limits, rules, clock, creator and the next id.
use Rattle.std.specs.Prelude.{◌≡◌, ℕ, Bool, true, false, ◌||◌, List, [], ◌∷◌, Option, Some, None, refl}
use Rattle.std.specs.List.{fold}
use Rattle.std.specs.Option.{option_map_or}
use Rattle.std.proofs.Common.{ap, cond, ◌∙◌}
use Rattle.pfl_base.specs.declared.state_name.StateName.{StateName}
use Rattle.pfl_base.specs.Packets.{is_tcp}
use Rattle.pfl_edits.specs.Maps as maps
use Rattle.pfl_rules.specs.Rules.{Rules}
use Rattle.pfl_track.specs.declared.state.State.{State}
use Rattle.pfl_wire.specs.declared.message.Message.{Message}
use Rattle.pfl_receive.specs.queue.Queues.{kind_of}
use Rattle.pfl_language.specs.declared.limits.Limits.{Limits}
use Rattle.pfl_node.specs.Laws.{RecordsLeaveTheRest}
use Rattle.pfl_receive.specs.desk.Nodes.{Node}
use Rattle.pfl_receive.specs.desk.Changes.{is_held, lost, freed, released, is_unannounced, changed, forgotten, keeps_deletion}
use Rattle.pfl_receive.specs.declared.decision.Decision.{Decision}
use Rattle.pfl_receive.specs.declared.decision.Decision.TheVariants.{Bad, Import, Merge, Ask, Queue, Serve, Release, Delete, Clear, Hear, Nothing}
use Rattle.pfl_receive.specs.Receiving.{cleared_names, decided, does, taken}

-- what stays: as one value
abbrev pub Still : Type 0
Still = Limits × Rules × ℕ × ℕ × ℕ

abbrev pub still : Node → Still
still n = (n.limits, n.rules, n.clock, n.creator, n.next_id)

abbrev pub Keeps : Node → Node → Type 0
Keeps n m = still m ≡ still n

either : (b : Bool) (n x y : Node) → Keeps n x → Keeps n y → Keeps n (cond b x y)
either true n x y k l = k
either false n x y k l = l

on_some : {X : Type 0} (o : Option X) (f : X → Node) (n d : Node) → ((x : X) → Keeps n (f x)) → Keeps n d → Keeps n (option_map_or f o d)
on_some None f n d k l = l
on_some (Some x) f n d k l = k x

over_all : {X : Type 0} (f : Node → X → Node) (xs : List X) (n : Node) → ((m : Node) (x : X) → Keeps m (f m x)) → Keeps n (fold f n xs)
over_all f [] n k = refl
over_all f (x ∷ xs) n k = over_all f xs (f n x) k ∙ k n x

lost-keeps : (n : Node) (name : StateName) → Keeps n (lost n name)
lost-keeps n name = either (is_held n name) n _ n refl refl

released-keeps : (n : Node) (name : StateName) → Keeps n (released n name)
released-keeps n name = on_some (maps.get (freed n name).states name) _ (freed n name) (freed n name) (λ s. refl) refl ∙ either (is_held n name) n _ n refl refl

changed-keeps : (n : Node) (s : State) → Keeps n (changed n s)
unfolding changed
changed-keeps n s =
    either s.no_sync n _ _ refl
    (either (is_unannounced (kind_of n.queue s.name)) n _ _ refl (either (is_tcp s.wire.proto) n _ _ refl refl))

forgotten-keeps : (n : Node) (name : StateName) → Keeps n (forgotten n name)
unfolding forgotten
forgotten-keeps n name = lost-keeps n name

-- whatever was decided, doing it
done-keeps : (n : Node) (d : Decision) → Keeps n (does n d)
unfolding does
done-keeps n (Bad why) = refl
done-keeps n (Import s ack) = either ack n _ _ (either (keeps_deletion n s.name) n _ _ refl refl) refl
done-keeps n (Merge x) =
    let l = lost n x.state.name in
    either (x.stale_src || x.stale_dst) l _ _ (changed-keeps _ _) refl ∙ lost-keeps n x.state.name
done-keeps n (Ask name) = refl
done-keeps n (Queue name) = refl
done-keeps n (Serve begins) = refl
done-keeps n (Release name) = released-keeps n name
done-keeps n (Delete name) = forgotten-keeps n name
done-keeps n (Clear creator bound) = over_all forgotten (cleared_names n creator bound) n forgotten-keeps
done-keeps n (Hear status) = refl
done-keeps n Nothing = refl

taken-keeps : (n : Node) (same_rules : Bool) (m : Message) → Keeps n (taken n same_rules m)
unfolding taken
taken-keeps n b m = done-keeps n (decided n b m)

-- no record changes limits, rules, clock, creator or next id
pub records-leave : RecordsLeaveTheRest
records-leave n b m = let all = taken-keeps n b m in record {
  limits = ap (λ (s : Still). s.0) all;
  rules = ap (λ (s : Still). s.1) all;
  clock = ap (λ (s : Still). s.2) all;
  creator = ap (λ (s : Still). s.3) all;
  next_id = ap (λ (s : Still). s.4) all;
}
