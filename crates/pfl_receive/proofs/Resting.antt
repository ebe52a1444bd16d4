-- What a decision rests on: the record that it is of, and what was found at the node.
use Rattle.std.specs.Prelude.{◌≡◌, ℕ, Bool, true, false, not, ◌&&◌, Option, Some, None, refl}
use Rattle.std.specs.Option.{option_map_or}
use Rattle.std.proofs.Common.{cond, ◌∙◌, ap, subst}
use Rattle.pfl_base.specs.Names.{is_name}
use Rattle.pfl_edits.specs.Maps as maps
use Rattle.pfl_track.specs.declared.state.State.{State}
use Rattle.pfl_wire.specs.declared.message.StateRecord.{StateRecord}
use Rattle.pfl_wire.specs.declared.message.Message.{Message}
use Rattle.pfl_wire.specs.declared.message.Message.TheVariants as message
use Rattle.pfl_desk.specs.queue.Queues.{kind_of}
use Rattle.pfl_merge.specs.declared.received.Received.{Received}
use Rattle.pfl_merge.specs.declared.merged.Merged.{Merged}
use Rattle.pfl_merge.specs.Merging.{merged}
use Rattle.pfl_desk.specs.bulk.Bulk.{is_waiting, no_name}
use Rattle.pfl_desk.specs.Nodes.{Node, timeout_at}
use Rattle.pfl_receive.specs.declared.decision.BadRecord.{BadRecord}
use Rattle.pfl_receive.specs.declared.decision.BadRecord.TheVariants as bad
use Rattle.pfl_receive.specs.declared.decision.Decision.{Decision}
use Rattle.pfl_receive.specs.declared.decision.Decision.TheVariants.{Import, Merge, Ask, Queue, Serve, Release, Delete, Clear, Hear, Nothing, Bad}
use Rattle.pfl_receive.specs.Bringing.{name_in, received_in, whole_in}
use Rattle.pfl_receive.specs.Receiving.{acknowledging, answering, decided, has_states, import_fault, imported, importing, is_known, is_partly_announced}
use Rattle.pfl_receive.specs.Receiving.{clear_bound, does, merging, of_state, of_update, taken, updating}

-- a state that the record is about stands at the node
abbrev pub IsFound : Node → Message → State → Type 0
IsFound n m s = maps.get n.states (name_in m) ≡ Some s

-- the record brings a state without a fault, which is kept so, with its rule or without
pub record IsImported (n : Node) (m : Message) (s : State) : Type 0 where
  pub sent : StateRecord
  pub brought : whole_in m ≡ Some sent
  pub free : import_fault n sent ≡ None
  pub same_rules : Bool
  pub is : s ≡ imported n same_rules sent

-- the record brings something of a state of the node, and a merge gives this
pub record IsMergedFrom (n : Node) (m : Message) (x : Merged) : Type 0 where
  pub held : State
  pub received : Received
  pub brought : received_in m ≡ Some received
  pub found : IsFound n m held
  pub is : x ≡ merged n.limits.kernel held received (timeout_at n held.rule received.class) n.clock

-- a record that deletes a state by its name
abbrev pub deletes : Message → Bool
deletes (message.Delete r) = true
deletes (message.DeleteShort name) = true
deletes other = false

-- what each decision rests on
unfoldable pub RestsOn : Node → Message → Decision → Type 0
RestsOn n m (Import s ack) = IsImported n m s
RestsOn n m (Merge x) = IsMergedFrom n m x
RestsOn n m (Ask name) = (maps.get n.states name ≡ None) × (name ≡ name_in m)
RestsOn n m (Queue name) = (s : State) × (IsFound n m s × (name ≡ s.name))
RestsOn n m (Serve begins) = begins ≡ has_states n
RestsOn n m (Release name) = (s : State) × (IsFound n m s × (name ≡ s.name) × (s.ack_wanted ≡ true) × (m ≡ message.InsertAck (name_in m)))
RestsOn n m (Delete name) = (is_known n name ≡ true) × (name ≡ name_in m) × (deletes m ≡ true)
RestsOn n m (Clear creator bound) = (sent : ℕ) × ((m ≡ message.Clear creator sent) × (bound ≡ clear_bound n sent))
RestsOn n m (Hear status) = is_waiting n.client ≡ true
RestsOn n m other = Unit {0}

module _ (n : Node) (m : Message) where
  abbrev So : Decision → Type 0
  So = RestsOn n m

  import-rests : (b : Bool) (r : StateRecord) (ack : Bool) → whole_in m ≡ Some r → So (importing n b r ack)
  unfolding RestsOn
  import-rests b r ack brings = by (import_fault n r) refl
    where
      by : (o : Option BadRecord) → import_fault n r ≡ o → So (option_map_or Bad o (Import (imported n b r) ack))
      by None free = record { sent = r; brought = brings; free = free; same_rules = b; is = refl }
      by (Some why) found = tt

  merge-rests : (r : Received) (s : State) → received_in m ≡ Some r → IsFound n m s → So (merging n r s)
  unfolding RestsOn
  merge-rests r s brings found = record { held = s; received = r; brought = brings; found = found; is = refl }

  delete-rests : deletes m ≡ true → So (cond (is_known n (name_in m)) (Delete (name_in m)) (Bad bad.Unknown))
  unfolding RestsOn
  delete-rests is = by (is_known n (name_in m)) refl
    where
      by : (w : Bool) → is_known n (name_in m) ≡ w → So (cond w (Delete (name_in m)) (Bad bad.Unknown))
      by true known = (known, refl, is)
      by false known = tt

pub rests : (n : Node) (b : Bool) (m : Message) → RestsOn n m (decided n b m)
unfolding RestsOn decided
rests n b (message.Clear creator bound) = (bound, (refl, refl))
rests n b (message.Insert r) = import-rests n (message.Insert r) b r r.ack_wanted refl
rests n b (message.InsertAck name) = by (maps.get n.states name) refl
  where
    waits : (s : State) → maps.get n.states name ≡ Some s → (w : Bool) → s.ack_wanted ≡ w
        → RestsOn n (message.InsertAck name) (cond w (Release s.name) Nothing)
    waits s at true wanted = (s, (at, refl, wanted, refl))
    waits s at false wanted = tt

    by : (o : Option State) → maps.get n.states name ≡ o → RestsOn n (message.InsertAck name) (option_map_or acknowledging o Nothing)
    by None at = tt
    by (Some s) at = waits s at s.ack_wanted refl
rests n b (message.Update r) = by (maps.get n.states r.name) refl
  where
    by : (o : Option State) → maps.get n.states r.name ≡ o
        → RestsOn n (message.Update r) (option_map_or (merging n (of_state r)) o (updating n b r))
    by None at = import-rests n (message.Update r) (b && not n.limits.kernel.rule) r false refl
    by (Some s) at = merge-rests n (message.Update r) (of_state r) s refl at
rests n b (message.UpdateShort u) = by (maps.get n.states u.name) refl
  where
    by : (o : Option State) → maps.get n.states u.name ≡ o
        → RestsOn n (message.UpdateShort u) (option_map_or (merging n (of_update u)) o (Ask u.name))
    by None at = (at, refl)
    by (Some s) at = merge-rests n (message.UpdateShort u) (of_update u) s refl at
rests n b (message.UpdateRequest name) = by (is_name no_name name) (maps.get n.states name) refl
  where
    answers : (s : State) → maps.get n.states name ≡ Some s → (w : Bool) → RestsOn n (message.UpdateRequest name) (cond w (Queue s.name) Nothing)
    answers s at true = (s, (at, refl))
    answers s at false = tt

    by : (all : Bool) (o : Option State) → maps.get n.states name ≡ o
        → RestsOn n (message.UpdateRequest name) (cond all (Serve (has_states n)) (option_map_or (answering n) o (Bad bad.Unknown)))
    by true o at = refl
    by false None at = tt
    by false (Some s) at = answers s at (not s.no_sync && is_partly_announced (kind_of n.queue s.name))
rests n b (message.Delete r) = delete-rests n (message.Delete r) refl
rests n b (message.DeleteShort name) = delete-rests n (message.DeleteShort name) refl
rests n b (message.Bulk creator status) = by (is_waiting n.client) refl
  where
    by : (w : Bool) → is_waiting n.client ≡ w → RestsOn n (message.Bulk creator status) (cond w (Hear status) Nothing)
    by true waits = waits
    by false waits = tt

-- a record is taken by doing what was decided of it
pub taken-so : (P : Node → Type 0) (n k : Node) (b : Bool) (m : Message) (d : Decision) → d ≡ decided k b m → k ≡ n → P (does n d) → P (taken n b m)
unfolding taken
taken-so P n k b m d gives same holds = subst (λ (e : Decision). P (does n e)) (gives ∙ ap (λ (l : Node). decided l b m) same) holds
