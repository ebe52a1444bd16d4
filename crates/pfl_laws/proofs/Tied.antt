-- What a node's changes do to held packets and to the states that wait for them: at one name both come or both go.
use Rattle.std.specs.Prelude.{◌≡◌, ◌≢◌, ◌+◌, ◌||◌, ℕ, Bool, true, false, not, nat_le, min, List, [], ◌∷◌, ◌++◌, filter, find, Option, Some, None, is_some, refl}
use Rattle.std.specs.Option.{option_map_or}
use Rattle.std.proofs.Common.{◌∙◌, cond, ap, sym, subst, inl, inr}
use Rattle.pfl_base.specs.declared.packet.Packet.{Packet}
use Rattle.pfl_base.specs.declared.state_name.StateName.{StateName}
use Rattle.pfl_base.proofs.ForCallers.{names_total, names_exact, is_name-same, is_name-itself}
use Rattle.pfl_base.specs.Names.{is_name}
use Rattle.pfl_base.specs.Packets.{is_tcp}
use Rattle.pfl_edits.specs.Maps as maps
use Rattle.pfl_edits.specs.Maps.{set_at}
use Rattle.pfl_edits.proofs.ForCallers.{get-set_at_same, get-set_at_other, set_at-same, key_cases}
use Rattle.pfl_world.specs.track.declared.state.State.{State}
use Rattle.pfl_world.specs.table.Tables.{States}
use Rattle.pfl_world.specs.merge.declared.merged.Merged.{Merged}
use Rattle.pfl_world.specs.queue.declared.Kind.TheVariants.{UpdateShort}
use Rattle.pfl_world.specs.queue.Queues.{kind_of}
use Rattle.pfl_world.specs.defer.declared.Held.{Held}
use Rattle.pfl_world.specs.defer.Deferring.{Deferrals, held_of, let_go, with_held}
use Rattle.pfl_world.specs.desk.Nodes.{Node}
use Rattle.pfl_world.specs.desk.Changes.{put_state, mark, push_if, counted, told, is_recent, is_held, is_unannounced, is_insert, freed, lost}
use Rattle.pfl_world.specs.desk.Changes.{not_waiting, released, changed, deleted, forgotten, count_freed, count_lost, count_stale, without_held}
use Rattle.pfl_world.specs.receive.Receiving.{merged_into}
use Rattle.pfl_laws.specs.Laws.{IsTied}
use Rattle.pfl_laws.proofs.Following.{Filed}
use Rattle.pfl_laws.proofs.Keeping.{freed-states, lost-states, deleted-states, forgotten-states}

-- ---- the list of held packets

not_named : (q k : StateName) → q ≢ k → is_name q k ≡ false
not_named q k other = by (is_name q k) refl
  where
    by : (b : Bool) → is_name q k ≡ b → b ≡ false
    by true e = absurd (other (is_name-same q k e))
    by false e = refl

-- none of the name is left,
gone-list : (name : StateName) (hs : List Held) → find (λ h. is_name name h.name) (filter (λ h. not (is_name name h.name)) hs) ≡ None
gone-list name [] = refl
gone-list name (h ∷ hs) = by (is_name name h.name) refl (gone-list name hs)
  where
    by : (b : Bool) → is_name name h.name ≡ b → find (λ k. is_name name k.name) (filter (λ k. not (is_name name k.name)) hs) ≡ None
        → find (λ k. is_name name k.name) (cond (not b) (h ∷ filter (λ k. not (is_name name k.name)) hs) (filter (λ k. not (is_name name k.name)) hs)) ≡ None
    by true e rest = rest
    by false e rest = ap (λ c. cond c (Some h) (find (λ k. is_name name k.name) (filter (λ k. not (is_name name k.name)) hs))) e ∙ rest

-- and those of other names are
stay-list : (name q : StateName) → q ≢ name → (hs : List Held)
    → find (λ h. is_name q h.name) (filter (λ h. not (is_name name h.name)) hs) ≡ find (λ h. is_name q h.name) hs
stay-list name q other [] = refl
stay-list name q other (h ∷ hs) = by (is_name name h.name) refl (stay-list name q other hs)
  where
    by : (b : Bool) → is_name name h.name ≡ b
        → find (λ k. is_name q k.name) (filter (λ k. not (is_name name k.name)) hs) ≡ find (λ k. is_name q k.name) hs
        → find (λ k. is_name q k.name)
        (cond (not b) (h ∷ filter (λ k. not (is_name name k.name)) hs) (filter (λ k. not (is_name name k.name)) hs))
        ≡ cond (is_name q h.name) (Some h) (find (λ k. is_name q k.name) hs)
    by true e rest =
        let differ : is_name q h.name ≡ false = not_named q h.name (λ same. other (same ∙ sym (is_name-same name h.name e))) in
        rest ∙ sym (ap (λ c. cond c (Some h) (find (λ k. is_name q k.name) hs)) differ)
    by false e rest = ap (λ o. cond (is_name q h.name) (Some h) o) rest

-- one more is found,
added-list : (hs : List Held) (h : Held) → is_some (find (λ k. is_name h.name k.name) (hs ++ h ∷ [])) ≡ true
added-list [] h = ap (λ c. is_some (cond c (Some h) None)) (is_name-itself h.name h.name refl)
added-list (x ∷ hs) h = by (is_name h.name x.name) (added-list hs h)
  where
    by : (b : Bool) → is_some (find (λ k. is_name h.name k.name) (hs ++ h ∷ [])) ≡ true
        → is_some (cond b (Some x) (find (λ k. is_name h.name k.name) (hs ++ h ∷ []))) ≡ true
    by true rest = refl
    by false rest = rest

-- and the others as before
beside-list : (hs : List Held) (h : Held) (q : StateName) → q ≢ h.name → find (λ k. is_name q k.name) (hs ++ h ∷ []) ≡ find (λ k. is_name q k.name) hs
beside-list [] h q other = ap (λ c. cond c (Some h) None) (not_named q h.name other)
beside-list (x ∷ hs) h q other = ap (λ o. cond (is_name q x.name) (Some x) o) (beside-list hs h q other)

-- ---- a packet that goes

-- the held packets without that of the name, if there is one
abbrev pub without : Deferrals → StateName → Deferrals
without d name = cond (is_some (held_of d name)) (let_go d name) d

gone : (d : Deferrals) (name : StateName) → is_some (held_of (without d name) name) ≡ false
gone d name = by (is_some (held_of d name)) refl
  where
    by : (b : Bool) → is_some (held_of d name) ≡ b → is_some (held_of (cond b (let_go d name) d) name) ≡ false
    by true e = ap (λ (o : Option Held). is_some o) (gone-list name d.list)
    by false e = e

pub others-stay : (d : Deferrals) (name q : StateName) → q ≢ name → held_of (without d name) q ≡ held_of d q
others-stay d name q other = by (is_some (held_of d name))
  where
    by : (b : Bool) → held_of (cond b (let_go d name) d) q ≡ held_of d q
    by true = stay-list name q other d.list
    by false = refl

pub freed-held : (n : Node) (name : StateName) → (freed n name).held ≡ without n.held name
freed-held n name = by (is_held n name)
  where
    by : (b : Bool) → (cond b (count_freed (without_held n name)) n).held ≡ cond b (let_go n.held name) n.held
    by true = refl
    by false = refl

pub lost-held : (n : Node) (name : StateName) → (lost n name).held ≡ without n.held name
lost-held n name = by (is_held n name)
  where
    by : (b : Bool) → (cond b (count_lost (without_held n name)) n).held ≡ cond b (let_go n.held name) n.held
    by true = refl
    by false = refl

-- ---- nodes

-- whether what stands under a name waits
abbrev pub waits : Option State → Bool
waits o = option_map_or (λ s. s.ack_wanted) o false

-- another value stands under one name, and waits exactly if its packet is held then
pub tied-by : (n m : Node) (name : StateName) (o : Option State) → IsTied n → m.states ≡ set_at n.states name o → is_held m name ≡ waits o
    → ((q : StateName) → q ≢ name → is_held m q ≡ is_held n q) → IsTied m
tied-by n m name o tied states here others q = elim (key_cases names_total names_exact q name) [
  | inl same ↦
      ap (is_held m) same ∙ here
      ∙ ap waits (sym (get-set_at_same names_total names_exact n.states name o))
      ∙ ap (λ (l : States). waits (maps.get l name)) (sym states)
      ∙ ap (λ (k : StateName). waits (maps.get m.states k)) (sym same)
  | inr other ↦
      others q other ∙ tied q
      ∙ ap waits (sym (get-set_at_other names_total names_exact n.states name o q other))
      ∙ ap (λ (l : States). waits (maps.get l q)) (sym states)
]

-- states and held packets are the same
pub tied-same : (n m : Node) → IsTied n → m.states ≡ n.states → m.held ≡ n.held → IsTied m
tied-same n m tied states held q =
    ap (λ (d : Deferrals). is_some (held_of d q)) held ∙ tied q ∙ ap (λ (l : States). waits (maps.get l q)) (sym states)

-- the packet of the name goes, and what stands under it does not wait
pub tied-out : (n m : Node) (name : StateName) (o : Option State) → IsTied n → m.states ≡ set_at n.states name o → waits o ≡ false
    → m.held ≡ without n.held name → IsTied m
tied-out n m name o tied states calm held =
    tied-by n m name o tied states
    (ap (λ (d : Deferrals). is_some (held_of d name)) held ∙ gone n.held name ∙ sym calm)
    (λ q other. ap (λ (d : Deferrals). is_some (held_of d q)) held ∙ ap (λ (x : Option Held). is_some x) (others-stay n.held name q other))

-- a state is put that waits as the one before it did
pub tied-put : (n m : Node) (s : State) → IsTied n → m.states ≡ maps.insert n.states s.name s → m.held ≡ n.held → s.ack_wanted ≡ is_held n s.name → IsTied m
tied-put n m s tied states held same =
    tied-by n m s.name (Some s) tied states (ap (λ (d : Deferrals). is_some (held_of d s.name)) held ∙ sym same)
    (λ q other. ap (λ (d : Deferrals). is_some (held_of d q)) held)

-- a packet is held, and its state waits
pub tied-hold : (n m : Node) (s : State) (p : Packet) → IsTied n → s.ack_wanted ≡ true → m.states ≡ maps.insert n.states s.name s
    → m.held ≡ with_held n.held s.name p n.clock → IsTied m
tied-hold n m s p tied waiting states held =
    let h : Held = record { name = s.name; packet = p; held_at = n.clock } in
    tied-by n m s.name (Some s) tied states
    (ap (λ (d : Deferrals). is_some (held_of d s.name)) held ∙ added-list n.held.list h ∙ sym waiting)
    (λ q other. ap (λ (d : Deferrals). is_some (held_of d q)) held ∙ ap (λ (x : Option Held). is_some x) (beside-list n.held.list h q other))

-- ---- choices

pub tied-either : (b : Bool) (x y : Node) → IsTied x → IsTied y → IsTied (cond b x y)
tied-either true x y k l = k
tied-either false x y k l = l

pub tied-some : {X : Type 0} (o : Option X) (f : X → Node) (d : Node) → ((x : X) → o ≡ Some x → IsTied (f x)) → IsTied d → IsTied (option_map_or f o d)
tied-some None f d k l = l
tied-some (Some x) f d k l = k x refl

-- ---- a release

abbrev calmed : Option State → Option State
calmed None = None
calmed (Some s) = Some (record s { ack_wanted = false })

calmed-waits : (o : Option State) → waits (calmed o) ≡ false
calmed-waits None = refl
calmed-waits (Some s) = refl

not_waiting-states : (n : Node) (name : StateName) → Filed n.states → (not_waiting n name).states ≡ set_at n.states name (calmed (maps.get n.states name))
not_waiting-states n name filed = by (maps.get n.states name) refl
  where
    by : (o : Option State) → maps.get n.states name ≡ o
        → (option_map_or (λ s. put_state n (record s { ack_wanted = false })) o n).states ≡ set_at n.states name (calmed o)
    by None e = sym (set_at-same names_total names_exact n.states name None e)
    by (Some s) e = ap (λ (k : StateName). maps.insert n.states k (record s { ack_wanted = false })) (filed name s e)

pub not_waiting-held : (n : Node) (name : StateName) → (not_waiting n name).held ≡ n.held
not_waiting-held n name = by (maps.get n.states name)
  where
    by : (o : Option State) → (option_map_or (λ s. put_state n (record s { ack_wanted = false })) o n).held ≡ n.held
    by None = refl
    by (Some s) = refl

pub tied-released : (n : Node) (name : StateName) → Filed n.states → IsTied n → IsTied (released n name)
tied-released n name filed tied =
    let m = freed n name in
    let same = freed-states n name in
    tied-out n (not_waiting m name) name (calmed (maps.get n.states name)) tied
    (not_waiting-states m name (subst Filed (sym same) filed) ∙ ap (λ (l : States). set_at l name (calmed (maps.get l name))) same)
    (calmed-waits (maps.get n.states name))
    (not_waiting-held m name ∙ freed-held n name)

-- ---- local changes and deletions

-- a state is put, however its updates are counted
pub record Puts (n : Node) (s : State) (m : Node) : Type 0 where
  pub updates : ℕ
  pub states : m.states ≡ maps.insert n.states s.name (record s { updates = updates })
  pub held : m.held ≡ n.held

puts-either : (n : Node) (s : State) (b : Bool) (x y : Node) → Puts n s x → Puts n s y → Puts n s (cond b x y)
puts-either n s true x y k l = k
puts-either n s false x y k l = l

puts-pushed : (n : Node) (s : State) (asked : Bool) (m : Node) → Puts n s m → Puts n s (push_if asked m)
puts-pushed n s asked m p = record { updates = p.updates; states = p.states; held = p.held }

counted-puts : (n : Node) (s : State) → Puts n s (counted n s)
counted-puts n s =
    let more = put_state n (record s { updates = min 255 (s.updates + 1) }) in
    let full = nat_le n.limits.maxupd (min 255 (s.updates + 1)) in
    puts-either n s (is_tcp s.wire.proto) (push_if full more) (put_state n s)
    (puts-pushed n s full more (record { updates = min 255 (s.updates + 1); states = refl; held = refl }))
    (record { updates = s.updates; states = refl; held = refl })

told-puts : (n : Node) (s : State) → Puts n s (told n s)
told-puts n s =
    puts-either n s (is_unannounced (kind_of n.queue s.name)) (mark (put_state n (record s { updates = 0 })) s.name UpdateShort) (counted n s)
    (record { updates = 0; states = refl; held = refl }) (counted-puts n s)

pub changed-puts : (n : Node) (s : State) → Puts n s (changed n s)
unfolding changed
changed-puts n s =
    puts-either n s s.no_sync (put_state n s) (push_if (is_recent n s) (told n s))
    (record { updates = s.updates; states = refl; held = refl })
    (puts-pushed n s (is_recent n s) (told n s) (told-puts n s))

-- a state is put that does not wait, however its updates are counted, and its packet goes
pub record PutsCalm (n : Node) (s : State) (m : Node) : Type 0 where
  pub updates : ℕ
  pub states : m.states ≡ maps.insert n.states s.name (record s { ack_wanted = false; updates = updates })
  pub held : m.held ≡ without n.held s.name

-- so is what a merge gave
pub merged-puts : (n : Node) (x : Merged) → PutsCalm n x.state (merged_into (lost n x.state.name) x)
merged-puts n x =
    let m = lost n x.state.name in
    let calm : State = record x.state { ack_wanted = false } in
    let told : Puts (count_stale m) calm (changed (count_stale m) calm) = changed-puts (count_stale m) calm in
    let puts : Puts m calm (merged_into m x) =
    puts-either m calm (x.stale_src || x.stale_dst) (push_if true (changed (count_stale m) calm)) (put_state m calm)
    (record { updates = told.updates; states = told.states; held = told.held })
    (record { updates = calm.updates; states = refl; held = refl }) in
    record {
      updates = puts.updates;
      states = puts.states ∙ ap (λ (l : States). maps.insert l x.state.name (record calm { updates = puts.updates })) (lost-states n x.state.name);
      held = puts.held ∙ lost-held n x.state.name;
    }

held-either : (d : Deferrals) (b : Bool) (x y : Node) → x.held ≡ d → y.held ≡ d → (cond b x y).held ≡ d
held-either d true x y k l = k
held-either d false x y k l = l

pub deleted-held : (n : Node) (s : State) → (deleted n s).held ≡ (lost n s.name).held
unfolding deleted
deleted-held n s =
    held-either (lost n s.name).held (is_insert (kind_of (lost n s.name).queue s.name)) _ _ refl
    (held-either (lost n s.name).held s.no_sync _ _ refl refl)

pub tied-deleted : (n : Node) (s : State) → IsTied n → IsTied (deleted n s)
tied-deleted n s tied = tied-out n (deleted n s) s.name None tied (deleted-states n s) refl (deleted-held n s ∙ lost-held n s.name)

pub forgotten-held : (n : Node) (name : StateName) → (forgotten n name).held ≡ (lost n name).held
unfolding forgotten
forgotten-held n name = refl

pub tied-forgotten : (n : Node) (name : StateName) → IsTied n → IsTied (forgotten n name)
tied-forgotten n name tied = tied-out n (forgotten n name) name None tied (forgotten-states n name) refl (forgotten-held n name ∙ lost-held n name)
