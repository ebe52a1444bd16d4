-- The groups of a frame: how they are made one after another, and that the frame has a spelling.
use Rattle.std.proofs.Common.{◌≡◌, ℕ, suc, ◌+◌, ◌-◌, ◌^◌, ◌<◌, ◌≤◌, Bool, true, false, cond, List, [], ◌∷◌, ◌++◌, map, take, drop, length}
use Rattle.std.proofs.Common.{get_or, append_assoc, add-one, Option, Some, None, refl, sym, ◌∙◌, ap, subst, arith}
use Rattle.std.specs.Prelude.{◌==◌, Vec, IfSome, IfOk, IsSome, Result, Ok, Err, if◌then◌else◌}
use Rattle.std.specs.List.{AllByRecursion, flat_map, slice_get, sum_by}
use Rattle.std.specs.Option.{option_map_or}
use Rattle.std.proofs.Math.Seq.{take-suc}
use Rattle.std.proofs.lemmas.Bool.Decides.{nat_tests}
use Rattle.std.proofs.lemmas.Grind.{flat_map-append}
use Rattle.std.proofs.lemmas.List.{map-append}
use Rattle.std.proofs.lemmas.List.Sums.{sum_by-cons}
use Rattle.pfl_base.specs.Lists.{neighbours, joined}
use Rattle.pfl_base.proofs.ForCallers.{each-drop, each-weaker}
use Rattle.pfl_edits.specs.Maps as maps
use Rattle.pfl_edits.proofs.ForCallers.{some_is_none}
use Rattle.pfl_rules.proofs.ForCallers.{few}
use Rattle.pfl_track.specs.declared.state.State.{State}
use Rattle.pfl_wire.specs.Spelling.{Spells}
use Rattle.pfl_wire.proofs.ForCallers.{spelled_len}
use Rattle.pfl_wire.specs.Actions.{action_number, action_with, record_len}
use Rattle.pfl_wire.specs.Frames.{Frame, action_of, RuleFits, IsGroupOf, IsSendable, group_len, frame_len, lists}
use Rattle.pfl_wire.specs.declared.action.Action.{Action}
use Rattle.pfl_wire.specs.declared.action.Action.TheVariants as action
use Rattle.pfl_wire.specs.declared.message.Message.{Message}
use Rattle.pfl_wire.specs.declared.message.Message.TheVariants as message
use Rattle.pfl_receive.specs.queue.declared.Entry.{Entry}
use Rattle.pfl_receive.specs.queue.declared.Entry.TheVariants.{Marked, Request, Status, Clear}
use Rattle.pfl_receive.specs.queue.declared.Kind.TheVariants.{Insert, InsertAck, Update, UpdateShort, Delete}
use Rattle.pfl_receive.specs.queue.inner.Fitting.{entry_bytes}
use Rattle.pfl_receive.specs.queue.Taking.{entry_action, one_action, bytes_of}
use Rattle.pfl_node.specs.Flushing.{state_record, update_record, messages_of}
use Rattle.pfl_receive.specs.desk.Nodes.{Node, AreParts}
use Rattle.pfl_node.specs.inner.Sending.{IsTold, run_of, groups_of}

abbrev pub like : Message → Message → Bool
like a b = one_action (action_of a) (action_of b)

-- ---- what an entry carries

-- one message, of the action, and of a rule that has a spelling
pub record OneOf (ms : List Message) (a : Action) : Type 0 where
  pub message : Message
  pub is : ms ≡ message ∷ []
  pub action : action_of message ≡ a
  pub fits : RuleFits message

one-named : (n : Node) (o : Option State) (make : State → Message) (a : Action) → ((s : State) → action_of (make s) ≡ a)
    → ((s : State) → o ≡ Some s → RuleFits (make s)) → IsSome o → OneOf (option_map_or (λ s. make s ∷ []) o []) a
one-named n None make a acts fits some = absurd (cc)
one-named n (Some s) make a acts fits some = record { message = make s; is = refl; action = acts s; fits = fits s refl }

few-rules : (rule : Option ℕ) (most : ℕ) → most ≤ 256 → IfSome rule (λ r. r < most) → IfSome rule (λ r. r < 2 ^ 32 - 1)
few-rules None most h below = below
few-rules (Some r) most h below = omega arith

state-fits : (n : Node) → AreParts n → (s : State) (o : Option State)
    → ((t : State) → o ≡ Some t → IfSome t.rule (λ r. r < length n.rules.list)) → o ≡ Some s → IfSome s.rule (λ r. r < 2 ^ 32 - 1)
state-fits n is s o each at = few-rules s.rule (length n.rules.list) (few n.rules.list is.rules.faultless) (each s at)

pub tells-one : (n : Node) → AreParts n → (e : Entry) → IsTold n e → OneOf (messages_of n e) (entry_action e)
tells-one n is (Marked Insert number name) told =
    one-named n (maps.get n.states name) (λ s. message.Insert (state_record n s)) action.Insert (λ s. refl)
    (λ s at. state-fits n is s (maps.get n.states name) (λ t there. (is.each name t there).rule) at) told
tells-one n is (Marked InsertAck number name) told = record { message = message.InsertAck name; is = refl; action = refl; fits = tt }
tells-one n is (Marked Update number name) told =
    one-named n (maps.get n.states name) (λ s. message.Update (state_record n s)) action.Update (λ s. refl)
    (λ s at. state-fits n is s (maps.get n.states name) (λ t there. (is.each name t there).rule) at) told
tells-one n is (Marked UpdateShort number name) told =
    one-named n (maps.get n.states name) (λ s. message.UpdateShort (update_record n s)) action.UpdateShort (λ s. refl) (λ s at. tt) told
tells-one n is (Marked Delete number name) told = record { message = message.DeleteShort name; is = refl; action = refl; fits = tt }
tells-one n is (Request name) told = record { message = message.UpdateRequest name; is = refl; action = refl; fits = tt }
tells-one n is (Status status) told = record { message = message.Bulk n.creator status; is = refl; action = refl; fits = tt }
tells-one n is (Clear creator bound) told = record { message = message.Clear creator bound; is = refl; action = refl; fits = tt }

-- ---- one group after another

-- the first group begins with the first message
record Begins (x : Message) (groups : List (List Message)) : Type 0 where
  rest : List Message
  others : List (List Message)
  is : groups ≡ (x ∷ rest) ∷ others

joined-begins : (x : Message) (groups : List (List Message)) → Begins x (joined like x groups)
joined-begins x [] = record { rest = []; others = []; is = refl }
joined-begins x ([] ∷ groups) = record { rest = []; others = groups; is = refl }
joined-begins x ((y ∷ ys) ∷ groups) =
    elim (like x y) as (λ b. Begins x (if b then (x ∷ y ∷ ys) ∷ groups else (x ∷ []) ∷ (y ∷ ys) ∷ groups)) [
      | true ↦ record { rest = y ∷ ys; others = groups; is = refl }
      | false ↦ record { rest = []; others = (y ∷ ys) ∷ groups; is = refl }
    ]

-- a message that is like the next one joins its group
joins : (x y : Message) (ys : List Message) (groups : List (List Message)) → like x y ≡ true → joined like x ((y ∷ ys) ∷ groups) ≡ (x ∷ y ∷ ys) ∷ groups
joins x y ys groups same = ap (λ b. if b then (x ∷ y ∷ ys) ∷ groups else (x ∷ []) ∷ (y ∷ ys) ∷ groups) same

-- and one that is not begins its own
parts : (x y : Message) (ms : List Message) → like x y ≡ false → neighbours like (x ∷ y ∷ ms) ≡ (x ∷ []) ∷ neighbours like (y ∷ ms)
parts x y ms other =
    let first = joined-begins y (neighbours like ms) in
    ap (joined like x) first.is
    ∙ (ap (λ b. if b then (x ∷ y ∷ first.rest) ∷ first.others else (x ∷ []) ∷ (y ∷ first.rest) ∷ first.others) other
    ∙ ap (λ (gs : List (List Message)). (x ∷ []) ∷ gs) (sym first.is))

-- the message of an entry in front of others
in_front : (n : Node) (e : Entry) (es : List Entry) (m : Message) → messages_of n e ≡ m ∷ []
    → flat_map (messages_of n) (e ∷ es) ≡ m ∷ flat_map (messages_of n) es
in_front n e es m is = ap (λ (ms : List Message). ms ++ flat_map (messages_of n) es) is

-- what a message begins whose group has the first of these entries, k in number
abbrev Front : Node → List Entry → Message → ℕ → Type 0
Front n es m k = neighbours like (m ∷ flat_map (messages_of n) es) ≡ (m ∷ flat_map (messages_of n) (take k es))
    ∷ neighbours like (flat_map (messages_of n) (drop k es))

front-more : (n : Node) (e : Entry) (es : List Entry) (m f : Message) (k : ℕ) → messages_of n e ≡ f ∷ [] → like m f ≡ true → Front n es f k
    → Front n (e ∷ es) m (1 + k)
front-more n e es m f k is same front =
    let more : 1 + k ≡ suc k = omega arith in
    rw more
    (ap (λ ms. neighbours like (m ∷ ms)) (in_front n e es f is)
    ∙ (ap (joined like m) front
    ∙ (joins m f (flat_map (messages_of n) (take k es)) (neighbours like (flat_map (messages_of n) (drop k es))) same
    ∙ ap (λ ms. (m ∷ ms) ∷ neighbours like (flat_map (messages_of n) (drop k es))) (sym (in_front n e (take k es) f is)))))

front-last : (n : Node) (e : Entry) (es : List Entry) (m f : Message) → messages_of n e ≡ f ∷ [] → like m f ≡ false → Front n (e ∷ es) m 0
front-last n e es m f is other =
    ap (λ ms. neighbours like (m ∷ ms)) (in_front n e es f is)
    ∙ (parts m f (flat_map (messages_of n) es) other ∙ ap (λ ms. (m ∷ []) ∷ neighbours like ms) (sym (in_front n e es f is)))

inner : {X : Type 0} (x y : X) → Some x ≡ Some y → x ≡ y
inner x y e = cc

number-action : (a : Action) → action_with (action_number a) ≡ Some a
number-action action.Clear = refl
number-action action.Insert = refl
number-action action.InsertAck = refl
number-action action.Update = refl
number-action action.UpdateShort = refl
number-action action.UpdateRequest = refl
number-action action.Delete = refl
number-action action.DeleteShort = refl
number-action action.Bulk = refl

same-number : (a b : ℕ) → (a == b) ≡ true → a ≡ b
same-number a b h = grind (arith, nat_tests)

-- actions of one number are one
same-action : (a b : Action) → one_action a b ≡ true → a ≡ b
same-action a b h = inner a b (sym (number-action a) ∙ (ap action_with (same-number (action_number a) (action_number b) h) ∙ number-action b))

other_way : (a b : ℕ) (t : Bool) → (b == a) ≡ t → (a == b) ≡ t
other_way a b true h = grind (arith, nat_tests)
other_way a b false h = grind (arith, nat_tests)

-- the message before a run is like the next one exactly where that is in the run
like-as : (m f : Message) (a b : Action) (t : Bool) → action_of m ≡ a → action_of f ≡ b → one_action b a ≡ t → like m f ≡ t
like-as m f a b t acts is h =
    ap (λ x. one_action x (action_of f)) acts ∙ (ap (λ x. one_action a x) is ∙ other_way (action_number a) (action_number b) t h)

front-run : (n : Node) → AreParts n → (a : Action) (es : List Entry) → AllByRecursion (IsTold n) es → (m : Message) → action_of m ≡ a
    → Front n es m (run_of a es)
front-run n is a [] told m acts = refl
front-run n is a (e ∷ es) told m acts =
    let one = tells-one n is e told.0 in
    elim (one_action (entry_action e) a) as (λ t. one_action (entry_action e) a ≡ t → Front n (e ∷ es) m (cond t (1 + run_of a es) 0)) [
      | true ↦ λ h. front-more n e es m one.message (run_of a es) one.is (like-as m one.message a (entry_action e) true acts one.action h)
          (front-run n is a es told.1 one.message (one.action ∙ same-action (entry_action e) a h))
      | false ↦ λ h. front-last n e es m one.message one.is (like-as m one.message a (entry_action e) false acts one.action h)
    ] refl

alike : (a : ℕ) → (a == a) ≡ true
alike a = grind (arith, nat_tests)

-- the groups of entries: the run in front, and those of the others
pub run-first : (n : Node) → AreParts n → (e : Entry) (es : List Entry) → AllByRecursion (IsTold n) (e ∷ es) →
    groups_of n (e ∷ es) ≡ flat_map (messages_of n) (take (run_of (entry_action e) (e ∷ es)) (e ∷ es))
    ∷ groups_of n (drop (run_of (entry_action e) (e ∷ es)) (e ∷ es))
run-first n is e es told =
    let one = tells-one n is e told.0 in
    let k = run_of (entry_action e) es in
    let run : run_of (entry_action e) (e ∷ es) ≡ suc k = ap (λ b. cond b (1 + k) 0) (alike (action_number (entry_action e))) ∙ omega arith in
    ap (neighbours like) (in_front n e es one.message one.is)
    ∙ (front-run n is (entry_action e) es told.1 one.message one.action
    ∙ (ap (λ (ms : List Message). ms ∷ neighbours like (flat_map (messages_of n) (drop k es))) (sym (in_front n e (take k es) one.message one.is))
    ∙ ap (λ (j : ℕ). flat_map (messages_of n) (take j (e ∷ es)) ∷ neighbours like (flat_map (messages_of n) (drop j (e ∷ es)))) (sym run)))

-- ---- the groups have a spelling

abbrev IsOf : Action → Message → Type 0
IsOf a m = action_of m ≡ a

-- records of one action, at least one, and each as wanted
abbrev Alike : (Message → Type 0) → List Message → Type 0
Alike P [] = ⊥
Alike P (m ∷ ms) = AllByRecursion (IsOf (action_of m)) ms × AllByRecursion P (m ∷ ms)

joined-alike : (P : Message → Type 0) (x : Message) (groups : List (List Message)) → P x → AllByRecursion (Alike P) groups
    → AllByRecursion (Alike P) (joined like x groups)
joined-alike P x [] p all = ((tt, (p, tt)), tt)
joined-alike P x ([] ∷ groups) p all = absurd all.0
joined-alike P x ((y ∷ ys) ∷ groups) p all =
    elim (like x y) as (λ b. like x y ≡ b → AllByRecursion (Alike P) (if b then (x ∷ y ∷ ys) ∷ groups else (x ∷ []) ∷ (y ∷ ys) ∷ groups)) [
      | true ↦ λ h. let same = sym (same-action (action_of x) (action_of y) h)
          in (((same, each-weaker (IsOf (action_of y)) (IsOf (action_of x)) (λ k is. is ∙ same) ys all.0.0), (p, all.0.1)), all.1)
      | false ↦ λ h. ((tt, (p, tt)), all)
    ] refl

neighbours-alike : (P : Message → Type 0) (ms : List Message) → AllByRecursion P ms → AllByRecursion (Alike P) (neighbours like ms)
neighbours-alike P [] all = tt
neighbours-alike P (m ∷ ms) all = joined-alike P m (neighbours like ms) all.0 (neighbours-alike P ms all.1)

abbrev message_len : Message → ℕ
message_len m = record_len (action_of m)

least : (a : Action) → 1 ≤ record_len a
least action.Clear = omega arith
least action.Insert = omega arith
least action.InsertAck = omega arith
least action.Update = omega arith
least action.UpdateShort = omega arith
least action.UpdateRequest = omega arith
least action.Delete = omega arith
least action.DeleteShort = omega arith
least action.Bulk = omega arith

no-longer : (ms : List Message) → length ms ≤ sum_by message_len ms
no-longer [] = omega arith
no-longer (m ∷ ms) = omega (arith, sum_by-cons message_len m ms, least (action_of m), no-longer ms)

one-group : (P : Message → Type 0) (ms : List Message) → length ms < 2 ^ 16 → Alike P ms → IsGroupOf P ms
one-group P [] short alike = alike
one-group P (m ∷ ms) short alike = (short, alike.0, alike.1)

short-groups : (P : Message → Type 0) (groups : List (List Message)) → sum_by group_len groups < 2 ^ 16 → AllByRecursion (Alike P) groups
    → AllByRecursion (IsGroupOf P) groups
short-groups P [] short all = tt
short-groups P (g ∷ groups) short all =
    let sum = sum_by-cons group_len g groups in
    (one-group P g (omega (arith, sum, no-longer g)) all.0, short-groups P groups (omega (arith, sum)) all.1)

-- ---- and the bytes of the entries

actions-told : (n : Node) → AreParts n → (es : List Entry) → AllByRecursion (IsTold n) es → map action_of (flat_map (messages_of n) es) ≡ map entry_action es
actions-told n is [] told = refl
actions-told n is (e ∷ es) told =
    let one = tells-one n is e told.0 in
    ap (map action_of) (in_front n e es one.message one.is)
    ∙ (ap (λ a. a ∷ map action_of (flat_map (messages_of n) es)) one.action
    ∙ ap (λ (as_told : List Action). entry_action e ∷ as_told) (actions-told n is es told.1))

fits-told : (n : Node) → AreParts n → (es : List Entry) → AllByRecursion (IsTold n) es → AllByRecursion RuleFits (flat_map (messages_of n) es)
fits-told n is [] told = tt
fits-told n is (e ∷ es) told =
    let one = tells-one n is e told.0 in
    subst (AllByRecursion RuleFits) (sym (in_front n e es one.message one.is)) (one.fits, fits-told n is es told.1)

joined-actions : (x : Message) (groups : List (List Message))
    → joined one_action (action_of x) (map (map action_of) groups) ≡ map (map action_of) (joined like x groups)
joined-actions x [] = refl
joined-actions x ([] ∷ groups) = refl
joined-actions x ((y ∷ ys) ∷ groups) =
    elim (like x y) as (λ b. (if b then (action_of x ∷ action_of y ∷ map action_of ys) ∷ map (map action_of) groups
    else (action_of x ∷ []) ∷ (action_of y ∷ map action_of ys) ∷ map (map action_of) groups)
    ≡ map (map action_of) (if b then (x ∷ y ∷ ys) ∷ groups else (x ∷ []) ∷ (y ∷ ys) ∷ groups)) [
      | true ↦ refl
      | false ↦ refl
    ]

neighbours-actions : (ms : List Message) → neighbours one_action (map action_of ms) ≡ map (map action_of) (neighbours like ms)
neighbours-actions [] = refl
neighbours-actions (m ∷ ms) = ap (joined one_action (action_of m)) (neighbours-actions ms) ∙ joined-actions m (neighbours like ms)

records-len : (ms : List Message) → sum_by record_len (map action_of ms) ≡ sum_by message_len ms
records-len [] = refl
records-len (m ∷ ms) = omega (arith, sum_by-cons record_len (action_of m) (map action_of ms), sum_by-cons message_len m ms, records-len ms)

abbrev actions_len : List Action → ℕ
actions_len group = 4 + sum_by record_len group

groups-len : (groups : List (List Message)) → sum_by actions_len (map (map action_of) groups) ≡ sum_by group_len groups
groups-len [] = refl
groups-len (g ∷ groups) = omega
    (arith, sum_by-cons actions_len (map action_of g) (map (map action_of) groups), sum_by-cons group_len g groups, records-len g, groups-len groups)

pub frame-bytes : (n : Node) → AreParts n → (es : List Entry) → AllByRecursion (IsTold n) es → frame_len (groups_of n es) ≡ entry_bytes es
frame-bytes n is es told =
    let ms = flat_map (messages_of n) es in
    ap (λ (k : ℕ). 20 + k) (sym (groups-len (neighbours like ms)))
    ∙ (ap (λ (groups : List (List Action)). 20 + sum_by actions_len groups) (sym (neighbours-actions ms)) ∙ ap bytes_of (actions-told n is es told))

pub can-be-sent : (n : Node) → AreParts n → (es : List Entry) → AllByRecursion (IsTold n) es → entry_bytes es < 2 ^ 16 → (f : Frame)
    → f.groups ≡ groups_of n es → IsSendable f
can-be-sent n is es told short f groups =
    let ms = flat_map (messages_of n) es in
    let bytes = ap frame_len groups ∙ frame-bytes n is es told in
    let here = frame-bytes n is es told in
    record {
      groups = subst (AllByRecursion (IsGroupOf RuleFits)) (sym groups)
          (short-groups RuleFits (neighbours like ms) (omega (arith, here, short)) (neighbours-alike RuleFits ms (fits-told n is es told)));
      short = omega (arith, bytes, short);
    }

-- what spells them has as many bytes
pub spelled-len : {A E : Type 0} (n : Node) → AreParts n → (es : List Entry) → AllByRecursion (IsTold n) es → (f : Frame) → f.groups ≡ groups_of n es
    → (r : Result (Vec ℕ A) E) → IfOk r (λ v. Spells v.items f) → IfOk r (λ v. length v.items ≡ entry_bytes es)
spelled-len n is es told f groups (Ok v) spells = spelled_len v.items f spells ∙ (ap frame_len groups ∙ frame-bytes n is es told)
spelled-len n is es told f groups (Err e) spells = tt

-- ---- message by message, and group by group

pub messages-more : (n : Node) (es : List Entry) (i : ℕ) (d : Entry) (now next : List Message) (m : Message) → i < length es
    → now ≡ flat_map (messages_of n) (take i es) → messages_of n (get_or es i d) ≡ m ∷ [] → next ≡ now ++ m ∷ []
    → next ≡ flat_map (messages_of n) (take (i + 1) es)
messages-more n es i d now next m below so is more =
    rw (add-one, take-suc es i d below)
    (more ∙ (ap (λ (ms : List Message). ms ++ m ∷ []) so
    ∙ (ap (λ (ms : List Message). flat_map (messages_of n) (take i es) ++ ms) (sym (in_front n (get_or es i d) [] m is))
    ∙ sym (flat_map-append (messages_of n) (take i es) (get_or es i d ∷ [])))))

-- the groups so far, and those of the entries that are left
pub record IsGrouped (n : Node) (all left : List Entry) (groups : List (List Message)) : Type 0 where
  pub told : AllByRecursion (IsTold n) left
  pub rest : groups ++ groups_of n left ≡ groups_of n all

-- one group more
pub grouped-more : (n : Node) → AreParts n
    → (all left : List Entry) (now next : List (List Message)) (group : List Message) (e : Entry) (k : ℕ) → IsGrouped n all left now
    → slice_get left 0 ≡ Some e → k ≡ run_of (entry_action e) left
    → group ≡ flat_map (messages_of n) (take k left) → next ≡ now ++ group ∷ [] → IsGrouped n all (drop k left) next
grouped-more n is all [] now next group e k so first run made more = absurd (some_is_none e (sym first))
grouped-more n is all (d ∷ es) now next group e k so first run made more =
    let here : d ≡ e = inner d e first in
    let at : k ≡ run_of (entry_action d) (d ∷ es) = run ∙ ap (λ x. run_of (entry_action x) (d ∷ es)) (sym here) in
    let split = run-first n is d es so.told in
    record {
      told = each-drop (IsTold n) k (d ∷ es) so.told;
      rest =
          ap (λ (gs : List (List Message)). gs ++ groups_of n (drop k (d ∷ es))) (more ∙ ap (λ (g : List Message). now ++ g ∷ []) made)
          ∙ (append_assoc now (flat_map (messages_of n) (take k (d ∷ es)) ∷ []) (groups_of n (drop k (d ∷ es)))
          ∙ (ap (λ (gs : List (List Message)). now ++ gs)
          (ap (λ (j : ℕ). flat_map (messages_of n) (take j (d ∷ es)) ∷ groups_of n (drop j (d ∷ es))) at ∙ sym split) ∙ so.rest));
    }

pub lists-more : {A : Type 0} (now next : List (Vec Message A)) (group : Vec Message A) → next ≡ now ++ group ∷ [] → lists next ≡ lists now ++ group.items ∷ []
lists-more {A = A} now next group more = ap lists more ∙ map-append (λ (g : Vec Message A). g.items) now (group ∷ [])
