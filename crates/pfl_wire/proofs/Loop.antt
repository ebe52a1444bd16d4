-- Reading one item after the other, as a loop does that keeps what it reads while there is memory.
use Rattle.std.proofs.Common.{◌≡◌, ℕ, suc, ◌-◌, ◌+◌, ◌≤◌, ◌<◌, List, [], ◌∷◌, ◌++◌, length, Option, Some, None, Result, Ok, Err, refl, sym, ap, ◌∙◌}
use Rattle.std.proofs.Common.{append_assoc, arith}
use Rattle.std.specs.Prelude.{Vec}
use Rattle.std.proofs.lemmas.List.{append-nil, map_push}
use Rattle.pfl_wire.specs.Frames.{lists}
use Rattle.pfl_wire.specs.declared.action.Action.{Action}
use Rattle.pfl_wire.specs.declared.message.Message.{Message}
use Rattle.pfl_wire.specs.declared.fault.BadFrame.{BadFrame}
use Rattle.pfl_wire.specs.Fields.{◌>>=◌, Read}
use Rattle.pfl_wire.specs.inner.Answers.{Joins, Keeps, left_by, kept_items, kept_lists}
use Rattle.pfl_wire.specs.Records.{record_at}
use Rattle.pfl_wire.specs.Reading.{records_at, group_at, groups_at}
use Rattle.pfl_wire.proofs.Fields.{IsBytes}
use Rattle.pfl_wire.proofs.Groups.{group_takes, group_shorter, groups_enough, groups_step}

-- what was read before, and what is still read
abbrev pub with_front : {X : Type 0} → List X → Read (List X) → Read (List X)
with_front front read = read >>= λ x. Ok (front ++ x.0, x.1)

-- an item, and what is still read
abbrev pub with_first : {X : Type 0} → X → Read (List X) → Read (List X)
with_first x read = read >>= λ y. Ok (x ∷ y.0, y.1)

-- what was kept so far and what is still read make the whole; where what was read is lost, the rest of the bytes does
abbrev pub Goes : {X : Type 0} → Option (List X) → Read (List X) → Read (List X) → Type 0
Goes (Some front) todo total = with_front front todo ≡ total
Goes None todo total = left_by todo ≡ left_by total

-- the item that was kept, if it was, is the one that was read
abbrev pub IsItem : {X : Type 0} → Option X → X → Type 0
IsItem None x = Unit {0}
IsItem (Some y) x = y ≡ x

left_by-with_first : {X : Type 0} (x : X) (read : Read (List X)) → left_by (with_first x read) ≡ left_by read
left_by-with_first x (Ok y) = refl
left_by-with_first x (Err e) = refl

left_by-with_front : {X : Type 0} (front : List X) (read : Read (List X)) → left_by (with_front front read) ≡ left_by read
left_by-with_front front (Ok y) = refl
left_by-with_front front (Err e) = refl

regroup : {X : Type 0} (front : List X) (x : X) (read : Read (List X)) → with_front (front ++ x ∷ []) read ≡ with_front front (with_first x read)
regroup {X = X} front x (Ok y) = ap (λ (ns : List X). Ok (ns, y.1)) (append_assoc front (x ∷ []) y.0)
regroup front x (Err f) = refl

pub goes_on : {X : Type 0} (old : Option (List X)) (item : Option X) (new : Option (List X)) (x : X) (todo total : Read (List X))
    → Joins old item new → IsItem item x → Goes old (with_first x todo) total → Goes new todo total
goes_on None item None x todo total joins is so_far = sym (left_by-with_first x todo) ∙ so_far
goes_on (Some front) item None x todo total joins is so_far =
    sym (left_by-with_first x todo) ∙ sym (left_by-with_front front (with_first x todo)) ∙ ap left_by so_far
goes_on None item (Some ys) x todo total joins is so_far = absurd joins
goes_on (Some front) None (Some ys) x todo total joins is so_far = absurd joins
goes_on {X = X} (Some front) (Some y) (Some ys) x todo total joins is so_far =
    ap (λ (f : List X). with_front f todo) (joins ∙ ap (λ (z : X). front ++ z ∷ []) is) ∙ regroup front x todo ∙ so_far

failed : {X : Type 0} (e : BadFrame) (total : Read X) → left_by total ≡ Err e → total ≡ Err e
failed e (Ok x) h = absurd cc
failed e (Err f) h = cc

pub ends : {X : Type 0} (kept : Option (List X)) (todo total : Read (List X)) (e : BadFrame) → todo ≡ Err e → Goes kept todo total → total ≡ Err e
ends (Some front) todo total e is so_far = sym so_far ∙ ap (with_front front) is
ends None todo total e is so_far = failed e total (sym so_far ∙ ap left_by is)

pub is_done : {X : Type 0} (kept : Option (List X)) (bytes : List ℕ) (total : Read (List X)) → Goes kept (Ok ([], bytes)) total → Keeps kept bytes total
is_done {X = X} (Some front) bytes total so_far = sym so_far ∙ ap (λ (xs : List X). Ok (xs, bytes)) (append-nil front)
is_done None bytes total so_far = sym so_far

-- ---- records

pub records_go_on : (old new : Option (List Message)) (a : Action) (count i : ℕ) (bytes : List ℕ) (m : Message) (after : List ℕ) (total : Read (List Message))
    → i < count → record_at a bytes ≡ Ok (m, after) → Joins old (Some m) new
    → Goes old (records_at a (count - i) bytes) total → Goes new (records_at a (count - (i + 1)) after) total
unfolding records_at
records_go_on old new a count i bytes m after total lt h joins so_far =
    let k : count - i ≡ suc (count - (i + 1)) = omega arith in
    let one : records_at a (count - i) bytes ≡ with_first m (records_at a (count - (i + 1)) after) = rw (k, h) refl in
    goes_on old (Some m) new m (records_at a (count - (i + 1)) after) total joins refl (rw one at so_far)

pub records_end : (kept : Option (List Message)) (a : Action) (count i : ℕ) (bytes : List ℕ) (e : BadFrame) (total : Read (List Message))
    → i < count → record_at a bytes ≡ Err e → Goes kept (records_at a (count - i) bytes) total → total ≡ Err e
unfolding records_at
records_end kept a count i bytes e total lt h so_far =
    let k : count - i ≡ suc (count - (i + 1)) = omega arith in
    let one : records_at a (count - i) bytes ≡ Err e = rw (k, h) refl in
    ends kept (records_at a (count - i) bytes) total e one so_far

pub records_done : (kept : Option (List Message)) (a : Action) (count i : ℕ) (bytes : List ℕ) (total : Read (List Message))
    → count ≤ i → Goes kept (records_at a (count - i) bytes) total → Keeps kept bytes total
unfolding records_at
records_done kept a count i bytes total le so_far =
    let k : count - i ≡ 0 = omega arith in
    let one : records_at a (count - i) bytes ≡ Ok ([], bytes) = rw k refl in
    is_done kept bytes total (rw one at so_far)

-- ---- groups

abbrev left : List ℕ → Result (List ℕ) BadFrame
left x = Ok x

-- what was read before the bytes that are left
left_ok : {X P : Type 0} (r : Read X) (rest : List ℕ) → left_by r ≡ Ok rest → ((x : X) → r ≡ Ok (x, rest) → P) → P
left_ok {X = X} (Ok y) rest e next = next y.0 (ap (λ (t : List ℕ). Ok (y.0, t)) (is_left y.1 rest e))
  where
    is_left : (a b : List ℕ) → left a ≡ left b → a ≡ b
    is_left a b e = cc
left_ok (Err f) rest e next = absurd cc

pub Joins-lists : {A : Type 0} (old : Option (Vec (Vec Message A) A)) (item : Option (Vec Message A)) (new : Option (Vec (Vec Message A) A))
    → Joins (kept_items old) item (kept_items new) → Joins (kept_lists old) (kept_items item) (kept_lists new)
Joins-lists old item None joins = tt
Joins-lists None item (Some ys) joins = absurd joins
Joins-lists (Some xs) None (Some ys) joins = absurd joins
Joins-lists {A = A} (Some xs) (Some v) (Some ys) joins = ap lists joins ∙ map_push (λ (g : Vec Message A). g.items) xs.items v

-- the group that was kept, if it was, and the bytes after it, are those that were read
group_was : {P : Type 0} (group : Option (List Message)) (after bytes : List ℕ) → Keeps group after (group_at bytes)
    → ((g : List Message) → group_at bytes ≡ Ok (g, after) → IsItem group g → P) → P
group_was (Some g) after bytes keeps next = next g keeps refl
group_was None after bytes keeps next = left_ok (group_at bytes) after keeps (λ g is. next g is tt)

pub groups_shrink : (group : Option (List Message)) (after bytes : List ℕ) → IsBytes bytes → Keeps group after (group_at bytes)
    → length after + 4 ≤ length bytes
groups_shrink group after bytes fits keeps = group_was group after bytes keeps (λ g is _. group_shorter bytes (g, after) fits is)

pub groups_after : (group : Option (List Message)) (after bytes : List ℕ) → IsBytes bytes → Keeps group after (group_at bytes) → IsBytes after
groups_after group after bytes fits keeps = group_was group after bytes keeps (λ g is _. (group_takes bytes (g, after) fits is).takes.rest_fits)

pub groups_go_on : (old : Option (List (List Message))) (group : Option (List Message)) (new : Option (List (List Message)))
    (bytes after : List ℕ) (total : Read (List (List Message)))
    → IsBytes bytes → 0 < length bytes → Keeps group after (group_at bytes) → Joins old group new
    → Goes old (groups_at (length bytes) bytes) total → Goes new (groups_at (length after) after) total
groups_go_on old group new [] after total fits some keeps joins so_far = absurd (omega arith)
groups_go_on old group new (b ∷ bytes) after total fits some keeps joins so_far =
    group_was group after (b ∷ bytes) keeps (λ g is item.
    let shorter = group_shorter (b ∷ bytes) (g, after) fits is in
    let after_fits = (group_takes (b ∷ bytes) (g, after) fits is).takes.rest_fits in
    let same : groups_at (length bytes) after ≡ groups_at (length after) after =
    groups_enough (length bytes) (length after) after after_fits (omega arith) (omega arith) in
    let one : groups_at (suc (length bytes)) (b ∷ bytes) ≡ with_first g (groups_at (length after) after) =
    groups_step (length bytes) (b ∷ bytes) g after (omega arith) is ∙ ap (with_first g) same in
    goes_on old group new g (groups_at (length after) after) total joins item (rw one at so_far))

pub groups_end : (kept : Option (List (List Message))) (bytes : List ℕ) (e : BadFrame) (total : Read (List (List Message)))
    → 0 < length bytes → group_at bytes ≡ Err e → Goes kept (groups_at (length bytes) bytes) total → total ≡ Err e
unfolding groups_at
groups_end kept [] e total some h so_far = absurd (omega arith)
groups_end kept (b ∷ bytes) e total some h so_far =
    ends kept (groups_at (suc (length bytes)) (b ∷ bytes)) total e
    (ap (λ (r : Read (List Message)). r >>= λ first. groups_at (length bytes) first.1 >>= λ rest. Ok (first.0 ∷ rest.0, rest.1)) h) so_far

pub groups_done : (kept : Option (List (List Message))) (bytes : List ℕ) (total : Read (List (List Message)))
    → length bytes ≡ 0 → Goes kept (groups_at (length bytes) bytes) total → Keeps kept [] total
unfolding groups_at
groups_done kept [] total none so_far = is_done kept [] total so_far
groups_done kept (b ∷ bytes) total none so_far = absurd (omega arith)
