-- What is left to read of a frame in its bytes: begun, read on, and at its end.
use Rattle.std.proofs.Common.{◌≡◌, ℕ, suc, ◌-◌, ◌+◌, ◌*◌, ◌≤◌, ◌<◌, List, [], ◌∷◌, ◌++◌, length, Result, Ok, Err, refl, sym, ap, ◌∙◌, arith}
use Rattle.std.specs.Prelude.{IsOk}
use Rattle.std.specs.List.{flat_map, sum_by}
use Rattle.std.proofs.lemmas.List.{length-append}
use Rattle.std.proofs.lemmas.List.Concat.{flat_map-cons}
use Rattle.std.proofs.lemmas.List.Sums.{sum_by-cons}
use Rattle.pfl_wire.specs.declared.action.Action.{Action}
use Rattle.pfl_wire.specs.declared.action.Action.TheVariants as action
use Rattle.pfl_wire.specs.declared.message.Message.{Message}
use Rattle.pfl_wire.specs.declared.subheader.Subheader.{Subheader}
use Rattle.pfl_wire.specs.declared.fault.BadFrame.{BadFrame}
use Rattle.pfl_wire.specs.Actions.{record_len}
use Rattle.pfl_wire.specs.Frames.{Frame, action_of, all_of, records_of, group_len, frame_len}
use Rattle.pfl_wire.specs.Spelling.{number_bytes, group_bytes, spelling}
use Rattle.pfl_wire.specs.Fields.{◌>>=◌, Read}
use Rattle.pfl_wire.specs.Records.{record_at}
use Rattle.pfl_wire.specs.Reading.{records_at, subheader_at, group_at, groups_at, header_at, reading}
use Rattle.pfl_wire.specs.inner.Answers.{left_by}
use Rattle.pfl_wire.specs.inner.Left.{groups_in, left_at, listed, led_by}
use Rattle.pfl_wire.proofs.Fields.{IsBytes, length-number_bytes}
use Rattle.pfl_wire.proofs.Groups.{group_takes, group_shorter, groups_enough, bind_same, subheader_takes}
use Rattle.pfl_wire.proofs.Laws.{length-groups, reading_takes}

-- ---- steps

then_then : {A B C : Type 0} (r : Result A BadFrame) (f : A → Result B BadFrame) (g : B → Result C BadFrame) → ((r >>= f) >>= g) ≡ (r >>= λ x. f x >>= g)
then_then (Ok x) f g = refl
then_then (Err e) f g = refl

ok_of : {X : Type 0} (r : Result (List X) BadFrame) → IsOk r → r ≡ Ok (listed r)
ok_of (Ok xs) is = refl
ok_of (Err e) is = absurd cc

pub is_ok : {X : Type 0} (r : Result X BadFrame) (x : X) → r ≡ Ok x → IsOk r
is_ok r x is = rw is refl

no_fault : {X : Type 0} (r : Result X BadFrame) (e : BadFrame) → r ≡ Err e → IsOk r → ⊥
no_fault (Ok x) e is ok = cc
no_fault (Err f) e is ok = cc

-- ---- the groups that are left

-- the first group, and those after it, for which the bytes that are left are fuel enough
groups_in_more : (b : ℕ) (bytes : List ℕ) → IsBytes (b ∷ bytes)
    → groups_in (b ∷ bytes) ≡ (group_at (b ∷ bytes) >>= λ first. groups_in first.1 >>= λ rest. Ok (first.0 ∷ rest))
unfolding groups_in groups_at
groups_in_more b bytes fits =
    then_then (group_at (b ∷ bytes)) (λ first. groups_at (length bytes) first.1 >>= λ rest. Ok (first.0 ∷ rest.0, rest.1)) (λ x. Ok x.0)
    ∙ bind_same (group_at (b ∷ bytes)) (λ first. (groups_at (length bytes) first.1 >>= λ rest. Ok (first.0 ∷ rest.0, rest.1)) >>= λ x. Ok x.0)
    (λ first. groups_in first.1 >>= λ rest. Ok (first.0 ∷ rest))
    (λ first is.
    let less = group_shorter (b ∷ bytes) first fits is in
    let same : groups_at (length bytes) first.1 ≡ groups_at (length first.1) first.1 =
    groups_enough (length bytes) (length first.1) first.1 (group_takes (b ∷ bytes) first fits is).takes.rest_fits (omega arith) (omega arith) in
    then_then (groups_at (length bytes) first.1) (λ rest. Ok (first.0 ∷ rest.0, rest.1)) (λ x. Ok x.0)
    ∙ ap (λ (r : Read (List (List Message))). r >>= λ rest. Ok (first.0 ∷ rest.0)) same
    ∙ sym (then_then (groups_at (length first.1) first.1) (λ x. Ok x.0) (λ rest. Ok (first.0 ∷ rest))))

-- where no group is begun
left_between : (group : Subheader) (bytes : List ℕ) → group.count ≡ 0 → left_at group bytes ≡ (groups_in bytes >>= λ groups. Ok (all_of groups))
unfolding left_at records_at
left_between group bytes none = rw none refl

pub left_end : (group : Subheader) (bytes : List ℕ) → group.count ≡ 0 → length bytes ≡ 0 → left_at group bytes ≡ Ok []
unfolding groups_in groups_at
left_end group [] none at_end = left_between group [] none
left_end group (b ∷ bytes) none at_end = absurd (omega arith)

-- the next group's records, and those after it
group_left : (group : List Message × List ℕ)
    → ((groups_in group.1 >>= λ rest. Ok (group.0 ∷ rest)) >>= λ groups. Ok (all_of groups))
    ≡ (groups_in group.1 >>= λ rest. Ok (group.0 ++ all_of rest))
group_left group =
    then_then (groups_in group.1) (λ rest. Ok (group.0 ∷ rest)) (λ groups. Ok (all_of groups))
    ∙ bind_same (groups_in group.1) (λ rest. Ok (all_of (group.0 ∷ rest))) (λ rest. Ok (group.0 ++ all_of rest))
    (λ rest is. ap (λ (ms : List Message). Ok ms) (flat_map-cons (λ (g : List Message). g) group.0 rest))

left_begun : (group : Subheader) (bytes : List ℕ) → group.count ≡ 0 → 0 < length bytes → IsBytes bytes
    → left_at group bytes ≡ (subheader_at bytes >>= λ next. left_at next.0 next.1)
unfolding left_at group_at
left_begun group [] none more fits = absurd (omega arith)
left_begun group (b ∷ bytes) none more fits =
    left_between group (b ∷ bytes) none
    ∙ ap (λ (r : Result (List (List Message)) BadFrame). r >>= λ groups. Ok (all_of groups)) (groups_in_more b bytes fits)
    ∙ then_then (group_at (b ∷ bytes)) (λ first. groups_in first.1 >>= λ rest. Ok (first.0 ∷ rest)) (λ groups. Ok (all_of groups))
    ∙ bind_same (group_at (b ∷ bytes)) (λ first. (groups_in first.1 >>= λ rest. Ok (first.0 ∷ rest)) >>= λ groups. Ok (all_of groups))
    (λ first. groups_in first.1 >>= λ rest. Ok (first.0 ++ all_of rest)) (λ first is. group_left first)
    ∙ then_then (subheader_at (b ∷ bytes)) (λ next. records_at next.0.action next.0.count next.1)
    (λ first. groups_in first.1 >>= λ rest. Ok (first.0 ++ all_of rest))

-- the next group has a record, and what is left begins with it
pub next_group : (group : Subheader) (bytes : List ℕ) (next : Subheader × List ℕ) → group.count ≡ 0 → 0 < length bytes → IsBytes bytes
    → subheader_at bytes ≡ Ok next
    → (0 < next.0.count) × (left_at next.0 next.1 ≡ left_at group bytes)
next_group group bytes next none more fits is = (
  (subheader_takes bytes next fits is).some,
  sym (left_begun group bytes none more fits ∙ ap (λ (r : Read Subheader). r >>= λ next. left_at next.0 next.1) is),
)

pub group_stands : (group : Subheader) (bytes : List ℕ) (e : BadFrame) → group.count ≡ 0 → 0 < length bytes → IsBytes bytes
    → subheader_at bytes ≡ Err e → IsOk (left_at group bytes) → ⊥
group_stands group bytes e none more fits is ok =
    no_fault (left_at group bytes) e (left_begun group bytes none more fits ∙ ap (λ (r : Read Subheader). r >>= λ next. left_at next.0 next.1) is) ok

-- ---- the records that are left

-- the group without its first record
abbrev pub behind : Subheader → Subheader
behind group = record { action = group.action; count = group.count - 1 }

-- the records of a group, and those of the groups after it
abbrev with_groups : List Message × List ℕ → Result (List Message) BadFrame
with_groups records = groups_in records.1 >>= λ groups. Ok (records.0 ++ all_of groups)

-- a record, and those after it in its group
abbrev with_first : Message → List Message × List ℕ → Read (List Message)
with_first m rest = Ok (m ∷ rest.0, rest.1)

abbrev with_records : Action → ℕ → Message × List ℕ → Read (List Message)
with_records a n first = records_at a n first.1 >>= with_first first.0

-- a record, and all that is left after it
abbrev with_left : Subheader → Message × List ℕ → Result (List Message) BadFrame
with_left group first = led_by first.0 (left_at group first.1)

led_in : (m : Message) (records : Read (List Message)) → ((records >>= with_first m) >>= with_groups) ≡ led_by m (records >>= with_groups)
led_in m (Ok rest) = sym (then_then (groups_in rest.1) (λ groups. Ok (rest.0 ++ all_of groups)) (λ ms. Ok (m ∷ ms)))
led_in m (Err e) = refl

records_first : (a : Action) (n k : ℕ) (bytes : List ℕ) → n ≡ suc k → records_at a n bytes ≡ (record_at a bytes >>= with_records a k)
unfolding records_at
records_first a n k bytes is = rw is refl

left_first : (group : Subheader) (bytes : List ℕ) → 0 < group.count → left_at group bytes ≡ (record_at group.action bytes >>= with_left (behind group))
unfolding left_at
left_first group bytes more =
    ap (λ (r : Read (List Message)). r >>= with_groups) (records_first group.action group.count (group.count - 1) bytes (omega arith))
    ∙ then_then (record_at group.action bytes) (with_records group.action (group.count - 1)) with_groups
    ∙ bind_same (record_at group.action bytes) (λ first. with_records group.action (group.count - 1) first >>= with_groups)
    (with_left (behind group)) (λ first is. led_in first.0 (records_at group.action (group.count - 1) first.1))

pub first_left : (group : Subheader) (bytes : List ℕ) (first : Message × List ℕ) → 0 < group.count → record_at group.action bytes ≡ Ok first
    → left_at group bytes ≡ led_by first.0 (left_at (behind group) first.1)
first_left group bytes first more is = left_first group bytes more ∙ ap (λ (r : Read Message). r >>= with_left (behind group)) is

pub record_stands : (group : Subheader) (bytes : List ℕ) (e : BadFrame) → 0 < group.count → record_at group.action bytes ≡ Err e
    → IsOk (left_at group bytes) → ⊥
record_stands group bytes e more is ok =
    no_fault (left_at group bytes) e (left_first group bytes more ∙ ap (λ (r : Read Message). r >>= with_left (behind group)) is) ok

-- ---- frames

pub groups_checked : (bytes : List ℕ) → left_by (groups_at (length bytes) bytes) ≡ Ok [] → IsOk (groups_in bytes)
unfolding groups_in
groups_checked bytes is = checked (groups_at (length bytes) bytes) is
  where
    checked : (r : Read (List (List Message))) → left_by r ≡ Ok [] → IsOk (r >>= λ groups. Ok groups.0)
    checked (Ok x) is = refl
    checked (Err e) is = absurd cc

pub left_all : (group : Subheader) (bytes : List ℕ) → group.count ≡ 0 → IsOk (groups_in bytes) → left_at group bytes ≡ Ok (all_of (listed (groups_in bytes)))
left_all group bytes none ok =
    left_between group bytes none ∙ ap (λ (r : Result (List (List Message)) BadFrame). r >>= λ groups. Ok (all_of groups)) (ok_of (groups_in bytes) ok)

-- the frame of a checksum and of groups that were read
abbrev framed : List ℕ → List (List Message) × List ℕ → Result Frame BadFrame
framed print groups = Ok (record { print = print; groups = groups.0 })

-- the frame of a header
abbrev after_header : List ℕ × List ℕ → Result Frame BadFrame
after_header print = groups_at (length print.1) print.1 >>= framed print.0

abbrev only_groups : List (List Message) × List ℕ → Result (List (List Message)) BadFrame
only_groups groups = Ok groups.0

pub frame_read : (bytes : List ℕ) (print : List ℕ × List ℕ) → header_at bytes ≡ Ok print → IsOk (groups_in print.1)
    → reading bytes ≡ Ok (record { print = print.0; groups = listed (groups_in print.1) })
unfolding reading groups_in
frame_read bytes print is ok =
    ap (λ (r : Read (List ℕ)). r >>= after_header) is ∙ whole (groups_at (length print.1) print.1) ok
  where
    whole : (r : Read (List (List Message))) → IsOk (r >>= only_groups)
        → (r >>= framed print.0) ≡ Ok (record { print = print.0; groups = listed (r >>= only_groups) })
    whole (Ok x) ok = refl
    whole (Err e) ok = absurd cc

pub header_fault : (bytes : List ℕ) (e : BadFrame) → header_at bytes ≡ Err e → reading bytes ≡ Err e
unfolding reading
header_fault bytes e is = ap (λ (r : Read (List ℕ)). r >>= after_header) is

pub groups_fault : (bytes : List ℕ) (print : List ℕ × List ℕ) (e : BadFrame) → header_at bytes ≡ Ok print
    → groups_at (length print.1) print.1 ≡ Err e → reading bytes ≡ Err e
unfolding reading
groups_fault bytes print e is fault = ap (λ (r : Read (List ℕ)). r >>= after_header) is ∙ ap (λ (r : Read (List (List Message))). r >>= framed print.0) fault

-- a frame that was read takes all of its bytes
pub frame_len_is : (bytes : List ℕ) (f : Frame) → IsBytes bytes → reading bytes ≡ Ok f → frame_len f.groups ≡ length bytes
unfolding spelling
frame_len_is bytes f fits is =
    let spells = reading_takes bytes f fits is in
    omega (
      arith,
      ap length spells.spelled,
      spells.is_frame.print,
      length-groups f.groups spells.is_frame.groups,
      length-append (number_bytes 2 (20 + length (flat_map group_bytes f.groups)) ++ f.print) (flat_map group_bytes f.groups),
      length-append (number_bytes 2 (20 + length (flat_map group_bytes f.groups))) f.print,
      length-number_bytes 2 (20 + length (flat_map group_bytes f.groups)),
    )

-- ---- for callers

record_least : (a : Action) → 8 ≤ record_len a
record_least action.Clear = omega arith
record_least action.Insert = omega arith
record_least action.InsertAck = omega arith
record_least action.Update = omega arith
record_least action.UpdateShort = omega arith
record_least action.UpdateRequest = omega arith
record_least action.Delete = omega arith
record_least action.DeleteShort = omega arith
record_least action.Bulk = omega arith

few_in_group : (ms : List Message) → 8 * length ms ≤ sum_by (λ m. record_len (action_of m)) ms
few_in_group [] = omega arith
few_in_group (m ∷ ms) = omega (arith, record_least (action_of m), few_in_group ms, sum_by-cons (λ n. record_len (action_of n)) m ms)

few_in_groups : (groups : List (List Message)) → 8 * length (all_of groups) ≤ sum_by group_len groups
few_in_groups [] = omega arith
few_in_groups (g ∷ gs) =
    omega (
      arith,
      few_in_group g,
      few_in_groups gs,
      sum_by-cons group_len g gs,
      ap length
          (flat_map-cons (λ (h : List Message). h) g gs),
      length-append g (all_of gs),
    )

-- a record takes eight bytes of a frame at least, and the header twenty
pub few_records : (f : Frame) → 8 * length (records_of f) + 20 ≤ frame_len f.groups
few_records f = omega (arith, few_in_groups f.groups)
