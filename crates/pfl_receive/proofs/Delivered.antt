-- The records of a frame, one after another.
use Rattle.std.specs.Prelude.{◌≡◌, ◌≤◌, ◌<◌, ℕ, ◌+◌, ◌*◌, ◌^◌, length, Bool, true, false, ◌||◌, List, [], ◌∷◌, refl}
use Rattle.std.specs.List.{fold, list_any}
use Rattle.std.proofs.Common.{◌∙◌, ap, sym, arith}
use Rattle.pfl_edits.specs.Maps as maps
use Rattle.pfl_wire.specs.declared.message.Message.{Message}
use Rattle.pfl_desk.specs.Drafts.{Draft, Writes}
use Rattle.pfl_desk.specs.inner.Drafting.{most_room}
use Rattle.pfl_desk.specs.Nodes.{Node, is_overfull, is_overcounted}
use Rattle.pfl_desk.proofs.ForCallers.{writes-none, writes-then}
use Rattle.pfl_receive.specs.inner.Delivering.{IsPaid, paid_by, paid_edits, records_room}
use Rattle.pfl_receive.specs.Delivering.{cleared_by, records_work, taken_points}
use Rattle.pfl_receive.specs.Receiving.{taken}
use Rattle.pfl_receive.proofs.Weighing.{work-next, paid-next, paid-each}

abbrev step : Bool → Node → Message → Node
step same_rules = λ n message. taken n same_rules message

-- e is what d was made to by all records but those that are left; count says how many those were, and over whether after one of them
-- a number was too high
pub record IsDelivered (d e : Draft) (same_rules : Bool) (all left : List Message) (count : ℕ) (over : Bool) : Type 0 where
  pub rest : fold (step same_rules) e.node left ≡ fold (step same_rules) d.node all
  pub full : list_any is_overfull (taken_points e.node same_rules left) ≡ list_any is_overfull (taken_points d.node same_rules all)
  pub counted : (over || list_any is_overcounted (taken_points e.node same_rules left)) ≡ list_any is_overcounted (taken_points d.node same_rules all)
  pub sum : count + length left ≡ length all
  pub paid : 4 * maps.len e.node.states + d.edits.spare + paid_by left ≤ 4 * maps.len d.node.states + paid_by all + e.edits.spare
  pub due : d.edits.spare + 12 * records_work e.node same_rules left ≤ e.edits.spare + 12 * records_work d.node same_rules all
  pub writes : Writes (12 * records_work d.node same_rules all) d e

pub delivered-first : (d : Draft) (same_rules : Bool) (all : List Message) → IsDelivered d d same_rules all all 0 false
delivered-first d same_rules all =
    record { rest = refl; full = refl; counted = refl; sum = omega arith; paid = omega arith; due = omega arith; writes = writes-none _ d }

assoc : (a b c : Bool) → ((a || b) || c) ≡ (a || (b || c))
assoc true b c = refl
assoc false b c = refl

or_false : (a : Bool) → a ≡ (a || false)
or_false true = refl
or_false false = refl

module _ (d e : Draft) (same_rules : Bool) (all left : List Message) (count : ℕ) (over : Bool)
    (so : IsDelivered d e same_rules all left count over) (m : Message) (others : List Message) (next : left ≡ m ∷ others) where
  -- what is left is the next record and the others
  work : records_work e.node same_rules left ≡ 1 + cleared_by e.node m + records_work (taken e.node same_rules m) same_rules others
  work = ap (records_work e.node same_rules) next ∙ work-next e.node same_rules m others

  pays : paid_by left ≡ paid_edits m + paid_by others
  pays = ap paid_by next ∙ paid-next m others

  long : length left ≡ length (m ∷ others)
  long = ap (λ (ms : List Message). length ms) next

  -- there is room for the next record
  pub delivered-room : records_room (maps.len d.node.states) (paid_by all) ≤ d.edits.spare → 4 * maps.len e.node.states + 8 ≤ e.edits.spare
  delivered-room room = let paid = so.paid in omega (arith, paid, room)

  -- and it can be counted
  pub delivered-count : records_room (maps.len d.node.states) (paid_by all) ≤ d.edits.spare
      → d.edits.spare + length d.edits.list ≤ most_room → count + 1 < 2 ^ 64
  delivered-count room few = let sum = so.sum in let one = long in let each = paid-each all in omega (arith, sum, one, each, room, few)

  pub delivered-more : (f : Draft) (now : Bool) → f.node ≡ taken e.node same_rules m → IsPaid (paid_edits m) e f
      → Writes (8 + 4 * cleared_by e.node m) e f → is_overfull f.node ≡ false → now ≡ is_overcounted f.node
      → IsDelivered d f same_rules all others (count + 1) (over || now)
  delivered-more f now same paid more fits counts =
      let together = writes-then (12 * records_work d.node same_rules all) (8 + 4 * cleared_by e.node m) d e f so.writes more in
      let before = so.paid in
      let price = pays in
      let sum = so.sum in
      let one = long in
      let due = so.due in
      let spare = more.spare in
      let weight = work ∙ ap (λ (n : Node). 1 + cleared_by e.node m + records_work n same_rules others) (sym same) in
      let now_due : d.edits.spare + 12 * records_work f.node same_rules others ≤ f.edits.spare + 12 * records_work d.node same_rules all =
      omega (arith, due, spare, weight) in
      record {
        rest = ap (λ (n : Node). fold (step same_rules) n others) same ∙ (ap (fold (step same_rules) e.node) (sym next) ∙ so.rest);
        full =
            ap (λ b. b || list_any is_overfull (taken_points f.node same_rules others)) (sym fits)
            ∙ (ap (λ (n : Node). is_overfull n || list_any is_overfull (taken_points n same_rules others)) same
            ∙ (ap (λ (ms : List Message). list_any is_overfull (taken_points e.node same_rules ms)) (sym next) ∙ so.full));
        counted =
            ap (λ b. (over || b) || list_any is_overcounted (taken_points f.node same_rules others)) counts
            ∙ (assoc over (is_overcounted f.node) (list_any is_overcounted (taken_points f.node same_rules others))
            ∙ (ap (λ (n : Node). over || (is_overcounted n || list_any is_overcounted (taken_points n same_rules others))) same
            ∙ (ap (λ (ms : List Message). over || list_any is_overcounted (taken_points e.node same_rules ms)) (sym next) ∙ so.counted)));
        sum = omega (arith, sum, one);
        paid = omega (arith, before, price, paid);
        due = now_due;
        writes = record { spare = omega (arith, now_due); room = together.room; began = together.began };
      }

  -- too much is pending after the next record
  pub delivered-full : is_overfull (taken e.node same_rules m) ≡ true → list_any is_overfull (taken_points d.node same_rules all) ≡ true
  delivered-full is =
      sym so.full
      ∙ (ap (λ (ms : List Message). list_any is_overfull (taken_points e.node same_rules ms)) next
      ∙ ap (λ b. b || list_any is_overfull (taken_points (taken e.node same_rules m) same_rules others)) is)

  -- and what was recorded till then
  pub delivered-stops : (f : Draft) → Writes (8 + 4 * cleared_by e.node m) e f → Writes (12 * records_work d.node same_rules all) d f
  delivered-stops f more =
      let together = writes-then (12 * records_work d.node same_rules all) (8 + 4 * cleared_by e.node m) d e f so.writes more in
      let due = so.due in
      let spare = more.spare in
      let weight = work in
      record { spare = omega (arith, due, spare, weight); room = together.room; began = together.began }

-- after the last record
pub record IsAll (d e : Draft) (same_rules : Bool) (all : List Message) (count : ℕ) (over : Bool) : Type 0 where
  pub node : e.node ≡ fold (step same_rules) d.node all
  pub full : list_any is_overfull (taken_points d.node same_rules all) ≡ false
  pub counted : over ≡ list_any is_overcounted (taken_points d.node same_rules all)
  pub whole : count ≡ length all
  pub writes : Writes (12 * records_work d.node same_rules all) d e

pub delivered-all : (d e : Draft) (same_rules : Bool) (all left : List Message) (count : ℕ) (over : Bool)
    → IsDelivered d e same_rules all left count over → left ≡ [] → IsAll d e same_rules all count over
delivered-all d e same_rules all left count over so none =
    let sum = so.sum in
    let short = ap (λ (ms : List Message). length ms) none in
    record {
      node = ap (fold (step same_rules) e.node) (sym none) ∙ so.rest;
      full = sym so.full ∙ ap (λ (ms : List Message). list_any is_overfull (taken_points e.node same_rules ms)) none;
      counted = or_false over ∙ (ap (λ (ms : List Message). over || list_any is_overcounted (taken_points e.node same_rules ms)) (sym none) ∙ so.counted);
      whole = omega (arith, sum, short);
      writes = so.writes;
    }
