-- Marks that are sorted by kind and number are the marks in the order of frames.
use Rattle.std.proofs.Common.{◌≡◌, ℕ, Bool, true, false, cond, ◌&&◌, ◌||◌, ◌==◌, nat_lt, List, [], ◌∷◌, Some, refl, sym, ◌∙◌, ap, arith}
use Rattle.std.specs.List.{AllByRecursion}
use Rattle.std.specs.Ordering.{is_lt, nat_cmp, ordering_then, eq_by_cmp}
use Rattle.std.specs.Cmp.{IsStrictWeakOrder, IsTotalOrder, nat_cmp_total}
use Rattle.std.specs.declared.cmp.Ordering.{Ordering}
use Rattle.std.specs.declared.cmp.Ordering.TheVariants.{Less, Equal, Greater}
use Rattle.std.proofs.lemmas.Bool.Decides.{nat_tests}
use Rattle.std.proofs.lemmas.Cmp.{on_total, then_total}
use Rattle.std.proofs.lemmas.List.Sorted.{ranks_by}
use Rattle.pfl_base.specs.declared.state_name.StateName.{StateName}
use Rattle.pfl_base.specs.Names.{name_cmp}
use Rattle.pfl_base.proofs.ForCallers.{names_total, names_exact}
use Rattle.pfl_edits.specs.Maps as maps
use Rattle.pfl_edits.specs.Maps.{Map}
use Rattle.pfl_edits.proofs.ForCallers.{row_at, Distinct, get-map_of, same_key, own_key, some_is_none}
use Rattle.pfl_edits.specs.Rows.{map_of}
use Rattle.pfl_queue.specs.declared.Mark.{Mark}
use Rattle.pfl_queue.specs.Queues.{Queue, IsQueue}
use Rattle.pfl_queue.specs.Taking.{kind_place, mark_before}

-- by kind, and then by number
abbrev pub turn_cmp : ℕ × ℕ → ℕ × ℕ → Ordering
turn_cmp p q = ordering_then (nat_cmp p.0 q.0) (nat_cmp p.1 q.1)

turns_total : IsTotalOrder turn_cmp
turns_total = then_total (on_total (λ p. p.0) nat_cmp_total) (on_total (λ p. p.1) nat_cmp_total)

abbrev earlier : Mark → Mark → Bool
earlier m n = is_lt (turn_cmp (kind_place m.kind, m.number) (kind_place n.kind, n.number))

earlier_order : IsStrictWeakOrder earlier
earlier_order = ranks_by turns_total (λ m. (kind_place m.kind, m.number))

lexical : (less same later tied : Bool)
    → (less || (same && later)) ≡ is_lt (ordering_then (cond less Less (cond same Equal Greater)) (cond later Less (cond tied Equal Greater)))
lexical true same later tied = refl
lexical false true true tied = refl
lexical false true false true = refl
lexical false true false false = refl
lexical false false later tied = refl

same_order : (m n : Mark) → mark_before m n ≡ earlier m n
same_order m n = lexical (nat_lt (kind_place m.kind) (kind_place n.kind)) (kind_place m.kind == kind_place n.kind)
    (nat_lt m.number n.number) (m.number == n.number)

pub before_order : IsStrictWeakOrder mark_before
before_order = record {
  one_way = λ m n is. same_order n m ∙ earlier_order.one_way m n (sym (same_order m n) ∙ is);
  chain = λ m n o a b. same_order m o ∙ earlier_order.chain m n o (sym (same_order m n) ∙ a) (sym (same_order n o) ∙ b);
}

one_turn : (a b c d : ℕ) → (nat_lt a b || ((a == b) && nat_lt c d)) ≡ false → (nat_lt b a || ((b == a) && nat_lt d c)) ≡ false → c ≡ d
one_turn a b c d p q = grind (arith, nat_tests)

abbrev pub named : Mark → StateName
named m = m.name

-- each row stands in the map under its name
each_stands : (rows : List Mark) → Distinct name_cmp named rows → AllByRecursion (λ m. row_at name_cmp named rows m.name ≡ Some m) rows
each_stands [] d = tt
each_stands (x ∷ xs) d = (
  ap (λ b. cond b (Some x) (row_at name_cmp named xs x.name)) (own_key names_total names_exact named x.name),
  later xs (each_stands xs d.1),
)
  where
    later : (ms : List Mark) → AllByRecursion (λ m. row_at name_cmp named xs m.name ≡ Some m) ms
        → AllByRecursion (λ m. row_at name_cmp named (x ∷ xs) m.name ≡ Some m) ms
    later [] all = tt
    later (m ∷ ms) all = (
      elim (eq_by_cmp name_cmp m.name x.name) as (λ b. eq_by_cmp name_cmp m.name x.name ≡ b → cond b (Some x) (row_at name_cmp named xs m.name) ≡ Some m) [
        | true ↦ λ t. absurd (some_is_none m (sym all.0 ∙ (ap (row_at name_cmp named xs) (same_key names_total names_exact named m.name x.name t) ∙ d.0)))
        | false ↦ λ t. all.0
      ] refl,
      later ms all.1,
    )

abbrev pub Stands : Queue → Mark → Type 0
Stands q m = maps.get q.marks m.name ≡ Some m

pub all_stand : (q : Queue) (rows : List Mark) → Distinct name_cmp named rows → map_of name_cmp named rows ≡ q.marks → AllByRecursion (Stands q) rows
all_stand q rows d is = through rows (each_stands rows d)
  where
    through : (ms : List Mark) → AllByRecursion (λ m. row_at name_cmp named rows m.name ≡ Some m) ms → AllByRecursion (Stands q) ms
    through [] all = tt
    through (m ∷ ms) all = (
      ap (λ (n : Map name_cmp Mark). maps.get n m.name) (sym is)
          ∙ (get-map_of names_total names_exact named rows m.name ∙ all.0),
      through ms all.1,
    )

pub exact : (q : Queue) → IsQueue q → (m n : Mark) → Stands q m → Stands q n → mark_before m n ≡ false → mark_before n m ≡ false → m ≡ n
exact q is m n p r a b =
    let number = one_turn (kind_place m.kind) (kind_place n.kind) m.number n.number a b in
    let one = is.one_number m.name n.name m n p r number in
    let both : Some m ≡ Some n = sym p ∙ (ap (maps.get q.marks) one ∙ r) in
    cc
